-- A walk over the text that keeps its last character back, since a mark may follow it: what is pending at each turn, and
-- what the two walks of this crate keep.
-- Assumes nothing.
use mathlib.Core.Path.{◌≡◌, refl, sym, ap, ◌∙◌}
use mathlib.Core.List.{List, [], ◌∷◌, ◌++◌, map}
use Prim.Native.Nat.{ℕ, suc, ◌+◌, ◌-◌, ◌≤◌, ◌<◌}
use native.Mathlib.Numerals.{add-one}
use native.Mathlib.Omega.{arith}
use lib.ListN.{length, take, drop, get_or, set, length-set, length-append, drop_of_length-le}
use lib.Seq.{append_snoc, drop-cons, take-suc-set, drop-set-lt, drop-drop, set_split, length-take-le}
use lib.Dec.{eqb}
use borrow.Author.Tests.{eq-eqb, ne_eqb, eqb-true}
use Rattle.lists.specs.Tests.{pick}
use Rattle.lists.specs.Front.{Puts}
use Rattle.characters.specs.Replace.{replace}
use Rattle.std.specs.Prelude.{Option, None, Some, slice_get, is_some}
use Rattle.std.specs.Option.{unwrap_or}
use mathlib.Core.Bool.{Bool, true, false, false≢true}
use Rattle.characters.specs.Compose.{composed, one_of}
use Rattle.characters.proofs.Pairs.{no_base}
use Rattle.normal.specs.Normal.{Placed, placed, replaced_from, compose, normal_placed, normal_form, places}

-- ---- one step of the composition

module _ (b m : Placed) (rest : List Placed) where
  stays : composed b.code m.code ≡ 0 → compose (b ∷ m ∷ rest) ≡ b ∷ compose (m ∷ rest)
  unfolding compose
  stays e = simp (eq-eqb _ _ e)

  joins : (composed b.code m.code ≡ 0 → ⊥)
      → compose (b ∷ m ∷ rest) ≡ placed (composed b.code m.code) b.began ∷ compose rest
  unfolding compose
  joins e = simp (ne_eqb _ _ e)

-- what is no base stays, whatever follows
pub baseless : (b : Placed) (rest : List Placed) → ((m : ℕ) → composed b.code m ≡ 0) → compose (b ∷ rest) ≡ b ∷ compose rest
unfolding compose
baseless b [] n = refl
baseless b (m ∷ rest) n = stays b m rest (n m.code)

-- ---- what is pending: `last`, which began at `start`, and what is left of the text, whose first stands at `at`

abbrev pub pending : ℕ → ℕ → ℕ → List ℕ → List Placed
pending last start at left = compose (placed last start ∷ replaced_from at left)

begins : (first : ℕ) (rest : List ℕ) {x : ℕ} → x ≡ replace first → pending x 0 1 rest ≡ normal_placed (first ∷ rest)
unfolding normal_placed replaced_from
begins first rest e = rw e

-- after k of the rest of a text
module _ (rest : List ℕ) (last start k : ℕ) where
  ends : length rest ≤ k → pending last start (k + 1) (drop k rest) ≡ placed last start ∷ []
  unfolding compose replaced_from
  ends h = rw (drop_of_length-le rest h)

  -- a turn: x is what replaces the next code point
  module _ {x : ℕ} (h : k < length rest) (ex : x ≡ replace (get_or rest k 0)) where
    next : pending last start (k + 1) (drop k rest) ≡ compose (placed last start ∷ placed x (k + 1) ∷ replaced_from (k + 1 + 1) (drop (k + 1) rest))
    unfolding replaced_from
    next = rw (ex, add-one (k + 1), add-one k, drop-cons rest k 0)

    pending_stays : composed last x ≡ 0
        → pending last start (k + 1) (drop k rest) ≡ placed last start ∷ pending x (k + 1) (k + 1 + 1) (drop (k + 1) rest)
    pending_stays e = next ∙ stays (placed last start) (placed x (k + 1)) _ e

    pending_joins : (composed last x ≡ 0 → ⊥)
        → pending last start (k + 1) (drop k rest) ≡ pending (composed last x) start (k + 1 + 1) (drop (k + 1) rest)
    pending_joins e =
        next ∙ joins (placed last start) (placed x (k + 1)) _ e
        ∙ sym (baseless (placed (composed last x) start) (replaced_from (k + 1 + 1) (drop (k + 1) rest)) (no_base last x))

-- ---- what a call tells of a base and a mark

pub apart : (n : ℕ) → None ≡ one_of n → n ≡ 0
unfolding one_of
apart n e = go (eqb n 0) refl e
  where
    go : (b : Bool) → eqb n 0 ≡ b → None ≡ pick b None (Some n) → n ≡ 0
    go true p q = eqb-true n 0 p
    go false p q = absurd (false≢true (ap is_some q))

pub one_is : {one : ℕ} (n : ℕ) → Some one ≡ one_of n → (one ≡ n) × (one ≡ 0 → ⊥)
unfolding one_of
one_is {one = one} n e = go (eqb n 0) refl e
  where
    go : (b : Bool) → eqb n 0 ≡ b → Some one ≡ pick b None (Some n) → (one ≡ n) × (one ≡ 0 → ⊥)
    go true p q = absurd (false≢true (ap is_some (sym q)))
    go false p q =
        let h : one ≡ n = ap (λ (o : Option ℕ). unwrap_or o 0) q in
        (h, λ z. false≢true (sym p ∙ eq-eqb n 0 (sym h ∙ z)))

-- ---- the walk that fills a buffer: out holds n characters that stay

abbrev pub codes : List Placed → List ℕ
codes ps = map (λ (p : Placed). p.code) ps

pub record Kept (form rest out₀ out : List ℕ) (last n k : ℕ) : Type 0 where
  pub start : ℕ
  pub in_rest : k ≤ length rest
  pub fewer : n ≤ k
  pub long : length out ≡ length out₀
  pub kept : drop n out ≡ drop n out₀
  pub told : take n out ++ codes (pending last start (k + 1) (drop k rest)) ≡ form

-- one element less
drop_more : (n : ℕ) (a b : List ℕ) → drop n a ≡ drop n b → drop (suc n) a ≡ drop (suc n) b
drop_more n a b e = sym (rw add-one at (drop-drop 1 n a)) ∙ ap (drop 1) e ∙ rw add-one at (drop-drop 1 n b)

pub fill_begins : (first : ℕ) (rest out : List ℕ) {x : ℕ} → x ≡ replace first → Kept (normal_form (first ∷ rest)) rest out out x 0 0
unfolding normal_form
fill_begins first rest out e = record {
  start = 0;
  in_rest = omega arith;
  fewer = omega arith;
  long = refl;
  kept = refl;
  told = ap codes (begins first rest e);
}

module _ {form rest out₀ out : List ℕ} {last n k : ℕ} (w : Kept form rest out₀ out last n k) (room : length rest < length out₀) where
  front : (l m : List Placed) → l ≡ m → take n out ++ codes l ≡ take n out ++ codes m
  front l m e = ap (λ (p : List Placed). take n out ++ codes p) e

  module _ {x one : ℕ} (h : k < length rest) (ex : x ≡ replace (get_or rest k 0)) (eo : one ≡ composed last x) where
    pub pushed : one ≡ 0 → Kept form rest out₀ (set out n last) x (n + 1) (k + 1)
    pushed e = record {
      start = k + 1;
      in_rest = omega arith;
      fewer = omega (arith, w.fewer);
      long = length-set out n last ∙ w.long;
      kept = rw add-one (drop-set-lt (suc n) out n last (omega arith) ∙ drop_more n out out₀ w.kept);
      told =
          rw (add-one n, take-suc-set out n last (omega (arith, w.fewer, w.long)), append_snoc)
          (sym (front _ _ (pending_stays rest last w.start k h ex (sym eo ∙ e))) ∙ w.told);
    }

    pub merged : (one ≡ 0 → ⊥) → Kept form rest out₀ out one n (k + 1)
    merged e = record {
      start = w.start;
      in_rest = omega arith;
      fewer = omega (arith, w.fewer);
      long = w.long;
      kept = w.kept;
      told = rw eo (sym (front _ _ (pending_joins rest last w.start k h ex (λ z. e (eo ∙ z)))) ∙ w.told);
    }

  pub filled : length rest ≤ k → Puts form out₀ (set out n last) 0 (n + 1)
  filled h =
      let all : take n out ++ last ∷ [] ≡ form = sym (front _ _ (ends rest last w.start k h)) ∙ w.told in
      let fits : n < length out = omega (arith, w.long, w.fewer, w.in_rest) in
      record {
        place = omega (arith, length-take-le n out (omega arith), length-append (take n out) (last ∷ []), ap length all);
        room = omega (arith, w.long);
        buffer =
            set_split out n last fits ∙ sym (append_snoc (take n out) last (drop (suc n) out))
            ∙ ap (λ (l : List ℕ). l ++ drop (suc n) out) all
            ∙ ap (λ (l : List ℕ). form ++ l) (drop_more n out out₀ w.kept ∙ rw (add-one n));
      }

-- ---- the walk that looks for the j-th place

abbrev pub begun : List Placed → List ℕ
begun ps = map (λ (p : Placed). p.began) ps

pub record Walked (all rest : List ℕ) (j last start n k : ℕ) : Type 0 where
  pub early : n ≤ j
  pub told : slice_get all j ≡ slice_get (begun (pending last start (k + 1) (drop k rest))) (j - n)

pub walk_begins : (first : ℕ) {text : List ℕ} (rest : List ℕ) (j : ℕ) {x : ℕ} → text ≡ first ∷ rest → x ≡ replace first → Walked (places text) rest j x 0 0 0
unfolding places
walk_begins first rest j t e =
    let z : j - 0 ≡ j = omega arith in
    record { early = omega arith; told = rw (t, z, begins first rest e) }

module _ (j n : ℕ) (x : ℕ) (xs : List ℕ) where
  here : n ≡ j → slice_get (x ∷ xs) (j - n) ≡ Some x
  here e = let z : j - n ≡ 0 = omega arith in rw z

  later : n < j → slice_get (x ∷ xs) (j - n) ≡ slice_get xs (j - (n + 1))
  later h = let z : j - n ≡ suc (j - (n + 1)) = omega arith in rw z

module _ {all rest : List ℕ} {j last start n k : ℕ} (w : Walked all rest j last start n k) where
  module _ {x one : ℕ} (h : k < length rest) (ex : x ≡ replace (get_or rest k 0)) (eo : one ≡ composed last x) where
    abbrev after : List ℕ
    after = begun (pending x (k + 1) (k + 1 + 1) (drop (k + 1) rest))

    split : one ≡ 0 → slice_get all j ≡ slice_get (start ∷ after) (j - n)
    split e = w.told ∙ ap (λ (p : List Placed). slice_get (begun p) (j - n)) (pending_stays rest last start k h ex (sym eo ∙ e))

    pub reached : one ≡ 0 → n ≡ j → Some start ≡ slice_get all j
    reached e z = sym (split e ∙ here j n start after z)

    pub passed : one ≡ 0 → (n ≡ j → ⊥) → Walked all rest j x (k + 1) (n + 1) (k + 1)
    passed e z =
        let l : n < j = omega (arith, w.early) in
        record { early = omega arith; told = split e ∙ later j n start after l }

    pub joined_on : (one ≡ 0 → ⊥) → Walked all rest j one start n (k + 1)
    joined_on e = record {
      early = w.early;
      told =
          rw eo (w.told ∙ ap (λ (p : List Placed). slice_get (begun p) (j - n)) (pending_joins rest last start k h ex (λ z. e (eo ∙ z))));
    }

  last_one : length rest ≤ k → slice_get all j ≡ slice_get (start ∷ []) (j - n)
  last_one h = w.told ∙ ap (λ (p : List Placed). slice_get (begun p) (j - n)) (ends rest last start k h)

  pub reached_last : length rest ≤ k → n ≡ j → Some start ≡ slice_get all j
  reached_last h z = sym (last_one h ∙ here j n start [] z)

  pub none_there : length rest ≤ k → (n ≡ j → ⊥) → None ≡ slice_get all j
  none_there h z = let l : n < j = omega (arith, w.early) in sym (last_one h ∙ later j n start [] l)

pub no_places_lem : (text : List ℕ) (j : ℕ) → length text ≡ 0 → None ≡ slice_get (places text) j
unfolding places normal_placed replaced_from compose
no_places_lem [] j e = refl
no_places_lem (x ∷ xs) j e = absurd (omega arith)
