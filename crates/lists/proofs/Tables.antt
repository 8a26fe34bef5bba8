-- The first row that applies: found by passing over the rows that do not.
-- Assumes nothing.
use mathlib.Core.Path.{◌≡◌, refl, sym, ap, ◌∙◌}
use mathlib.Core.Bool.{Bool, true, false, not, false≢true}
use mathlib.Core.List.{List, [], ◌∷◌, ◌++◌}
use Prim.Native.Nat.{ℕ}
use native.Mathlib.Omega.{arith}
use lib.Dec.{eqb, ltb}
use lib.ListN.{length, take}
use borrow.Author.Tests.{eqb-true, eqb-false, eq-eqb, ne_eqb, ltb-true, not-true}
use Rattle.lists.specs.Tests.{pick, all_of}
use Rattle.lists.specs.Front.{written}
use Rattle.lists.specs.Rows.{Row, row, accepted, says, first, without, Clear, given, Gives}
use Rattle.lists.specs.Rows.{Answer}
use Rattle.lists.proofs.Fronts.{untouched, front}
use Rattle.lists.proofs.Laws.{both, clash}

-- a row that does not apply is passed over; the first that applies is the answer
pub passed_over : (n : ℕ) (b : Bool) (p : ℕ) (rs : List Row) → b ≡ false → first (row n b p ∷ rs) ≡ first rs
unfolding first
passed_over n b p rs e = rw e

pub hit : (n : ℕ) (b : Bool) (p : ℕ) (rs : List Row) → b ≡ true → first (row n b p ∷ rs) ≡ record { number = n; place = p }
unfolding first
hit n b p rs e = rw e

pub clear_before : (rs ss : List Row) → Clear rs → first (rs ++ ss) ≡ first ss
unfolding first
clear_before [] ss c = refl
clear_before (r ∷ rs) ss c = rw c.0 (clear_before rs ss c.1)

pub clear : (rs : List Row) → Clear rs → first rs ≡ accepted
unfolding first
clear [] c = refl
clear (r ∷ rs) c = rw c.0 (clear rs c.1)

-- every row of the table refuses: no number is 0
unfoldable pub refusing : List Row → Bool
refusing rs = all_of (λ (r : Row). ltb 0 r.number) rs

pub accepted_clear : (rs : List Row) → refusing rs ≡ true → (first rs).number ≡ 0 → Clear rs
unfolding first refusing all_of
accepted_clear [] w e = tt
accepted_clear (r ∷ rs) w e =
    let k = both (ltb 0 r.number) (all_of (λ (s : Row). ltb 0 s.number) rs) w in
    go r.applies refl k.0 e (accepted_clear rs k.1)
  where
    go : (b : Bool) → r.applies ≡ b → ltb 0 r.number ≡ true → (pick b (says r) (first rs)).number ≡ 0
        → ((first rs).number ≡ 0 → Clear rs) → (r.applies ≡ false) × Clear rs
    go true p w e on = absurd (omega (arith, ltb-true 0 r.number w))
    go false p w e on = (p, on e)

-- ---- one table after another

pub split_clear : (rs ss : List Row) → Clear (rs ++ ss) → Clear rs × Clear ss
split_clear [] ss c = (tt, c)
split_clear (r ∷ rs) ss c = let k = split_clear rs ss c.1 in ((c.0, k.0), k.1)

pub join_clear : (rs ss : List Row) → Clear rs → Clear ss → Clear (rs ++ ss)
join_clear [] ss c d = d
join_clear (r ∷ rs) ss c d = (c.0, join_clear rs ss c.1 d)

-- a refusal stands, whatever table follows
pub refused_before : (rs ss : List Row) → ((first rs).number ≡ 0 → ⊥) → first (rs ++ ss) ≡ first rs
unfolding first
refused_before [] ss n = absurd (n refl)
refused_before (r ∷ rs) ss n = go r.applies n (refused_before rs ss)
  where
    go : (b : Bool) → ((pick b (says r) (first rs)).number ≡ 0 → ⊥)
        → (((first rs).number ≡ 0 → ⊥) → first (rs ++ ss) ≡ first rs)
        → pick b (says r) (first (rs ++ ss)) ≡ pick b (says r) (first rs)
    go true n on = refl
    go false n on = on n

-- so of two tables, where the first answers a: a refusal stands, and with 0 the second gives the answer
module _ (rs ss : List Row) {a : Answer} (e : first rs ≡ a) where
  number_is : (first rs).number ≡ a.number
  number_is = ap (λ (x : Answer). x.number) e

  pub stands : (a.number ≡ 0 → ⊥) → first (rs ++ ss) ≡ a
  stands h = refused_before rs ss (λ z. h (sym number_is ∙ z)) ∙ e

  pub hands_on : ((first rs).number ≡ 0 → Clear rs) → a.number ≡ 0 → first (rs ++ ss) ≡ first ss
  hands_on cleared z = clear_before rs ss (cleared (number_is ∙ z))

-- an answer whose number no row of the first table has says that none of these applies
pub past_table : (n : ℕ) (rs ss : List Row) → all_of (λ (r : Row). not (eqb r.number n)) rs ≡ true → (first (rs ++ ss)).number ≡ n → Clear rs
unfolding first all_of
past_table n [] ss w e = tt
past_table n (r ∷ rs) ss w e =
    let k = both (not (eqb r.number n)) (all_of (λ (s : Row). not (eqb s.number n)) rs) w in
    go r.applies refl e k.0 (past_table n rs ss k.1)
  where
    go : (b : Bool) → r.applies ≡ b → (pick b (says r) (first (rs ++ ss))).number ≡ n → not (eqb r.number n) ≡ true
        → ((first (rs ++ ss)).number ≡ n → Clear rs) → (r.applies ≡ false) × Clear rs
    go true p e w on = clash (eq-eqb r.number n e) (not-true (eqb r.number n) w)
    go false p e w on = (p, on e)

-- of two tables one gives the answer
pub of_two : (Q : Answer → Type 0) (rs ss : List Row) → Q (first rs) → Q (first ss) → Q (first (rs ++ ss))
unfolding first
of_two Q [] ss p q = q
of_two Q (r ∷ rs) ss p q = go r.applies p (of_two Q rs ss)
  where
    go : (b : Bool) → Q (pick b (says r) (first rs)) → (Q (first rs) → Q (first ss) → Q (first (rs ++ ss))) → Q (pick b (says r) (first (rs ++ ss)))
    go true p on = p
    go false p on = on p q

-- what accepted passes and each row passes, the answer passes
pub of_rows : (f : Answer → Bool) → f accepted ≡ true → (rs : List Row) → all_of (λ (r : Row). f (says r)) rs ≡ true → f (first rs) ≡ true
unfolding first all_of
of_rows f z [] w = z
of_rows f z (r ∷ rs) w =
    let k = both (f (says r)) (all_of (λ (s : Row). f (says s)) rs) w in
    go r.applies k.0 (of_rows f z rs k.1)
  where
    go : (b : Bool) → f (says r) ≡ true → f (first rs) ≡ true → f (pick b (says r) (first rs)) ≡ true
    go true p q = p
    go false p q = q

-- ---- a table without the rows of a number, and these rows alone

unfoldable pub only : ℕ → List Row → List Row
only n [] = []
only n (r ∷ rs) = pick (eqb r.number n) (r ∷ only n rs) (only n rs)

-- no row applies exactly where no other does, and none of these
pub part_clear : (n : ℕ) (rs : List Row) → Clear rs → Clear (without n rs) × Clear (only n rs)
unfolding without only
part_clear n [] c = (tt, tt)
part_clear n (r ∷ rs) c = go (eqb r.number n) (part_clear n rs c.1)
  where
    go : (b : Bool) → Clear (without n rs) × Clear (only n rs)
        → Clear (pick b (without n rs) (r ∷ without n rs)) × Clear (pick b (r ∷ only n rs) (only n rs))
    go true k = (k.0, (c.0, k.1))
    go false k = ((c.0, k.0), k.1)

pub whole_clear : (n : ℕ) (rs : List Row) → Clear (without n rs) → Clear (only n rs) → Clear rs
unfolding without only
whole_clear n [] c d = tt
whole_clear n (r ∷ rs) c d = go (eqb r.number n) c d (whole_clear n rs)
  where
    go : (b : Bool) → Clear (pick b (without n rs) (r ∷ without n rs)) → Clear (pick b (r ∷ only n rs) (only n rs))
        → (Clear (without n rs) → Clear (only n rs) → Clear rs) → Clear (r ∷ rs)
    go true c d on = (d.0, on c d.1)
    go false c d on = (c.0, on c.1 d)

pub without_both : (n : ℕ) (rs ss : List Row) → without n (rs ++ ss) ≡ without n rs ++ without n ss
unfolding without
without_both n [] ss = refl
without_both n (r ∷ rs) ss = go (eqb r.number n) (without_both n rs ss)
  where
    go : (b : Bool) → without n (rs ++ ss) ≡ without n rs ++ without n ss
        → pick b (without n (rs ++ ss)) (r ∷ without n (rs ++ ss)) ≡ pick b (without n rs) (r ∷ without n rs) ++ without n ss
    go true e = e
    go false e = ap (λ (ts : List Row). r ∷ ts) e

-- where no other row applies these give the answer
pub first_only : (n : ℕ) (rs : List Row) → Clear (without n rs) → first rs ≡ first (only n rs)
unfolding first without only
first_only n [] c = refl
first_only n (r ∷ rs) c = go (eqb r.number n) c (first_only n rs)
  where
    go : (b : Bool) → Clear (pick b (without n rs) (r ∷ without n rs)) → (Clear (without n rs) → first rs ≡ first (only n rs))
        → pick r.applies (says r) (first rs) ≡ first (pick b (r ∷ only n rs) (only n rs))
    go true c on = rw (on c)
    go false c on = rw c.0 (on c.1)

-- where they do not apply no answer has their number, if it is not 0
pub never_given : (n : ℕ) → (0 ≡ n → ⊥) → (rs : List Row) → Clear (only n rs) → (first rs).number ≡ n → ⊥
unfolding first only
never_given n z [] c e = z e
never_given n z (r ∷ rs) c e = go r.applies refl (eqb r.number n) refl c e (never_given n z rs)
  where
    go : (a : Bool) → r.applies ≡ a → (b : Bool) → eqb r.number n ≡ b → Clear (pick b (r ∷ only n rs) (only n rs))
        → (pick a (says r) (first rs)).number ≡ n → (Clear (only n rs) → (first rs).number ≡ n → ⊥) → ⊥
    go true p true q c e on = false≢true (sym c.0 ∙ p)
    go true p false q c e on = eqb-false r.number n q e
    go false p true q c e on = on c.1 e
    go false p false q c e on = on c e

-- an answer with another number is the answer without them too
pub first_without : (n : ℕ) (rs : List Row) → ((first rs).number ≡ n → ⊥) → first (without n rs) ≡ first rs
unfolding first without
first_without n [] h = refl
first_without n (r ∷ rs) h = go r.applies (eqb r.number n) refl h (first_without n rs)
  where
    go : (a b : Bool) → eqb r.number n ≡ b → ((pick a (says r) (first rs)).number ≡ n → ⊥)
        → (((first rs).number ≡ n → ⊥) → first (without n rs) ≡ first rs)
        → first (pick b (without n rs) (row r.number a r.place ∷ without n rs)) ≡ pick a (says r) (first rs)
    go true true p h on = absurd (h (eqb-true r.number n p))
    go true false p h on = refl
    go false true p h on = on h
    go false false p h on = on h

-- ---- what is given

pub given_all : (a : Answer) (xs : List ℕ) → a.number ≡ 0 → given a xs ≡ xs
unfolding given
given_all a xs e = rw (eq-eqb a.number 0 e)

pub given_none : (a : Answer) (xs : List ℕ) → (a.number ≡ 0 → ⊥) → given a xs ≡ []
unfolding given
given_none a xs e = rw (ne_eqb a.number 0 e)

-- ---- a call that writes

module _ {R : Type 0} (make : Answer → ℕ → R) (rows : List Row) (xs before : List ℕ) where
  -- a refusal leaves the buffer
  pub gives_no : {a : Answer} {r : R} → first rows ≡ a → (a.number ≡ 0 → ⊥) → r ≡ make a 0 → Gives make rows xs before before r
  gives_no {a} e h q = let none = given_none a xs h in record { result = q ∙ rw (e, none); buffer = rw (e, none) (sym (untouched before)) }

  pub gives_yes : {n : ℕ} {after : List ℕ} → first rows ≡ accepted → n ≡ length xs → after ≡ written xs before
      → Gives make rows xs before after (make accepted n)
  gives_yes e n w = let all = given_all accepted xs refl in record { result = rw (e, all, n); buffer = w ∙ rw (e, all) }

  module _ {after : List ℕ} {r : R} (G : Gives make rows xs before after r) where
    pub gave_all : (first rows).number ≡ 0 → (after ≡ written xs before) × (r ≡ make (first rows) (length xs))
    gave_all z = let all = given_all (first rows) xs z in (G.buffer ∙ rw all, G.result ∙ rw all)

    -- what stands at the buffer's start then, as long as the struct says
    pub gave_front : (size : R → ℕ) → ((a : Answer) (n : ℕ) → size (make a n) ≡ n) → (first rows).number ≡ 0 → take (size r) after ≡ xs
    gave_front size says-size z = let g = gave_all z in rw (g.1, says-size (first rows) (length xs), g.0) (front xs before)

    pub gave_none : ((first rows).number ≡ 0 → ⊥) → (after ≡ before) × (r ≡ make (first rows) 0)
    gave_none h = let none = given_none (first rows) xs h in (G.buffer ∙ rw none (untouched before), G.result ∙ rw none)
