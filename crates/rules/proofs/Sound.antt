-- A label derives exactly where none of rules 7 to 10 applies to it: grammar and rules ask the same of its two ends, of its length
-- and of its characters. Where the least is not named, it may be any.
-- Assumes nothing.
use mathlib.Core.Path.{◌≡◌, refl, sym, ap, ◌∙◌}
use mathlib.Core.Bool.{Bool, true, false, not, ◌&&◌, ◌||◌, false≢true, true≢false, or-false, and-false}
use mathlib.Core.List.{List, [], ◌∷◌, ◌++◌}
use Prim.Native.Nat.{ℕ, ◌+◌, ◌≤◌, ◌<◌}
use native.Mathlib.Omega.{arith}
use lib.Dec.{eqb, ltb}
use lib.ListN.{length}
use borrow.Author.Tests.{eqb-true, ne_eqb, ltb-false, le-ltb, not-true}
use Rattle.lists.specs.Tests.{within, all_of, any_of}
use Rattle.lists.proofs.Laws.{both, neither, or_left, or_right, refuted, clash, in_range, all_append, any_append, all_weaker, all_none, all_but}
use Rattle.characters.specs.Characters.{alnum, hyphen, ascii_set}
use Rattle.rules.specs.Permits.{Permits, ja_char, InStretch, Laws, label_char, is_empty}
use Rattle.rules.specs.Rules.{is_middle_dot, ordinary, is_japanese, begins_with_hyphen, ends_with_hyphen, hyphen_edge, short, long, bare_dot, Sound}
use Rattle.rules.specs.Grammar as G
use Rattle.rules.proofs.Views.{Cut, cut, cut_at, Ends, empty, single, pair, ends, all_ends, any_ends, length_ends}
use Rattle.rules.proofs.Says.{star_all, all_star, alnum_says, ascii_says, dot_says, exception, exceptional, exceptional_says, ja_says, label_says, edge_char, edge_says}

-- ---- characters

alnum_range : (c : ℕ) → alnum c ≡ true → (0x30 ≤ c) × (c ≤ 0x7A)
unfolding alnum
alnum_range c e = go (within 0x30 0x39 c) refl e
  where
    go : (b : Bool) → within 0x30 0x39 c ≡ b → b || within 0x61 0x7A c ≡ true → (0x30 ≤ c) × (c ≤ 0x7A)
    go true p q = let h = in_range 0x30 0x39 c p in omega arith
    go false p q = let h = in_range 0x61 0x7A c q in omega arith

pub ascii_range : (c : ℕ) → ascii_set c ≡ true → (0x2D ≤ c) × (c ≤ 0x7A)
unfolding ascii_set hyphen
ascii_range c e = go (alnum c) refl e
  where
    go : (b : Bool) → alnum c ≡ b → b || eqb c 0x2D ≡ true → (0x2D ≤ c) × (c ≤ 0x7A)
    go true p q = let h = alnum_range c p in omega arith
    go false p q = let h = eqb-true c 0x2D q in omega arith

-- no Japanese character stands below 3003, so none is of the ASCII set
pub low : (P : Permits) → InStretch P → (c : ℕ) → c < 0x3003 → ja_char P c ≡ false
low P stretch c h = refuted (ja_char P c) (λ p. let k = in_range 0x3003 0x9FA0 c (stretch c p) in omega arith)

pub ascii_not : (P : Permits) → Laws P → (c : ℕ) → ascii_set c ≡ true → ja_char P c ≡ false
ascii_not P L c e = low P L.stretch c (let h = ascii_range c e in omega arith)

pub ascii_no_dot : (c : ℕ) → ascii_set c ≡ true → is_middle_dot c ≡ false
unfolding is_middle_dot
ascii_no_dot c e = let h = ascii_range c e in ne_eqb c 0x30FB (omega arith)

pub hyphen_ascii : (c : ℕ) → hyphen c ≡ true → ascii_set c ≡ true
unfolding ascii_set
hyphen_ascii c e = or_right (alnum c) (hyphen c) e

pub no_hyphen : (P : Permits) → Laws P → (c : ℕ) → ja_char P c ≡ true → hyphen c ≡ false
no_hyphen P L c j = refuted (hyphen c) (λ e. clash j (ascii_not P L c (hyphen_ascii c e)))

-- a letter or a digit is of the ASCII set, and no hyphen; what else is of it is the hyphen
pub alnum_ascii : (c : ℕ) → alnum c ≡ true → (ascii_set c ≡ true) × (hyphen c ≡ false)
unfolding ascii_set hyphen
alnum_ascii c e = let h = alnum_range c e in (or_left (alnum c) (eqb c 0x2D) e, ne_eqb c 0x2D (omega arith))

ascii_alnum : (c : ℕ) → ascii_set c ≡ true → hyphen c ≡ false → alnum c ≡ true
unfolding ascii_set
ascii_alnum c e n = sym (or-false (alnum c)) ∙ (rw n at e)

-- ---- ends

pub ends_snoc : (m : List ℕ) (z : ℕ) → ends_with_hyphen (m ++ (z ∷ [])) ≡ hyphen z
unfolding ends_with_hyphen
ends_snoc [] z = refl
ends_snoc (x ∷ []) z = refl
ends_snoc (x ∷ y ∷ ys) z = ends_snoc (y ∷ ys) z

edge_ends : (a : ℕ) (m : List ℕ) (z : ℕ) → hyphen_edge (a ∷ (m ++ (z ∷ []))) ≡ hyphen a || hyphen z
unfolding hyphen_edge begins_with_hyphen
edge_ends a m z = ap (λ (b : Bool). hyphen a || b) (ends_snoc (a ∷ m) z)

-- ---- lengths

some_filled : (l : List ℕ) → 1 ≤ length l → is_empty l ≡ false
unfolding is_empty
some_filled [] h = absurd (omega arith)
some_filled (x ∷ xs) h = refl

pub filled_some : (l : List ℕ) → is_empty l ≡ false → 1 ≤ length l
unfolding is_empty
filled_some [] e = absurd (true≢false e)
filled_some (x ∷ xs) e = omega arith

-- a label that has so many characters is not too short
pub has_least : (P : Permits) (least : ℕ) (l : List ℕ) → least ≤ length l → short P least l ≡ false
unfolding short
has_least P least l h = rw (le-ltb (length l) least h) (and-false (not (is_japanese P l)))

-- so a sound label is sound at any least that it has
pub at_least : {P : Permits} {n : ℕ} (least : ℕ) {l : List ℕ} → least ≤ length l → Sound P n l → Sound P least l
at_least {P} least {l} h S =
    let m = S.meets in
    record {
      chars = S.chars;
      filled = S.filled;
      meets = record { edge = m.edge; enough = has_least P least l h; few = m.few; dotted = m.dotted };
    }

module _ (P : Permits) (L : Laws P) where
  -- a character at an end is one that a label may hold, and no hyphen
  edge_label : (c : ℕ) → edge_char P c ≡ true → (label_char P c ≡ true) × (hyphen c ≡ false)
  unfolding edge_char label_char
  edge_label c e = go (ja_char P c) refl e
    where
      go : (b : Bool) → ja_char P c ≡ b → b || alnum c ≡ true → (ja_char P c || ascii_set c ≡ true) × (hyphen c ≡ false)
      go true p q = (or_left (ja_char P c) (ascii_set c) p, no_hyphen P L c p)
      go false p q = let k = alnum_ascii c q in (or_right (ja_char P c) (ascii_set c) k.0, k.1)

  label_edge : (c : ℕ) → label_char P c ≡ true → hyphen c ≡ false → edge_char P c ≡ true
  unfolding edge_char label_char
  label_edge c e n = go (ja_char P c) e
    where
      go : (j : Bool) → j || ascii_set c ≡ true → j || alnum c ≡ true
      go true q = refl
      go false q = ascii_alnum c q n

  ja_edge : (c : ℕ) → ja_char P c ≡ true → edge_char P c ≡ true
  unfolding edge_char
  ja_edge c e = or_left (ja_char P c) (alnum c) e

  alnum_edge : (c : ℕ) → alnum c ≡ true → edge_char P c ≡ true
  unfolding edge_char
  alnum_edge c e = or_right (ja_char P c) (alnum c) e

  -- ---- what the forms of a label have in common

  record Framed (l : List ℕ) : Type 0 where
    chars : all_of (label_char P) l ≡ true
    no_edge : hyphen_edge l ≡ false

  framed : (a : ℕ) (m : List ℕ) (z : ℕ) → edge_char P a ≡ true → all_of (label_char P) m ≡ true → edge_char P z ≡ true → Framed (a ∷ (m ++ (z ∷ [])))
  framed a m z p r q =
      let k = edge_label a p in
      let n = edge_label z q in
      record { chars = all_ends a m z (label_char P) ∙ rw (k.0, r, n.0); no_edge = edge_ends a m z ∙ rw (k.1, n.1) }

  record Frame (a : ℕ) (m : List ℕ) (z : ℕ) : Type 0 where
    first : edge_char P a ≡ true
    mid : all_of (label_char P) m ≡ true
    last : edge_char P z ≡ true

  frame : (a : ℕ) (m : List ℕ) (z : ℕ) → Framed (a ∷ (m ++ (z ∷ []))) → Frame a m z
  frame a m z F =
      let c = both (label_char P a) _ (sym (all_ends a m z (label_char P)) ∙ F.chars) in
      let d = both (all_of (label_char P) m) (label_char P z) c.1 in
      let n = neither (hyphen a) (hyphen z) (sym (edge_ends a m z) ∙ F.no_edge) in
      record { first = label_edge a c.0 n.0; mid = d.0; last = label_edge z d.1 n.1 }

  -- ---- an ASCII label

  pub ascii_label_lem : (c : ℕ) → ascii_set c ≡ true → label_char P c ≡ true
  unfolding label_char
  ascii_label_lem c e = or_right (ja_char P c) (ascii_set c) e

  label_ascii : (c : ℕ) → label_char P c ≡ true → ja_char P c ≡ false → ascii_set c ≡ true
  unfolding label_char
  label_ascii c e n = rw n at e

  all_ascii : {l : List ℕ} → G.ASCII-label l → all_of ascii_set l ≡ true
  all_ascii (G.ascii {a = a} {z = z} {m = m} p r lo hi q) =
      all_ends a m z ascii_set ∙ rw ((alnum_ascii a ((alnum_says a).1 p)).0, star_all _ _ ascii_says r, (alnum_ascii z ((alnum_says z).1 q)).0)

  -- it holds no Japanese character
  pub ascii_only : {l : List ℕ} → G.ASCII-label l → is_japanese P l ≡ false
  unfolding is_japanese
  ascii_only {l} d = all_none ascii_set (ja_char P) (ascii_not P L) l (all_ascii d)

  -- a list of the ASCII set is sound by its ends and its length
  pub plain_sound : (least : ℕ) (l : List ℕ) → all_of ascii_set l ≡ true → hyphen_edge l ≡ false → 1 ≤ length l → least ≤ length l → length l ≤ 63
      → Sound P least l
  unfolding is_japanese long bare_dot
  plain_sound least l w e some enough few = record {
    chars = all_weaker ascii_set (label_char P) ascii_label_lem l w;
    filled = some_filled l some;
    meets = record {
      edge = e;
      enough = has_least P least l enough;
      few = rw (all_none ascii_set (ja_char P) (ascii_not P L) l w, le-ltb 63 (length l) few);
      dotted = rw (all_none ascii_set is_middle_dot ascii_no_dot l w);
    };
  }

  ascii_sound : {l : List ℕ} → G.ASCII-label l → Sound P 3 l
  ascii_sound (G.ascii {a = a} {z = z} {m = m} p r lo hi q) =
      let w : List ℕ = a ∷ (m ++ (z ∷ [])) in
      let n : length w ≡ length m + 2 = length_ends a m z in
      let e : hyphen_edge w ≡ false = edge_ends a m z ∙ rw ((alnum_ascii a ((alnum_says a).1 p)).1, (alnum_ascii z ((alnum_says z).1 q)).1) in
      plain_sound 3 w (all_ascii (G.ascii p r lo hi q)) e (omega arith) (omega arith) (omega arith)

  -- the parts of a sound label without a Japanese character
  module _ {least : ℕ} where
    pub plain_one : (a : ℕ) → Sound P least (a ∷ []) → any_of (ja_char P) (a ∷ []) ≡ false → G.ALNUM a
    unfolding all_of any_of hyphen_edge begins_with_hyphen ends_with_hyphen
    plain_one a S e =
        let j = neither (ja_char P a) false e in
        let h = neither (hyphen a) (hyphen a) S.meets.edge in
        (alnum_says a).0 (ascii_alnum a (label_ascii a (both (label_char P a) true S.chars).0 j.0) h.0)

    pub plain_ends : (a : ℕ) (m : List ℕ) (z : ℕ) → Sound P least (a ∷ (m ++ (z ∷ []))) → any_of (ja_char P) (a ∷ (m ++ (z ∷ []))) ≡ false
        → G.ALNUM a × G.Star G.ALNUM-HYPHEN m × G.ALNUM z
    plain_ends a m z S e =
        let w : List ℕ = a ∷ (m ++ (z ∷ [])) in
        let h = neither (hyphen a) (hyphen z) (sym (edge_ends a m z) ∙ S.meets.edge) in
        let all = sym (all_ends a m z ascii_set) ∙ all_but (label_char P) (ja_char P) ascii_set label_ascii w S.chars e in
        let c = both (ascii_set a) _ all in
        let d = both (all_of ascii_set m) (ascii_set z) c.1 in
        ((alnum_says a).0 (ascii_alnum a c.0 h.0), all_star _ _ ascii_says m d.0, (alnum_says z).0 (ascii_alnum z d.1 h.1))

  pub sound_ascii : {l : List ℕ} → Ends l → Sound P 3 l → any_of (ja_char P) l ≡ false → G.ASCII-label l
  unfolding is_empty is_japanese short long
  sound_ascii empty S e = absurd (true≢false S.filled)
  sound_ascii (single a) S e = absurd (true≢false (rw e at S.meets.enough))
  sound_ascii (pair a m z) S e =
      let w : List ℕ = a ∷ (m ++ (z ∷ [])) in
      let n : length w ≡ length m + 2 = length_ends a m z in
      let p = plain_ends a m z S e in
      let lo : ltb (length w) 3 ≡ false = rw e at S.meets.enough in
      let hi : ltb 63 (length w) ≡ false = rw e at S.meets.few in
      G.ascii p.0 p.1 (omega (arith, ltb-false (length w) 3 lo)) (omega (arith, ltb-false 63 (length w) hi)) p.2

  -- ---- the four forms of a Japanese label

  record Formed (l : List ℕ) : Type 0 where
    frame : Framed l
    some_ja : any_of (ja_char P) l ≡ true

  formed : {l : List ℕ} → G.JA-form P l → Formed l
  unfolding any_of all_of hyphen_edge begins_with_hyphen ends_with_hyphen
  formed (G.form_1 {c = c} p) =
      let j = (ja_says P c).1 p in
      let k = edge_label c (ja_edge c j) in
      record { frame = record { chars = rw k.0; no_edge = rw k.1 }; some_ja = rw j }
  formed (G.form_2 {a = a} {z = z} {m = m} p r q) =
      let j = (ja_says P a).1 p in
      record {
        frame = framed a m z (ja_edge a j) (star_all _ _ (label_says P) r) ((edge_says P z).1 q);
        some_ja = any_ends a m z (ja_char P) ∙ rw j;
      }
  formed (G.form_3 {a = a} {z = z} {m = m} p r q) =
      let j = (ja_says P z).1 q in
      record {
        frame = framed a m z (alnum_edge a ((alnum_says a).1 p)) (star_all _ _ (label_says P) r) (ja_edge z j);
        some_ja = any_ends a m z (ja_char P) ∙ or_right (ja_char P a) _ (or_right (any_of (ja_char P) m) _ j);
      }
  formed (G.form_4 {a = a} {j = j} {z = z} {m = m} {n = n} p r q s t) =
      let w : List ℕ = m ++ j ∷ n in
      let e = (ja_says P j).1 q in
      let k = edge_label j (ja_edge j e) in
      let c : all_of (label_char P) w ≡ true =
      all_append (label_char P) m (j ∷ n) ∙ rw (star_all _ _ (label_says P) r, k.0, star_all _ _ (label_says P) s) in
      let some : any_of (ja_char P) w ≡ true = any_append (ja_char P) m (j ∷ n) ∙ or_right (any_of (ja_char P) m) _ (or_left (ja_char P j) _ e) in
      record {
        frame = framed a w z (alnum_edge a ((alnum_says a).1 p)) c (alnum_edge z ((alnum_says z).1 t));
        some_ja = any_ends a w z (ja_char P) ∙ or_right (ja_char P a) _ (or_left (any_of (ja_char P) w) _ some);
      }

  inside_form : (a z : ℕ) {m : List ℕ} → G.ALNUM a → G.ALNUM z → all_of (label_char P) m ≡ true → Cut (ja_char P) m
      → G.JA-form P (a ∷ (m ++ (z ∷ [])))
  unfolding all_of
  inside_form a z p q r (cut m j n e) =
      let h = both (all_of (label_char P) m) (all_of (label_char P) (j ∷ n)) (sym (all_append (label_char P) m (j ∷ n)) ∙ r) in
      let k = both (label_char P j) (all_of (label_char P) n) h.1 in
      G.form_4 p (all_star _ _ (label_says P) m h.0) ((ja_says P j).0 e) (all_star _ _ (label_says P) n k.1) q

  form : {l : List ℕ} → Ends l → Formed l → G.JA-form P l
  unfolding any_of edge_char
  form empty F = absurd (false≢true F.some_ja)
  form (single a) F = G.form_1 ((ja_says P a).0 (sym (or-false (ja_char P a)) ∙ F.some_ja))
  form (pair a m z) F =
      let k = frame a m z F.frame in
      go (ja_char P a) refl (ja_char P z) refl k.first k.mid k.last (sym (any_ends a m z (ja_char P)) ∙ F.some_ja)
    where
      go : (b : Bool) → ja_char P a ≡ b → (e : Bool) → ja_char P z ≡ e → b || alnum a ≡ true → all_of (label_char P) m ≡ true → e || alnum z ≡ true
          → b || (any_of (ja_char P) m || e) ≡ true → G.JA-form P (a ∷ (m ++ (z ∷ [])))
      go true p e q pa r pz s =
          G.form_2 ((ja_says P a).0 p) (all_star _ _ (label_says P) m r) ((edge_says P z).0 (ap (λ (x : Bool). x || alnum z) q ∙ pz))
      go false p true q pa r pz s = G.form_3 ((alnum_says a).0 pa) (all_star _ _ (label_says P) m r) ((ja_says P z).0 q)
      go false p false q pa r pz s =
          inside_form a z ((alnum_says a).0 pa) ((alnum_says z).0 pz) r (cut_at (ja_char P) m (sym (or-false (any_of (ja_char P) m)) ∙ s))

  -- ---- an exception string is a label of the three signs and ASCII with a middle dot

  dot_exceptional : (c : ℕ) → is_middle_dot c ≡ true → exceptional c ≡ true
  unfolding exceptional exception
  dot_exceptional c e = or_left (exception c) (ascii_set c) (or_right (eqb c 0x3006) _ (or_right (eqb c 0x30FC) (is_middle_dot c) e))

  not_ordinary : (c : ℕ) → exceptional c ≡ true → ordinary P c ≡ false
  unfolding exceptional exception ordinary
  not_ordinary c e = go (exception c) e
    where
      go : (b : Bool) → b || ascii_set c ≡ true → ja_char P c && not b ≡ false
      go true q = and-false (ja_char P c)
      go false q = rw (ascii_not P L c q)

  or_ordinary : (c : ℕ) → label_char P c ≡ true → ordinary P c ≡ false → exceptional c ≡ true
  unfolding exceptional exception ordinary label_char
  or_ordinary c = go (ja_char P c) (exception c)
    where
      go : (j b : Bool) → j || ascii_set c ≡ true → j && not b ≡ false → b || ascii_set c ≡ true
      go true true e n = refl
      go true false e n = absurd (true≢false n)
      go false true e n = refl
      go false false e n = e

  exception_bare : {l : List ℕ} → G.EXCEPTION-STRING l → bare_dot P l ≡ true
  unfolding bare_dot all_of any_of
  exception_bare (G.dotted {c = c} {m = m} {n = n} r p s) =
      let w : List ℕ = m ++ c ∷ n in
      let e = (dot_says c).1 p in
      let all : all_of exceptional w ≡ true =
      all_append exceptional m (c ∷ n) ∙ rw (star_all _ _ exceptional_says r, dot_exceptional c e, star_all _ _ exceptional_says s) in
      let some : any_of is_middle_dot w ≡ true = any_append is_middle_dot m (c ∷ n) ∙ or_right (any_of is_middle_dot m) _ (or_left (is_middle_dot c) _ e) in
      rw (some, all_none exceptional (ordinary P) not_ordinary w all)

  cut_exception : {l : List ℕ} → Cut is_middle_dot l → all_of exceptional l ≡ true → G.EXCEPTION-STRING l
  unfolding all_of
  cut_exception (cut m c n e) all =
      let h = both (all_of exceptional m) (all_of exceptional (c ∷ n)) (sym (all_append exceptional m (c ∷ n)) ∙ all) in
      let k = both (exceptional c) (all_of exceptional n) h.1 in
      G.dotted (all_star _ _ exceptional_says m h.0) ((dot_says c).0 e) (all_star _ _ exceptional_says n k.1)

  bare_exception : (l : List ℕ) → all_of (label_char P) l ≡ true → bare_dot P l ≡ true → G.EXCEPTION-STRING l
  unfolding bare_dot
  bare_exception l w e =
      let h = both (any_of is_middle_dot l) (not (any_of (ordinary P) l)) e in
      cut_exception (cut_at is_middle_dot l h.0) (all_but (label_char P) (ordinary P) exceptional or_ordinary l w (not-true (any_of (ordinary P) l) h.1))

  -- ---- a Japanese label

  ja_sound : {l : List ℕ} → G.JA-label P l → Sound P 3 l
  unfolding is_japanese short long
  ja_sound (G.ja_label {l = l} f lo hi x) =
      let F = formed f in
      record {
        chars = F.frame.chars;
        filled = some_filled l lo;
        meets = record {
          edge = F.frame.no_edge;
          enough = rw F.some_ja;
          few = rw (F.some_ja, le-ltb 15 (length l) hi);
          dotted = no_bare (bare_dot P l) refl F.frame.chars;
        };
      }
    where
      no_bare : (b : Bool) → bare_dot P l ≡ b → all_of (label_char P) l ≡ true → b ≡ false
      no_bare true e w = absurd (x (bare_exception l w e))
      no_bare false e w = refl

  pub sound_ja : {least : ℕ} (l : List ℕ) → Sound P least l → any_of (ja_char P) l ≡ true → G.JA-label P l
  unfolding is_japanese long
  sound_ja l S e =
      let hi : ltb 15 (length l) ≡ false = rw e at S.meets.few in
      G.ja_label (form (ends l) (record { frame = record { chars = S.chars; no_edge = S.meets.edge }; some_ja = e }))
      (filled_some l S.filled)
      (ltb-false 15 (length l) hi)
      (λ x. clash (exception_bare x) S.meets.dotted)

  -- ---- the two ways

  pub label_sound : {l : List ℕ} → G.label P l → Sound P 3 l
  label_sound (G.an_ascii d) = ascii_sound d
  label_sound (G.a_japanese d) = ja_sound d

  pub sound_label : {l : List ℕ} → Sound P 3 l → G.label P l
  sound_label {l} S = go (any_of (ja_char P) l) refl
    where
      go : (b : Bool) → any_of (ja_char P) l ≡ b → G.label P l
      go true e = G.a_japanese (sound_ja l S e)
      go false e = G.an_ascii (sound_ascii (ends l) S e)
