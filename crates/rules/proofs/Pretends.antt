-- A name pretends exactly where the test of the rules says so of its leftmost label: both look at the same two places, and an ASCII label of
-- the grammar holds no Japanese character.
-- Assumes nothing.
use mathlib.Core.Path.{◌≡◌, sym, ap, ◌∙◌}
use mathlib.Core.Bool.{Bool, true, false, not, ◌&&◌, false≢true, and-false}
use mathlib.Core.List.{List, [], ◌∷◌, ◌++◌}
use mathlib.Core.Logic.{◌↔◌}
use Prim.Native.Nat.{ℕ}
use native.Mathlib.Omega.{arith}
use lib.ListN.{get_or, take}
use lib.Seq.{get_or-take}
use borrow.Author.Tests.{not-true}
use Rattle.lists.specs.Tests.{same}
use Rattle.lists.proofs.Laws.{both, or_right, refuted, clash, same_is}
use Rattle.characters.specs.Characters.{hyphen}
use Rattle.rules.specs.Labels.{labels}
use Rattle.rules.specs.Permits.{Permits, Laws, middle}
use Rattle.rules.specs.Rules.{is_japanese, hyphen_pair, of_name, pretends, Sound}
use Rattle.rules.specs.declared.Asks.{Asks}
use Rattle.rules.specs.Grammar as G
use Rattle.rules.specs.Pretends.{PAIR, pair, PRETENDS, pretending, Admitted, ace_prefix, seems_encoded}
use Rattle.rules.specs.Verdicts.{Class}
use Rattle.rules.specs.Verdicts.{General, Prefecture}
use Rattle.rules.proofs.ByName.{Honest}
use Rattle.rules.proofs.Cuts.{labels_cut}
use Rattle.rules.proofs.Derived.{no_period}
use Rattle.rules.proofs.Says.{hyphen_says}
use Rattle.rules.proofs.Sound.{ascii_only, sound_ascii, label_sound, sound_label}
use Rattle.rules.proofs.Views.{ends}

-- ---- the pair

has_pair : (l : List ℕ) → hyphen_pair l ≡ true → PAIR l
unfolding hyphen_pair hyphen
has_pair [] e = absurd (false≢true e)
has_pair (a ∷ []) e = absurd (false≢true e)
has_pair (a ∷ b ∷ []) e = absurd (false≢true e)
has_pair (a ∷ b ∷ c ∷ []) e = absurd (false≢true (sym (and-false (hyphen c)) ∙ e))
has_pair (a ∷ b ∷ c ∷ d ∷ l) e = let h = both (hyphen c) (hyphen d) e in pair ((hyphen_says c).0 h.0) ((hyphen_says d).0 h.1)

pair_has : {l : List ℕ} → PAIR l → hyphen_pair l ≡ true
unfolding hyphen_pair
pair_has (pair {c = c} {d = d} p q) = rw ((hyphen_says c).1 p, (hyphen_says d).1 q)

pub pair_says : (l : List ℕ) → (hyphen_pair l ≡ true) ↔ PAIR l
pair_says l = (has_pair l, pair_has)

-- ---- what pretends is an ASCII label with the pair, so a Japanese label does not

pub pretends_pair : (P : Permits) (l : List ℕ) → pretends P of_name l ≡ true → (is_japanese P l ≡ false) × PAIR l
unfolding pretends
pretends_pair P l e = let h = both (hyphen_pair l) (not (is_japanese P l)) e in (not-true (is_japanese P l) h.1, has_pair l h.0)

pub japanese_honest : (P : Permits) (l : List ℕ) → is_japanese P l ≡ true → pretends P of_name l ≡ false
unfolding pretends
japanese_honest P l e = ap (λ (j : Bool). hyphen_pair l && not j) e ∙ and-false (hyphen_pair l)

-- ---- what seems encoded has the pair, so it pretends, whatever the family of names asks

encoded_pair : (l : List ℕ) → same (take 4 l) ace_prefix ≡ true → hyphen_pair l ≡ true
unfolding hyphen_pair hyphen
encoded_pair l e = rw (← get_or-take 4 l 2 0 (omega arith), ← get_or-take 4 l 3 0 (omega arith), same_is (take 4 l) ace_prefix e)

pub honest_plain : (P : Permits) (A : Asks) (l : List ℕ) → pretends P A l ≡ false → seems_encoded P l ≡ false
unfolding pretends seems_encoded
honest_plain P A l h =
    refuted (seems_encoded P l) (λ e.
    let b = both (same (take 4 l) ace_prefix) _ e in
    clash {b = pretends P A l} (rw (encoded_pair l b.0) (or_right A.every_pair _ b.1)) h)

module _ (P : Permits) (L : Laws P) where
  -- ---- a name and its leftmost label

  left_is : {l : List ℕ} → Sound P 3 l → (r : List ℕ) → get_or (labels (l ++ 0x2E ∷ r)) 0 [] ≡ l
  left_is {l} S r = ap (λ (ls : List (List ℕ)). get_or ls 0 []) (labels_cut l r (no_period P L.stretch l S.chars))

  pub left_pretends : {t : List ℕ} → PRETENDS t → pretends P of_name (get_or (labels t) 0 []) ≡ true
  unfolding pretends
  left_pretends (pretending {l = l} d p r) = rw (left_is (label_sound P L (G.an_ascii d)) r, pair_has p, ascii_only P L d)

  pub honest_name : {t : List ℕ} → Honest P (labels t) → PRETENDS t → ⊥
  honest_name h x = clash (left_pretends x) h

  pub honest_label : {l : List ℕ} → G.label P l → (r : List ℕ) → (PRETENDS (l ++ 0x2E ∷ r) → ⊥) → pretends P of_name l ≡ false
  honest_label {l} d r n =
      refuted (pretends P of_name l) (λ e.
      let h = pretends_pair P l e in
      n (pretending (sound_ascii P L (ends l) (label_sound P L d) (unfold is_japanese in h.0)) h.1 r))

  -- so of a derived name the two say the same
  pub honest_left : {k : Class} {t : List ℕ} → G.Derives P k t → (PRETENDS t → ⊥) → Honest P (labels t)
  honest_left (G.general {l = l} d) n = rw (left_is (label_sound P L d) _) (honest_label d _ n)
  honest_left (G.prefecture {l = l} d m) n = rw (left_is (label_sound P L d) _) (honest_label d _ n)

  -- ---- a sound label that does not pretend makes a name that is admitted

  module _ {l : List ℕ} (S : Sound P 3 l) (h : pretends P of_name l ≡ false) where
    never : (r : List ℕ) → PRETENDS (l ++ 0x2E ∷ r) → ⊥
    never r = honest_name (rw (left_is S r) h)

    pub general_admitted : Admitted P General (l ++ 0x2E ∷ 0x6A ∷ 0x70 ∷ [])
    general_admitted = (G.general (sound_label P L S), never _)

    pub prefecture_admitted : (m : List ℕ) → middle P m ≡ true → Admitted P Prefecture (l ++ 0x2E ∷ (m ++ 0x2E ∷ 0x6A ∷ 0x70 ∷ []))
    prefecture_admitted m p = (G.prefecture (sound_label P L S) (G.listed p), never _)
