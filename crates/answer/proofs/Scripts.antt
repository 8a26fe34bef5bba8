-- What the sixth field tells (document 02, K6): of a line whose second field is 0 it has the kinds of the leftmost label of the normal form,
-- and so the letter of a kind exactly where a character of that kind is found, since each letter is put for its own kind. That it is a hyphen
-- of any other line stands with the fields (`sixth_refused` in Fields).
-- Assumes nothing.
use mathlib.Core.Path.{◌≡◌, refl, ◌∙◌}
use mathlib.Core.Bool.{Bool, true, false, ◌&&◌, ◌||◌, and-true, and-false, or-false}
use mathlib.Core.List.{List, [], ◌∷◌, map}
use Prim.Native.Nat.{ℕ}
use lib.Dec.{eqb}
use Rattle.lists.specs.Tests.{pick, any_of, elem}
use Rattle.lists.proofs.Laws.{any_append, clash}
use Rattle.characters.specs.Characters.{kind_letter, any_kind}
use Rattle.characters.specs.KanjiBits.{kanji_bits}
use Rattle.characters.specs.Kinds.{Kind}
use Rattle.characters.specs.Kinds.{Hiragana, Katakana, Kanji, Sign, None}
use Rattle.rules.specs.Permits.{Permits, is_empty}
use Rattle.rules.specs.Kinds.{found, kinds_in}
use Rattle.rules.specs.Editions.{today}
use Rattle.rules.specs.declared.Kinds.{Kinds}
use Rattle.rules.proofs.Editions.{lending}
use Rattle.answer.specs.Answer.{letter_if, kind_letters, kind_field, answer_to}
use Rattle.answer.specs.Examples.{told_of, tried_labels, tried_fields, tried_kinds}
use Rattle.answer.proofs.Fields.{field_of, leftmost_of, zero_said, kinds_field}

-- ---- a letter in the field

in_letter : (x : ℕ) (b : Bool) (k : Kind) → elem x (letter_if b k) ≡ b && eqb x (kind_letter k)
unfolding elem any_of
in_letter x true k = or-false (eqb x (kind_letter k))
in_letter x false k = refl

in_letters : (x : ℕ) (ks : Kinds) → elem x (kind_letters ks)
    ≡ ((ks.hiragana && eqb x (kind_letter Hiragana)) || (ks.katakana && eqb x (kind_letter Katakana)) || (ks.kanji && eqb x (kind_letter Kanji)) || (ks.sign && eqb x (kind_letter Sign)))
unfolding kind_letters elem
in_letters x ks = simp (any_append, in_letter x)

-- the hyphen aside, the letters are all that the field holds
in_field : (x : ℕ) → eqb x 0x2D ≡ false → (ks : Kinds) → elem x (kind_field ks) ≡ elem x (kind_letters ks)
unfolding kind_field elem any_of is_empty
in_field x e ks = go (kind_letters ks)
  where
    go : (l : List ℕ) → elem x (pick (is_empty l) (0x2D ∷ []) l) ≡ elem x l
    go [] = rw e
    go (y ∷ ys) = refl

tells : (P : Permits) (l : List ℕ) (k : Kind) → any_kind k ≡ true → elem (kind_letter k) (kind_field (kinds_in P l)) ≡ found P l k
unfolding any_kind kind_letter kinds_in
tells P l Hiragana e = in_field 0x48 refl (kinds_in P l) ∙ in_letters 0x48 (kinds_in P l) ∙ simp (and-true, and-false, or-false)
tells P l Katakana e = in_field 0x4B refl (kinds_in P l) ∙ in_letters 0x4B (kinds_in P l) ∙ simp (and-true, and-false, or-false)
tells P l Kanji e = in_field 0x4A refl (kinds_in P l) ∙ in_letters 0x4A (kinds_in P l) ∙ simp (and-true, and-false, or-false)
tells P l Sign e = in_field 0x53 refl (kinds_in P l) ∙ in_letters 0x53 (kinds_in P l) ∙ simp (and-true, and-false, or-false)
tells P l None e = clash e refl

-- ---- the answer to a line

module _ (P : Permits) (line : List ℕ) where
  pub sixth_is : field_of 1 (answer_to P line) ≡ 0x30 ∷ [] → field_of 5 (answer_to P line) ≡ kind_field (kinds_in P (leftmost_of line))
  sixth_is e = let z = zero_said P line e in kinds_field P line z.0 z.1

  -- so it holds a kind's letter exactly where the kind is found
  pub sixth_tells : field_of 1 (answer_to P line) ≡ 0x30 ∷ [] → (k : Kind) → any_kind k ≡ true
      → elem (kind_letter k) (field_of 5 (answer_to P line)) ≡ found P (leftmost_of line) k
  sixth_tells e k a = rw (sixth_is e) (tells P (leftmost_of line) k a)

-- ---- the tried names, at the edition in force

pub tried_kinds_today : map (told_of today) tried_labels ≡ tried_fields
tried_kinds_today = lending (λ (P : Permits). map (told_of P) tried_labels ≡ tried_fields) 4 {table = kanji_bits} refl tried_kinds
