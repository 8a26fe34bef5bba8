-- The part before the first separator, normalised, is the leftmost label of the normal form: a separator becomes a period, which joins
-- nothing, and a period comes of nothing else.
-- Assumes nothing.
use mathlib.Core.Path.{◌≡◌, refl, sym, ap, ◌∙◌}
use mathlib.Core.Bool.{true, false}
use mathlib.Core.List.{List, [], ◌∷◌, ◌++◌, map}
use mathlib.Core.Logic.{⊎_elim}
use Prim.Native.Nat.{ℕ, suc, ◌≤◌, ◌<◌}
use native.Mathlib.Omega.{arith}
use lib.Dec.{eqb}
use lib.ListN.{length, take, drop, get_or}
use lib.Seq.{split_at, take_all}
use borrow.Author.Tests.{eqb-true, eqb-false, ne_eqb}
use Rattle.lists.specs.Tests.{any_of}
use Rattle.lists.proofs.Laws.{by_test, neither, lt_or_le, in_range}
use Rattle.lists.proofs.Scan.{not_found, none_before, holds_there}
use Rattle.characters.specs.Characters.{separator}
use Rattle.characters.specs.Compose.{composed}
use Rattle.characters.specs.Replace.{replace}
use Rattle.characters.proofs.Pairs.{composed_kana, low_no_mark, low_no_base}
use Rattle.characters.proofs.Separators.{separator_is}
use Rattle.normal.specs.Normal.{normal_form}
use Rattle.normal.proofs.Continued.{parted}
use Rattle.normal.proofs.Plain.{join_all, plain, by_pair}
use Rattle.rules.specs.Labels.{period, labels}
use Rattle.rules.proofs.Cuts.{labels_one, labels_cut}
use Rattle.wishes.specs.Wishes.{part_length}

-- ---- where no separator is typed the normal form has no period

replaced_alike : (t : List ℕ) → any_of period (map replace t) ≡ any_of separator t
unfolding any_of period
replaced_alike [] = refl
replaced_alike (c ∷ cs) = rw (separator_is c, replaced_alike cs)

no_period_made : (b m : ℕ) → period (composed b m) ≡ false
unfolding period
no_period_made b m =
    by_test (λ z. eqb (composed b m) 0 ≡ z → eqb (composed b m) 0x2E ≡ false) (eqb (composed b m) 0)
    (λ p q. ne_eqb (composed b m) 0x2E (λ e. omega (arith, e, eqb-true (composed b m) 0 p)))
    (λ p q. ne_eqb (composed b m) 0x2E (λ e. omega (arith, e, (in_range 0x3041 0x30FE (composed b m) (composed_kana b m (eqb-false _ 0 p))).0))) refl

none_joined : (xs : List ℕ) → any_of period xs ≡ false → any_of period (join_all xs) ≡ false
unfolding any_of join_all
none_joined [] e = refl
none_joined (x ∷ []) e = e
none_joined (b ∷ m ∷ rest) e =
    let p = neither (period b) (any_of period (m ∷ rest)) e in
    let q = neither (period m) (any_of period rest) p.1 in
    by_pair b m rest (λ (l : List ℕ). any_of period l ≡ false) (λ z. rw p.0 (none_joined (m ∷ rest) p.1))
    (rw (no_period_made b m) (none_joined rest q.1))

pub no_period : (t : List ℕ) → any_of separator t ≡ false → any_of period (normal_form t) ≡ false
no_period t e = rw (plain t) (none_joined (map replace t) (replaced_alike t ∙ e))

-- ---- the leftmost label

-- a text that is cut at its first separator
pub record Cut (text part : List ℕ) : Type 0 where
  pub at : ℕ
  pub rest : List ℕ
  pub whole : text ≡ part ++ at ∷ rest
  pub separates : separator at ≡ true
  pub first : any_of separator part ≡ false

module _ {text part : List ℕ} (k : Cut text part) where
  becomes : replace k.at ≡ 0x2E
  becomes = eqb-true _ 0x2E (sym (separator_is k.at) ∙ k.separates)

  pub cut_form : normal_form text ≡ normal_form part ++ 0x2E ∷ normal_form k.rest
  cut_form =
      ap normal_form k.whole
      ∙ parted k.at k.rest (rw becomes (low_no_base 0x2E (omega arith))) part (rw becomes (low_no_mark 0x2E (omega arith)))
      ∙ ap (λ (c : ℕ). normal_form part ++ c ∷ normal_form k.rest) becomes

  pub cut_labels : labels (normal_form text) ≡ normal_form part ∷ labels (normal_form k.rest)
  cut_labels = ap labels cut_form ∙ labels_cut (normal_form part) (normal_form k.rest) (no_period part k.first)

pub cut_there : (t : List ℕ) → part_length t < length t → Cut t (take (part_length t) t)
unfolding part_length
cut_there t h = record {
  at = get_or t (part_length t) 0;
  rest = drop (suc (part_length t)) t;
  whole = split_at t (part_length t) 0 h;
  separates = holds_there separator t h;
  first = none_before separator t;
}

-- of any text: where there is no separator the part is all of it, and so is the leftmost label
pub leftmost_part : (t : List ℕ) → normal_form (take (part_length t) t) ≡ get_or (labels (normal_form t)) 0 []
unfolding part_length
leftmost_part t = ⊎_elim inside past (lt_or_le (part_length t) (length t))
  where
    inside : part_length t < length t → normal_form (take (part_length t) t) ≡ get_or (labels (normal_form t)) 0 []
    inside h = rw (cut_labels (cut_there t h))

    past : length t ≤ part_length t → normal_form (take (part_length t) t) ≡ get_or (labels (normal_form t)) 0 []
    past h = ap normal_form (take_all (part_length t) t h) ∙ sym (rw (labels_one (normal_form t) (no_period t (not_found separator t h))))
