-- What a label holds is found character by character: each is of one kind or none, and the kinds found before it and those found after it
-- make up all. A label is Japanese where a kind is found.
-- Assumes nothing.
use mathlib.Core.Path.{◌≡◌, refl, sym, ap, ◌∙◌}
use mathlib.Core.Bool.{Bool, true, false, ◌||◌, or-false, or_assoc}
use mathlib.Core.List.{List}
use Prim.Native.Nat.{ℕ, suc, ◌+◌, ◌≤◌, ◌<◌}
use native.Mathlib.Numerals.{add-one}
use native.Mathlib.Omega.{arith}
use lib.ListN.{length, drop, get_or, drop_of_length-le}
use lib.Seq.{drop-cons}
use Rattle.std.specs.Prelude.{Option, None as nothing, Some, is_some}
use Rattle.lists.specs.Tests.{all_of, any_of}
use Rattle.lists.proofs.Laws.{clash, or_swap, any_or}
use Rattle.lists.proofs.Scan.{all_here, all_on, all_end}
use Rattle.characters.specs.Characters.{ascii_set, kind_letter, any_kind, kind_with}
use Rattle.characters.specs.declared.Kind as one
use Rattle.characters.specs.Kinds.{Kind, Hiragana, Katakana, Kanji, Sign, None, kind_told}
use Rattle.characters.specs.declared.Edition.{Edition}
use Rattle.characters.proofs.Bounds.{with_below}
use Rattle.characters.proofs.OneKind.{some_is}
use Rattle.rules.specs.Permits.{Permits, ja_char, label_char}
use Rattle.rules.specs.Kinds.{same_kind, found, kinds_in, no_kinds, any_found}
use Rattle.rules.specs.Rules.{is_japanese}
use Rattle.rules.specs.Editions.{edition_with, permits}
use Rattle.rules.specs.declared.Kinds.{Kinds}
use Rattle.labels.specs.Held.{Held, unfit_held, held_in}
use Rattle.labels.proofs.OfLabel.{in_ascii, in_japanese}

-- ---- two finds together

or_turned : (a b c : Bool) → (a || b) || c ≡ b || (a || c)
or_turned a b c = or_assoc a b c ∙ or_swap a b c

unfoldable pub together : Kinds → Kinds → Kinds
together a b =
    record {
      hiragana = a.hiragana || b.hiragana;
      katakana = a.katakana || b.katakana;
      kanji = a.kanji || b.kanji;
      sign = a.sign || b.sign;
    }

together_turned : (a b c : Kinds) → together (together a b) c ≡ together b (together a c)
unfolding together
together_turned a b c = rw (
  or_turned a.hiragana b.hiragana c.hiragana,
  or_turned a.katakana b.katakana c.katakana,
  or_turned a.kanji b.kanji c.kanji,
  or_turned a.sign b.sign c.sign,
)

together_none : (a : Kinds) → together a no_kinds ≡ a
unfolding together
together_none a = rw (or-false a.hiragana, or-false a.katakana, or-false a.kanji, or-false a.sign)

-- ---- one character

unfoldable pub only : Kind → Kinds
only k = record { hiragana = same_kind k Hiragana; katakana = same_kind k Katakana; kanji = same_kind k Kanji; sign = same_kind k Sign }

none_kind : (k : Kind) → any_kind k ≡ false → k ≡ None
unfolding any_kind
none_kind Hiragana e = clash refl e
none_kind Katakana e = clash refl e
none_kind Kanji e = clash refl e
none_kind Sign e = clash refl e
none_kind None e = refl

-- ---- a label, read up to i

module _ (E : Edition) (label : List ℕ) where
  abbrev Q : Permits
  Q = permits E

  pub record HeldSoFar (ks : Kinds) (i : ℕ) : Type 0 where
    pub inside : i ≤ length label
    pub fits : all_of (label_char Q) label ≡ all_of (label_char Q) (drop i label)
    pub kinds : together ks (kinds_in Q (drop i label)) ≡ kinds_in Q label

  pub unseen : HeldSoFar no_kinds 0
  unfolding together
  unseen = record { inside = omega arith; fits = refl; kinds = refl }

  module _ {ks : Kinds} {i : ℕ} (s : HeldSoFar ks i) where
    module _ (h : i < length label) where
      abbrev c : ℕ
      c = get_or label i 0

      more : kinds_in Q (drop i label) ≡ together (only (Q.kind c)) (kinds_in Q (drop (suc i) label))
      unfolding kinds_in found together only any_of
      more = ap (kinds_in Q) (drop-cons label i 0 h)

      next : label_char Q c ≡ true → HeldSoFar (together (only (Q.kind c)) ks) (i + 1)
      next e = record {
        inside = omega arith;
        fits = all_on (label_char Q) label i h s.fits refl e;
        kinds = rw (add-one i) (together_turned (only (Q.kind c)) ks (kinds_in Q (drop (suc i) label)) ∙ ap (together ks) (sym more) ∙ s.kinds);
      }

      -- below 80
      module _ (l : c < 0x80) {a : Bool} (e : a ≡ ascii_set c) where
        pub ascii_on : a ≡ true → HeldSoFar ks (i + 1)
        unfolding together only same_kind kind_letter
        ascii_on t =
            let k : Q.kind c ≡ None = unfold edition_with in none_kind (kind_with E.kanji.now E.number c) (with_below E.kanji.now E.number c (omega arith)) in
            rw k at (next (sym (in_ascii E c l e) ∙ t))

        pub ascii_not : a ≡ false → unfit_held ≡ held_in Q label
        unfolding held_in
        ascii_not t = rw (← all_here (label_char Q) label i h s.fits (in_ascii E c l e) t)

      -- from 80 on
      module _ (l : 0x80 ≤ c) (o : Option one.Kind) (e : kind_told o ≡ kind_with E.kanji.now E.number c) where
        allowed : is_some o ≡ label_char Q c
        allowed = in_japanese E c l (some_is o ∙ ap any_kind e)

        pub kind_on : {k : one.Kind} → o ≡ Some k → HeldSoFar (together (only (kind_told (Some k))) ks) (i + 1)
        kind_on {k} p =
            let d : Q.kind c ≡ kind_told (Some k) = unfold edition_with in sym e ∙ ap kind_told p in
            rw d at (next (sym allowed ∙ ap is_some p))

        pub kind_not : o ≡ nothing → unfit_held ≡ held_in Q label
        unfolding held_in
        kind_not p = rw (← all_here (label_char Q) label i h s.fits allowed (ap is_some p))

    pub all_seen : length label ≤ i → ◌≡◌ {A = Held} (record { fit = true; kinds = ks }) (held_in Q label)
    unfolding held_in kinds_in found any_of
    all_seen h =
        let e : ks ≡ kinds_in Q label = sym (together_none ks) ∙ ap (λ (l : List ℕ). together ks (kinds_in Q l)) (sym (drop_of_length-le label {i = i} h)) ∙ s.kinds in
        rw (← all_end (label_char Q) label i h s.fits, e)

-- ---- a label is Japanese where a kind is found

kind_found : (k : Kind) → any_kind k ≡ same_kind k Hiragana || (same_kind k Katakana || (same_kind k Kanji || same_kind k Sign))
unfolding any_kind same_kind kind_letter
kind_found Hiragana = refl
kind_found Katakana = refl
kind_found Kanji = refl
kind_found Sign = refl
kind_found None = refl

pub any_found_lem : (P : Permits) (l : List ℕ) → is_japanese P l ≡ any_found (kinds_in P l)
unfolding is_japanese ja_char kinds_in found any_found
any_found_lem P l =
    let is : Kind → ℕ → Bool = λ k c. same_kind (P.kind c) k in
    let each : ◌≡◌ {A = ℕ → Bool} (λ c. any_kind (P.kind c)) (λ c. is Hiragana c || (is Katakana c || (is Kanji c || is Sign c))) = λ i c. kind_found (P.kind c) i in
    ap (λ (f : ℕ → Bool). any_of f l) each
    ∙ any_or (is Hiragana) _ l
    ∙ ap (λ (t : Bool). any_of (is Hiragana) l || t) (any_or (is Katakana) _ l ∙ ap (λ (t : Bool). any_of (is Katakana) l || t) (any_or (is Kanji) (is Sign) l))
