-- Every edition keeps the laws: its Japanese characters are those of today and perhaps 3003, which all stand from 3003 to 9FA0, and its
-- prefecture labels are none, the 47 Latin ones or all 94, which are short and made of what a label may hold: computed tests of the 94. The
-- bits of the kanji lent as a table give the same editions, since they say which code points are kanji.
-- Assumes nothing.
use mathlib.Core.Path.{◌≡◌, refl, sym, ap, subst, ◌∙◌}
use mathlib.Core.Bool.{Bool, true, not}
use mathlib.Core.List.{List, []}
use Prim.Native.Nat.{ℕ}
use lib.Dec.{eqb, leb}
use lib.ListN.{length}
use Rattle.lists.specs.Tests.{pick, within, all_of, any_of, elem, same}
use Rattle.lists.proofs.Laws.{both, by_test, clash, either, or_left, or_right, all_append, all_weaker}
use Rattle.characters.specs.Compose.{voiced, repeats, half_voiced, composed}
use Rattle.characters.proofs.Pairs.{of_base}
use Rattle.characters.specs.Kanji.{kanji}
use Rattle.characters.specs.KanjiBits.{kanji_bits}
use Rattle.characters.proofs.Bounds.{with_bounds}
use Rattle.characters.proofs.OneKind.{any_but_none, still_japanese}
use Rattle.characters.proofs.Lent as Lent
use Rattle.characters.specs.Characters.{alnum, hyphen, ascii_set, kinds, signs, signs_in, stretch, kind_among, kind_by, kind, any_kind, japanese}
use Rattle.rules.specs.Permits.{Permits, InStretch, ShortMiddles, Laws, ja_char, label_char, middle, is_empty}
use Rattle.rules.specs.Prefectures.{latin_prefectures, japanese_prefectures, prefectures}
use Rattle.rules.specs.Pretends.{seems_encoded, PlainMiddles}
use Rattle.rules.specs.Editions.{is_edition, has_prefectures, middles_in, edition_of, edition_with, today}
use Rattle.rules.specs.Hopeful.{settled, HopeLaws}

pub ninety_four : (length latin_prefectures ≡ 47) × (length prefectures ≡ 94)
unfolding latin_prefectures japanese_prefectures prefectures
ninety_four = (refl, refl)

-- ---- what is Japanese

-- the Japanese characters of an edition are those of its stretches, in edition 4 as document 01 lists them
pub edition_japanese : (e c : ℕ) → ja_char (edition_of e) c ≡ japanese e c
unfolding edition_of ja_char kind japanese
edition_japanese e c = any_but_none _ e c

pub today_japanese : (c : ℕ) → ja_char today c ≡ japanese 4 c
today_japanese = edition_japanese 4

-- what is Japanese today is so in every edition
as_today : (e c : ℕ) → ja_char today c ≡ true → ja_char (edition_of e) c ≡ true
as_today e c h = edition_japanese e c ∙ (unfold japanese in still_japanese _ e c (sym (today_japanese c) ∙ h))

-- ---- the prefecture labels

-- what holds of all 94 holds of those of every edition
each_middle : (f : List ℕ → Bool) → all_of f prefectures ≡ true → (e : ℕ) → all_of f (middles_in e) ≡ true
unfolding all_of middles_in
each_middle f w e =
    by_test (λ b. all_of f (pick b (pick (eqb e 3) latin_prefectures prefectures) []) ≡ true) (has_prefectures e)
    (λ p. by_test (λ b. all_of f (pick b latin_prefectures prefectures) ≡ true) (eqb e 3) (λ q. latin) (λ q. w)) (λ p. refl)
  where
    latin : all_of f latin_prefectures ≡ true
    latin =
        (both (all_of f latin_prefectures) (all_of f japanese_prefectures)
        (sym (all_append f latin_prefectures japanese_prefectures) ∙ (unfold prefectures in w))).0

all_held : all_of (all_of (label_char today)) prefectures ≡ true
unfolding all_of any_of elem within ja_char label_char ascii_set alnum hyphen kinds signs signs_in stretch kind_among kind_by kind any_kind kanji latin_prefectures japanese_prefectures prefectures edition_of
all_held = refl

all_filled : all_of (λ (l : List ℕ). not (is_empty l)) prefectures ≡ true
unfolding all_of is_empty latin_prefectures japanese_prefectures prefectures
all_filled = refl

all_short : all_of (λ (l : List ℕ). leb (length l) 15) prefectures ≡ true
unfolding all_of latin_prefectures japanese_prefectures prefectures
all_short = refl

-- none of the 94 begins like an encoded label, whatever an edition takes for Japanese
all_plain : (P : Permits) → all_of (λ (l : List ℕ). not (seems_encoded P l)) prefectures ≡ true
unfolding all_of same seems_encoded latin_prefectures japanese_prefectures prefectures
all_plain P = refl

all_settled : all_of (all_of settled) prefectures ≡ true
unfolding all_of settled ascii_set alnum hyphen within latin_prefectures japanese_prefectures prefectures
all_settled = refl

-- a label with one of them has three labels beside it
some_middle : (e : ℕ) (l : List ℕ) → any_of (same l) (middles_in e) ≡ true → has_prefectures e ≡ true
unfolding any_of middles_in
some_middle e l =
    by_test (λ b. any_of (same l) (pick b (pick (eqb e 3) latin_prefectures prefectures) []) ≡ true → b ≡ true) (has_prefectures e)
    (λ p m. refl) (λ p m. clash m refl)

held_still : (e c : ℕ) → label_char today c ≡ true → label_char (edition_of e) c ≡ true
unfolding label_char
held_still e c h =
    either (ja_char today c) (ascii_set c) h (λ p. or_left (ja_char (edition_of e) c) _ (as_today e c p)) (λ p. or_right (ja_char (edition_of e) c) _ p)

-- ---- what hope tries, and what a mark joins

tried_today : ja_char today 0x3042 ≡ true
unfolding edition_of ja_char any_of elem within kinds stretch kind_among kind_by kind any_kind
tried_today = refl

bases_today : (b m : ℕ) → (composed b m ≡ 0 → ⊥) → ja_char today b ≡ true
unfolding edition_of ja_char voiced repeats half_voiced all_of any_of elem within kinds signs signs_in stretch kind_among kind_by kind any_kind kanji
bases_today b m n = of_base (ja_char today) b m refl refl refl refl n

-- ---- the laws

module _ (e : ℕ) where
  pub edition_stretch : InStretch (edition_of e)
  unfolding edition_of ja_char
  edition_stretch c p = with_bounds kanji_bits e c (ap any_kind (Lent.lent e c) ∙ p)

  pub edition_short : ShortMiddles (edition_of e)
  unfolding edition_of
  edition_short = each_middle _ all_short e

  pub edition_laws : is_edition e ≡ true → Laws (edition_of e)
  unfolding edition_of middle
  edition_laws h = record {
    there_is = h;
    stretch = edition_stretch;
    middle_chars = each_middle (all_of (label_char (edition_of e))) (all_weaker _ _ (λ l w. all_weaker _ _ (held_still e) l w) prefectures all_held) e;
    middle_filled = each_middle _ all_filled e;
    middle_short = edition_short;
    middle_three = λ l m. some_middle e l m;
  }

  pub edition_plain : PlainMiddles (edition_of e)
  unfolding edition_of
  edition_plain = each_middle _ (all_plain (edition_of e)) e

  -- what hope asks besides
  pub edition_hope_laws : is_edition e ≡ true → HopeLaws (edition_of e)
  unfolding edition_of
  edition_hope_laws h = record {
    laws = edition_laws h;
    middle_settled = each_middle _ all_settled e;
    tried = as_today e 0x3042 tried_today;
    bases = λ b m n. as_today e b (bases_today b m n);
  }

-- of the one in force
pub today_laws : Laws today
unfolding within
today_laws = edition_laws 4 refl

pub today_plain : PlainMiddles today
today_plain = edition_plain 4

pub today_hope_laws : HopeLaws today
unfolding within
today_hope_laws = edition_hope_laws 4 refl

-- ---- the kanji lent

pub lent : (e : ℕ) → edition_with kanji_bits e ≡ edition_of e
unfolding edition_of edition_with
lent e = λ i. record { known = is_edition e; kind = λ c. Lent.lent e c i; middles = middles_in e; three = has_prefectures e }

-- so what a call says for the table that it is lent, it says for the edition itself where that table has the bits of the kanji
pub lending : (Q : Permits → Type 0) (e : ℕ) {table : List ℕ} → table ≡ kanji_bits → Q (edition_with table e) → Q (edition_of e)
lending Q e p q = subst Q (ap (λ (t : List ℕ). edition_with t e) p ∙ lent e) q

-- and of all editions at once
pub lending_all : (Q : (ℕ → Permits) → Type 0) {table : List ℕ} → table ≡ kanji_bits → Q (edition_with table) → Q edition_of
lending_all Q p q = subst Q (ap edition_with p ∙ (λ i e. lent e i)) q

-- three of the laws hold whatever table is lent, and whatever number is asked for
module _ (table : List ℕ) (e : ℕ) where
  pub lent_stretch : InStretch (edition_with table e)
  unfolding edition_with ja_char
  lent_stretch c h = with_bounds table e c h

  pub lent_short : ShortMiddles (edition_with table e)
  unfolding edition_with
  lent_short = each_middle _ all_short e

  pub lent_plain : PlainMiddles (edition_with table e)
  unfolding edition_with
  lent_plain = each_middle _ (all_plain (edition_with table e)) e
