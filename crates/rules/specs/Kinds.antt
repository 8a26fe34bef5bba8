-- Which kinds of Japanese characters a label holds: document 02, K6.
use Rattle.std.specs.Prelude.{Bool, false, ◌||◌, List, ℕ, eqb}
use Rattle.lists.specs.Tests.{any_of}
use Rattle.characters.specs.Characters.{kind_letter}
use Rattle.characters.specs.Kinds.{Kind}
use Rattle.characters.specs.Kinds.{Hiragana, Katakana, Kanji, Sign}
use Rattle.rules.specs.Permits.{Permits}
use Rattle.rules.specs.declared.Kinds.{Kinds}

-- the two are one kind: no two kinds have one letter (characters, proofs/OneKind)
unfoldable pub same_kind : Kind → Kind → Bool
same_kind j k = eqb (kind_letter j) (kind_letter k)

-- a character of this kind is found in the label
unfoldable pub found : Permits → List ℕ → Kind → Bool
found P label k = any_of (λ (c : ℕ). same_kind (P.kind c) k) label

unfoldable pub kinds_in : Permits → List ℕ → Kinds
kinds_in P label =
    record {
      hiragana = found P label Hiragana;
      katakana = found P label Katakana;
      kanji = found P label Kanji;
      sign = found P label Sign;
    }

abbrev pub no_kinds : Kinds
no_kinds = record { hiragana = false; katakana = false; kanji = false; sign = false }

-- a kind is found
unfoldable pub any_found : Kinds → Bool
any_found ks = ks.hiragana || (ks.katakana || (ks.kanji || ks.sign))
