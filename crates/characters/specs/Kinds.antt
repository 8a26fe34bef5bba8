-- The kinds of document 02, K6, with none for what is no Japanese character, and the kind that a call tells.
use Rattle.std.specs.Prelude.{Option, None as nothing, Some}
use Rattle.characters.specs.declared.Kind as one

pub data Kind : Type 0 where
  Hiragana : Kind
  Katakana : Kind
  Kanji : Kind
  Sign : Kind
  None : Kind

abbrev pub kind_told : Option one.Kind → Kind
kind_told (Some one.TheVariants.Hiragana) = Hiragana
kind_told (Some one.TheVariants.Katakana) = Katakana
kind_told (Some one.TheVariants.Kanji) = Kanji
kind_told (Some one.TheVariants.Sign) = Sign
kind_told nothing = None
