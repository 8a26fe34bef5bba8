-- The second reader of labels, as document 004 is written: one rule stands after a letter, digit or Japanese
-- character, the other after a hyphen, each handing the rest of the label to the other. It knows nothing of 17.
use Rattle.std.specs.Prelude.{Bool, false, not, ◌&&◌, ◌||◌, List, [], ◌∷◌, ℕ, ◌+◌, ltb}
use Rattle.lists.specs.Tests.{pick}
use Rattle.characters.specs.Characters.{hyphen}
use Rattle.rules.specs.Permits.{Permits, ja_char, label_char}
use Rattle.rules.specs.Rules.{is_middle_dot, ordinary}
use Rattle.rules.specs.declared.Seen.{Seen}

unfoldable pub nothing : Seen
nothing = record { count = 0; ja = false; dot = false; ordinary = false }

-- one character more, and a hyphen more
unfoldable pub note : Permits → Seen → ℕ → Seen
note P s x = record {
  count = s.count + 1;
  ja = s.ja || ja_char P x;
  dot = s.dot || is_middle_dot x;
  ordinary = s.ordinary || ordinary P x;
}

unfoldable pub skip : Seen → Seen
skip s = record { count = s.count + 1; ja = s.ja; dot = s.dot; ordinary = s.ordinary }

-- may a label end here: 3 to 63 characters, or 1 to 15 with a Japanese one; a middle dot wants an ordinary one
unfoldable pub length_fits : ℕ → Bool → Bool
length_fits n ja = not (not ja && ltb n 3) && not (ltb (pick ja 15 63) n)

unfoldable pub ending : Seen → Bool
ending s = length_fits s.count s.ja && not (s.dot && not s.ordinary)

unfoldable mutual
  pub after_character : Permits → List ℕ → Seen → Bool
  after_character P [] s = ending s
  after_character P (x ∷ xs) s =
      pick (hyphen x) (after_hyphen P xs (skip s)) (pick (label_char P x) (after_character P xs (note P s x)) false)

  pub after_hyphen : Permits → List ℕ → Seen → Bool
  after_hyphen P [] s = false
  after_hyphen P (x ∷ xs) s =
      pick (hyphen x) (after_hyphen P xs (skip s)) (pick (label_char P x) (after_character P xs (note P s x)) false)

unfoldable pub reader : Permits → List ℕ → Bool
reader P [] = false
reader P (x ∷ xs) = pick (hyphen x) false (pick (label_char P x) (after_character P xs (note P nothing x)) false)
