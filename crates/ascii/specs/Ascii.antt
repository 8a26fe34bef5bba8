-- The ASCII form of a name's labels, for every family of names: document 01, 'Numbers a call may answer', of the whole
-- ASCII form.
use Rattle.std.specs.Prelude.{Bool, not, ◌&&◌, ◌||◌, List, map, ◌↔◌, ◌≡◌, ℕ, eqb, leb, length}
use Rattle.lists.specs.Tests.{pick, any_of}
use Rattle.characters.specs.Characters.{ascii_set}
use Rattle.punycode.specs.Punycode.{ace}
use Rattle.punycode.specs.Calls.{coder_number}
use Rattle.rules.specs.Labels.{period, labels, join}
use Rattle.rules.specs.Permits.{Permits}
use Rattle.rules.specs.Rules.{is_japanese}
use Rattle.ascii.specs.Labels.{high}

-- it encodes each Japanese label, leaves ASCII labels, joins by periods
unfoldable pub ascii_label : Permits → List ℕ → List ℕ
ascii_label P l = pick (is_japanese P l) (ace l) l

unfoldable pub ascii_form : Permits → List ℕ → List ℕ
ascii_form P form = join (map (ascii_label P) (labels form))

-- what it holds: characters of the ASCII set and periods (proofs/OneForm)
unfoldable pub in_form : ℕ → Bool
in_form c = ascii_set c || period c

-- the ASCII forms of two normal forms are equal exactly where these are: document 02, K4
abbrev pub OneForm : Permits → List ℕ → List ℕ → Type 0
OneForm P s t = (ascii_form P s ≡ ascii_form P t) ↔ (s ≡ t)

-- the coder refuses a Japanese label; of one with at most 15 characters it never does, neither with 13 nor with 14
-- (proofs/Coded)
unfoldable pub uncoded : Permits → List ℕ → Bool
uncoded P l = is_japanese P l && not (eqb (coder_number l 63) 0)

-- a label whose ASCII form has at most 63 octets, if the coder takes it
unfoldable pub writable : Permits → List ℕ → Bool
writable P l = is_japanese P l || (leb (length l) 63 && not (any_of high l))
