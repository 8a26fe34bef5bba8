-- A Japanese label, which the coder takes, and the ASCII label that is its encoding, by computation: document 01,
-- 'Tried names'.
use Rattle.std.specs.Prelude.{◌≡◌, refl, true, List, [], ◌∷◌, ℕ}
use Rattle.lists.specs.Tests.{within, all_of, any_of}
use Rattle.punycode.specs.Punycode.{digit, adapt_loop, damped, adapt, threshold, varint, add, emit, point, points}
use Rattle.punycode.specs.Punycode.{nearer, least, passes, below, delimiter, initial, extended, encode, ace}
use Rattle.punycode.specs.Punycode.{alnum, ldh, wide, allowed, encodable}
use Rattle.punycode.specs.Calls.{coder_number}
use Rattle.rules.specs.Permits.{Permits}
use Rattle.rules.specs.Rules.{is_japanese}
use Rattle.ascii.specs.Ascii.{ascii_label}

-- 3042, and xn--l8j
abbrev pub kana : List ℕ
kana = 0x3042 ∷ []

abbrev pub encoded : List ℕ
encoded = 0x78 ∷ 0x6E ∷ 0x2D ∷ 0x2D ∷ 0x6C ∷ 0x38 ∷ 0x6A ∷ []

pub kana_number : coder_number kana 63 ≡ 0
unfolding all_of any_of within digit adapt_loop damped adapt threshold varint add emit point points nearer least passes
    below delimiter initial extended encode ace alnum ldh wide allowed encodable coder_number
kana_number = refl

pub kana_form : (P : Permits) → is_japanese P kana ≡ true → ascii_label P kana ≡ encoded
unfolding digit adapt_loop damped adapt threshold varint add emit point points nearer least passes below delimiter
    initial extended encode ace ascii_label
kana_form P e = rw e
