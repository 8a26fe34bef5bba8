-- What the calls answer and leave in the buffer that is lent to them: document 01, "Numbers a call may answer" and
-- "Coder and decoder".
use Rattle.std.specs.Prelude.{◌≡◌, true, List, [], map, ℕ, ◌+◌, ◌≤◌, ◌<◌, leb, ltb, eqb, length}
use Rattle.lists.specs.Front.{written}
use Rattle.lists.specs.Tests.{pick, within}
use Rattle.punycode.specs.Punycode.{ace, encodable}
use Rattle.refusals.specs.Refusals.{Filled}

-- octets of an encoded label, and code points of a decoded one: the room that a call asks for
abbrev pub label_room : ℕ
label_room = 63

-- ---- the coder

-- 1: the buffer is too short; 13: the label is not encodable; 14: its encoding has over 63 octets; else 0
unfoldable pub coder_number : List ℕ → ℕ → ℕ
coder_number label room =
    pick (ltb room label_room) 1
    (pick (encodable label) (pick (leb (length (ace label)) label_room) 0 14) 13)

-- the encoding where the number is 0, else nothing
unfoldable pub coder_writes : List ℕ → ℕ → List ℕ
coder_writes label room = pick (eqb (coder_number label room) 0) (ace label) []

-- it answers n, and writes xs
abbrev pub coder_answers : ℕ → List ℕ → Filled
coder_answers n xs = record { number = n; place = 0; length = length xs }

pub record Encodes (label before after : List ℕ) (r : Filled) : Type 0 where
  pub answer : r ≡ coder_answers (coder_number label (length before)) (coder_writes label (length before))
  pub buffer : after ≡ written (coder_writes label (length before)) before

-- ---- the decoder

-- A to Z in lower case
unfoldable pub lower : ℕ → ℕ
lower c = pick (within 0x41 0x5A c) (c + 0x20) c

-- the octets, with A to Z put in lower case, are the encoding of l, an encodable label, with at most 63 octets
pub record Encoding (octets l : List ℕ) : Type 0 where
  pub fit : encodable l ≡ true
  pub is : ace l ≡ map lower octets
  pub short : length octets ≤ label_room

-- the number, and what is written: 1 and nothing where the buffer is too short; 0 and l where the octets are the
-- encoding of l; 15 and nothing where they are the encoding of no label
pub data DecoderSays (octets : List ℕ) (room : ℕ) : ℕ → List ℕ → Type 0 where
  small : room < label_room → DecoderSays octets room 1 []
  taken : (l : List ℕ) → label_room ≤ room → Encoding octets l → DecoderSays octets room 0 l
  left : label_room ≤ room → ((l : List ℕ) → Encoding octets l → ⊥) → DecoderSays octets room 15 []

-- it answers n, and writes xs
abbrev pub decoder_answers : ℕ → List ℕ → Filled
decoder_answers n xs = record { number = n; place = 0; length = length xs }

pub record Decodes (octets before after : List ℕ) (r : Filled) : Type 0 where
  pub number : ℕ
  pub label : List ℕ
  pub says : DecoderSays octets (length before) number label
  pub answer : r ≡ decoder_answers number label
  pub buffer : after ≡ written label before
