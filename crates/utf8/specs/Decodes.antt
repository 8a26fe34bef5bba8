-- What `decode` and its one pass answer and write.
use Rattle.std.specs.Prelude.{◌≡◌, Bool, true, false, List, [], ◌∷◌, ℕ, ◌<◌, Option, None, Some, length, take}
use Rattle.lists.specs.Tests.{pick}
use Rattle.lists.specs.Front.{written}
use Rattle.utf8.specs.declared.Begun.{Begun}
use Rattle.utf8.specs.declared.Step.{Step}
use Rattle.utf8.specs.declared.Step.TheVariants.{Code, More}
use Rattle.utf8.specs.Utf8.{Text, put, fault, decode_from, decoded}

-- whether there is no fault, and how many code points are counted
pub record Decoded : Type 0 where
  pub ok : Bool
  pub count : ℕ

-- what a result tells: none is counted where there is a fault
abbrev pub decoded_told : Option ℕ → Decoded
decoded_told None = record { ok = false; count = 0 }
decoded_told (Some n) = record { ok = true; count = n }

-- it tells whether there is no fault, counts these code points, and writes those that have room
pub record Tells (well : Bool) (codes before after : List ℕ) (r : Decoded) : Type 0 where
  pub result : r ≡ record { ok = well; count = length codes }
  pub buffer : after ≡ written (take (length before) codes) before

-- the code points of well-formed bytes; of others none
unfoldable pub codes_of : List ℕ → List ℕ
codes_of bytes = pick (decoded bytes).ok (decoded bytes).codes []

-- `decode`: a refusal counts none and leaves the buffer as it was
abbrev pub Decodes : List ℕ → List ℕ → List ℕ → Decoded → Type 0
Decodes bytes before after r = Tells (decoded bytes).ok (codes_of bytes) before after r

-- `decode_up_to_fault`: it counts those, and writes the code points before the first fault
pub record DecodesUpToFault (bytes before after : List ℕ) (r : Decoded) : Type 0 where
  pub result : r ≡ record { ok = (decoded bytes).ok; count = length (codes_of bytes) }
  pub buffer : after ≡ written (take (length before) (decoded bytes).codes) before

-- ---- a byte at a time

-- a value of which `need` bytes are yet to follow is so far below what four bytes can hold
pub data Bound : ℕ → ℕ → Type 0 where
  b1 : {a : ℕ} → a < 0x8000 → Bound 1 a
  b2 : {a : ℕ} → a < 0x200 → Bound 2 a
  b3 : {a : ℕ} → a < 8 → Bound 3 a

-- .. of a value that was begun, if one was
abbrev pub Waits : Option Begun → Type 0
Waits None = Unit
Waits (Some v) = Bound v.need v.bits

-- what is decoded where a value was begun, or none
abbrev pub decode_on : Option Begun → List ℕ → Text
decode_on None s = decoded s
decode_on (Some v) s = decode_from v.need v.least v.bits s

-- .. after a step, or where there is none
abbrev pub decode_past : Option Step → List ℕ → Text
decode_past None s = fault
decode_past (Some (Code c)) s = put c (decoded s)
decode_past (Some (More v)) s = decode_from v.need v.least v.bits s

abbrev pub Small : Option Step → Type 0
Small None = Unit
Small (Some (Code c)) = Unit
Small (Some (More v)) = Waits (Some v)

-- what byte b comes to, whatever follows
pub record Steps (b : ℕ) (begun : Option Begun) (r : Option Step) : Type 0 where
  pub rest : (s : List ℕ) → decode_on begun (b ∷ s) ≡ decode_past r s
  pub small : Small r
