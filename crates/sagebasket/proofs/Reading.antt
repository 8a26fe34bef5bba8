-- What is read of a text in UTF-8 is lent up to its 257th code point, which says all.
-- Assumes nothing.
use mathlib.Core.Path.{◌≡◌, refl, sym, ap, subst, ◌∙◌}
use mathlib.Core.List.{List, ◌++◌}
use Prim.Native.Nat.{ℕ, ◌≤◌, min}
use native.Mathlib.Omega.{arith}
use lib.ListN.{length, take, drop, length-append, length-take}
use lib.Seq.{take-append_seam}
use Rattle.lists.specs.Front.{written}
use Rattle.utf8.specs.Decodes.{decoded_told, codes_of, Decodes}
use Rattle.utf8.specs.Decodes.{Decoded}
use Rattle.utf8.specs.Utf8.{decoded}
use Rattle.std.proofs.Common.{Option, Some, None}
use Rattle.std.specs.Option.{unwrap_or}
use Rattle.answer.specs.Answers.{wrote_told}
use Rattle.sagebasket.specs.Steps.{Reads}
use Rattle.sagebasket.proofs.Alike.{Alike, cut}

module _ (codes before after : List ℕ) (n : ℕ) (whole : length before ≡ 257) (wrote : after ≡ written (take (length before) codes) before)
    (lent : n ≡ min (length codes) 257) where
  abbrev first : List ℕ
  first = take 257 codes

  stands : after ≡ first ++ drop (length first) before
  unfolding written
  stands = wrote ∙ rw whole

  many : n ≡ length first
  many = omega (arith, lent, length-take 257 codes)

  read_room : n ≤ length after
  read_room = omega (arith, many, ap length stands, length-append first (drop (length first) before))

  read_is : take n after ≡ first
  read_is = ap (take n) stands ∙ rw many (take-append_seam first (drop (length first) before))

-- as many code points are lent as there are, up to 257
pub reads : (octets : List ℕ) {before after : List ℕ} {n count : ℕ} → length before ≡ 257 → Decodes octets before after (decoded_told (Some count))
    → n ≡ min count 257 → Reads octets after (Some n)
reads octets {before} {after} {n} whole d lent =
    let codes = codes_of octets in
    let many : n ≡ min (length codes) 257 = lent ∙ ap (λ (r : Decoded). min r.count 257) d.result in
    (sym (ap (λ (r : Decoded). r.ok) d.result), read_room codes before after n whole d.buffer many, read_is codes before after n whole d.buffer many)

-- an answer line that is written has its length, and none has 0
pub line_length : (r : Option ℕ) → (wrote_told r).length ≡ unwrap_or r 0
line_length None = refl
line_length (Some n) = refl

-- what is said of the code points that were read is said of the text
pub read_said : (Says : List ℕ → Type 0) → Alike Says → (octets text : List ℕ) {n : ℕ} → Reads octets text (Some n) → Says (take n text)
    → Says (decoded octets).codes
unfolding codes_of
read_said Says alike octets text h x = cut Says alike (decoded octets).codes (subst Says (h.2 ∙ rw h.0) x)
