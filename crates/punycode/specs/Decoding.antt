-- RFC 3492, the decoding procedure of section 6.2, an octet at a time: how the code finds a label. No public
-- statement rests on it.
use Rattle.std.specs.Prelude.{Bool, ◌&&◌, List, [], ◌∷◌, ◌++◌, ℕ, ◌+◌, ◌-◌, ◌*◌, ◌/◌, ◌%◌, eqb, ltb, length, take, drop}
use Rattle.std.proofs.Math.Option.{Option, none, some}
use Rattle.lists.specs.Tests.{pick, within, same}
use Rattle.punycode.specs.Punycode.{base, initial_bias, initial_n, hyphen, limit, adapt, threshold, ace, encodable}

-- the digit-value of an octet, and base where it has none
unfoldable pub value : ℕ → ℕ
value c = pick (within 0x61 0x7A c) (c - 0x61) (pick (within 0x30 0x39 c) (c - 0x30 + 26) base)

-- What the loops change: n, bias, the output, oldi, i, w and k. Between two integers oldi is i, w is 1 and k is base.
pub data Dec : Type 0 where
  stuck : Dec
  reading : ℕ → ℕ → List ℕ → ℕ → ℕ → ℕ → ℕ → Dec

-- insert x into l at position p
unfoldable pub insert : ℕ → ℕ → List ℕ → List ℕ
insert p x l = take p l ++ x ∷ drop p l

-- an integer is read, and i has gone from oldi to i
unfoldable pub place : ℕ → List ℕ → ℕ → ℕ → Dec
place n out oldi i =
    let len = length out + 1 in
    let m = n + i / len in
    let p = i % len in
    pick (ltb m limit) (reading m (adapt (i - oldi) len (eqb oldi 0)) (insert p m out) (p + 1) (p + 1) 1 base) stuck

-- i stays below 64 times the limit: fail on overflow
unfoldable pub octet : ℕ → Dec → Dec
octet c stuck = stuck
octet c (reading n bias out oldi i w k) =
    let d = value c in
    let j = i + d * w in
    let t = threshold k bias in
    pick (ltb d base && ltb j (64 * limit))
    (pick (ltb d t) (place n out oldi j) (reading n bias out oldi j (w * (base - t)) (k + base))) stuck

unfoldable pub octets : List ℕ → Dec → Dec
octets [] s = s
octets (c ∷ cs) s = octets cs (octet c s)

-- the length up to and with the last delimiter, 0 where there is none: j octets are passed, and r is the answer so far
unfoldable pub mark : ℕ → ℕ → ℕ → ℕ
mark c j r = pick (eqb c hyphen) (j + 1) r

unfoldable pub last_delimiter : ℕ → ℕ → List ℕ → ℕ
last_delimiter j r [] = r
last_delimiter j r (c ∷ cs) = last_delimiter (j + 1) (mark c j r) cs

-- the output, where the input ends between two integers
unfoldable pub label : Dec → Option (List ℕ)
label stuck = none
label (reading n bias out oldi i w k) = pick (eqb w 1) (some out) none

unfoldable pub decode : List ℕ → Option (List ℕ)
decode e =
    let k = last_delimiter 0 0 e in
    label (octets (drop k e) (reading initial_n initial_bias (take (k - 1) e) 0 0 1 base))

-- ---- decode, encode again and compare

-- low, octets in lower case, is the encoding of l
unfoldable pub encodes : List ℕ → List ℕ → Bool
encodes l low = encodable l && same (ace l) low

unfoldable pub keep : List ℕ → Option (List ℕ) → Option (List ℕ)
keep low none = none
keep low (some l) = pick (encodes l low) (some l) none

unfoldable pub found : List ℕ → Option (List ℕ)
found low = keep low (decode (drop 4 low))
