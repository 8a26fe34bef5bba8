-- RFC 3492 on lists of numbers: the encoding procedure of section 6.3 with the parameter values of section 5, and
-- which labels are encoded.
use Rattle.std.specs.Prelude.{Bool, not, ◌&&◌, ◌||◌, List, [], ◌∷◌, ◌++◌, ℕ, zero, suc, ◌+◌, ◌-◌, ◌*◌, ◌/◌, ◌%◌, eqb, leb, ltb, length}
use Rattle.lists.specs.Tests.{pick, within, all_of, any_of}

-- ---- section 5: the parameter values

abbrev pub base : ℕ
base = 36

abbrev pub tmin : ℕ
tmin = 1

abbrev pub tmax : ℕ
tmax = 26

abbrev pub skew : ℕ
skew = 38

abbrev pub damp : ℕ
damp = 700

abbrev pub initial_bias : ℕ
initial_bias = 72

abbrev pub initial_n : ℕ
initial_n = 0x80

-- the delimiter
abbrev pub hyphen : ℕ
hyphen = 0x2D

-- one more than the largest code point
abbrev pub limit : ℕ
limit = 0x110000

-- the code point for a digit: a to z for 0 to 25, 0 to 9 for 26 to 35
unfoldable pub digit : ℕ → ℕ
digit d = pick (ltb d 26) (d + 0x61) (d - 26 + 0x30)

-- ---- section 6.1: bias adaptation

-- while delta > ((base - tmin) * tmax) div 2; each step makes delta smaller, so that delta bounds the steps f
unfoldable pub adapt_loop : ℕ → ℕ → ℕ → ℕ
adapt_loop zero k delta = k + (base - tmin + 1) * delta / (delta + skew)
adapt_loop (suc f) k delta =
    let more = adapt_loop f (k + base) (delta / (base - tmin)) in
    pick (ltb ((base - tmin) * tmax / 2) delta) more (k + (base - tmin + 1) * delta / (delta + skew))

-- if firsttime then delta div damp else delta div 2
unfoldable pub damped : ℕ → Bool → ℕ
damped delta firsttime = pick firsttime (delta / damp) (delta / 2)

unfoldable pub adapt : ℕ → ℕ → Bool → ℕ
adapt delta numpoints firsttime =
    let d = damped delta firsttime in
    let e = d + d / numpoints in
    adapt_loop e 0 e

-- ---- section 6.3: the encoding procedure

-- t: tmin if k <= bias, tmax if k >= bias + tmax, k - bias otherwise
unfoldable pub threshold : ℕ → ℕ → ℕ
threshold k bias = pick (leb k bias) tmin (pick (leb (bias + tmax) k) tmax (k - bias))

-- q as a variable-length integer, for k = base to infinity in steps of base; each step makes q smaller, so that q
-- bounds the steps f
unfoldable pub varint : ℕ → ℕ → ℕ → ℕ → List ℕ
varint zero bias k q = []
varint (suc f) bias k q =
    let t = threshold k bias in
    let more = digit (t + (q - t) % (base - t)) ∷ varint f bias (k + base) ((q - t) / (base - t)) in
    pick (ltb q t) (digit q ∷ []) more

-- what the loops change, but for n
pub record Enc : Type 0 where
  pub delta : ℕ
  pub bias : ℕ
  pub h : ℕ
  pub out : List ℕ

-- let delta = delta + d
unfoldable pub add : ℕ → Enc → Enc
add d s = record { delta = s.delta + d; bias = s.bias; h = s.h; out = s.out }

-- if c == n: output delta as a variable-length integer, adapt the bias, let delta = 0, increment h
unfoldable pub emit : ℕ → Enc → Enc
emit b s = record {
  delta = 0;
  bias = adapt s.delta (s.h + 1) (eqb s.h b);
  h = s.h + 1;
  out = s.out ++ varint (suc s.delta) s.bias base s.delta;
}

-- if c < n then increment delta; if c == n then the above
unfoldable pub point : ℕ → ℕ → ℕ → Enc → Enc
point n b c s = let e = emit b s in pick (ltb c n) (add 1 s) (pick (eqb c n) e s)

-- for each code point c in the input, in order
unfoldable pub points : ℕ → ℕ → List ℕ → Enc → Enc
points n b [] s = s
points n b (c ∷ cs) s = points n b cs (point n b c s)

-- the minimum code point >= n in the input, where m is the least so far
unfoldable pub nearer : ℕ → ℕ → ℕ → ℕ
nearer n c m = pick (leb n c && ltb c m) c m

unfoldable pub least : ℕ → List ℕ → ℕ → ℕ
least n [] m = m
least n (c ∷ cs) m = least n cs (nearer n c m)

-- while h < length(input): find m, let delta = delta + (m - n) * (h + 1), let n = m, pass over the input, increment
-- delta and n. Each pass makes n larger, and no code point is as large as the limit, so that the limit bounds the
-- passes f.
unfoldable pub passes : ℕ → List ℕ → ℕ → ℕ → Enc → Enc
passes zero l b n s = s
passes (suc f) l b n s =
    let m = least n l limit in
    let next = passes f l b (m + 1) (add 1 (points m b l (add ((m - n) * (s.h + 1)) s))) in
    pick (ltb s.h (length l)) next s

-- the code points below n, in order: below the initial n, the basic ones
unfoldable pub below : ℕ → List ℕ → List ℕ
below n [] = []
below n (c ∷ cs) = pick (ltb c n) (c ∷ below n cs) (below n cs)

-- a delimiter if b > 0
unfoldable pub delimiter : ℕ → List ℕ
delimiter b = pick (eqb b 0) [] (hyphen ∷ [])

-- delta, bias and h before the loops, and what the loops output
unfoldable pub initial : List ℕ → Enc
initial l = record { delta = 0; bias = initial_bias; h = length (below initial_n l); out = [] }

unfoldable pub extended : List ℕ → List ℕ
extended l = (passes limit l (length (below initial_n l)) initial_n (initial l)).out

-- the basic code points, a delimiter, and the variable-length integers
unfoldable pub encode : List ℕ → List ℕ
encode l = below initial_n l ++ delimiter (length (below initial_n l)) ++ extended l

-- "xn--" and the output, which is in lower case where the label is
unfoldable pub ace : List ℕ → List ℕ
ace l = 0x78 ∷ 0x6E ∷ hyphen ∷ hyphen ∷ encode l

-- ---- the labels that are encoded

-- a to z, 0 to 9
unfoldable pub alnum : ℕ → Bool
alnum c = within 0x61 0x7A c || within 0x30 0x39 c

-- a to z, 0 to 9, hyphen
unfoldable pub ldh : ℕ → Bool
ldh c = alnum c || eqb c hyphen

-- a scalar value from 80 to 10FFFF; D800 to DFFF are none
unfoldable pub wide : ℕ → Bool
wide c = within 0x80 0x10FFFF c && not (within 0xD800 0xDFFF c)

unfoldable pub allowed : ℕ → Bool
allowed c = ldh c || wide c

-- 1 to 63 code points, each of these, at least one of them 80 or more
unfoldable pub encodable : List ℕ → Bool
encodable l = within 1 63 (length l) && (all_of allowed l && any_of (leb 0x80) l)
