-- Names that pretend to be encoded: document 02, K3. The grammar of document 004 (specs/Grammar) has them, and the
-- rules refuse them with 17. And what K4 asks of an edition's prefecture labels, which 17 does not look at.
use Rattle.std.specs.Prelude.{Bool, true, not, ◌&&◌, List, [], ◌∷◌, ◌++◌, ◌≡◌, ℕ, ◌≤◌, length, take}
use Rattle.lists.specs.Tests.{all_of, same}
use Rattle.normal.specs.Normal.{normal_form}
use Rattle.rules.specs.Permits.{Permits}
use Rattle.rules.specs.Grammar.{HYPHEN, ASCII-label, Derives}
use Rattle.rules.specs.Rules.{is_japanese}
use Rattle.rules.specs.Verdicts.{Class}

-- hyphens in the third and fourth places, which RFC 5891 (4.2.3.1) sets aside
pub data PAIR : List ℕ → Type 0 where
  pair : {a b c d : ℕ} {l : List ℕ} → HYPHEN c → HYPHEN d → PAIR (a ∷ b ∷ c ∷ d ∷ l)

-- a name whose leftmost label is an ASCII label with them
pub data PRETENDS : List ℕ → Type 0 where
  pretending : {l : List ℕ} → ASCII-label l → PAIR l → (r : List ℕ) → PRETENDS (l ++ 0x2E ∷ r)

-- what a normal form must be to be a name of class k: it derives as one, and does not pretend
abbrev pub Admitted : Permits → Class → List ℕ → Type 0
Admitted P k t = Derives P k t × (PRETENDS t → ⊥)

-- what a text must be to be a name of class k: 1 to 256 code points, with such a normal form. No such name is lost to
-- the limit (proofs/Exactly)
pub record Granted (P : Permits) (k : Class) (text : List ℕ) : Type 0 where
  pub some : 1 ≤ length text
  pub few : length text ≤ 256
  pub name : Admitted P k (normal_form text)

-- ---- document 02, K4

-- how an encoded label begins: "xn--" (RFC 5890, 2.3.2.5)
abbrev pub ace_prefix : List ℕ
ace_prefix = 0x78 ∷ 0x6E ∷ 0x2D ∷ 0x2D ∷ []

-- an ASCII label that begins so
unfoldable pub seems_encoded : Permits → List ℕ → Bool
seems_encoded P l = same (take 4 l) ace_prefix && not (is_japanese P l)

-- no prefecture label does; asked for ASCII forms to tell names apart, and for nothing else
abbrev pub PlainMiddles : Permits → Type 0
PlainMiddles P = all_of (λ (l : List ℕ). not (seems_encoded P l)) P.middles ≡ true
