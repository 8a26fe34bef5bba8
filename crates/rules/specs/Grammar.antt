-- The registry's grammar: document 004's ABNF, each rule an inductive type of its own under its name; a rule stands
-- below those it uses. With the ordered rules (specs/Rules) it shares what the edition permits, its Japanese
-- characters and its prefecture labels, and nothing else. Letters are in lower case, as the normal form has them: the
-- registry, like ABNF (RFC 5234), takes the two cases for one.
use Rattle.std.specs.Prelude.{true, List, [], ◌∷◌, ◌++◌, ◌≡◌, ℕ, ◌≤◌, length}
use Rattle.rules.specs.Permits.{Permits, ja_char, middle}
use Rattle.rules.specs.Verdicts.{Class}
use Rattle.rules.specs.Verdicts.{General, Prefecture}

-- *R
pub data Star (R : ℕ → Type 0) : List ℕ → Type 0 where
  none : Star R []
  more : {c : ℕ} {l : List ℕ} → R c → Star R l → Star R (c ∷ l)

-- R / S
pub data Or (R S : ℕ → Type 0) (c : ℕ) : Type 0 where
  left : R c → Or R S c
  right : S c → Or R S c

-- ALNUM = "A" / .. / "Z" / "0" / .. / "9"
pub data ALNUM (c : ℕ) : Type 0 where
  letter : 0x61 ≤ c → c ≤ 0x7A → ALNUM c
  digit : 0x30 ≤ c → c ≤ 0x39 → ALNUM c

pub data HYPHEN (c : ℕ) : Type 0 where
  hyphen : c ≡ 0x2D → HYPHEN c

-- ALNUM-HYPHEN = ALNUM / "-"
abbrev pub ALNUM-HYPHEN : ℕ → Type 0
ALNUM-HYPHEN = Or ALNUM HYPHEN

-- ASCII-label = ALNUM 1*61ALNUM-HYPHEN ALNUM
pub data ASCII-label : List ℕ → Type 0 where
  ascii : {a z : ℕ} {m : List ℕ} → ALNUM a → Star ALNUM-HYPHEN m → 1 ≤ length m → length m ≤ 61 → ALNUM z
      → ASCII-label (a ∷ (m ++ (z ∷ [])))

-- MIDDLE-DOT = %x30FB
pub data MIDDLE-DOT (c : ℕ) : Type 0 where
  dot : c ≡ 0x30FB → MIDDLE-DOT c

-- EXCEPTION-char = %x3006 / %x30FC / MIDDLE-DOT
pub data EXCEPTION-char (c : ℕ) : Type 0 where
  closing : c ≡ 0x3006 → EXCEPTION-char c
  prolonged : c ≡ 0x30FC → EXCEPTION-char c
  middle_dot : MIDDLE-DOT c → EXCEPTION-char c

-- EXCEPTION-STRING = *(EXCEPTION-char / ALNUM-HYPHEN) MIDDLE-DOT *(EXCEPTION-char / ALNUM-HYPHEN)
pub data EXCEPTION-STRING : List ℕ → Type 0 where
  dotted : {c : ℕ} {m n : List ℕ} → Star (Or EXCEPTION-char ALNUM-HYPHEN) m → MIDDLE-DOT c
      → Star (Or EXCEPTION-char ALNUM-HYPHEN) n → EXCEPTION-STRING (m ++ c ∷ n)

module _ (P : Permits) where
  -- JA-char = %x3005 / .. / %x9FA0, of which the document prints the first and the last: what the edition permits
  pub data JA-char (c : ℕ) : Type 0 where
    ja : ja_char P c ≡ true → JA-char c

  abbrev pub JA-or-ALNUM-HYPHEN : ℕ → Type 0
  JA-or-ALNUM-HYPHEN = Or JA-char ALNUM-HYPHEN

  pub data JA-form : List ℕ → Type 0 where
    -- JA-char
    form_1 : {c : ℕ} → JA-char c → JA-form (c ∷ [])
    -- JA-char *(JA-char / ALNUM-HYPHEN) (JA-char / ALNUM)
    form_2 : {a z : ℕ} {m : List ℕ} → JA-char a → Star JA-or-ALNUM-HYPHEN m → Or JA-char ALNUM z
        → JA-form (a ∷ (m ++ (z ∷ [])))
    -- ALNUM *(JA-char / ALNUM-HYPHEN) JA-char
    form_3 : {a z : ℕ} {m : List ℕ} → ALNUM a → Star JA-or-ALNUM-HYPHEN m → JA-char z → JA-form (a ∷ (m ++ (z ∷ [])))
    -- ALNUM *(JA-char / ALNUM-HYPHEN) JA-char *(JA-char / ALNUM-HYPHEN) ALNUM
    form_4 : {a j z : ℕ} {m n : List ℕ} → ALNUM a → Star JA-or-ALNUM-HYPHEN m → JA-char j
        → Star JA-or-ALNUM-HYPHEN n → ALNUM z → JA-form (a ∷ ((m ++ j ∷ n) ++ (z ∷ [])))

  -- JA-label: one of the four; 1 to 15 characters; it is not, as a whole, an EXCEPTION-STRING
  pub data JA-label : List ℕ → Type 0 where
    ja_label : {l : List ℕ} → JA-form l → 1 ≤ length l → length l ≤ 15 → (EXCEPTION-STRING l → ⊥) → JA-label l

  -- label = ASCII-label / JA-label
  pub data label : List ℕ → Type 0 where
    an_ascii : {l : List ℕ} → ASCII-label l → label l
    a_japanese : {l : List ℕ} → JA-label l → label l

  pub data prefecture_label (l : List ℕ) : Type 0 where
    listed : middle P l ≡ true → prefecture_label l

  -- general-use name (document 003) = label ".JP"; prefecture-JPDN = label "." prefecture-label ".JP"
  pub data Derives : Class → List ℕ → Type 0 where
    general : {l : List ℕ} → label l → Derives General (l ++ 0x2E ∷ 0x6A ∷ 0x70 ∷ [])
    prefecture : {l m : List ℕ} → label l → prefecture_label m
        → Derives Prefecture (l ++ 0x2E ∷ (m ++ 0x2E ∷ 0x6A ∷ 0x70 ∷ []))
