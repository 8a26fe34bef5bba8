-- The rules of a nameserver's host name, 2 to 10 and 17, a row each, and its grammar: document 02, K10. It has three
-- labels or more (document 000, 1), and any last one. What needs the coder, 14 and 19, stands in the crate `hosts`.
use Rattle.std.specs.Prelude.{true, List, [], ◌∷◌, ◌++◌, ℕ, suc, ltb, length}
use Rattle.lists.specs.Tests.{any_of, index_of}
use Rattle.lists.specs.Rows.{Row, row}
use Rattle.normal.specs.Normal.{normal_form}
use Rattle.rules.specs.Labels.{labels}
use Rattle.rules.specs.Permits.{Permits, is_empty}
use Rattle.rules.specs.Grammar.{ALNUM, label}
use Rattle.rules.specs.Pretends.{PAIR}
use Rattle.rules.specs.Rules.{asks, label_rows, front_rows}
use Rattle.rules.specs.declared.Asks.{Asks}

-- ---- the rows

-- of every label of a host: document 000's prose (1) sets no minimum for an ASCII one, so that one character does and 8
-- never comes (proofs/Hosts); the hyphen pair is refused in every label, Japanese too (after document 000, 6.1)
abbrev pub of_host : Asks
of_host = asks 1 true

-- 7, 9, 17 and 10 label by label from the left, the first of index i; the place is the label's index
unfoldable pub each_rows : Permits → ℕ → List (List ℕ) → List Row
each_rows P i [] = []
each_rows P i (l ∷ ls) = label_rows P of_host l i ++ each_rows P (suc i) ls

-- 5 to 10 and 17, of the labels of a normal form
unfoldable pub host_rows : Permits → List (List ℕ) → List Row
host_rows P ls =
    row 5 (ltb (length ls) 3) 0 ∷
    row 6 (any_of is_empty ls) (index_of is_empty ls) ∷
    each_rows P 0 ls

-- 2 to 10 and 17, of an application text
unfoldable pub host_text_rows : Permits → List ℕ → List Row
host_text_rows P text = front_rows P text ++ host_rows P (labels (normal_form text))

-- ---- the grammar

module _ (P : Permits) where
  -- host-label = label / ALNUM / 2ALNUM, without the pair: document 004's labels, and the ASCII labels of one or two
  -- characters, which 004 leaves out and 000's prose does not
  pub data host_label : List ℕ → Type 0 where
    as_in_names : {l : List ℕ} → label P l → (PAIR l → ⊥) → host_label l
    one : {a : ℕ} → ALNUM a → host_label (a ∷ [])
    two : {a z : ℕ} → ALNUM a → ALNUM z → host_label (a ∷ z ∷ [])

  -- host-labels = host-label / host-label "." host-labels
  pub data host_labels : List ℕ → Type 0 where
    last : {l : List ℕ} → host_label l → host_labels l
    more : {l r : List ℕ} → host_label l → host_labels r → host_labels (l ++ 0x2E ∷ r)

  -- host = host-label "." host-label "." host-labels
  pub data host : List ℕ → Type 0 where
    three : {a b r : List ℕ} → host_label a → host_label b → host_labels r → host (a ++ 0x2E ∷ (b ++ 0x2E ∷ r))
