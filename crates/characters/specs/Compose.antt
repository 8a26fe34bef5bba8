-- What a base and the mark after it become: document 01, 'Normal form'.
use Rattle.std.specs.Prelude.{Option, Some, None, Bool, ◌||◌, List, [], ◌∷◌, ℕ, ◌+◌, eqb}
use Rattle.lists.specs.Tests.{pick, elem}

-- the twenty to which mark 309B adds 1
unfoldable pub voiced : List ℕ
voiced =
    0x30AB ∷ 0x30AD ∷ 0x30AF ∷ 0x30B1 ∷ 0x30B3 ∷ 0x30B5 ∷ 0x30B7 ∷ 0x30B9 ∷ 0x30BB ∷ 0x30BD ∷
    0x30BF ∷ 0x30C1 ∷ 0x30C4 ∷ 0x30C6 ∷ 0x30C8 ∷ 0x30CF ∷ 0x30D2 ∷ 0x30D5 ∷ 0x30D8 ∷ 0x30DB ∷
    []

-- the two repeat signs to which it adds 1
unfoldable pub repeats : List ℕ
repeats = 0x309D ∷ 0x30FD ∷ []

-- the five to which mark 309C adds 2
unfoldable pub half_voiced : List ℕ
half_voiced = 0x30CF ∷ 0x30D2 ∷ 0x30D5 ∷ 0x30D8 ∷ 0x30DB ∷ []

-- b is of the table, or of the same less 60 hex (hiragana)
unfoldable pub either_kana : List ℕ → ℕ → Bool
either_kana table b = elem b table || elem (b + 0x60) table

-- the one character that b and m become, or 0 where the two stay apart
unfoldable pub composed : ℕ → ℕ → ℕ
composed b m =
    pick (eqb m 0x309B) (pick (either_kana voiced b || elem b repeats) (b + 1) (pick (eqb b 0x30A6) 0x30F4 0))
    (pick (eqb m 0x309C) (pick (either_kana half_voiced b) (b + 2) 0)
    0)

-- what a call tells of that: nothing where the two stay apart
unfoldable pub one_of : ℕ → Option ℕ
one_of c = pick (eqb c 0) None (Some c)
