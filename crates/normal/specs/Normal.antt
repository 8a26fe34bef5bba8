-- The normal form of an application text: document 01, 'Normal form'.
use Rattle.std.specs.Prelude.{List, [], ◌∷◌, map, ℕ, suc, eqb}
use Rattle.lists.specs.Tests.{pick}
use Rattle.characters.specs.Replace.{replace}
use Rattle.characters.specs.Compose.{composed}

-- a character, and the index in the application text where it began
pub record Placed : Type 0 where
  pub code : ℕ
  pub began : ℕ

abbrev pub placed : ℕ → ℕ → Placed
placed c i = record { code = c; began = i }

-- first each code point is replaced; the text's first stands at index i
unfoldable pub replaced_from : ℕ → List ℕ → List Placed
replaced_from i [] = []
replaced_from i (c ∷ cs) = placed (replace c) i ∷ replaced_from (suc i) cs

-- then, left to right, a base followed by a mark becomes one character, which began where the base did
unfoldable pub compose : List Placed → List Placed
compose [] = []
compose (x ∷ []) = x ∷ []
compose (b ∷ m ∷ rest) =
    let one = composed b.code m.code in
    let apart = b ∷ compose (m ∷ rest) in
    let together = placed one b.began ∷ compose rest in
    pick (eqb one 0) apart together

unfoldable pub normal_placed : List ℕ → List Placed
normal_placed text = compose (replaced_from 0 text)

-- the normal form, and for each of its characters the index in the text where it began
unfoldable pub normal_form : List ℕ → List ℕ
normal_form text = map (λ (p : Placed). p.code) (normal_placed text)

unfoldable pub places : List ℕ → List ℕ
places text = map (λ (p : Placed). p.began) (normal_placed text)
