-- Where the normal form comes from. Only what replaces a code point is looked at, so texts that are replaced alike have one normal form,
-- begun at the same places; and each character of it is what replaces the code point at its place, alone or joined by a mark, and
-- began inside the text.
-- Assumes nothing.
use mathlib.Core.Path.{◌≡◌, refl, sym, ap, ◌∙◌}
use mathlib.Core.Bool.{Bool, true, false}
use mathlib.Core.List.{List, [], ◌∷◌, map}
use Prim.Native.Nat.{ℕ, zero, suc, ◌+◌, ◌≤◌, ◌<◌}
use native.Mathlib.Omega.{arith}
use lib.Dec.{eqb}
use lib.ListN.{length, get_or, length-map, get_or-map}
use borrow.Author.Tests.{eqb-false}
use Rattle.lists.specs.Tests.{pick}
use Rattle.characters.specs.Replace.{replace}
use Rattle.characters.specs.Compose.{composed}
use Rattle.normal.specs.Normal.{Placed, placed, replaced_from, compose, normal_placed, normal_form, places}

-- ---- texts that are replaced alike

-- numbers, with their places from i on
abbrev numbered : ℕ → List ℕ → List Placed
numbered i [] = []
numbered i (x ∷ xs) = placed x i ∷ numbered (suc i) xs

numbered_is : (i : ℕ) (t : List ℕ) → replaced_from i t ≡ numbered i (map replace t)
unfolding replaced_from
numbered_is i [] = refl
numbered_is i (x ∷ xs) = ap (λ (l : List Placed). placed (replace x) i ∷ l) (numbered_is (suc i) xs)

module _ (t u : List ℕ) (e : map replace t ≡ map replace u) where
  placed_alike : normal_placed t ≡ normal_placed u
  unfolding normal_placed
  placed_alike = ap compose (numbered_is 0 t ∙ ap (numbered 0) e ∙ sym (numbered_is 0 u))

  pub form_alike : normal_form t ≡ normal_form u
  unfolding normal_form
  form_alike = ap (map (λ (p : Placed). p.code)) placed_alike

  pub places_alike : places t ≡ places u
  unfolding places
  places_alike = ap (map (λ (p : Placed). p.began)) placed_alike

  pub length_alike : length t ≡ length u
  length_alike = sym (length-map t replace) ∙ ap length e ∙ length-map u replace

-- ---- what each entry of the placed form keeps

abbrev Every : (Placed → Type 0) → List Placed → Type 0
Every R [] = Unit {0}
Every R (p ∷ ps) = R p × Every R ps

each_replaced : (Q : Placed → Type 0) (i : ℕ) (xs : List ℕ) → ((j : ℕ) → j < length xs → Q (placed (replace (get_or xs j 0)) (i + j)))
    → Every Q (replaced_from i xs)
unfolding replaced_from
each_replaced Q i [] h = tt
each_replaced Q i (x ∷ xs) h = (here (h 0 (omega arith)), each_replaced Q (suc i) xs (λ j l. later j (h (suc j) (omega arith))))
  where
    here : Q (placed (replace x) (i + 0)) → Q (placed (replace x) i)
    here q = let z : i + 0 ≡ i = omega arith in rw z at q

    later : (j : ℕ) → Q (placed (replace (get_or xs j 0)) (i + suc j)) → Q (placed (replace (get_or xs j 0)) (suc i + j))
    later j q = let z : i + suc j ≡ suc i + j = omega arith in rw z at q

-- Q of what is replaced gives R of what stays alone, and of what a mark joins
module _ (Q R : Placed → Type 0) (alone : (p : Placed) → Q p → R p)
    (pair : (b m : Placed) → Q b → (composed b.code m.code ≡ 0 → ⊥) → R (placed (composed b.code m.code) b.began)) where
  each_composed : (ps : List Placed) → Every Q ps → Every R (compose ps)
  unfolding compose
  each_composed [] q = tt
  each_composed (p ∷ []) q = (alone p q.0, tt)
  each_composed (b ∷ m ∷ rest) q =
      go (eqb (composed b.code m.code) 0) refl (each_composed (m ∷ rest) q.1) (each_composed rest q.1.1)
    where
      go : (z : Bool) → eqb (composed b.code m.code) 0 ≡ z → Every R (compose (m ∷ rest)) → Every R (compose rest)
          → Every R (pick z (b ∷ compose (m ∷ rest)) (placed (composed b.code m.code) b.began ∷ compose rest))
      go true e c d = (alone b q.0, c)
      go false e c d = (pair b m q.0 (eqb-false _ 0 e), d)

  each_at : (ps : List Placed) (k : ℕ) → Every R ps → (length ps ≤ k → R (placed 0 0)) → R (get_or ps k (placed 0 0))
  each_at [] k r past = past (omega arith)
  each_at (p ∷ ps) zero r past = r.0
  each_at (p ∷ ps) (suc k) r past = each_at ps k r.1 (λ h. past (omega arith))

  entry : (t : List ℕ) → ((j : ℕ) → j < length t → Q (placed (replace (get_or t j 0)) (0 + j))) → (k : ℕ)
      → (length (normal_form t) ≤ k → R (placed 0 0)) → R (get_or (normal_placed t) k (placed 0 0))
  unfolding normal_form normal_placed
  entry t h k past =
      let ps = compose (replaced_from 0 t) in
      each_at ps k (each_composed (replaced_from 0 t) (each_replaced Q 0 t h)) (λ l. past (omega (arith, length-map ps (λ (p : Placed). p.code))))

-- ---- what a character of the form came from, and where it began

-- from x alone, or from x and a mark
pub data Came (x : ℕ) : ℕ → Type 0 where
  alone : Came x x
  joined : (m : ℕ) → (composed x m ≡ 0 → ⊥) → Came x (composed x m)

zero_and : (j : ℕ) → 0 + j ≡ j
zero_and j = omega arith

module _ (t : List ℕ) (k : ℕ) where
  code_at : get_or (normal_form t) k 0 ≡ (get_or (normal_placed t) k (placed 0 0)).code
  unfolding normal_form
  code_at = get_or-map (λ (p : Placed). p.code) (normal_placed t) k (placed 0 0)

  began_at : get_or (places t) k 0 ≡ (get_or (normal_placed t) k (placed 0 0)).began
  unfolding places
  began_at = get_or-map (λ (p : Placed). p.began) (normal_placed t) k (placed 0 0)

  pub came : k < length (normal_form t) → Came (replace (get_or t (get_or (places t) k 0) 0)) (get_or (normal_form t) k 0)
  came h =
      rw (code_at, began_at)
      (entry Q R (λ p e. rw e alone) (λ b m e n. rw e (joined m.code (rw e at n))) t (λ j l. rw (zero_and j)) k (λ l. absurd (omega arith)))
    where
      Q : Placed → Type 0
      Q p = p.code ≡ replace (get_or t p.began 0)

      R : Placed → Type 0
      R p = Came (replace (get_or t p.began 0)) p.code

  -- what holds of every index of the text holds of the place where the character began; of 0 where there is no such one
  began : (R : ℕ → Type 0) → ((j : ℕ) → j < length t → R j) → (length (normal_form t) ≤ k → R 0) → R (get_or (places t) k 0)
  began R each past = rw began_at (entry Q Q (λ p q. q) (λ b m q n. q) t (λ j l. rw (zero_and j) (each j l)) k past)
    where
      Q : Placed → Type 0
      Q p = R p.began

  pub began_inside : get_or (places t) k 0 ≤ length t
  began_inside = began (λ (i : ℕ). i ≤ length t) (λ j l. omega arith) (λ h. omega arith)

  pub began_before : k < length (normal_form t) → get_or (places t) k 0 < length t
  began_before h = began (λ (i : ℕ). i < length t) (λ j l. l) (λ g. absurd (omega arith))
