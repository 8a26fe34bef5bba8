-- A table of bits says exactly which numbers are in the list that it unpacks to: the bits of a word are met one after the other, the lowest first.
-- Assumes nothing.
use mathlib.Core.Path.{◌≡◌, refl, sym, ◌∙◌}
use mathlib.Core.Bool.{Bool, true, false, and-false}
use mathlib.Core.List.{List, [], ◌∷◌}
use mathlib.Core.Logic.{⊎_elim}
use Prim.Native.Nat.{ℕ, zero, suc, ◌+◌, ◌-◌, ◌/◌, ◌%◌, ◌^◌, ◌≤◌, ◌<◌}
use native.Mathlib.Nat.{zero-div, div-one, div-div-eq-div-mul, pow-succ'}
use native.Mathlib.Omega.{arith}
use lib.Dec.{eqb}
use lib.ListN.{length, get_or, get_or-eq_default}
use borrow.Author.Tests.{eq-eqb, ne_eqb}
use Rattle.lists.specs.Tests.{pick, within, any_of, elem}
use Rattle.lists.proofs.Laws.{lt_or_le}
use Rattle.characters.specs.Characters.{bit_set, kanji_with}

-- the numbers from a on of the bits set among the lowest n of w, before those of `rest`
unfoldable pub numbered : ℕ → ℕ → ℕ → List ℕ → List ℕ
numbered zero a w rest = rest
numbered (suc n) a w rest = let on = numbered n (suc a) (w / 2) rest in pick (eqb (w % 2) 1) (a ∷ on) on

-- the numbers from a on of the bits set in a table, 32 to a word
unfoldable pub unpacked : ℕ → List ℕ → List ℕ
unpacked a [] = []
unpacked a (w ∷ ws) = numbered 32 a w (unpacked (a + 32) ws)

no_bit : (k : ℕ) → bit_set 0 k ≡ false
no_bit k = rw (zero-div (2 ^ k))

-- a table that ends before the word of c has no bit for c
pub short : (table : List ℕ) (c : ℕ) → length table ≤ (c - 0x4E00) / 32 → kanji_with table c ≡ false
unfolding kanji_with
short table c h = rw (get_or-eq_default table 0 h, no_bit ((c - 0x4E00) % 32)) (and-false (within 0x4E00 0x9FA0 c))

next_bit : (w k : ℕ) → bit_set (w / 2) k ≡ bit_set w (suc k)
next_bit w k = rw (div-div-eq-div-mul w 2 (2 ^ k), ← pow-succ' 2 k)

module _ (c : ℕ) where
  -- a word with no bit for c
  passed : (n a w : ℕ) (rest : List ℕ) → ((k : ℕ) → k < n → c ≡ a + k → ⊥) → elem c (numbered n a w rest) ≡ elem c rest
  unfolding numbered elem any_of
  passed zero a w rest f = refl
  passed (suc n) a w rest f = go (eqb (w % 2) 1) (passed n (suc a) (w / 2) rest (λ k h e. f (suc k) (omega arith) (omega arith)))
    where
      go : (b : Bool) → elem c (numbered n (suc a) (w / 2) rest) ≡ elem c rest
          → elem c (pick b (a ∷ numbered n (suc a) (w / 2) rest) (numbered n (suc a) (w / 2) rest)) ≡ elem c rest
      go true e = rw (ne_eqb c a (λ q. f 0 (omega arith) (omega arith))) e
      go false e = e

  -- the word that has a bit for c
  met : (n a w k : ℕ) (rest : List ℕ) → k < n → c ≡ a + k → elem c rest ≡ false → elem c (numbered n a w rest) ≡ bit_set w k
  unfolding numbered elem any_of
  met zero a w k rest h e z = absurd (omega arith)
  met (suc n) a w zero rest h e z =
      rw (div-one w) (go (eqb (w % 2) 1) (passed n (suc a) (w / 2) rest (λ j i q. omega arith) ∙ z))
    where
      go : (b : Bool) → elem c (numbered n (suc a) (w / 2) rest) ≡ false
          → elem c (pick b (a ∷ numbered n (suc a) (w / 2) rest) (numbered n (suc a) (w / 2) rest)) ≡ b
      go true p = rw (eq-eqb c a (omega arith))
      go false p = p
  met (suc n) a w (suc k) rest h e z = go (eqb (w % 2) 1) (met n (suc a) (w / 2) k rest (omega arith) (omega arith) z ∙ next_bit w k)
    where
      go : (b : Bool) → elem c (numbered n (suc a) (w / 2) rest) ≡ bit_set w (suc k)
          → elem c (pick b (a ∷ numbered n (suc a) (w / 2) rest) (numbered n (suc a) (w / 2) rest)) ≡ bit_set w (suc k)
      go true p = rw (ne_eqb c a (λ q. omega arith)) p
      go false p = p

  before : (a : ℕ) (ws : List ℕ) → c < a → elem c (unpacked a ws) ≡ false
  unfolding unpacked elem any_of
  before a [] h = refl
  before a (w ∷ ws) h = passed 32 a w (unpacked (a + 32) ws) (λ k i e. omega arith) ∙ before (a + 32) ws (omega arith)

  pub in_unpacked : (a i : ℕ) (ws : List ℕ) → c ≡ a + i → elem c (unpacked a ws) ≡ bit_set (get_or ws (i / 32) 0) (i % 32)
  unfolding unpacked elem any_of
  in_unpacked a i [] e = sym (no_bit (i % 32))
  in_unpacked a i (w ∷ ws) e = ⊎_elim here (λ h. on h (in_unpacked (a + 32) (i - 32) ws (omega arith))) (lt_or_le i 32)
    where
      here : i < 32 → elem c (numbered 32 a w (unpacked (a + 32) ws)) ≡ bit_set (get_or (w ∷ ws) (i / 32) 0) (i % 32)
      here h =
          let q : i / 32 ≡ 0 = omega arith in
          let r : i % 32 ≡ i = omega arith in
          let b : c < a + 32 = omega arith in
          rw (q, r) (met 32 a w i (unpacked (a + 32) ws) h e (before (a + 32) ws b))

      on : 32 ≤ i → elem c (unpacked (a + 32) ws) ≡ bit_set (get_or ws ((i - 32) / 32) 0) ((i - 32) % 32)
          → elem c (numbered 32 a w (unpacked (a + 32) ws)) ≡ bit_set (get_or (w ∷ ws) (i / 32) 0) (i % 32)
      on h p =
          let q : i / 32 ≡ suc ((i - 32) / 32) = omega arith in
          let r : i % 32 ≡ (i - 32) % 32 = omega arith in
          rw (q, r) (passed 32 a w (unpacked (a + 32) ws) (λ k l z. omega arith) ∙ p)
