-- Of what may stand in a label the Japanese characters are those from 80 on, since they stand from 3003 on and the ASCII set below: so what
-- the call for one label gives is the ASCII form of a name's label, and it refuses where the coder does.
-- Assumes nothing.
use mathlib.Core.Path.{◌≡◌, refl, sym, ap, ◌∙◌}
use mathlib.Core.Bool.{Bool, true, false, not, ◌&&◌, ◌||◌}
use mathlib.Core.List.{List}
use Prim.Native.Nat.{ℕ, ◌≤◌}
use native.Mathlib.Omega.{arith}
use lib.Dec.{eqb, leb}
use lib.ListN.{length}
use borrow.Author.Tests.{le-leb, lt-leb, leb-true, le-ltb, eqb-true, not-true, not-false}
use Rattle.lists.specs.Tests.{pick, all_of, any_of}
use Rattle.lists.specs.Front.{written}
use Rattle.lists.specs.Rows.{first}
use Rattle.lists.specs.Rows.{Answer}
use Rattle.lists.proofs.Laws.{both, all_not, all_but, any_weaker}
use Rattle.lists.proofs.Tables.{clear, gave_all, gave_none}
use Rattle.punycode.specs.Punycode.{ace}
use Rattle.punycode.specs.Calls.{coder_number}
use Rattle.punycode.proofs.Unique.{number_zero}
use Rattle.rules.specs.Permits.{Permits, InStretch, ja_char, label_char}
use Rattle.rules.specs.Rules.{is_japanese}
use Rattle.rules.proofs.Sound.{ascii_range}
use Rattle.ascii.specs.Labels.{high, label_form, form_rows, label_formed, Forms}
use Rattle.ascii.specs.Ascii.{ascii_label, uncoded, writable}
use Rattle.refusals.specs.Refusals.{Filled}
use Rattle.ascii.proofs.Coded.{japanese_high}
use Rattle.ascii.proofs.Forming.{rows_say, low_form}

-- ---- what is high

-- a character of the ASCII set is not
ascii_low : (P : Permits) (l : List ℕ) → all_of (label_char P) l ≡ true → is_japanese P l ≡ false → any_of high l ≡ false
unfolding is_japanese label_char high
ascii_low P l a p = all_not high l (all_but (label_char P) (ja_char P) (λ (c : ℕ). not (high c)) low l a p)
  where
    low : (c : ℕ) → label_char P c ≡ true → ja_char P c ≡ false → not (high c) ≡ true
    low c e p = let h = ascii_range c (rw p at e) in ap not (lt-leb 0x80 c (omega arith))

module _ (P : Permits) (stretch : InStretch P) (l : List ℕ) where
  -- of a label with nothing high where it is not Japanese
  high_is : (is_japanese P l ≡ false → any_of high l ≡ false) → any_of high l ≡ is_japanese P l
  unfolding is_japanese high
  high_is k = go (any_of (ja_char P) l) refl
    where
      go : (j : Bool) → any_of (ja_char P) l ≡ j → any_of high l ≡ j
      go true p = any_weaker (ja_char P) high (japanese_high P stretch) l p
      go false p = k p

-- ---- of at most 63 characters where it is not coded

pub label_writable : (P : Permits) (l : List ℕ) → all_of (label_char P) l ≡ true → (is_japanese P l ≡ false → length l ≤ 63) → writable P l ≡ true
unfolding writable
label_writable P l a k = go (is_japanese P l) refl
  where
    go : (j : Bool) → is_japanese P l ≡ j → is_japanese P l || (leb (length l) 63 && not (any_of high l)) ≡ true
    go true p = rw p
    go false p = rw (p, le-leb (length l) 63 (k p), ascii_low P l a p)

ascii_fits : (P : Permits) (l : List ℕ) → is_japanese P l ≡ false → writable P l ≡ true → (any_of high l ≡ false) × (length l ≤ 63)
unfolding writable
ascii_fits P l p w = let b = both (leb (length l) 63) (not (any_of high l)) (rw p at w) in (not-true (any_of high l) b.1, leb-true (length l) 63 b.0)

-- at most 63 octets
pub label_size : (P : Permits) (l : List ℕ) → writable P l ≡ true → uncoded P l ≡ false → length (ascii_label P l) ≤ 63
unfolding uncoded ascii_label
label_size P l w u = go (is_japanese P l) refl u
  where
    go : (j : Bool) → is_japanese P l ≡ j → j && not (eqb (coder_number l 63) 0) ≡ false → length (pick j (ace l) l) ≤ 63
    go true p u = (number_zero l 63 (eqb-true (coder_number l 63) 0 (not-false (eqb (coder_number l 63) 0) u))).1
    go false p u = (ascii_fits P l p w).1

-- ---- what the call answers of such a label

coder_room : (l : List ℕ) (room : ℕ) → 63 ≤ room → coder_number l room ≡ coder_number l 63
unfolding coder_number
coder_room l room h = rw (le-ltb room 63 h)

not_not : (b : Bool) → b ≡ not (not b)
not_not true = refl
not_not false = refl

module _ (P : Permits) (stretch : InStretch P) {l before after : List ℕ} {r : Filled} (F : Forms l before after r) (room : 63 ≤ length before)
    (w : writable P l ≡ true) where
  high_here : any_of high l ≡ is_japanese P l
  high_here = high_is P stretch l (λ p. (ascii_fits P l p w).0)

  form_is : label_form l ≡ ascii_label P l
  unfolding label_form ascii_label
  form_is = rw high_here

  number_is : r.number ≡ (first (form_rows l (length before))).number
  number_is = ap (λ (x : Filled). x.number) F.gives.result

  rows_number : eqb (first (form_rows l (length before))).number 0 ≡ not (uncoded P l)
  unfolding uncoded form_rows
  rows_number = go (is_japanese P l) refl
    where
      go : (j : Bool) → is_japanese P l ≡ j → eqb (first (form_rows l (length before))).number 0 ≡ not (is_japanese P l && not (eqb (coder_number l 63) 0))
      go true p =
          ap (λ (a : Answer). eqb a.number 0) (rows_say l before (high_here ∙ p))
          ∙ rw (p, coder_room l (length before) room) (not_not (eqb (coder_number l 63) 0))
      go false p =
          let none : any_of high l ≡ false = high_here ∙ p in
          let size = (ascii_fits P l p w).1 in
          rw (p, clear (form_rows l (length before)) (le-ltb (length before) 63 room, (rw none, (le-ltb 63 (length (label_form l)) (omega (arith, ap length (low_form l before none))), tt))))

  -- it accepts where the coder takes the label
  pub took : eqb r.number 0 ≡ not (uncoded P l)
  took = rw number_is rows_number

  pub gave : r.number ≡ 0 → (r.length ≡ length (ascii_label P l)) × (after ≡ written (ascii_label P l) before)
  gave z =
      let g = gave_all label_formed _ _ before F.gives (sym number_is ∙ z) in
      (ap (λ (x : Filled). x.length) g.1 ∙ ap length form_is, g.0 ∙ ap (λ (xs : List ℕ). written xs before) form_is)

  pub kept : (r.number ≡ 0 → ⊥) → after ≡ before
  kept h = (gave_none label_formed _ _ before F.gives (λ z. h (number_is ∙ z))).0
