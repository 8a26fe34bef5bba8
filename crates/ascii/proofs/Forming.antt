-- The call for one label goes three ways: the coder answers for a label that is to be encoded, and of any other the room and the length
-- decide; so what it answers and writes is what the rows say.
-- Assumes nothing.
use mathlib.Core.Path.{◌≡◌, refl, sym, ap, ◌∙◌}
use mathlib.Core.Bool.{Bool, true, false, not}
use mathlib.Core.List.{List, [], ◌∷◌, ◌++◌}
use Prim.Native.Nat.{ℕ, zero, suc, ◌≤◌, ◌<◌}
use native.Mathlib.Omega.{arith}
use lib.Dec.{leb, ltb}
use lib.ListN.{length, take, drop, get_or}
use lib.Seq.{take_all}
use borrow.Author.Tests.{lt-ltb, le-ltb, leb-true, leb-false}
use Rattle.lists.specs.Tests.{pick, any_of}
use Rattle.lists.specs.Front.{written}
use Rattle.lists.specs.Rows.{first, given}
use Rattle.lists.specs.Rows.{Answer}
use Rattle.lists.proofs.Laws.{neither}
use Rattle.lists.proofs.Tables.{clear, hit, passed_over, gives_no, gives_yes}
use Rattle.punycode.specs.Punycode.{ace, encodable}
use Rattle.punycode.specs.Calls.{coder_number, coder_writes, Encodes}
use Rattle.refusals.specs.Refusals.{Filled}
use Rattle.ascii.specs.Labels.{high, label_form, form_rows, label_formed, Forms}

-- ---- a label of code points below 80

pub low_at : (l : List ℕ) (i : ℕ) → any_of high l ≡ false → i < length l → get_or l i 0 < 0x80
unfolding any_of high
low_at [] i e h = absurd (omega arith)
low_at (x ∷ xs) zero e h = leb-false 0x80 x (neither (leb 0x80 x) (any_of high xs) e).0
low_at (x ∷ xs) (suc i) e h = low_at xs i (neither (leb 0x80 x) (any_of high xs) e).1 (omega arith)

pub all_put : (out₀ out l : List ℕ) (i : ℕ) → i ≤ length l → length l ≤ i → out ≡ take i l ++ drop i out₀ → out ≡ written l out₀
unfolding written
all_put out₀ out l i h g e = let n : i ≡ length l = omega arith in e ∙ rw (n, take_all (length l) l (omega arith))

-- ---- what is answered

module _ (l before : List ℕ) where
  -- the coder's answer is that of the rows
  module _ (w : any_of high l ≡ true) where
    form_is : label_form l ≡ ace l
    unfolding label_form
    form_is = rw w

    pub rows_say : first (form_rows l (length before)) ≡ record { number = coder_number l (length before); place = 0 }
    unfolding form_rows coder_number label_form first
    rows_say = rw w (go (ltb (length before) 63) (encodable l) (leb (length (ace l)) 63) refl)
      where
        go : (s b t : Bool) → leb (length (ace l)) 63 ≡ t
            → ◌≡◌ {A = Answer} (pick s (record { number = 1; place = 0 }) (pick (not b) (record { number = 13; place = 0 })
            (pick (ltb 63 (length (ace l))) (record { number = 14; place = 0 }) (record { number = 0; place = 0 }))))
            (record { number = pick s 1 (pick b (pick t 0 14) 13); place = 0 })
        go true b t e = refl
        go false false t e = refl
        go false true true e = rw (le-ltb 63 (length (ace l)) (leb-true (length (ace l)) 63 e))
        go false true false e = rw (lt-ltb 63 (length (ace l)) (leb-false (length (ace l)) 63 e))

    writes_are : given (first (form_rows l (length before))) (label_form l) ≡ coder_writes l (length before)
    unfolding given coder_writes
    writes_are = rw (rows_say, form_is)

    pub by_coder : {after : List ℕ} {k : Filled} → Encodes l before after k
        → Forms l before after (record { number = k.number; place = k.place; length = k.length })
    by_coder E =
        record { gives = record { result = rw (writes_are, rows_say, E.answer); buffer = E.buffer ∙ ap (λ (xs : List ℕ). written xs before) (sym writes_are) } }

  module _ (w : any_of high l ≡ false) where
    pub low_form : label_form l ≡ l
    unfolding label_form
    low_form = rw w

    pub no_room : {r : Filled} → length before < 63 → r ≡ record { number = 1; place = 0; length = 0 } → Forms l before before r
    unfolding form_rows
    no_room h q = record { gives = gives_no label_formed _ _ before (hit 1 _ 0 _ (lt-ltb (length before) 63 h)) (λ z. omega arith) q }

    module _ (h : 63 ≤ length before) where
      pub too_long : {r : Filled} → 63 < length l → r ≡ record { number = 14; place = 0; length = 0 } → Forms l before before r
      unfolding form_rows
      too_long g q =
          record {
            gives = gives_no label_formed _ _ before
                (passed_over 1 _ 0 _ (le-ltb (length before) 63 h) ∙ passed_over 13 _ 0 _ (rw w)
                ∙ hit 14 _ 0 _ (lt-ltb 63 (length (label_form l)) (omega (arith, ap length low_form)))) (λ z. omega arith) q;
          }

      pub as_it_is : {after : List ℕ} → length l ≤ 63 → after ≡ written l before → Forms l before after (record { number = 0; place = 0; length = length l })
      unfolding form_rows
      as_it_is g e =
          let none = clear (form_rows l (length before)) (le-ltb (length before) 63 h, (rw w, (le-ltb 63 (length (label_form l)) (omega (arith, ap length low_form)), tt))) in
          record { gives = gives_yes label_formed _ _ before none (sym (ap length low_form)) (e ∙ ap (λ (xs : List ℕ). written xs before) (sym low_form)) }
