-- The whole ASCII form, piece by piece: each turn puts the ASCII form of one label and a period (ascii, proofs/Joining); where the coder
-- refuses a label, that is told.
-- Assumes nothing.
use mathlib.Core.Path.{◌≡◌, refl, sym, ap, ◌∙◌}
use mathlib.Core.Bool.{true, false, not}
use mathlib.Core.List.{List, [], ◌∷◌, ◌++◌, append_assoc, append-nil}
use Prim.Native.Nat.{ℕ, ◌+◌, ◌-◌, ◌*◌, ◌≤◌, ◌<◌}
use native.Mathlib.Omega.{arith}
use Rattle.std.proofs.Common.{Option, Some, None, Result, Ok, Err}
use Rattle.std.specs.Option.{is_some}
use Rattle.std.specs.Result.{result_ok}
use Rattle.std.proofs.lemmas.Option.{none-some}
use lib.ListN.{length, take, drop, set, length-drop, drop_of_length-le, take-append-drop}
use lib.Seq.{take_all, drop-drop}
use borrow.Author.Tests.{eq-eqb, ne_eqb, not-true, not-false}
use Rattle.lists.specs.Tests.{all_of, any_of, index_of}
use Rattle.lists.specs.Front.{written, Puts}
use Rattle.lists.proofs.Laws.{both, clash}
use Rattle.lists.proofs.Pieces.{puts_length}
use Rattle.rules.specs.Labels.{period, labels}
use Rattle.rules.specs.Permits.{Permits, InStretch}
use Rattle.rules.specs.Rules.{jp}
use Rattle.rules.proofs.Cuts.{ended, first_from, last_here, by_end}
use Rattle.ascii.specs.Labels.{Forms}
use Rattle.ascii.specs.Ascii.{ascii_label, ascii_form, uncoded, writable}
use Rattle.refusals.specs.Refusals.{Filled, filled}
use Rattle.refusals.specs.declared.Refused.{Refused}
use Rattle.refusals.proofs.Once.{number_not_0}
use Rattle.ascii.proofs.OfNames.{label_size, took, gave, kept}
use Rattle.ascii.proofs.Joining.{Going, goes, label, turn_last, turn_on}
use Rattle.names.specs.Steps.{Writable, PutsWhere, PutsOrKeeps, dot_jp}

-- ".jp", copied to the three places past n
pub put_jp : (out : List ℕ) (n : ℕ) → n + 3 ≤ length out → {last : List ℕ} → last ≡ dot_jp
    → Puts dot_jp out (take n out ++ (last ++ drop (n + 3 - n) (drop n out))) n (n + 3)
unfolding jp
put_jp out n h e = let three : n + 3 - n ≡ 3 = omega arith in record { place = refl; room = h; buffer = rw (e, three, drop-drop 3 n out) (sym (append_assoc (take n out) dot_jp (drop (n + 3) out))) }

-- ---- a label

none_refused : (r : Result ℕ Refused) → result_ok r ≡ None → (filled r).number ≡ 0 → ⊥
none_refused (Ok n) e = absurd (none-some _ (sym e))
none_refused (Err x) e = number_not_0 x.why

some_filled : (r : Result ℕ Refused) {n : ℕ} → result_ok r ≡ Some n → filled r ≡ record { number = 0; place = 0; length = n }
some_filled (Ok m) e = ap filled (ap Ok cc)
some_filled (Err x) e = absurd (none-some _ e)

-- the call for one label is lent the buffer from `at` on, and leaves `last` there
module _ (P : Permits) (stretch : InStretch P) (l out last : List ℕ) (at : ℕ) (w : writable P l ≡ true) (h : at + 63 ≤ length out) (r : Result ℕ Refused)
    (F : Forms l (take (length out - at) (drop at out)) last (filled r)) {o : Option ℕ} (q : o ≡ result_ok r) where
  part : take (length out - at) (drop at out) ≡ drop at out
  part = take_all (length out - at) (drop at out) (omega (arith, length-drop at out))

  room : 63 ≤ length (take (length out - at) (drop at out))
  room = omega (arith, ap length part, length-drop at out)

  -- what the whole buffer then holds; the part that was lent reaches to its end
  abbrev left_there : List ℕ
  left_there = take at out ++ (last ++ drop (length out - at) (drop at out))

  none_after : drop (length out - at) (drop at out) ≡ []
  none_after = drop_of_length-le (drop at out) {i = length out - at} (omega (arith, length-drop at out))

  pub label_no : o ≡ None → PutsOrKeeps (not (uncoded P l)) (ascii_label P l) out left_there at None
  label_no e =
      let n = none_refused r (sym q ∙ e) in
      record {
        puts = record { coded = sym (ne_eqb (filled r).number 0 n) ∙ took P stretch F room w; put = λ n p. cc };
        kept = λ p. rw (none_after, append-nil last, kept P stretch F room w n ∙ part) (take-append-drop at out);
      }

  module _ {n : ℕ} (e : o ≡ Some n) where
    number_is : (filled r).number ≡ 0
    number_is = ap (λ (k : Filled). k.number) (some_filled r (sym q ∙ e))

    coded : true ≡ not (uncoded P l)
    coded = sym (eq-eqb (filled r).number 0 number_is) ∙ took P stretch F room w

    length_is : n ≡ length (ascii_label P l)
    length_is = sym (ap (λ (k : Filled). k.length) (some_filled r (sym q ∙ e))) ∙ (gave P stretch F room w number_is).0

    pub label_fits : at + n ≤ length out
    label_fits = omega (arith, length_is, label_size P l w (not-true (uncoded P l) (sym coded)))

    pub label_yes : PutsOrKeeps (not (uncoded P l)) (ascii_label P l) out left_there at (Some (at + n))
    unfolding written
    label_yes =
        let a = ascii_label P l in
        let left : last ≡ a ++ drop (at + length a) out = (gave P stretch F room w number_is).1 ∙ rw (part, drop-drop (length a) at out) in
        record {
          puts = record {
            coded = coded;
            put =
                λ m p.
                let z : at + n ≡ m = cc in
                rw (← z) (record {
                  place = rw length_is;
                  room = label_fits;
                  buffer = rw (none_after, append-nil last, length_is, left) (sym (append_assoc (take at out) a (drop (at + length a) out)));
                });
          };
          kept = λ n. clash refl n;
        }

-- ---- a turn of the loop

-- what is put and what is left to put, whether a label that is left is refused, and the room for those
pub record Naming (P : Permits) (form out₀ out : List ℕ) (from at : ℕ) : Type 0 where
  pub going : Going P form out₀ out from at
  pub told : any_of (uncoded P) (labels (drop from form)) ≡ any_of (uncoded P) (labels form)
  pub fit : all_of (writable P) (labels (drop from form)) ≡ true
  pub room : at + 64 * length (labels (drop from form)) ≤ length out₀

pub names : (P : Permits) (form out : List ℕ) → Writable P form (length out) → Naming P form out out 0 0
names P form out w = record { going = goes P form out; told = refl; fit = w.fit; room = omega (arith, w.few) }

module _ (P : Permits) {form out₀ out : List ℕ} {from at : ℕ} (g : Naming P form out₀ out from at) (e : ℕ) (s : e ≡ from + index_of period (drop from form)) where
  -- the label that is put
  abbrev this : List ℕ
  this = label P g.going e s

  -- a law of a label and what follows holds in both cases
  ends : {A : Type 0} → ((rest : List (List ℕ)) → labels (drop from form) ≡ this ∷ rest → A) → A
  ends = by_end form from e g.going.within s

  pub turn_bounds : (from ≤ e) × (e ≤ length form)
  turn_bounds = ended form from e g.going.within s

  pub out_length : length out ≡ length out₀
  out_length = puts_length g.going.put

  pub this_writable : writable P this ≡ true
  unfolding all_of
  this_writable = ends (λ rest q. (both (writable P this) (all_of (writable P) rest) (ap (all_of (writable P)) (sym q) ∙ g.fit)).0)

  pub this_room : at + 63 ≤ length out
  this_room = ends (λ rest q. omega (arith, out_length, g.room, ap length q))

  module _ {out₁ : List ℕ} {r : Option ℕ} (t : PutsWhere (not (uncoded P this)) (ascii_label P this) out out₁ at r) where
    pub turn_refused : {after : List ℕ} → r ≡ None → PutsWhere (not (any_of (uncoded P) (labels form))) (ascii_form P form) out₀ after 0 None
    unfolding any_of
    turn_refused p =
        let u : uncoded P this ≡ true = not-false (uncoded P this) (sym t.coded ∙ ap is_some p) in
        let any : any_of (uncoded P) (labels form) ≡ true = sym g.told ∙ ends (λ rest q. rw (q, u)) in
        record { coded = rw any; put = λ n q. cc }

    module _ {n : ℕ} (p : r ≡ Some n) where
      taken : uncoded P this ≡ false
      taken = not-true (uncoded P this) (sym t.coded ∙ ap is_some p)

      pub names_last : length form ≤ e → PutsWhere (not (any_of (uncoded P) (labels form))) (ascii_form P form) out₀ out₁ 0 (Some n)
      unfolding any_of
      names_last k =
          let none_left : any_of (uncoded P) (labels form) ≡ false = sym g.told ∙ rw (last_here form from e g.going.within s k, taken) in
          record { coded = rw none_left; put = λ m q. turn_last P g.going e s (t.put m (p ∙ q)) k }

      at_most : n ≤ at + 63
      at_most = omega (arith, (t.put n p).place, label_size P this this_writable taken)

      pub period_room : length out₁ ≡ length out → n < length out₁
      period_room l = ends (λ rest q. omega (arith, at_most, g.room, ap length q, out_length))

      pub names_on : n < length out₁ → e < length form → Naming P form out₀ (set out₁ n 0x2E) (e + 1) (n + 1)
      unfolding any_of all_of
      names_on l k =
          let q = first_from form from e g.going.within s k in
          record {
            going = turn_on P g.going e s (t.put n p) l k;
            told = sym (ap (any_of (uncoded P)) q ∙ rw taken) ∙ g.told;
            fit = (both (writable P this) (all_of (writable P) (labels (drop (e + 1) form))) (ap (all_of (writable P)) (sym q) ∙ g.fit)).1;
            room = omega (arith, at_most, g.room, ap length q);
          }
