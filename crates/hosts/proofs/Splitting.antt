-- A form that is split at its periods gives its labels.
-- Assumes nothing.
use mathlib.Core.Path.{◌≡◌, refl, sym, ap, ◌∙◌}
use mathlib.Core.Bool.{Bool, true, false, cond}
use mathlib.Core.List.{List, [], ◌∷◌}
use Prim.Native.Nat.{ℕ, suc, ◌+◌, ◌≤◌, ◌<◌}
use native.Mathlib.Omega.{arith}
use lib.Dec.{ltb}
use lib.ListN.{length, drop, get_or, drop_of_length-le}
use lib.Seq.{drop-cons}
use borrow.Author.Tests.{ltb-true, ltb-false}
use denote.Param.Members.{Mut}
use denote.Ref.{Bor}
use Rattle.std.proofs.Common.{Option, Some, None}
use Rattle.std.specs.declared.iter.Enumerate.{Enumerate}
use Rattle.std.specs.declared.slice.Split.{Split}
use Rattle.std.specs.Fn.{CalledAt}
use Rattle.std.specs.Iterator.Adapters.{enumerate_source, enumerate_count, enumerate_steps}
use Rattle.std.specs.Slice.Iter as slice
use Rattle.std.proofs.lemmas.Iterator.{YieldsList}
use Rattle.std.proofs.lemmas.Iterator.Splits.{YieldsList-from_slice_split}
use Rattle.std.proofs.lemmas.Iterator.Consumers.{YieldsList-at, YieldsList-from_enumerate}
use Rattle.std.specs.List.{slice_split, onto_first, position_or_len, enumerate_from}
use Rattle.std.proofs.lemmas.List.Splits.{length-slice_split}
use Rattle.std.proofs.lemmas.List.Sums.{count_by-le-length}
use Rattle.std.proofs.lemmas.List.FromFn.{length-enumerate_from, get_or-enumerate_from}
use Rattle.lists.specs.Tests.{pick, any_of, index_of}
use Rattle.lists.proofs.Laws.{by_test}
use Rattle.lists.proofs.Scan.{found, not_found}
use Rattle.lists.proofs.Chains.{position_is}
use Rattle.rules.specs.Labels.{period, into_first, labels}
use Rattle.hosts.specs.Steps.{first_label}

into_is : (x : ℕ) (ls : List (List ℕ)) → onto_first x ls ≡ into_first x ls
unfolding into_first
into_is x [] = refl
into_is x (l ∷ ls) = refl

cond_is : {A : Type 0} (b : Bool) (x y : A) → cond b x y ≡ pick b x y
cond_is true x y = refl
cond_is false x y = refl

pub split_is : (xs : List ℕ) → slice_split period xs ≡ labels xs
unfolding labels
split_is [] = refl
split_is (x ∷ xs) = rw (split_is xs, into_is x (labels xs)) (cond_is (period x) ([] ∷ labels xs) (into_first x (labels xs)))

-- ---- a search

pub first_is : (f : List ℕ → Bool) (form : List ℕ) {r : Option ℕ}
    → r ≡ cond (ltb (position_or_len f (slice_split period form)) (length (slice_split period form))) (Some (position_or_len f (slice_split period form))) None
    → r ≡ first_label f (labels form)
unfolding first_label
first_is f form e =
    let n = index_of f (labels form) in
    e ∙ rw (split_is form, position_is f (labels form)) (cond_is (ltb n (length (labels form))) (Some n) None)

module _ (f : List ℕ → Bool) (ls : List (List ℕ)) where
  pub found_first : {i : ℕ} → Some i ≡ first_label f ls → (any_of f ls ≡ true) × (i ≡ index_of f ls)
  unfolding first_label
  found_first {i} =
      by_test (λ b. Some i ≡ pick b (Some (index_of f ls)) None → (any_of f ls ≡ true) × (i ≡ index_of f ls)) (ltb (index_of f ls) (length ls))
      (λ p q. (found f ls (ltb-true (index_of f ls) (length ls) p), cc)) (λ p q. cc)

  pub found_none : None ≡ first_label f ls → any_of f ls ≡ false
  unfolding first_label
  found_none =
      by_test (λ b. None ≡ pick b (Some (index_of f ls)) None → any_of f ls ≡ false) (ltb (index_of f ls) (length ls))
      (λ p q. cc) (λ p q. not_found f ls (ltb-false (index_of f ls) (length ls) p))

-- ---- a walk in order

-- the k-th label, with its index, and those from it on
pub record At (form : List ℕ) (k i : ℕ) (label : List ℕ) : Type 0 where
  pub index : i ≡ k
  pub inside : k < length (labels form)
  pub here : drop k (labels form) ≡ label ∷ drop (suc k) (labels form)

abbrev pub numbered : List ℕ → List (ℕ × List ℕ)
numbered form = enumerate_from 0 (slice_split period form)

-- what is split and counted gives them in their order
pub in_order : {F : Type 0} {g : Mut F (Bor ℕ × Unit {0}) Bool} {f : F} {s : Split ℕ F} {e i : Enumerate (Split ℕ F)} (form : List ℕ) → i ≡ e → enumerate_source e ≡ s → enumerate_count e ≡ 0
    → slice.split_rest s ≡ form → slice.split_done s ≡ false → slice.split_callee s ≡ f → ((x : ℕ) (b : Bool) (q : F) → CalledAt g f x b q → (q ≡ f) × (b ≡ period x))
    → YieldsList {B = ℕ × List ℕ} (enumerate_steps (slice.split_steps g)) (λ p. (p.0, p.1.now)) i (numbered form)
in_order {g = g} form i e z r d k h = YieldsList-at i (YieldsList-from_enumerate (YieldsList-at e (YieldsList-from_slice_split g period form r d k h)) z)

pub at_turn : (form : List ℕ) (k i : ℕ) (label : List ℕ) → (k < length (numbered form)) × ◌≡◌ {A = ℕ × List ℕ} (i, label) (get_or (numbered form) k (i, label)) → At form k i label
at_turn form k i label h =
    let n = length-enumerate_from 0 (slice_split period form) in
    let e : ◌≡◌ {A = ℕ × List ℕ} (i, label) (0 + k, get_or (slice_split period form) k label) = h.1 ∙ get_or-enumerate_from 0 (slice_split period form) k (i, label) (omega (arith, h.0, n)) in
    let g : k < length (labels form) = rw (← split_is form) (omega (arith, h.0, n)) in
    let l : get_or (labels form) k label ≡ label = rw (← split_is form) (sym (ap (λ (p : ℕ × List ℕ). p.1) e)) in
    record {
      index = ap (λ (p : ℕ × List ℕ). p.0) e ∙ omega arith;
      inside = g;
      here = drop-cons (labels form) k label g ∙ rw l;
    }

pub at_last : (form : List ℕ) (k : ℕ) → k ≡ length (numbered form) → drop k (labels form) ≡ []
at_last form k e = drop_of_length-le (labels form) (omega (arith, length-enumerate_from 0 (slice_split period form), ap (λ (ls : List (List ℕ)). length ls) (split_is form)))

-- no more labels than characters, but one
pub few : (form : List ℕ) → length (labels form) ≤ length form + 1
few form = rw (← split_is form) (omega (arith, length-slice_split period form, count_by-le-length period form))
