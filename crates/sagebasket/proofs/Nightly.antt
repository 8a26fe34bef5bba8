-- What any calls that meet the contracts of `fresh`, `step` and the looks show, one after the other, is what the nightly rules say of all
-- that was typed: the 258 numbers hold what steps make of the fresh state (live, proofs/Typing), and every call asks no more than that.
-- Assumes nothing.
use mathlib.Core.Path.{◌≡◌, refl, sym, ap, subst, ◌∙◌}
use mathlib.Core.Bool.{Bool, true, false}
use mathlib.Core.List.{List, [], ◌∷◌, ◌++◌}
use mathlib.Core.Logic.{◌↔◌, ⊎_elim}
use Prim.Native.Nat.{ℕ, zero, suc, ◌≤◌}
use native.Mathlib.Omega.{arith}
use lib.ListN.{length, get_or, replicate, length-replicate}
use borrow.Author.Tests.{lt-ltb, le-ltb}
use Rattle.rules.specs.Editions.{is_edition, edition_of, today}
use Rattle.rules.specs.Hopeful.{MayBecome, hopeful}
use Rattle.rules.specs.Kinds.{no_kinds}
use Rattle.rules.specs.Verdicts.{Class}
use Rattle.rules.specs.declared.LabelPlaces.{LabelPlaces}
use Rattle.names.specs.Calls.{judged, Checks, AsciiForms}
use Rattle.hosts.specs.Hosts.{host_judged, HostForms}
use Rattle.live.specs.Live.{fresh, stepped, typed, looked_by, looked, hoped}
use Rattle.live.specs.HostLooks.{host_looked}
use Rattle.live.specs.declared.Live.{Live}
use Rattle.live.proofs.Typing.{fresh_holds, typed_holds, edition_kept, live_is}
use Rattle.live.proofs.Nightly.{live_is_nightly, look_and_places}
use Rattle.live.proofs.Nightly.{look_and_check as live-and-check}
use Rattle.live.proofs.Hosts.{live_is_hosts}
use Rattle.live.proofs.Hope.{hope_edition}
use Rattle.sagebasket.specs.Outside.{flag, numbers, held, held_text, of_judged, of_host_judged, of_checked, of_ascii_form, of_host_form, Tells, Shows}
use Rattle.sagebasket.proofs.Alike.{Alike, ascii_alike, host_alike}
use Rattle.sagebasket.proofs.Hopeless.{past_hopeless}

-- the states that calls which meet the contracts of `fresh` and `step` leave, as an edition is given and code points are typed; the other
-- calls leave the state as it is
pub data Typed (edition : ℕ) : List ℕ → List ℕ → Type 0 where
  begun : {s : List ℕ} → held s ≡ fresh edition → Typed edition [] s
  more : {cs s s' : List ℕ} (c : ℕ) → Typed edition cs s → held s' ≡ stepped (held s) c → Typed edition (cs ++ c ∷ []) s'

one_more : (l : Live) (cs : List ℕ) (c : ℕ) → typed l (cs ++ c ∷ []) ≡ stepped (typed l cs) c
unfolding typed
one_more l [] c = refl
one_more l (b ∷ cs) c = one_more (stepped l b) cs c

pub holds : {e : ℕ} {cs s : List ℕ} → Typed e cs s → held s ≡ typed (fresh e) cs
unfolding typed
holds (begun q) = q
holds {e} (more {cs} c t q) = q ∙ ap (λ (l : Live). stepped l c) (holds t) ∙ sym (one_more (fresh e) cs c)

-- ---- what is said of the text held is said of all that was typed

typed_said : (Says : List ℕ → Type 0) → Alike Says → (e : ℕ) (cs : List ℕ) → Says (held_text (typed (fresh e) cs)) → Says cs
unfolding held_text looked_by
typed_said Says alike e cs x =
    ⊎_elim (λ h. rw (le-ltb 256 (typed (fresh e) cs).count (omega (arith, h.count, h.few)), h.held) at x)
    (λ h. alike (replicate 257 0) cs (omega (arith, length-replicate {A = ℕ} 257 0)) h.many (rw (lt-ltb 256 (typed (fresh e) cs).count (omega (arith, h.count))) at x))
    (typed_holds cs (fresh e) [] (fresh_holds e))

-- two answers on a name that differ in length alone have every other number in common
but_length : (number place : ℕ) (class : Class) (l l' : ℕ) (labels : LabelPlaces) (i : ℕ) → (i ≡ 4 → ⊥)
    → get_or (numbers number place class no_kinds l labels) i 0 ≡ get_or (numbers number place class no_kinds l' labels) i 0
unfolding numbers
but_length number place class l l' labels zero h = refl
but_length number place class l l' labels (suc zero) h = refl
but_length number place class l l' labels (suc (suc zero)) h = refl
but_length number place class l l' labels (suc (suc (suc zero))) h = refl
but_length number place class l l' labels (suc (suc (suc (suc zero)))) h = absurd (h refl)
but_length number place class l l' labels (suc (suc (suc (suc (suc i))))) h = refl

module _ {e : ℕ} {cs s : List ℕ} (t : Typed e cs s) where
  module _ {form answer : List ℕ} {n : ℕ} where
    -- a look shows what the nightly rules of the edition say
    pub look_is_nightly : Shows (of_judged (looked edition_of (held s))) (looked edition_of (held s)).form form answer n
        → Shows (of_judged (judged (edition_of e) cs)) (judged (edition_of e) cs).form form answer n
    look_is_nightly h = rw (holds t, live_is_nightly edition_of e cs) at h

    -- and at a host what those of a host say
    pub host_is_nightly : Shows (of_host_judged (host_looked today (held s))) (host_looked today (held s)).form form answer n
        → Shows (of_host_judged (host_judged today cs)) (host_judged today cs).form form answer n
    host_is_nightly h = rw (holds t, live_is_hosts today e cs) at h

  -- the ASCII form is that of all that was typed
  module _ {before after answer : List ℕ} {n : ℕ} where
    pub ascii_is_nightly : Tells of_ascii_form (AsciiForms (edition_of (held s).edition) (held_text (held s)) before after) answer n
        → Tells of_ascii_form (AsciiForms (edition_of e) cs before after) answer n
    ascii_is_nightly h = typed_said _ (ascii_alike (edition_of e) before after answer n) e cs
        (subst (λ (k : ℕ). Tells of_ascii_form (AsciiForms (edition_of k) (held_text (typed (fresh e) cs)) before after) answer n) (edition_kept e cs)
        (subst (λ (l : Live). Tells of_ascii_form (AsciiForms (edition_of l.edition) (held_text l) before after) answer n) (holds t) h))

    pub host_ascii_is_nightly : Tells of_host_form (HostForms today (held_text (held s)) before after) answer n
        → Tells of_host_form (HostForms today cs before after) answer n
    host_ascii_is_nightly h = typed_said _ (host_alike today before after answer n) e cs (rw (holds t) at h)

  -- and so is the hope: it may become a name exactly where some continuation of it is accepted
  module _ {n : ℕ} (h : n ≡ flag (hoped edition_of (held s))) where
    pub hope_is_nightly : n ≡ flag (hopeful (edition_of e) cs)
    unfolding hoped
    hope_is_nightly =
        h ∙ ap (λ (l : Live). flag (hoped edition_of l)) (holds t)
        ∙ ap flag (ap (λ (k : ℕ). looked_by (hopeful (edition_of k)) false (typed (fresh e) cs)) (edition_kept e cs) ∙ live_is (hopeful (edition_of e)) false (past_hopeless e) e cs)

    pub hope_exactly : is_edition e ≡ true → (n ≡ 1) ↔ MayBecome (edition_of e) cs
    unfolding flag
    hope_exactly there_is =
        let x = hope_edition e there_is cs in
        let q = h ∙ ap (λ (l : Live). flag (hoped edition_of l)) (holds t) in
        (λ z. x.0 (yes _ (sym q ∙ z)), λ m. q ∙ ap flag (x.1 m))
      where
        yes : (b : Bool) → flag b ≡ 1 → b ≡ true
        yes true z = refl
        yes false z = absurd (omega arith)

  -- the look and the check of all that was typed tell the same numbers, but for the length: a look shows the normal form of a refused text too
  pub look_and_check : {form answer : List ℕ} {n : ℕ} → Shows (of_judged (looked edition_of (held s))) (looked edition_of (held s)).form form answer n
      → {before after answer' : List ℕ} {n' : ℕ} → Tells of_checked (Checks (edition_of e) cs before after) answer' n' → 256 ≤ length before
      → (n ≡ n') × ((i : ℕ) → (i ≡ 4 → ⊥) → get_or answer i 0 ≡ get_or answer' i 0)
  unfolding of_judged of_checked
  look_and_check {answer = answer} look {answer' = answer'} check room =
      let q = ap (λ (l : Live). looked edition_of l) (holds t) in
      let j = looked edition_of (held s) in
      let r = check.result in
      let agree = live-and-check edition_of e cs {j = j} q check.meets room in
      let places = look_and_places edition_of e cs {j = j} q check.meets room in
      let all : (i : ℕ) → (i ≡ 4 → ⊥) → get_or answer i 0 ≡ get_or answer' i 0 = λ i k.
      ap (λ (xs : List ℕ). get_or xs i 0) look.told
      ∙ but_length j.number j.place j.class j.length r.length j.labels i k
      ∙ ap (λ (xs : List ℕ). get_or xs i 0) ((λ x. numbers (agree.number x) (agree.place x) (agree.class x) no_kinds r.length (places x)) ∙ sym check.told) in
      (look.number ∙ all 0 (λ z. omega arith) ∙ sym check.number, all)
