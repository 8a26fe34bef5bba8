-- What the live check shows after any code points is what the nightly rules of its edition say of them: the argument over any rules
-- (Typing), at the rules of a name by the edition that the state was given and keeps. So it shows what the nightly calls answer to that text, since with room these say what the rules say.
-- Assumes nothing.
use mathlib.Core.Path.{◌≡◌, refl, sym, ap, ◌∙◌}
use mathlib.Core.Bool.{Bool, true, false}
use mathlib.Core.List.{List}
use Prim.Native.Nat.{ℕ, ◌≤◌, ◌<◌}
use native.Mathlib.Omega.{arith}
use lib.Dec.{ltb}
use lib.ListN.{length, take, replicate}
use borrow.Author.Tests.{lt-ltb, le-ltb}
use Rattle.lists.specs.Tests.{pick}
use Rattle.lists.proofs.Laws.{by_test}
use Rattle.normal.specs.Normal.{normal_form}
use Rattle.rules.specs.Labels.{labels}
use Rattle.rules.specs.Editions.{is_edition, edition_of}
use Rattle.rules.specs.Permits.{Permits, InStretch, ShortMiddles}
use Rattle.rules.specs.Places.{places_said, CutsBack}
use Rattle.rules.specs.Rules.{rules}
use Rattle.rules.specs.Verdicts.{Verdict}
use Rattle.rules.proofs.Steps.{front_3, text_25, text_front}
use Rattle.rules.proofs.InForce.{unknown_25}
use Rattle.rules.proofs.Minus.{with_hyphens}
use Rattle.fronts.specs.Fronts.{shown, padded}
use Rattle.names.specs.Calls.{judged, check_said, Checks, ascii_said, AsciiForms}
use Rattle.names.specs.Calls.{AsciiForm}
use Rattle.names.specs.Calls.{Checked}
use Rattle.names.specs.Calls.{Judged}
use Rattle.names.proofs.Demands.{check_says, ascii_says}
use Rattle.names.proofs.Minus.{minus_judged}
use Rattle.names.proofs.Placing.{check_places, judge_cuts}
use Rattle.live.specs.Live.{fresh, given, typed, looked_by, no_text, too_long, looked, Refused, Agrees}
use Rattle.live.specs.declared.Live.{Live}
use Rattle.live.proofs.Typing.{edition_kept, live_is}

module _ (P : Permits) where
  -- past 256 the rules say 3 at place 256, or 25 where there is no such edition, and there is no label and no text
  pub past : (t : List ℕ) → 256 < length t → judged P t ≡ too_long P.known
  unfolding judged places_said shown padded too_long no_text
  past t h = by_test (λ b. P.known ≡ b → judged P t ≡ pick b (no_text 3 256) (no_text 25 0)) P.known
      (λ p q. rw (text_front P t (front_3 P t (λ e. omega arith) h) q (λ e. omega arith), lt-ltb 256 (length t) h))
      (λ p q. rw (text_25 P t q, lt-ltb 256 (length t) h)) refl

-- for any editions: the state was given one of them, by its number
module _ (E : ℕ → Permits) (e : ℕ) where
  pub live_is_nightly : (cs : List ℕ) → looked E (typed (fresh e) cs) ≡ judged (E e) cs
  unfolding looked
  live_is_nightly cs =
      ap (λ (k : ℕ). looked_by (judged (E k)) (too_long (E k).known) (typed (fresh e) cs)) (edition_kept e cs)
      ∙ live_is (judged (E e)) (too_long (E e).known) (past (E e)) e cs

  -- part by part: number, place and class are the rules', the label places too, and up to 256 code points the text is their normal form
  module _ (cs : List ℕ) where
    pub same_number : (looked E (typed (fresh e) cs)).number ≡ (rules (E e) cs).number
    unfolding judged
    same_number = ap (λ (j : Judged). j.number) (live_is_nightly cs)

    pub same_place : (looked E (typed (fresh e) cs)).place ≡ (rules (E e) cs).place
    unfolding judged
    same_place = ap (λ (j : Judged). j.place) (live_is_nightly cs)

    pub same_class : (looked E (typed (fresh e) cs)).class ≡ (rules (E e) cs).class
    unfolding judged
    same_class = ap (λ (j : Judged). j.class) (live_is_nightly cs)

    pub same_places : (looked E (typed (fresh e) cs)).labels ≡ places_said (labels (normal_form cs)) (rules (E e) cs).number
    unfolding judged
    same_places = ap (λ (j : Judged). j.labels) (live_is_nightly cs)

    pub same_form : length cs ≤ 256 → (looked E (typed (fresh e) cs)).form ≡ padded (normal_form cs)
    unfolding judged shown
    same_form h = ap (λ (j : Judged). j.form) (live_is_nightly cs) ∙ rw (le-ltb 256 (length cs) h)

    -- past 256 it shows `too_long`, which has no label, however many follow
    pub shown_past : 256 < length cs → looked E (typed (fresh e) cs) ≡ too_long (E e).known
    shown_past h = live_is_nightly cs ∙ past (E e) cs h

-- ---- any state, made by steps or not

-- by a number that is no edition it shows 25 at place 0, no class and no label, in place of 2 and 3 too
module _ (l : Live) (unknown : is_edition l.edition ≡ false) where
  says_25 : (t : List ℕ) → Refused 25 0 (judged (edition_of l.edition) t)
  unfolding judged places_said
  says_25 t = let e = unknown_25 l.edition unknown t in record { number = rw e; place = rw e; class = rw e; labels = rw e }

  past_25 : Refused 25 0 (too_long (is_edition l.edition))
  unfolding too_long no_text
  past_25 = rw unknown (record { number = refl; place = refl; class = refl; labels = refl })

  pub shows_25 : Refused 25 0 (looked edition_of l)
  unfolding looked looked_by edition_of
  shows_25 = by_test (λ b. Refused 25 0 (pick b (too_long (is_edition l.edition)) (judged (edition_of l.edition) (take l.count l.text)))) (ltb 256 l.count)
      (λ q. past_25) (λ q. says_25 _)

-- the text that is shown does not depend on the edition
past_text : (j k : Bool) → ((too_long j).form ≡ (too_long k).form) × ((too_long j).length ≡ (too_long k).length)
unfolding too_long no_text
past_text j k = ((text j).0 ∙ sym (text k).0, (text j).1 ∙ sym (text k).1)
  where
    text : (b : Bool) → ((pick b (no_text 3 256) (no_text 25 0)).form ≡ replicate 256 0) × ((pick b (no_text 3 256) (no_text 25 0)).length ≡ 0)
    text true = (refl, refl)
    text false = (refl, refl)

pub same_text : (E : ℕ → Permits) (l : Live) (e : ℕ)
    → ((looked E l).form ≡ (looked E (given e l)).form) × ((looked E l).length ≡ (looked E (given e l)).length)
unfolding looked looked_by judged
same_text E l e = go (ltb 256 l.count)
  where
    shows : (b : Bool) (k : ℕ) → Judged
    shows b k = pick b (too_long (E k).known) (judged (E k) (take l.count l.text))

    go : (b : Bool) → ((shows b l.edition).form ≡ (shows b e).form) × ((shows b l.edition).length ≡ (shows b e).length)
    go true = past_text _ _
    go false = (refl, refl)

-- ---- the look and the nightly calls

module _ (E : ℕ → Permits) (e : ℕ) (cs : List ℕ) {j : Judged} (look : j ≡ looked E (typed (fresh e) cs)) where
  abbrev P : Permits
  P = E e

  agrees : {v : Verdict} → v ≡ rules P cs → Agrees j v
  agrees q = record {
    number = ap (λ (x : Judged). x.number) look ∙ same_number E e cs ∙ sym (ap (λ (v : Verdict). v.number) q);
    place = ap (λ (x : Judged). x.place) look ∙ same_place E e cs ∙ sym (ap (λ (v : Verdict). v.place) q);
    class = ap (λ (x : Judged). x.class) look ∙ same_class E e cs ∙ sym (ap (λ (v : Verdict). v.class) q);
  }

  -- the look after any code points and the check of that text by that edition say the same number, place and class
  pub look_and_check : {before after : List ℕ} {r : Checked} → Checks P cs before after r → 256 ≤ length before → Agrees j (check_said r)
  look_and_check c room = agrees (check_says P c room)

  -- and the call for its ASCII form
  pub look_and_ascii : InStretch P → ShortMiddles P → {before after : List ℕ} {r : AsciiForm} → AsciiForms P cs before after r → 192 ≤ length before
      → Agrees j (ascii_said r)
  look_and_ascii stretch short a room = agrees (ascii_says P stretch short a room)

  -- where the labels stand is what the check of that text says
  pub look_and_places : {before after : List ℕ} {r : Checked} → Checks P cs before after r → 256 ≤ length before → j.labels ≡ r.labels
  look_and_places {r = r} c room =
      let n : r.number ≡ (rules P cs).number = ap (λ (v : Verdict). v.number) (check_says P c room) in
      ap (λ (x : Judged). x.labels) look ∙ same_places E e cs ∙ ap (places_said (labels (normal_form cs))) (sym n) ∙ sym (check_places P c)

  -- and cuts the labels out of the text that is shown
  pub look_cuts : j.number ≡ 0 → CutsBack (normal_form cs) j.form j.length j.labels
  look_cuts z =
      let q = look ∙ live_is_nightly E e cs in
      rw q (judge_cuts P cs (ap (λ (x : Judged). x.number) (sym q) ∙ z))

-- ---- a text that is typed with minus signs is shown as the same with hyphens (document 02, K2)

pub minus_shown : (E : ℕ → Permits) (e : ℕ) (cs : List ℕ) → looked E (typed (fresh e) (with_hyphens cs)) ≡ looked E (typed (fresh e) cs)
minus_shown E e cs = live_is_nightly E e (with_hyphens cs) ∙ minus_judged (E e) cs ∙ sym (live_is_nightly E e cs)
