-- What the live check shows of any code points as a host is what the nightly rules of a host say of them: the argument over any rules
-- (Typing), at the rules of a host. So it shows what the nightly call answers to that text, since with room that says what the rules say.
-- Assumes nothing.
use mathlib.Core.Path.{◌≡◌, sym, ap, ◌∙◌}
use mathlib.Core.List.{List}
use Prim.Native.Nat.{ℕ, ◌≤◌, ◌<◌}
use native.Mathlib.Omega.{arith}
use lib.ListN.{length}
use Rattle.lists.proofs.Tables.{stands}
use Rattle.normal.specs.Normal.{normal_form}
use Rattle.rules.specs.Permits.{Permits}
use Rattle.rules.specs.Hosts.{host_text_rows}
use Rattle.rules.proofs.Steps.{front_3, host_front}
use Rattle.rules.proofs.Minus.{with_hyphens}
use Rattle.fronts.specs.Fronts.{padded}
use Rattle.fronts.proofs.Shown.{shown_over, shown_full}
use Rattle.hosts.specs.Hosts.{rows, host_rules, host_judged, HostForms}
use Rattle.refusals.specs.Refusals.{Filled}
use Rattle.hosts.specs.Hosts.{HostJudged}
use Rattle.hosts.proofs.Demands.{host_says, minus_host_judged}
use Rattle.live.specs.Live.{fresh, typed}
use Rattle.live.specs.HostLooks.{host_too_long, host_looked, HostAgrees}
use Rattle.live.proofs.Typing.{live_is}

module _ (P : Permits) where
  -- past 256 the rules say 3 at place 256, and there is no text
  pub past : (t : List ℕ) → 256 < length t → host_judged P t ≡ host_too_long
  unfolding host_judged host_rules rows padded host_too_long
  past t h =
      let front = host_front P t (front_3 P t (λ e. omega arith) h) (λ e. omega arith) in
      rw (stands (host_text_rows P t) _ front (λ e. omega arith), shown_over t h)

  -- whichever edition the state was given
  pub live_is_hosts : (e : ℕ) (cs : List ℕ) → host_looked P (typed (fresh e) cs) ≡ host_judged P cs
  unfolding host_looked
  live_is_hosts e cs = live_is (host_judged P) host_too_long past e cs

  -- part by part: number and place are the rules', and up to 256 code points the text is their normal form
  module _ (e : ℕ) (cs : List ℕ) where
    pub same_number : (host_looked P (typed (fresh e) cs)).number ≡ (host_rules P cs).number
    unfolding host_judged
    same_number = ap (λ (j : HostJudged). j.number) (live_is_hosts e cs)

    pub same_place : (host_looked P (typed (fresh e) cs)).place ≡ (host_rules P cs).place
    unfolding host_judged
    same_place = ap (λ (j : HostJudged). j.place) (live_is_hosts e cs)

    pub same_form : length cs ≤ 256 → (host_looked P (typed (fresh e) cs)).form ≡ padded (normal_form cs)
    unfolding host_judged
    same_form h = ap (λ (j : HostJudged). j.form) (live_is_hosts e cs) ∙ ap padded (shown_full cs h)

    -- past 256 it shows `host_too_long`, however many follow
    pub shown_past : 256 < length cs → host_looked P (typed (fresh e) cs) ≡ host_too_long
    shown_past h = live_is_hosts e cs ∙ past cs h

-- the look after any code points and the call for the ASCII form of that text say the same
pub look_and_host : (P : Permits) (e : ℕ) (cs : List ℕ) {j : HostJudged} → j ≡ host_looked P (typed (fresh e) cs)
    → {before after : List ℕ} {r : Filled} → HostForms P cs before after r → 255 ≤ length before → HostAgrees j r
look_and_host P e cs look f room =
    let said = host_says P f room in
    record {
      number = ap (λ (x : HostJudged). x.number) look ∙ same_number P e cs ∙ sym said.0;
      place = ap (λ (x : HostJudged). x.place) look ∙ same_place P e cs ∙ sym said.1;
    }

-- a text that is typed with minus signs is shown as the same with hyphens (document 02, K2)
pub minus_shown : (P : Permits) (e : ℕ) (cs : List ℕ) → host_looked P (typed (fresh e) (with_hyphens cs)) ≡ host_looked P (typed (fresh e) cs)
minus_shown P e cs = live_is_hosts P e (with_hyphens cs) ∙ minus_host_judged P cs ∙ sym (live_is_hosts P e cs)
