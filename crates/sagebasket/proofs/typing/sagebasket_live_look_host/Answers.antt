-- `sagebasket_live_look_host` meets its contract: the judge of hosts is handed the text held, and past 256 a text as long.
-- Assumes nothing.
use mathlib.Core.Path.{◌≡◌, ap, ◌∙◌}
use lib.ListN.{length}
use Rattle.rules.specs.Editions.{today}
use Rattle.rules.specs.Permits.{Permits}
use Rattle.rules.proofs.Editions.{lending}
use Rattle.hosts.specs.Hosts.{HostJudged, host_judged, host_told}
use Rattle.live.specs.HostLooks.{host_too_long, host_looked}
use Rattle.live.proofs.Hosts.{past}
use Rattle.sagebasket.specs.Outside.{numbers, unnamed, of_host_judged}
use Rattle.sagebasket.proofs.Small.{host_judged_small}
use Rattle.sagebasket.proofs.Said.{shows}
use Rattle.sagebasket.proofs.Held.{looked_at}
use borrow.Author.Rules.{rules}
use Rattle.sagebasket.proofs.typing.sagebasket_live_look_host.Goals as goal

pub tell_length-requires : goal.tell_length-requires
tell_length-requires c =
    (host_judged_small today _ (lending (λ (P : Permits). host_told c.judge_with-judged.result ≡ host_judged P c.typed.result.now) 4 c.kanji_table.ensures c.judge_with-judged.ensures)).1

pub tell_refusal-requires : goal.tell_refusal-requires
tell_refusal-requires c =
    let j = lending (λ (P : Permits). host_told c.judge_with-judged.result ≡ host_judged P c.typed.result.now) 4 c.kanji_table.ensures c.judge_with-judged.ensures in
    host_judged_small today _ (rw c.in-Err.is at j)

pub returns-in-Ok : goal.returns-in-Ok
unfolding host_looked of_host_judged unnamed numbers
returns-in-Ok c =
    let s = c.args.state.now in
    let whole : length s ≡ 258 = search rules in
    let j = lending (λ (P : Permits). host_told c.judge_with-judged.result ≡ host_judged P c.typed.result.now) 4 c.kanji_table.ensures c.judge_with-judged.ensures in
    let e = (rw c.in-Ok.is at j) ∙ looked_at s whole c.typed.ensures (host_judged today) host_too_long (past today) in
    shows of_host_judged e (ap (λ (j : HostJudged). j.form) e) c.tell_length.ensures

pub returns-in-Err : goal.returns-in-Err
unfolding host_looked of_host_judged unnamed numbers
returns-in-Err c =
    let s = c.args.state.now in
    let whole : length s ≡ 258 = search rules in
    let j = lending (λ (P : Permits). host_told c.judge_with-judged.result ≡ host_judged P c.typed.result.now) 4 c.kanji_table.ensures c.judge_with-judged.ensures in
    let e = (rw c.in-Err.is at j) ∙ looked_at s whole c.typed.ensures (host_judged today) host_too_long (past today) in
    shows of_host_judged e (ap (λ (j : HostJudged). j.form) e) c.tell_refusal.ensures
