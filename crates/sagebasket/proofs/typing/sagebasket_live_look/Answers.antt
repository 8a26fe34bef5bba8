-- `sagebasket_live_look` meets its contract: the judge is handed the text held, and past 256 a text as long.
-- Assumes nothing.
use mathlib.Core.Path.{◌≡◌, ap, ◌∙◌}
use lib.ListN.{length, get_or}
use Rattle.rules.specs.Editions.{edition_of}
use Rattle.rules.specs.Permits.{Permits}
use Rattle.rules.proofs.Editions.{lending}
use Rattle.names.specs.Calls.{Judged, judged, judge_told}
use Rattle.live.specs.Live.{looked, too_long}
use Rattle.live.proofs.Nightly.{past}
use Rattle.sagebasket.specs.Outside.{held, numbers, unnamed, of_judged}
use Rattle.sagebasket.proofs.Small.{judged_small}
use Rattle.sagebasket.proofs.Said.{shows}
use Rattle.sagebasket.proofs.Held.{looked_at}
use borrow.Author.Rules.{rules}
use Rattle.sagebasket.proofs.typing.sagebasket_live_look.Goals as goal

pub tell_name-requires : goal.tell_name-requires
tell_name-requires c =
    let j = lending (λ (P : Permits). judge_told c.judge_with-judged.result ≡ judged P c.typed.result.now) _ c.kanji_table.ensures c.judge_with-judged.ensures in
    judged_small (edition_of _) _ (rw c.in-Ok.is at j)

pub tell_refusal-requires : goal.tell_refusal-requires
tell_refusal-requires c =
    let j = lending (λ (P : Permits). judge_told c.judge_with-judged.result ≡ judged P c.typed.result.now) _ c.kanji_table.ensures c.judge_with-judged.ensures in
    let s = judged_small (edition_of _) _ (rw c.in-Err.is at j) in (s.place, s.length)

pub returns-in-Ok : goal.returns-in-Ok
unfolding looked held of_judged unnamed numbers
returns-in-Ok c =
    let s = c.args.state.now in
    let P = edition_of (get_or s 257 0) in
    let whole : length s ≡ 258 = search rules in
    let j = lending (λ (P : Permits). judge_told c.judge_with-judged.result ≡ judged P c.typed.result.now) _ c.kanji_table.ensures c.judge_with-judged.ensures in
    let e = (rw c.in-Ok.is at j) ∙ looked_at s whole c.typed.ensures (judged P) (too_long P.known) (past P) in
    shows of_judged e (ap (λ (j : Judged). j.form) e) c.tell_name.ensures

pub returns-in-Err : goal.returns-in-Err
unfolding looked held of_judged unnamed numbers
returns-in-Err c =
    let s = c.args.state.now in
    let P = edition_of (get_or s 257 0) in
    let whole : length s ≡ 258 = search rules in
    let j = lending (λ (P : Permits). judge_told c.judge_with-judged.result ≡ judged P c.typed.result.now) _ c.kanji_table.ensures c.judge_with-judged.ensures in
    let e = (rw c.in-Err.is at j) ∙ looked_at s whole c.typed.ensures (judged P) (too_long P.known) (past P) in
    shows of_judged e (ap (λ (j : Judged). j.form) e) c.tell_refusal.ensures
