use mathlib.Core.Path.{ap, ◌∙◌}
use native.Mathlib.Omega.{arith}
use Rattle.characters.specs.Characters.{kind_letter}
use Rattle.std.specs.Prelude.{Some}
use Rattle.rules.specs.Kinds.{same_kind}
use Rattle.labels.proofs.Holding.{together, only, unseen, ascii_on, ascii_not, kind_on, kind_not, all_seen}
use Rattle.labels.proofs.kinds.held_with.Goals.{in-Hiragana, in-Katakana, in-Kanji, in-Sign}
use Rattle.labels.proofs.kinds.held_with.Goals as goal

pub loop-c-init : goal.loop-c-init
loop-c-init c = unseen _ _

pub returns-then-not-is_ascii : goal.returns-then-not-is_ascii
returns-then-not-is_ascii c = ascii_not _ _ c.loop-c.invariant (omega arith) (omega arith) c.is_ascii.ensures c.if-not-is_ascii.true

pub loop-c-preserved-then-c-lt128 : goal.loop-c-preserved-then-c-lt128
loop-c-preserved-then-c-lt128 c = ascii_on _ _ c.loop-c.invariant (omega arith) (omega arith) c.is_ascii.ensures c.if-not-is_ascii.false

pub loop-c-preserved : goal.loop-c-preserved
unfolding together only same_kind kind_letter
loop-c-preserved c =
    elim c.match-branch-2.branch [
      | in-Hiragana w ↦ rw w.kinds-is (kind_on _ _ c.loop-c.invariant (omega arith) (omega arith) _ c.kind.ensures (c.in_ok-kind.was ∙ ap Some w.in-Hiragana.is))
      | in-Katakana w ↦ rw w.kinds-is (kind_on _ _ c.loop-c.invariant (omega arith) (omega arith) _ c.kind.ensures (c.in_ok-kind.was ∙ ap Some w.in-Katakana.is))
      | in-Kanji w ↦ rw w.kinds-is (kind_on _ _ c.loop-c.invariant (omega arith) (omega arith) _ c.kind.ensures (c.in_ok-kind.was ∙ ap Some w.in-Kanji.is))
      | in-Sign w ↦ rw w.kinds-is (kind_on _ _ c.loop-c.invariant (omega arith) (omega arith) _ c.kind.ensures (c.in_ok-kind.was ∙ ap Some w.in-Sign.is))
    ]

pub returns-in_err-kind : goal.returns-in_err-kind
returns-in_err-kind c = rw c.from_residual.ensures (kind_not _ _ c.loop-c.invariant (omega arith) (omega arith) _ c.kind.ensures c.in_err-kind.was)

pub returns : goal.returns
returns c = all_seen _ _ c.loop-c.invariant (omega arith)
