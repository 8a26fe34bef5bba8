-- The two rules of the second reader meet their contracts: each hands the rest of the label on, and the rest is shorter.
-- Assumes nothing.
use mathlib.Core.Path.{◌∙◌}
use native.Mathlib.Omega.{arith}
use Rattle.readers.proofs.Reading.{skip_count, note_count, none_character, none_hyphen, alike, to_hyphen, to_character, unread}
use Rattle.readers.proofs.+after_character_after_hyphen.Goals as goal

pub after_character-after_hyphen-requires : goal.after_character-after_hyphen-requires
after_character-after_hyphen-requires t c = (omega arith, omega (arith, skip_count _ c.skipped.ensures))

pub after_character-after_character-requires : goal.after_character-after_character-requires
after_character-after_character-requires t c = (omega arith, omega (arith, note_count _ _ _ c.noted.ensures))

pub after_character-returns-in-empty : goal.after_character-returns-in-empty
after_character-returns-in-empty t c = none_character _ _ _ (omega arith) c.may_end.ensures

pub after_character-returns-in-45 : goal.after_character-returns-in-45
after_character-returns-in-45 t c = to_hyphen _ _ _ (λ e. omega arith) (omega arith) c.skipped.ensures c.after_hyphen.ensures

pub after_character-returns-then-in_label_with : goal.after_character-returns-then-in_label_with
after_character-returns-then-in_label_with t c = to_character _ _ _ (λ e. omega arith) (λ e. omega arith) c.in_label_with.ensures c.if-in_label_with.true c.noted.ensures c.after_character.ensures

pub after_character-returns-else-in_label_with : goal.after_character-returns-else-in_label_with
after_character-returns-else-in_label_with t c = c.if-in_label_with.false ∙ unread _ _ _ (λ e. omega arith) (λ e. omega arith) c.in_label_with.ensures c.if-in_label_with.false

pub after_hyphen-returns-in-empty : goal.after_hyphen-returns-in-empty
after_hyphen-returns-in-empty t c = none_hyphen _ _ _ (omega arith)

pub after_hyphen-after_hyphen-requires : goal.after_hyphen-after_hyphen-requires
after_hyphen-after_hyphen-requires t c = (omega arith, omega (arith, skip_count _ c.skipped.ensures))

pub after_hyphen-returns-in-45 : goal.after_hyphen-returns-in-45
after_hyphen-returns-in-45 t c = to_hyphen _ _ _ (λ e. omega arith) (omega arith) c.skipped.ensures c.after_hyphen.ensures ∙ alike _ _ _ (λ e. omega arith)

pub after_hyphen-after_character-requires : goal.after_hyphen-after_character-requires
after_hyphen-after_character-requires t c = (omega arith, omega (arith, note_count _ _ _ c.noted.ensures))

pub after_hyphen-returns-then-in_label_with : goal.after_hyphen-returns-then-in_label_with
after_hyphen-returns-then-in_label_with t c = to_character _ _ _ (λ e. omega arith) (λ e. omega arith) c.in_label_with.ensures c.if-in_label_with.true c.noted.ensures c.after_character.ensures ∙ alike _ _ _ (λ e. omega arith)

pub after_hyphen-returns-else-in_label_with : goal.after_hyphen-returns-else-in_label_with
after_hyphen-returns-else-in_label_with t c = c.if-in_label_with.false ∙ unread _ _ _ (λ e. omega arith) (λ e. omega arith) c.in_label_with.ensures c.if-in_label_with.false ∙ alike _ _ _ (λ e. omega arith)
