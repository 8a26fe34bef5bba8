-- What the normal form call answers and leaves in the buffer, for each way that its tests go.
-- Assumes nothing.
use mathlib.Core.Path.{◌≡◌, refl, sym, ◌∙◌}
use mathlib.Core.Bool.{false}
use mathlib.Core.List.{List}
use Prim.Native.Nat.{ℕ, ◌≤◌, ◌<◌}
use lib.ListN.{length}
use lib.Dec.{eqb}
use borrow.Author.Tests.{lt-ltb, le-ltb, eq-eqb, ne_eqb, eqb-false}
use Rattle.lists.specs.Front.{written}
use Rattle.lists.specs.Rows.{accepted}
use Rattle.lists.specs.Rows.{Answer}
use Rattle.lists.proofs.Fronts.{untouched}
use Rattle.lists.proofs.Tables.{passed_over, hit, clear, given_all, given_none}
use Rattle.normal.specs.Normal.{normal_form}
use Rattle.normal.specs.Calls.{rows, answer, writes, Normalises}

abbrev refusal : ℕ → ℕ → Answer
refusal n p = record { number = n; place = p }

module _ (text before : List ℕ) where
  refused : (a : Answer) → answer text (length before) ≡ a → eqb a.number 0 ≡ false
      → Normalises text before before (record { number = a.number; place = a.place; length = 0 })
  unfolding writes
  refused a e n =
      let none = given_none a (normal_form text) (eqb-false a.number 0 n) in
      record { result = rw (e, none); buffer = rw (e, none) (sym (untouched before)) }

  pub no_room : length before < 256 → Normalises text before before (record { number = 1; place = 0; length = 0 })
  unfolding answer rows
  no_room h = refused (refusal 1 0) (hit 1 _ 0 _ (lt-ltb _ _ h)) refl

  module _ (h : 256 ≤ length before) where
    pub no_text : length text ≡ 0 → Normalises text before before (record { number = 2; place = 0; length = 0 })
    unfolding answer rows
    no_text e = refused (refusal 2 0) (passed_over 1 _ 0 _ (le-ltb _ _ h) ∙ hit 2 _ 0 _ (eq-eqb _ _ e)) refl

    module _ (n : length text ≡ 0 → ⊥) where
      pub too_long : 256 < length text → Normalises text before before (record { number = 3; place = 256; length = 0 })
      unfolding answer rows
      too_long l =
          refused (refusal 3 256)
          (passed_over 1 _ 0 _ (le-ltb _ _ h) ∙ passed_over 2 _ 0 _ (ne_eqb _ _ n) ∙ hit 3 _ 256 _ (lt-ltb _ _ l)) refl

      pub no_refusal : length text ≤ 256 → answer text (length before) ≡ accepted
      unfolding answer rows
      no_refusal l = clear (rows text (length before)) (le-ltb _ _ h, (ne_eqb _ _ n, (le-ltb _ _ l, tt)))

      pub written_full : {after : List ℕ} {k : ℕ} → length text ≤ 256 → k ≡ length (normal_form text)
          → after ≡ written (normal_form text) before → Normalises text before after (record { number = 0; place = 0; length = k })
      unfolding writes
      written_full l n w = record {
        result = rw (no_refusal l, given_all accepted (normal_form text) refl, n);
        buffer = rw (no_refusal l, given_all accepted (normal_form text) refl) w;
      }
