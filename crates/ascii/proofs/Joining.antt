-- The ASCII form of labels, piece by piece: each turn puts the ASCII form of one label and a period, and what is put with what is left to put
-- is the whole.
-- Assumes nothing.
use mathlib.Core.Path.{◌≡◌, refl, sym, ap, ◌∙◌}
use mathlib.Core.List.{List, [], ◌∷◌, ◌++◌, map, append_assoc}
use mathlib.Core.Logic.{⊎_elim}
use Prim.Native.Nat.{ℕ, ◌+◌, ◌≤◌, ◌<◌}
use native.Mathlib.Omega.{arith}
use lib.ListN.{length, drop, set, length-append}
use Rattle.lists.specs.Tests.{index_of}
use Rattle.lists.specs.Front.{Puts}
use Rattle.lists.proofs.Laws.{lt_or_le}
use Rattle.lists.proofs.Pieces.{nothing, then, put_one}
use Rattle.rules.specs.Labels.{period, labels, join}
use Rattle.rules.specs.Permits.{Permits}
use Rattle.rules.proofs.Cuts.{labelled, join_more, first_from, here, last_here}
use Rattle.ascii.specs.Ascii.{ascii_label, ascii_form}

-- what is put, and what is left to put from the label on that begins at `from`
pub record Going (P : Permits) (form out₀ out : List ℕ) (from at : ℕ) : Type 0 where
  pub done : List ℕ
  pub within : from ≤ length form
  pub put : Puts done out₀ out 0 at
  pub whole : done ++ join (map (ascii_label P) (labels (drop from form))) ≡ ascii_form P form

pub goes : (P : Permits) (form out : List ℕ) → Going P form out out 0 0
unfolding ascii_form
goes P form out = record { done = []; within = omega arith; put = nothing; whole = refl }

module _ (P : Permits) {form out₀ out : List ℕ} {from at : ℕ} (g : Going P form out₀ out from at) (e : ℕ) (s : e ≡ from + index_of period (drop from form)) where
  -- the label that is put
  abbrev pub label : List ℕ
  label = here form from e g.within s

  -- put, this label, and a period and what follows it, are the whole
  last_whole : length form ≤ e → g.done ++ ascii_label P label ≡ ascii_form P form
  unfolding join
  last_whole k = ap (λ (ls : List (List ℕ)). g.done ++ join (map (ascii_label P) ls)) (sym (last_here form from e g.within s k)) ∙ g.whole

  more_whole : e < length form → g.done ++ (ascii_label P label ++ 0x2E ∷ join (map (ascii_label P) (labels (drop (e + 1) form)))) ≡ ascii_form P form
  more_whole k =
      ap (λ (l : List ℕ). g.done ++ l) (sym (join_more (labelled (drop (e + 1) form)) (ascii_label P) (ascii_label P label)))
      ∙ ap (λ (ls : List (List ℕ)). g.done ++ join (map (ascii_label P) ls)) (sym (first_from form from e g.within s k))
      ∙ g.whole

  -- so each has room where the whole has
  pub period_fits : e < length form → at + length (ascii_label P label) < length (ascii_form P form)
  period_fits k =
      let rest : List ℕ = 0x2E ∷ join (map (ascii_label P) (labels (drop (e + 1) form))) in
      omega (arith, g.put.place, ap length (more_whole k), length-append g.done (ascii_label P label ++ rest), length-append (ascii_label P label) rest)

  pub label_fits : at + length (ascii_label P label) ≤ length (ascii_form P form)
  label_fits =
      ⊎_elim (λ k. omega (arith, period_fits k))
      (λ k. omega (arith, g.put.place, ap length (last_whole k), length-append g.done (ascii_label P label))) (lt_or_le e (length form))

  module _ {out₁ : List ℕ} {r : ℕ} (t : Puts (ascii_label P label) out out₁ at r) where
    puts : Puts (g.done ++ ascii_label P label) out₀ out₁ 0 r
    puts = then g.put t

    pub turn_last : length form ≤ e → Puts (ascii_form P form) out₀ out₁ 0 r
    turn_last k = rw (last_whole k) at puts

    pub turn_on : r < length out₁ → e < length form → Going P form out₀ (set out₁ r 0x2E) (e + 1) (r + 1)
    turn_on l k = record {
      done = (g.done ++ ascii_label P label) ++ (0x2E ∷ []);
      within = omega arith;
      put = then puts (put_one out₁ r 0x2E l);
      whole =
          append_assoc (g.done ++ ascii_label P label) (0x2E ∷ []) _
          ∙ append_assoc g.done (ascii_label P label) _
          ∙ more_whole k;
    }
