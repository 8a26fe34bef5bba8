-- The labels of a form in their order: at each turn the answer for all labels is the answer for those that are left.
-- Assumes nothing.
use mathlib.Core.Path.{◌≡◌, sym, ap, ◌∙◌}
use mathlib.Core.List.{List, []}
use Prim.Native.Nat.{ℕ, suc}
use lib.ListN.{drop}
use Rattle.lists.specs.Rows.{first}
use Rattle.lists.specs.Rows.{Answer}
use Rattle.rules.specs.Labels.{labels}
use Rattle.rules.specs.Permits.{Permits}
use Rattle.rules.specs.Rules.{label_rows}
use Rattle.rules.specs.Hosts.{of_host, each_rows}
use Rattle.rules.proofs.Steps.{each_stops, each_on, each_0}
use Rattle.hosts.proofs.Splitting.{At}

-- ---- 7, 9, 17 and 10: what all labels are answered is what those from the k-th on are

module _ (P : Permits) (form : List ℕ) where
  abbrev pub Asking : ℕ → Type 0
  Asking k = first (each_rows P 0 (labels form)) ≡ first (each_rows P k (drop k (labels form)))

  module _ {k : ℕ} (g : Asking k) where
    module _ {i : ℕ} {l : List ℕ} (t : At form k i l) {a : Answer} (q : a ≡ first (label_rows P of_host l i)) where
      asked : a ≡ first (label_rows P of_host l k)
      asked = q ∙ ap (λ (n : ℕ). first (label_rows P of_host l n)) t.index

      pub ask_stops : (a.number ≡ 0 → ⊥) → a ≡ first (each_rows P 0 (labels form))
      ask_stops h = sym (g ∙ rw t.here (each_stops P k l _ asked h))

      pub ask_on : a.number ≡ 0 → {n : ℕ} → n ≡ suc k → Asking n
      ask_on z e = g ∙ rw (t.here, e) (each_on P k l _ asked z)

  pub ask_end : (k : ℕ) → Asking k → drop k (labels form) ≡ [] → ◌≡◌ {A = Answer} (record { number = 0; place = 0 }) (first (each_rows P 0 (labels form)))
  ask_end k g e = sym (g ∙ rw e (each_0 P k))
