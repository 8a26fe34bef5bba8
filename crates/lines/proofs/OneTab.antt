-- A line has exactly one tab where it is an id, a tab and a name, neither with a tab; and these are the fields that are read of it.
-- Assumes nothing.
use mathlib.Core.Path.{◌≡◌, refl, sym, ap, ◌∙◌}
use mathlib.Core.Bool.{true, false, not}
use mathlib.Core.List.{List, [], ◌∷◌, ◌++◌}
use Prim.Native.Nat.{ℕ, suc}
use lib.ListN.{length, drop, length-append}
use lib.Seq.{take-append_seam, drop_at, append_snoc}
use borrow.Author.Tests.{eqb-true, not-true}
use native.Mathlib.Omega.{arith}
use Rattle.lists.specs.Tests.{any_of, index_of}
use Rattle.lists.proofs.Laws.{both, any_append}
use Rattle.lists.proofs.Scan.{found_inside, none_before, cut_first, first_past}
use Rattle.lines.specs.Fields.{tab, id_of, name_of, one_tab}

pub record Fields (line id name : List ℕ) : Type 0 where
  pub parts : line ≡ id ++ 0x09 ∷ name
  pub id_no_tab : any_of tab id ≡ false
  pub name_no_tab : any_of tab name ≡ false

pub fields_of_lem : (line : List ℕ) → one_tab line ≡ true → Fields line (id_of line) (name_of line)
unfolding one_tab id_of name_of tab
fields_of_lem line e =
    let p = both (any_of tab line) (not (any_of tab (name_of line))) e in
    record { parts = cut_first tab 0x09 (λ b e. eqb-true b 0x09 e) line (found_inside tab line p.0); id_no_tab = none_before tab line; name_no_tab = not-true (any_of tab (name_of line)) p.1 }

pub fields_are : (line id name : List ℕ) → Fields line id name → (one_tab line ≡ true) × (id_of line ≡ id) × (name_of line ≡ name)
unfolding one_tab id_of name_of tab any_of
fields_are line id name x =
    let k : index_of tab line ≡ length id = ap (index_of tab) x.parts ∙ first_past tab id 0x09 name x.id_no_tab refl in
    let n : drop (suc (index_of tab line)) line ≡ name =
    rw k (ap (drop (suc (length id))) (x.parts ∙ sym (append_snoc id 0x09 name)) ∙ drop_at (id ++ 0x09 ∷ []) name (suc (length id)) (omega (arith, length-append id (0x09 ∷ [])))) in (
      rw (n, x.name_no_tab) (rw (x.parts, any_append tab id (0x09 ∷ name), x.id_no_tab) refl),
      rw (k, x.parts) (take-append_seam id (0x09 ∷ name)),
      n,
    )
