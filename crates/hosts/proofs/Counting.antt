-- The octets of a host's ASCII form are counted before they are written, with a period after each label: at each turn what is counted with
-- what is left is the whole, so at the end the count is one more than that of the joined form, and by it 19 is decided.
-- Assumes nothing.
use mathlib.Core.Path.{◌≡◌, refl, sym, ◌∙◌}
use mathlib.Core.Bool.{true, false, not}
use mathlib.Core.List.{List, [], ◌∷◌, map}
use Prim.Native.Nat.{ℕ, suc, ◌+◌, ◌-◌, ◌*◌, ◌≤◌}
use native.Mathlib.Omega.{arith}
use lib.Dec.{eqb}
use lib.ListN.{length, drop, length-append}
use borrow.Author.Tests.{ne_eqb, not-true, not-false}
use Rattle.std.proofs.Common.{Some, None}
use Rattle.std.specs.Prelude.{Result, Ok, Err}
use Rattle.std.specs.Result.{result_ok}
use Rattle.lists.specs.Tests.{pick, all_of, any_of, index_of}
use Rattle.lists.specs.Rows.{first}
use Rattle.lists.specs.Rows.{Answer}
use Rattle.refusals.specs.Refusals.{number_of, filled}
use Rattle.refusals.specs.declared.Refused.{Refused}
use Rattle.refusals.proofs.Once.{number_not_0}
use Rattle.lists.proofs.Laws.{by_test, both}
use Rattle.lists.proofs.Tables.{hit, passed_over}
use Rattle.rules.specs.Labels.{labels, join}
use Rattle.rules.specs.Permits.{Permits}
use Rattle.rules.proofs.Cuts.{some_label}
use Rattle.ascii.specs.Ascii.{ascii_label, ascii_form, uncoded, writable}
use Rattle.ascii.proofs.OfNames.{label_size}
use Rattle.hosts.specs.Hosts.{total_row, coded_rows}
use Rattle.hosts.specs.Steps.{octets}
use Rattle.hosts.proofs.Splitting.{At, few}

module _ (P : Permits) where
  -- ---- one label

  pub octets_is : (l : List ℕ) (r : Result ℕ Refused) → eqb (filled r).number 0 ≡ not (uncoded P l) → ((filled r).number ≡ 0 → (filled r).length ≡ length (ascii_label P l))
      → result_ok r ≡ octets P l
  unfolding octets
  octets_is l (Ok n) e h = rw (not-true (uncoded P l) (sym e), h refl)
  octets_is l (Err x) e h = rw (not-false (uncoded P l) (sym e ∙ ne_eqb (number_of x.why) 0 (number_not_0 x.why)))

  pub refuses : (l : List ℕ) → None ≡ octets P l → uncoded P l ≡ true
  unfolding octets
  refuses l = by_test (λ u. None ≡ pick u None (Some (length (ascii_label P l))) → u ≡ true) (uncoded P l) (λ p q. refl) (λ p q. cc)

  pub takes : (l : List ℕ) {n : ℕ} → Some n ≡ octets P l → (uncoded P l ≡ false) × (n ≡ length (ascii_label P l))
  unfolding octets
  takes l {n} = by_test (λ u. Some n ≡ pick u None (Some (length (ascii_label P l))) → (u ≡ false) × (n ≡ length (ascii_label P l))) (uncoded P l) (λ p q. cc) (λ p q. (refl, cc))

  -- ---- all labels

  -- with a period after each
  unfoldable pub size : List (List ℕ) → ℕ
  size [] = 0
  size (l ∷ ls) = length (ascii_label P l) + 1 + size ls

  size_joined : (l : List ℕ) (ls : List (List ℕ)) → size (l ∷ ls) ≡ length (join (map (ascii_label P) (l ∷ ls))) + 1
  unfolding size join
  size_joined l [] = omega arith
  size_joined l (m ∷ ls) = omega (arith, size_joined m ls, length-append (ascii_label P l) (0x2E ∷ join (map (ascii_label P) (m ∷ ls))))

  size_is : (form : List ℕ) → size (labels form) ≡ length (ascii_form P form) + 1
  unfolding ascii_form
  size_is form = go (labels form) (some_label form)
    where
      go : (ls : List (List ℕ)) → 1 ≤ length ls → size ls ≡ length (join (map (ascii_label P) ls)) + 1
      go [] h = absurd (omega arith)
      go (l ∷ ls) h = size_joined l ls

  -- k labels are counted, and the coder took them; what is counted with what is left is the whole
  pub record Counting (form : List ℕ) (k total : ℕ) : Type 0 where
    pub bound : total ≤ 64 * k
    pub whole : total + size (drop k (labels form)) ≡ size (labels form)
    pub fit : all_of (writable P) (drop k (labels form)) ≡ true
    pub any : any_of (uncoded P) (drop k (labels form)) ≡ any_of (uncoded P) (labels form)
    pub place : k + index_of (uncoded P) (drop k (labels form)) ≡ index_of (uncoded P) (labels form)

  module _ (form : List ℕ) where
    pub counts : all_of (writable P) (labels form) ≡ true → Counting form 0 0
    counts w = record { bound = omega arith; whole = omega arith; fit = w; any = refl; place = omega arith }

    module _ {k total i : ℕ} {l : List ℕ} (g : Counting form k total) (t : At form k i l) where
      fits_both : (writable P l ≡ true) × (all_of (writable P) (drop (suc k) (labels form)) ≡ true)
      unfolding all_of
      fits_both = both (writable P l) (all_of (writable P) (drop (suc k) (labels form))) (rw t.here at g.fit)

      pub this_writable : writable P l ≡ true
      this_writable = fits_both.0

      -- the coder refuses it: 14 with its index
      pub count_refused : {a : Answer} → None ≡ octets P l → a ≡ record { number = 14; place = i } → a ≡ first (coded_rows P form)
      unfolding coded_rows any_of index_of
      count_refused n q =
          let u = refuses l n in
          let any : any_of (uncoded P) (labels form) ≡ true = sym g.any ∙ rw (t.here, u) in
          let place : index_of (uncoded P) (labels form) ≡ i = sym g.place ∙ rw (t.here, u) (omega (arith, t.index)) in
          q ∙ sym (hit 14 _ _ _ any ∙ rw place)

      module _ {n : ℕ} (o : Some n ≡ octets P l) where
        -- no sum wraps
        pub at_most : n ≤ 63
        at_most = let h = takes l o in omega (arith, h.1, label_size P l this_writable h.0)

        pub many : k ≤ length form
        many = omega (arith, t.inside, few form)

        pub count_on : {m : ℕ} → m ≡ suc k → Counting form m (total + (n + 1))
        unfolding size any_of index_of
        count_on e =
            let h = takes l o in
            let place : k + suc (index_of (uncoded P) (drop (suc k) (labels form))) ≡ index_of (uncoded P) (labels form) = rw (t.here, h.0) at g.place in
            record {
              bound = omega (arith, g.bound, at_most);
              whole = rw e (omega (arith, h.1, (rw t.here at g.whole)));
              fit = rw e fits_both.1;
              any = rw e (rw (t.here, h.0) at g.any);
              place = rw e (omega (arith, place));
            }

    -- every label is counted: no 14, and the total is one more than the joined form's
    module _ (k total : ℕ) (g : Counting form k total) (past : drop k (labels form) ≡ []) where
      pub total_is : total ≡ length (ascii_form P form) + 1
      unfolding size
      total_is = omega (arith, (rw past at g.whole), size_is form)

      pub count_end : {a : Answer} → a ≡ first (total_row (total - 1) ∷ []) → a ≡ first (coded_rows P form)
      unfolding coded_rows any_of
      count_end q =
          let all : total - 1 ≡ length (ascii_form P form) = omega (arith, total_is) in
          q ∙ rw all (sym (passed_over 14 _ _ _ (sym (rw past at g.any))))
