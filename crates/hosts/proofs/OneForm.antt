-- One host, one ASCII form: rule 17 is asked of every label, so none seems encoded, whatever the edition; so the ASCII forms of two hosts are
-- equal exactly where the normal forms are (ascii, proofs/OneForm).
-- Assumes nothing.
use mathlib.Core.Path.{◌≡◌, refl, sym, ap, ◌∙◌}
use mathlib.Core.Bool.{true, not}
use mathlib.Core.List.{List}
use mathlib.Core.Logic.{◌↔◌}
use Prim.Native.Nat.{ℕ}
use lib.ListN.{take}
use Rattle.lists.specs.Tests.{all_of}
use Rattle.lists.proofs.Laws.{all_not}
use Rattle.lists.proofs.Tables.{split_clear, gave_front}
use Rattle.normal.specs.Normal.{normal_form}
use Rattle.rules.specs.Labels.{labels}
use Rattle.rules.specs.Permits.{Permits}
use Rattle.rules.specs.Pretends.{seems_encoded}
use Rattle.rules.specs.Hosts.{of_host, host_text_rows}
use Rattle.rules.proofs.ByName.{clear_host}
use Rattle.rules.proofs.Cuts.{labels_fit}
use Rattle.rules.proofs.Pretends.{honest_plain}
use Rattle.ascii.specs.Ascii.{ascii_form, in_form, OneForm}
use Rattle.ascii.proofs.OneForm.{Unmistaken, form_ascii}
use Rattle.ascii.proofs.OneForm as Ascii
use Rattle.hosts.specs.Hosts.{coded_rows, rows, host_rules, HostForms}
use Rattle.refusals.specs.Refusals.{Filled}
use Rattle.hosts.proofs.Coded.{each_label}
use Rattle.hosts.proofs.Exactly.{number_clear}
use Rattle.hosts.proofs.Demands.{host_accepts}

module _ (P : Permits) where
  unmistaken : (text : List ℕ) → (host_rules P text).number ≡ 0 → Unmistaken P (labels (normal_form text))
  unfolding rows coded_rows
  unmistaken text e =
      let k = split_clear (host_text_rows P text) (coded_rows P (normal_form text)) (number_clear P text e) in
      record {
        fit = labels_fit P (normal_form text) (clear_host P text k.0).0.fit;
        coded = k.1.0;
        plain =
            all_not (seems_encoded P) (labels (normal_form text))
            (each_label P (λ l. not (seems_encoded P l)) (λ l a f h. ap not (honest_plain P of_host l h)) text k.0);
      }

  -- what the form of an accepted host holds
  pub given_ascii : (text : List ℕ) → (host_rules P text).number ≡ 0 → all_of in_form (ascii_form P (normal_form text)) ≡ true
  given_ascii text e = let U = unmistaken text e in form_ascii P (normal_form text) U.fit U.coded

  -- over the rules
  pub one_form : (s t : List ℕ) → (host_rules P s).number ≡ 0 → (host_rules P t).number ≡ 0 → OneForm P (normal_form s) (normal_form t)
  one_form s t p q = Ascii.one_form P (normal_form s) (normal_form t) (unmistaken s p) (unmistaken t q)

  -- of the call: two that answered 0, each in its own buffer
  octets : {text before after : List ℕ} {r : Filled} → HostForms P text before after r → r.number ≡ 0 → take r.length after ≡ ascii_form P (normal_form text)
  octets {before = before} {r = r} F z =
      gave_front _ _ _ before F.gives (λ (x : Filled). x.length) (λ a n. refl) (sym (ap (λ (x : Filled). x.number) F.gives.result) ∙ z)

  pub one_written : (s t before after before' after' : List ℕ) (r q : Filled) → HostForms P s before after r → HostForms P t before' after' q
      → r.number ≡ 0 → q.number ≡ 0 → (take r.length after ≡ take q.length after') ↔ (normal_form s ≡ normal_form t)
  one_written s t before after before' after' r q F G y z = rw (octets F y, octets G z) (one_form s t (host_accepts P F y) (host_accepts P G z))
