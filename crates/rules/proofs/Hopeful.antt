-- A text is hopeful exactly where some continuation of it is accepted: what is accepted is admitted, and each beginning of such a name has
-- labels that may grow (proofs/Begun); and what may grow is carried on to a name that is admitted (proofs/Grown).
-- Assumes nothing.
use mathlib.Core.Path.{◌≡◌, refl, sym, ap, ◌∙◌}
use mathlib.Core.Bool.{Bool, true, false, not, ◌&&◌}
use mathlib.Core.List.{List, [], ◌++◌, append_assoc, append-nil}
use mathlib.Core.Logic.{◌↔◌}
use Prim.Native.Nat.{ℕ}
use lib.Seq.{append_snoc}
use borrow.Author.Tests.{not-true}
use Rattle.lists.specs.Tests.{any_of}
use Rattle.lists.proofs.Laws.{both, neither, refuted, clash, any_append}
use Rattle.normal.specs.Normal.{normal_form}
use Rattle.normal.proofs.Continued.{Continues, apart, joined, continued, continued_unchanged}
use Rattle.rules.specs.Labels.{labels}
use Rattle.rules.specs.Permits.{Permits}
use Rattle.rules.specs.Rules.{unfit, rules}
use Rattle.rules.specs.Pretends.{Admitted}
use Rattle.rules.specs.Hopeful.{MayBecome, grows, hopeful, HopeLaws}
use Rattle.rules.specs.Verdicts.{Class}
use Rattle.rules.specs.Verdicts.{Verdict}
use Rattle.rules.proofs.Cuts.{join_labels, labels_fit}
use Rattle.rules.proofs.Derived.{named}
use Rattle.rules.proofs.Exactly.{class, number_accepted, accepted_derives}
use Rattle.rules.proofs.Begun.{uncomposed, admitted_grows}
use Rattle.rules.proofs.Grown.{Grown, grown}

module _ (P : Permits) (H : HopeLaws P) where
  -- ---- the theorem

  module _ (text : List ℕ) where
    witness : hopeful P text ≡ true → MayBecome P text
    unfolding hopeful
    witness e =
        let form = normal_form text in
        let h = both (not (any_of (unfit P) form)) (grows P (labels form)) (both P.known _ e).1 in
        let g : Grown P H form = rw (join_labels form) at (grown P H (labels form) (labels_fit P form (not-true (any_of (unfit P) form) h.0)) h.1) in
        let d : Admitted P g.kind (normal_form (text ++ g.more)) = rw (continued_unchanged text g.more g.stays) g.admitted in
        (g.more, ap (λ (v : Verdict). v.number) ((accepted_derives P H.laws (text ++ g.more) g.kind).1 d))

    admitted_hopeful : {k : Class} (r : List ℕ) → Admitted P k (normal_form text ++ r) → hopeful P text ≡ true
    unfolding hopeful
    admitted_hopeful r (d, h) =
        let n = (neither (any_of (unfit P) (normal_form text)) (any_of (unfit P) r) (sym (any_append (unfit P) (normal_form text) r) ∙ (named P H.laws d).fit)).0 in
        let g = admitted_grows P H (normal_form text) r d h refl in
        ap (λ (b : Bool). b && (not (any_of (unfit P) (normal_form text)) && grows P (labels (normal_form text)))) H.laws.there_is ∙ rw (n, g)

    from_form : {k : Class} {f g : List ℕ} → Continues f g → Admitted P k g → (r : List ℕ) × Admitted P k (f ++ r)
    from_form (apart f r) a = (r, a)
    from_form (joined f b m r n) a = (r, rw (append_snoc f b r) (uncomposed P H f b m n r a.0 refl))

    continuable : MayBecome P text → hopeful P text ≡ true
    continuable c =
        let s = c.0 in
        let d = (accepted_derives P H.laws (text ++ s) (class P (text ++ s))).0 (number_accepted P (text ++ s) c.1) in
        let k = from_form (continued text s) d in
        admitted_hopeful k.0 k.1

    pub hopeful_exactly : (hopeful P text ≡ true) ↔ MayBecome P text
    hopeful_exactly = (witness, continuable)

  -- ---- what follows from it

  module _ (text : List ℕ) where
    -- what is accepted is hopeful
    pub accepted_hopeful : (rules P text).number ≡ 0 → hopeful P text ≡ true
    accepted_hopeful e = (hopeful_exactly text).1 ([], rw (append-nil text) e)

    -- what is not hopeful is refused, whatever follows
    pub hopeless_refused : (s : List ℕ) → hopeful P text ≡ false → (rules P (text ++ s)).number ≡ 0 → ⊥
    hopeless_refused s e z = clash ((hopeful_exactly text).1 (s, z)) e

    -- and it stays so
    pub hopeless_stays : (s : List ℕ) → hopeful P text ≡ false → hopeful P (text ++ s) ≡ false
    hopeless_stays s e = refuted (hopeful P (text ++ s)) (λ p.
        let c = (hopeful_exactly (text ++ s)).0 p in
        hopeless_refused (s ++ c.0) e (rw (← append_assoc text s c.0) c.1))
