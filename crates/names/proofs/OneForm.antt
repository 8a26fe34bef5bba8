-- One name, one ASCII form: no label of an accepted name seems encoded, the leftmost by rule 17, a prefecture label by the law, the last since
-- it is "jp"; so the ASCII forms of two are equal exactly where the normal forms are (ascii, proofs/OneForm). Without rule 17 they are not, nor
-- without the law: there is a pair for each.
-- Assumes nothing.
use mathlib.Core.Path.{◌≡◌, refl, sym, ap, ◌∙◌}
use mathlib.Core.Bool.{true, not}
use mathlib.Core.List.{List}
use mathlib.Core.Logic.{◌↔◌}
use Prim.Native.Nat.{ℕ}
use lib.ListN.{length, take}
use Rattle.lists.specs.Tests.{within, all_of, any_of, elem, same}
use Rattle.lists.specs.Rows.{first, Clear}
use Rattle.lists.specs.Rows.{Answer}
use Rattle.lists.proofs.Laws.{clash, all_not, same_refl}
use Rattle.lists.proofs.Tables.{clear, gave_front}
use Rattle.characters.specs.KanjiBits.{kanji_bits}
use Rattle.characters.specs.Characters.{alnum, hyphen, ascii_set, kinds, signs, signs_in, stretch, kind_among, kind_by, any_kind, kanji_with, kind_with}
use Rattle.characters.proofs.Bounds.{with_bounds}
use Rattle.normal.specs.Normal.{normal_form}
use Rattle.rules.specs.Labels.{labels}
use Rattle.rules.specs.Permits.{Permits, InStretch, ShortMiddles, Laws, ja_char, label_char, is_empty}
use Rattle.rules.specs.Rules.{of_name, jp, text_rows, verdict, rules, rules_but}
use Rattle.rules.specs.Pretends.{seems_encoded, PlainMiddles}
use Rattle.rules.specs.Editions.{edition_of, edition_with, today}
use Rattle.rules.specs.Verdicts.{Class}
use Rattle.rules.specs.Verdicts.{General}
use Rattle.rules.specs.Verdicts.{Verdict}
use Rattle.rules.proofs.ByName.{clear_text, text_cleared}
use Rattle.rules.proofs.Cuts.{labels_fit}
use Rattle.rules.proofs.Derived.{of_middle}
use Rattle.rules.proofs.Pretends.{honest_plain}
use Rattle.rules.proofs.Editions.{edition_stretch, edition_short, edition_plain, lending, lent_plain}
use Rattle.ascii.specs.Ascii.{ascii_form, in_form, OneForm}
use Rattle.ascii.specs.Examples.{kana, encoded}
use Rattle.ascii.proofs.OneForm.{Unmistaken, form_ascii}
use Rattle.ascii.proofs.OneForm as Ascii
use Rattle.names.specs.Calls.{ascii_rows, AsciiForms, Coded, FormGiven}
use Rattle.names.specs.Shared.{Share, general, shared, twins, shared_middles}
use Rattle.names.specs.Calls.{AsciiForm}
use Rattle.names.proofs.Answering.{ascii_passed}
use Rattle.names.proofs.Coded.{no_14}
use Rattle.names.proofs.Enough.{each_label}

jp_plain : (P : Permits) → not (seems_encoded P jp) ≡ true
unfolding seems_encoded same jp
jp_plain P = refl

-- ---- over the rules

module _ (P : Permits) {text : List ℕ} (G : FormGiven P text) where
  clears : Clear (text_rows P text)
  unfolding rules verdict
  clears = text_cleared P text G.accepted

  fit : all_of (all_of (label_char P)) (labels (normal_form text)) ≡ true
  fit = labels_fit P (normal_form text) (clear_text P text clears).0.fit

  -- what the form of an accepted name holds
  pub given_ascii : all_of in_form (ascii_form P (normal_form text)) ≡ true
  given_ascii = form_ascii P (normal_form text) fit G.coded

  unmistaken : PlainMiddles P → Unmistaken P (labels (normal_form text))
  unmistaken plain = record {
    fit = fit;
    coded = G.coded;
    plain =
        all_not (seems_encoded P) (labels (normal_form text))
        (each_label P (λ l. not (seems_encoded P l)) (λ l a k h. ap not (honest_plain P of_name l h))
        (λ l a m. of_middle P (λ l. not (seems_encoded P l)) l plain m) (jp_plain P) text clears).0;
  }

module _ (P : Permits) (plain : PlainMiddles P) where
  pub one_form : (s t : List ℕ) → FormGiven P s → FormGiven P t → OneForm P (normal_form s) (normal_form t)
  one_form s t G H = Ascii.one_form P (normal_form s) (normal_form t) (unmistaken P G plain) (unmistaken P H plain)

  -- the form of an accepted text is always given
  pub one_form_accepted : InStretch P → ShortMiddles P → (s t : List ℕ) → (rules P s).number ≡ 0 → (rules P t).number ≡ 0
      → OneForm P (normal_form s) (normal_form t)
  one_form_accepted stretch short s t p q =
      one_form s t (record { accepted = p; coded = no_14 P stretch short s p }) (record { accepted = q; coded = no_14 P stretch short t q })

-- ---- of the calls

-- a call that answers 0 gives the form
pub rows_give : (P : Permits) (text : List ℕ) (room : ℕ) → (first (ascii_rows P text room)).number ≡ 0 → FormGiven P text
unfolding rules verdict
rows_give P text room e =
    let k = ascii_passed P text room e in
    record { accepted = ap (λ (a : Answer). a.number) (clear (text_rows P text) k.0); coded = k.1 }

module _ (P : Permits) {text before after : List ℕ} {r : AsciiForm} (a : AsciiForms P text before after r) (z : r.number ≡ 0) where
  accepts : (first (ascii_rows P text (length before))).number ≡ 0
  unfolding verdict
  accepts = sym (ap (λ (x : AsciiForm). x.number) a.gives.result) ∙ z

  gave : FormGiven P text
  gave = rows_give P text (length before) accepts

  octets : take r.length after ≡ ascii_form P (normal_form text)
  octets = gave_front _ _ _ before a.gives (λ (x : AsciiForm). x.length) (λ a n. refl) accepts

-- what two that answered 0 wrote, each in its own buffer, is equal exactly where the normal forms are
abbrev pub OneWritten : Permits → Type 0
OneWritten P = (s t before after before' after' : List ℕ) (r q : AsciiForm) → AsciiForms P s before after r → AsciiForms P t before' after' q
    → r.number ≡ 0 → q.number ≡ 0 → (take r.length after ≡ take q.length after') ↔ (normal_form s ≡ normal_form t)

pub one_written : (P : Permits) → PlainMiddles P → OneWritten P
one_written P plain s t before after before' after' r q a b y z = rw (octets P a y, octets P b z) (one_form P plain s t (gave P a y) (gave P b z))

-- ---- within each edition, and at the one in force

module _ (e : ℕ) where
  pub one_form_edition : (s t : List ℕ) → (rules (edition_of e) s).number ≡ 0 → (rules (edition_of e) t).number ≡ 0
      → OneForm (edition_of e) (normal_form s) (normal_form t)
  one_form_edition = one_form_accepted (edition_of e) (edition_plain e) (edition_stretch e) (edition_short e)

  pub one_written_edition : OneWritten (edition_of e)
  one_written_edition = one_written (edition_of e) (edition_plain e)

pub one_form_today : (s t : List ℕ) → (rules today s).number ≡ 0 → (rules today t).number ≡ 0 → OneForm today (normal_form s) (normal_form t)
one_form_today = one_form_edition 4

pub one_written_today : OneWritten today
one_written_today = one_written_edition 4

-- and of two calls that are lent one table of kanji, whatever it holds, within one edition
pub one_written_lent : (table : List ℕ) (e : ℕ) → OneWritten (edition_with table e)
one_written_lent table e = one_written (edition_with table e) (lent_plain table e)

-- ---- what it needs

-- that ASCII forms tell apart the texts which these rules accept, and whose forms are given
abbrev pub TellsApart : (Permits → List ℕ → Verdict) → Permits → Type 0
TellsApart said P = (s t : List ℕ) → (said P s).number ≡ 0 → (said P t).number ≡ 0 → Coded P s → Coded P t → OneForm P (normal_form s) (normal_form t)

-- it does not hold where two names share a form
breaks : {said : Permits → List ℕ → Verdict} {P : Permits} {k : Class} {s t : List ℕ} → Share said P k s t → TellsApart said P → ⊥
breaks {s = s} {t = t} S all =
    let e = (all s t (ap (λ (v : Verdict). v.number) S.one) (ap (λ (v : Verdict). v.number) S.other) S.one_coded S.other_coded).0 S.alike in
    clash (same_refl (normal_form t)) (ap (λ (x : List ℕ). same x (normal_form t)) (sym e) ∙ S.apart)

pub shared_today : Share (rules_but 17) today General (general encoded) (general kana)
shared_today = lending (λ (P : Permits). Share (rules_but 17) P General (general encoded) (general kana)) 4 refl shared

-- so it needs rule 17
pub needs_17 : TellsApart (rules_but 17) today → ⊥
needs_17 = breaks shared_today

-- and, of an edition that keeps all other laws, that no prefecture label seems encoded
pub twins_laws : Laws twins
unfolding within all_of any_of elem alnum hyphen ascii_set kinds signs signs_in stretch kind_among kind_by any_kind kanji_with kind_with ja_char label_char is_empty twins
twins_laws = record {
  there_is = refl;
  stretch = λ c e. with_bounds kanji_bits 4 c e;
  middle_chars = refl;
  middle_filled = refl;
  middle_short = refl;
  middle_three = λ l e. refl;
}

pub needs_plain : TellsApart rules twins → ⊥
needs_plain = breaks shared_middles
