-- Each of the four editions keeps the laws (proofs/Editions), so the theorems hold of it; the edition in force is edition 4. By any other
-- number every text is refused with 25, and has no hope.
-- Assumes nothing.
use mathlib.Core.Path.{◌≡◌, refl, ◌∙◌}
use mathlib.Core.Bool.{true, false}
use mathlib.Core.List.{List, map}
use mathlib.Core.Logic.{◌↔◌}
use Prim.Native.Nat.{ℕ, ◌≤◌}
use lib.ListN.{length}
use Rattle.lists.specs.Tests.{pick, within}
use Rattle.lists.specs.Rows.{Clear}
use Rattle.lists.proofs.Laws.{by_test}
use Rattle.characters.specs.Characters.{kind, any_kind, japanese}
use Rattle.characters.specs.KanjiBits.{kanji_bits}
use Rattle.characters.specs.Kinds.{Kanji, None}
use Rattle.normal.specs.Normal.{normal_form}
use Rattle.rules.specs.Rules.{rules, rules_but, accepted, refused, Sound}
use Rattle.rules.specs.Grammar.{Derives}
use Rattle.rules.specs.Pretends.{PRETENDS, Admitted}
use Rattle.rules.specs.Hosts.{host_text_rows, host}
use Rattle.rules.specs.Reader.{reader}
use Rattle.rules.specs.Editions.{is_edition, has_prefectures, middles_in, edition_of, today}
use Rattle.rules.specs.Permits.{Permits, ja_char}
use Rattle.rules.specs.Tried.{said, meant, table, tried}
use Rattle.rules.specs.HopefulTried.{Tells, tried_hopeful}
use Rattle.rules.specs.EditionsTried.{AsTried, as_tried}
use Rattle.rules.specs.Hopeful.{MayBecome, hopeful}
use Rattle.rules.specs.Verdicts.{Class}
use Rattle.rules.proofs.ReaderAgrees.{reader_agrees}
use Rattle.rules.proofs.Exactly.{before_derives, accepted_derives, shrank, refused_17}
use Rattle.rules.proofs.Hosts.{clear_exactly}
use Rattle.rules.proofs.Steps.{text_25}
use Rattle.rules.proofs.Editions.{edition_laws, edition_hope_laws, edition_japanese, today_laws, lending, lending_all}
use Rattle.rules.proofs.Hopeful.{hopeful_exactly}
use Rattle.rules.proofs.AnyKind.{same_rules}

-- ---- within each of the four

module _ (e : ℕ) (there_is : is_edition e ≡ true) where
  -- a text is accepted as a name of class k exactly where its normal form derives as one and does not pretend
  pub accepted_edition : (text : List ℕ) (k : Class) → (rules (edition_of e) text ≡ accepted k) ↔ Admitted (edition_of e) k (normal_form text)
  accepted_edition = accepted_derives (edition_of e) (edition_laws e there_is)

  -- without row 17 exactly where it derives; so the names that are accepted shrank by those that pretend, which are refused with 17 at place 0
  pub before_edition : (text : List ℕ) (k : Class) → (rules_but 17 (edition_of e) text ≡ accepted k) ↔ Derives (edition_of e) k (normal_form text)
  before_edition = before_derives (edition_of e) (edition_laws e there_is)

  pub shrank_edition : (text : List ℕ) (k : Class)
      → (rules (edition_of e) text ≡ accepted k) ↔ ((rules_but 17 (edition_of e) text ≡ accepted k) × (PRETENDS (normal_form text) → ⊥))
  shrank_edition = shrank (edition_of e) (edition_laws e there_is)

  pub refused_17_edition : (text : List ℕ) (k : Class) → rules_but 17 (edition_of e) text ≡ accepted k → PRETENDS (normal_form text)
      → rules (edition_of e) text ≡ refused 17 0
  refused_17_edition = refused_17 (edition_of e) (edition_laws e there_is)

  -- the second reader says yes exactly where a leftmost label is not empty, holds only what it may, and none of 7 to 10 applies
  pub reader_edition : (l : List ℕ) → (reader (edition_of e) l ≡ true) ↔ Sound (edition_of e) 3 l
  reader_edition = reader_agrees (edition_of e) (edition_laws e there_is)

  -- a text is hopeful exactly where it may become a name: some continuation of it, the empty one included, is accepted
  pub hopeful_edition : (text : List ℕ) → (hopeful (edition_of e) text ≡ true) ↔ MayBecome (edition_of e) text
  hopeful_edition = hopeful_exactly (edition_of e) (edition_hope_laws e there_is)

-- ---- by a number that is none of them

pub unknown_25 : (e : ℕ) → is_edition e ≡ false → (text : List ℕ) → rules (edition_of e) text ≡ refused 25 0
unknown_25 e h text = text_25 (edition_of e) text (unfold edition_of in h)

pub unknown_hopeless : (e : ℕ) → is_edition e ≡ false → (text : List ℕ) → hopeful (edition_of e) text ≡ false
unfolding edition_of hopeful
unknown_hopeless e h text = rw h

-- ---- at the one in force

pub accepted_today : (text : List ℕ) (k : Class) → (rules today text ≡ accepted k) ↔ Admitted today k (normal_form text)
unfolding within
accepted_today = accepted_edition 4 refl

pub before_today : (text : List ℕ) (k : Class) → (rules_but 17 today text ≡ accepted k) ↔ Derives today k (normal_form text)
unfolding within
before_today = before_edition 4 refl

pub shrank_today : (text : List ℕ) (k : Class)
    → (rules today text ≡ accepted k) ↔ ((rules_but 17 today text ≡ accepted k) × (PRETENDS (normal_form text) → ⊥))
unfolding within
shrank_today = shrank_edition 4 refl

pub refused_17_today : (text : List ℕ) (k : Class) → rules_but 17 today text ≡ accepted k → PRETENDS (normal_form text) → rules today text ≡ refused 17 0
unfolding within
refused_17_today = refused_17_edition 4 refl

pub reader_today : (l : List ℕ) → (reader today l ≡ true) ↔ Sound today 3 l
unfolding within
reader_today = reader_edition 4 refl

pub hopeful_today : (text : List ℕ) → (hopeful today text ≡ true) ↔ MayBecome today text
unfolding within
hopeful_today = hopeful_edition 4 refl

-- none of 2 to 10 and 17 applies to a text as a host exactly where it has at most 256 code points and its normal form derives as one; hosts
-- stay with this edition
pub hosts_today : (text : List ℕ) → Clear (host_text_rows today text) ↔ ((length text ≤ 256) × host today (normal_form text))
hosts_today = clear_exactly today today_laws

-- ---- to ask for kinds changed no answer (document 02, K6)

-- an edition with a yes or no in place of kinds: yes is said of its Japanese characters, in edition 4 those that document 01 lists
abbrev pub yes_or_no : ℕ → Permits
yes_or_no e = record { known = is_edition e; kind = λ c. pick (japanese e c) Kanji None; middles = middles_in e; three = has_prefectures e }

yes_is_any : (e c : ℕ) → any_kind (kind e c) ≡ any_kind (pick (japanese e c) Kanji None)
unfolding edition_of ja_char any_kind
yes_is_any e c = edition_japanese e c ∙ by_test (λ b. b ≡ any_kind (pick b Kanji None)) (japanese e c) (λ q. refl) (λ q. refl)

pub as_before : (e : ℕ) (text : List ℕ) → rules (edition_of e) text ≡ rules (yes_or_no e) text
unfolding edition_of
as_before e = same_rules (kind e) _ (yes_is_any e) (is_edition e) (middles_in e) (has_prefectures e)

-- ---- what was computed by the bits of the kanji holds of it, and of every edition

pub tried_today : map (said today) table ≡ map meant table
tried_today = lending (λ (P : Permits). map (said P) table ≡ map meant table) 4 refl tried

pub tried_hopeful_today : Tells today
tried_hopeful_today = lending Tells 4 refl tried_hopeful

pub tried_editions : AsTried edition_of
tried_editions = lending_all AsTried {table = kanji_bits} refl as_tried
