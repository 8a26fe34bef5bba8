-- What is asked of a label, test by test: each return of the code is one row of the rules, or one case of a test.
-- Assumes nothing.
use mathlib.Core.Path.{◌≡◌, refl, sym, ap, ◌∙◌}
use mathlib.Core.Bool.{Bool, true, false, not, ◌&&◌, ◌||◌, or-false}
use mathlib.Core.List.{List, [], ◌∷◌}
use Prim.Native.Nat.{ℕ, ◌-◌, ◌≤◌, ◌<◌}
use native.Mathlib.Omega.{arith}
use lib.Dec.{eqb, ltb}
use lib.ListN.{length, get_or}
use borrow.Author.Tests.{lt-ltb, eq-eqb, ne_eqb, eqb-true, eqb-false}
use Rattle.lists.specs.Tests.{pick, within, any_of, elem}
use Rattle.lists.specs.Rows.{row, first, Answer}
use Rattle.lists.proofs.Laws.{clash, any_weaker}
use Rattle.lists.proofs.Tables.{clear, hit, passed_over}
use Rattle.characters.specs.Characters.{ascii_set, hyphen, kinds, signs, stretch, kind_among, kind_by, any_kind, kanji_with, kind_with}
use Rattle.characters.specs.declared.Edition.{Edition}
use Rattle.characters.proofs.Bounds.{with_below}
use Rattle.characters.proofs.OneKind.{sign_is}
use Rattle.rules.specs.Permits.{Permits, ja_char, label_char}
use Rattle.rules.specs.Rules.{is_middle_dot, ordinary, is_japanese, begins_with_hyphen, ends_with_hyphen, hyphen_edge, short, long, pretends_as, pretends, bare_dot, label_rows}
use Rattle.rules.specs.declared.Asks.{Asks}
use Rattle.rules.specs.Editions.{edition_with, permits}
use Rattle.rules.proofs.Sound.{ascii_range}
use Rattle.rules.proofs.Steps.{edge_at}
use Rattle.labels.specs.Known.{known_rows}

-- ---- one character

module _ (E : Edition) (c : ℕ) where
  pub ja_low : c < 0x3003 → false ≡ ja_char (permits E) c
  unfolding ja_char edition_with
  ja_low h = sym (with_below E.kanji.now E.number c h)

  pub in_ascii : {a : Bool} → c < 0x80 → a ≡ ascii_set c → a ≡ label_char (permits E) c
  unfolding label_char
  in_ascii h e = e ∙ rw (← ja_low (omega arith))

  pub in_japanese : {j : Bool} → 0x80 ≤ c → j ≡ any_kind (kind_with E.kanji.now E.number c) → j ≡ label_char (permits E) c
  unfolding label_char ja_char edition_with
  in_japanese h e = e ∙ go (ascii_set c) refl
    where
      go : (a : Bool) → ascii_set c ≡ a → any_kind (kind_with E.kanji.now E.number c) ≡ any_kind (kind_with E.kanji.now E.number c) || ascii_set c
      go true p = absurd (let r = ascii_range c p in omega arith)
      go false p = rw p (sym (or-false (any_kind (kind_with E.kanji.now E.number c))))

-- ---- the middle dot

eqb_turned : (a b : ℕ) → eqb a b ≡ eqb b a
eqb_turned a b = go (eqb b a) refl
  where
    go : (t : Bool) → eqb b a ≡ t → eqb a b ≡ t
    go true e = eq-eqb a b (sym (eqb-true b a e))
    go false e = ne_eqb a b (λ p. eqb-false b a e (sym p))

dots : (l : List ℕ) → elem 0x30FB l ≡ any_of is_middle_dot l
unfolding elem any_of is_middle_dot
dots [] = refl
dots (x ∷ xs) = rw (eqb_turned 0x30FB x) (ap (λ (t : Bool). eqb x 0x30FB || t) (dots xs))

module _ (P : Permits) (l : List ℕ) {d : Bool} (e : d ≡ elem 0x30FB l) where
  pub dot_bare : {o : Bool} → d ≡ true → o ≡ any_of (ordinary P) l → not o ≡ bare_dot P l
  unfolding bare_dot
  dot_bare p q = rw (← dots l, ← e, p, q)

  pub dot_none : d ≡ false → false ≡ bare_dot P l
  unfolding bare_dot
  dot_none p = rw (← dots l, ← e, p)

pub bare_japanese : (P : Permits) (l : List ℕ) {j d : Bool} → j ≡ true → d ≡ bare_dot P l → d ≡ (j && bare_dot P l)
bare_japanese P l e p = rw e p

pub bare_ascii : (P : Permits) (l : List ℕ) {j : Bool} → j ≡ false → false ≡ (j && bare_dot P l)
bare_ascii P l e = rw e

-- ---- the two ends

pub edge_is : (l : List ℕ) → hyphen_edge l ≡ (ltb 0 (length l) && (eqb (get_or l 0 0) 0x2D || eqb (get_or l (length l - 1) 0) 0x2D))
unfolding hyphen_edge begins_with_hyphen ends_with_hyphen hyphen
edge_is [] = refl
edge_is (x ∷ xs) = rw (lt-ltb 0 (length (x ∷ xs)) (omega arith)) (edge_at (x ∷ xs) (λ e. omega arith))

-- ---- 7 to 10 and 17

-- the middle dot is Japanese, whatever table is lent, in every edition
pub lent_dot : (E : Edition) → ja_char (permits E) 0x30FB ≡ true
unfolding ja_char edition_with kind_with kinds stretch kind_among kind_by any_kind kanji_with elem any_of signs within
lent_dot E = rw (sign_is E.number 0x30FB)

-- so an ASCII label has none, and of a label that is what it is taken for the rows are the table's
module _ (P : Permits) (ja : ja_char P 0x30FB ≡ true) (l : List ℕ) where
  dot_ja : (c : ℕ) → is_middle_dot c ≡ true → ja_char P c ≡ true
  unfolding is_middle_dot
  dot_ja c e = ap (ja_char P) (eqb-true c 0x30FB e) ∙ ja

  only_japanese : is_japanese P l && bare_dot P l ≡ bare_dot P l
  unfolding is_japanese bare_dot
  only_japanese = go (any_of (ja_char P) l) refl (any_of is_middle_dot l) refl
    where
      go : (j : Bool) → any_of (ja_char P) l ≡ j → (d : Bool) → any_of is_middle_dot l ≡ d
          → j && (d && not (any_of (ordinary P) l)) ≡ (d && not (any_of (ordinary P) l))
      go true p d q = refl
      go false p true q = clash (any_weaker is_middle_dot (ja_char P) dot_ja l q) p
      go false p false q = refl

  pub rows_are : (A : Asks) (at : ℕ) {j : Bool} → j ≡ is_japanese P l → first (known_rows P j A l at) ≡ first (label_rows P A l at)
  unfolding known_rows label_rows short long pretends
  rows_are A at e = rw (e, only_japanese)

module _ (P : Permits) (j : Bool) (A : Asks) (l : List ℕ) (at : ℕ) {e : Bool} (e7 : e ≡ hyphen_edge l) where
  abbrev Rules : ℕ → ℕ → Type 0
  Rules n p = ◌≡◌ {A = Answer} (record { number = n; place = p }) (first (known_rows P j A l at))

  pub rule_7 : e ≡ true → Rules 7 at
  unfolding known_rows
  rule_7 p = sym (hit 7 _ at _ (sym e7 ∙ p))

  module _ (p : e ≡ false) {s : Bool} (e8 : s ≡ (not j && ltb (length l) A.least)) where
    pub rule_8 : s ≡ true → Rules 8 at
    unfolding known_rows
    rule_8 q = sym (passed_over 7 _ at _ (sym e7 ∙ p) ∙ hit 8 _ at _ (sym e8 ∙ q))

    module _ (q : s ≡ false) {g : Bool} (e9 : g ≡ ltb (pick j 15 63) (length l)) where
      -- the answer of the rows from 9 on
      from_9 : {a : Answer} → first (row 9 (ltb (pick j 15 63) (length l)) at ∷ row 17 (pretends_as j A l) at ∷ row 10 (j && bare_dot P l) at ∷ []) ≡ a
          → first (known_rows P j A l at) ≡ a
      unfolding known_rows
      from_9 r = passed_over 7 _ at _ (sym e7 ∙ p) ∙ passed_over 8 _ at _ (sym e8 ∙ q) ∙ r

      pub rule_9 : g ≡ true → Rules 9 at
      rule_9 r = sym (from_9 (hit 9 _ at _ (sym e9 ∙ r)))

      module _ (r : g ≡ false) {h : Bool} (e17 : h ≡ pretends_as j A l) where
        pub rule_17 : h ≡ true → Rules 17 at
        rule_17 t = sym (from_9 (passed_over 9 _ at _ (sym e9 ∙ r) ∙ hit 17 _ at _ (sym e17 ∙ t)))

        module _ (t : h ≡ false) {d : Bool} (e10 : d ≡ (j && bare_dot P l)) where
          pub rule_10 : d ≡ true → Rules 10 at
          rule_10 u = sym (from_9 (passed_over 9 _ at _ (sym e9 ∙ r) ∙ passed_over 17 _ at _ (sym e17 ∙ t) ∙ hit 10 _ at _ (sym e10 ∙ u)))

          pub rule_0 : d ≡ false → Rules 0 0
          rule_0 u = sym (from_9 (clear _ (sym e9 ∙ r, (sym e17 ∙ t, (sym e10 ∙ u, tt)))))
