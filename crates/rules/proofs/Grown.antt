-- What may grow is carried on to a name that is admitted by characters that nothing replaces and no mark: what was tried, the rest of a
-- prefecture label, a period, the rest of jp.
-- Assumes nothing.
use mathlib.Core.Path.{◌≡◌, refl, sym, ◌∙◌}
use mathlib.Core.Bool.{Bool, true, false, ◌||◌, false≢true}
use mathlib.Core.List.{List, [], ◌∷◌, ◌++◌, append_assoc}
use Prim.Native.Nat.{ℕ}
use native.Mathlib.Omega.{arith}
use Rattle.lists.specs.Tests.{within, all_of, any_of}
use Rattle.lists.proofs.Laws.{both, or_right, either, in_range, all_append, all_weaker}
use Rattle.characters.specs.Characters.{alnum, ascii_set}
use Rattle.characters.specs.Replace.{ranges, range_in, is_half, replace_in, replace}
use Rattle.characters.proofs.Classes.{stays, ascii_stays}
use Rattle.normal.proofs.Unchanged.{unchanged, unchanged_by}
use Rattle.rules.specs.Labels.{join}
use Rattle.rules.specs.Permits.{Permits, ja_char, Laws, label_char, middle}
use Rattle.rules.specs.Rules.{of_name, pretends, jp, Sound}
use Rattle.rules.specs.Pretends.{Admitted}
use Rattle.rules.specs.Hopeful.{begins, leftmost, filler, tries, grows, settled, HopeLaws}
use Rattle.rules.specs.Verdicts.{Class}
use Rattle.rules.specs.Verdicts.{General, Prefecture}
use Rattle.rules.proofs.Sound.{ascii_range}
use Rattle.rules.proofs.Derived.{of_middle}
use Rattle.rules.proofs.Pretends.{general_admitted, prefecture_admitted}
use Rattle.rules.proofs.Growing.{end_jp, dot_jp, begins_is, one_of, leftmost_sound}

-- ---- what stays as it is

settled_unchanged : (c : ℕ) → settled c ≡ true → unchanged c ≡ true
unfolding settled
settled_unchanged c e = either (ascii_set c) _ e
    (λ p. let h = ascii_range c p in unchanged_by c (ascii_stays c p) (λ z. omega arith) (λ z. omega arith))
    (λ p. let h = in_range 0x4E00 0x9FA0 c p in unchanged_by c (stays c (omega arith) (omega arith)) (λ z. omega arith) (λ z. omega arith))

dot_jp_unchanged : all_of unchanged dot_jp ≡ true
unfolding all_of unchanged replace replace_in is_half ranges range_in within
dot_jp_unchanged = refl

jp_unchanged : all_of unchanged jp ≡ true
unfolding jp all_of
jp_unchanged = (both (unchanged 0x2E) (all_of unchanged end_jp) dot_jp_unchanged).1

unchanged_rest : (w l r : List ℕ) → w ≡ l ++ r → all_of unchanged w ≡ true → all_of unchanged r ≡ true
unchanged_rest w l r e u = (both (all_of unchanged l) (all_of unchanged r) (sym (all_append unchanged l r) ∙ (rw e at u))).1

unchanged_jp : (r : List ℕ) → all_of unchanged r ≡ true → all_of unchanged (r ++ dot_jp) ≡ true
unchanged_jp r u = all_append unchanged r dot_jp ∙ rw u dot_jp_unchanged

module _ (P : Permits) (H : HopeLaws P) where
  abbrev L : Laws P
  L = H.laws

  -- a text that more such characters carry on to a name
  pub record Grown (t : List ℕ) : Type 0 where
    pub more : List ℕ
    pub kind : Class
    pub stays : all_of unchanged more ≡ true
    pub admitted : Admitted P kind (t ++ more)

  module _ (l : List ℕ) (w : all_of (label_char P) l ≡ true) where
    -- ---- one label

    first_on : (r : List ℕ) → all_of (label_char P) r ≡ true → all_of unchanged r ≡ true → leftmost P (l ++ r) ≡ true → Grown l
    first_on r v u e =
        let S = leftmost_sound P (l ++ r) (all_append (label_char P) l r ∙ rw (w, v)) e in
        record {
          more = r ++ dot_jp;
          kind = General;
          stays = unchanged_jp r u;
          admitted = rw (← append_assoc l r dot_jp) (general_admitted P L S.0 S.1);
        }

    first_grown : any_of (λ (r : List ℕ). leftmost P (l ++ r)) tries ≡ true → Grown l
    unfolding tries any_of all_of label_char ascii_set alnum within unchanged replace replace_in is_half ranges range_in
    first_grown e = go (leftmost P (l ++ [])) refl (leftmost P (l ++ filler ∷ [])) refl (leftmost P (l ++ 0x61 ∷ [])) refl e
      where
        go : (a : Bool) → leftmost P (l ++ []) ≡ a → (b : Bool) → leftmost P (l ++ filler ∷ []) ≡ b → (c : Bool) → leftmost P (l ++ 0x61 ∷ []) ≡ c
            → a || (b || (c || false)) ≡ true → Grown l
        go true p b q c s h = first_on [] refl refl p
        go false p true q c s h = first_on (filler ∷ []) (rw H.tried) refl q
        go false p false q true s h = first_on (0x61 ∷ []) (rw (or_right (ja_char P 0x61) true refl)) refl s
        go false p false q false s h = absurd (false≢true h)

    -- ---- two labels, and three

    module _ (e : leftmost P l ≡ true) where
      left : Sound P 3 l × (pretends P of_name l ≡ false)
      left = leftmost_sound P l w e

      jp_on : (m : List ℕ) → begins m jp ≡ true → Grown (l ++ 0x2E ∷ m)
      unfolding jp
      jp_on m e =
          let k = begins_is m jp e in
          record {
            more = k.0;
            kind = General;
            stays = unchanged_rest jp m k.0 k.1 jp_unchanged;
            admitted = rw (append_assoc l (0x2E ∷ m) k.0, ← k.1) (general_admitted P L left.0 left.1);
          }

      middle_on : (m : List ℕ) → any_of (begins m) P.middles ≡ true → Grown (l ++ 0x2E ∷ m)
      middle_on m e =
          let c = one_of (begins m) P.middles e in
          let k = begins_is m c.0 c.1 in
          let p : middle P c.0 ≡ true = unfold middle in c.2 in
          let u = all_weaker settled unchanged settled_unchanged c.0 (of_middle P (all_of settled) c.0 H.middle_settled p) in
          record {
            more = k.0 ++ dot_jp;
            kind = Prefecture;
            stays = unchanged_jp k.0 (unchanged_rest c.0 m k.0 k.1 u);
            admitted =
                rw (append_assoc l (0x2E ∷ m) (k.0 ++ dot_jp), ← append_assoc m k.0 dot_jp, ← k.1)
                (prefecture_admitted P L left.0 left.1 c.0 p);
          }

      last_on : (m z : List ℕ) → middle P m ≡ true → begins z jp ≡ true → Grown (l ++ 0x2E ∷ (m ++ 0x2E ∷ z))
      unfolding jp
      last_on m z p e =
          let k = begins_is z jp e in
          record {
            more = k.0;
            kind = Prefecture;
            stays = unchanged_rest jp z k.0 k.1 jp_unchanged;
            admitted =
                rw (append_assoc l (0x2E ∷ (m ++ 0x2E ∷ z)) k.0, append_assoc m (0x2E ∷ z) k.0, ← k.1)
                (prefecture_admitted P L left.0 left.1 m p);
          }

  pub grown : (ls : List (List ℕ)) → all_of (all_of (label_char P)) ls ≡ true → grows P ls ≡ true → Grown (join ls)
  unfolding grows join all_of
  grown [] w e = absurd (false≢true e)
  grown (l ∷ []) w e = first_grown l (both (all_of (label_char P) l) true w).0 e
  grown (l ∷ m ∷ []) w e =
      let k = both (leftmost P l) _ e in
      let v = (both (all_of (label_char P) l) _ w).0 in
      either (begins m jp) _ k.1 (λ p. jp_on l v k.0 m p) (λ p. middle_on l v k.0 m p)
  grown (l ∷ m ∷ z ∷ []) w e =
      let k = both (leftmost P l) _ e in
      let h = both (middle P m) (begins z jp) k.1 in
      last_on l (both (all_of (label_char P) l) _ w).0 k.0 m z h.0 h.1
  grown (l ∷ m ∷ z ∷ y ∷ ls) w e = absurd (false≢true e)
