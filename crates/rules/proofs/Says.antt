-- Each class of characters in the grammar has a test that holds of exactly its members; so a repetition of the class is a list of
-- which the test holds throughout.
-- Assumes nothing.
use mathlib.Core.Path.{◌≡◌, refl}
use mathlib.Core.Bool.{Bool, true, false, ◌||◌}
use mathlib.Core.List.{List, [], ◌∷◌}
use mathlib.Core.Logic.{◌↔◌}
use Prim.Native.Nat.{ℕ}
use lib.Dec.{eqb}
use borrow.Author.Tests.{eqb-true, eq-eqb}
use Rattle.lists.specs.Tests.{within, all_of}
use Rattle.lists.proofs.Laws.{both, or_left, or_right, inside, in_range}
use Rattle.characters.specs.Characters.{alnum, hyphen, ascii_set}
use Rattle.rules.specs.Permits.{Permits, ja_char, label_char}
use Rattle.rules.specs.Rules.{is_middle_dot}
use Rattle.rules.specs.Grammar as G

abbrev pub Says : (ℕ → Bool) → (ℕ → Type 0) → Type 0
Says f R = (c : ℕ) → (f c ≡ true) ↔ R c

-- ---- repetition

module _ (f : ℕ → Bool) (R : ℕ → Type 0) (p : Says f R) where
  pub star_all : {l : List ℕ} → G.Star R l → all_of f l ≡ true
  unfolding all_of
  star_all G.none = refl
  star_all (G.more {c = c} r s) = rw ((p c).1 r) (star_all s)

  pub all_star : (l : List ℕ) → all_of f l ≡ true → G.Star R l
  unfolding all_of
  all_star [] e = G.none
  all_star (x ∷ xs) e = let h = both (f x) (all_of f xs) e in G.more ((p x).0 h.0) (all_star xs h.1)

-- ---- a choice

or_says : (f g : ℕ → Bool) (R S : ℕ → Type 0) → Says f R → Says g S → Says (λ (c : ℕ). f c || g c) (G.Or R S)
or_says f g R S p q c = (go (f c) refl, back)
  where
    go : (b : Bool) → f c ≡ b → b || g c ≡ true → G.Or R S c
    go true e h = G.left ((p c).0 e)
    go false e h = G.right ((q c).0 h)

    back : G.Or R S c → f c || g c ≡ true
    back (G.left r) = or_left (f c) (g c) ((p c).1 r)
    back (G.right r) = or_right (f c) (g c) ((q c).1 r)

-- ---- the classes

pub alnum_says : Says alnum G.ALNUM
unfolding alnum
alnum_says c = (go (within 0x30 0x39 c) refl, back)
  where
    go : (b : Bool) → within 0x30 0x39 c ≡ b → b || within 0x61 0x7A c ≡ true → G.ALNUM c
    go true e h = let k = in_range 0x30 0x39 c e in G.digit k.0 k.1
    go false e h = let k = in_range 0x61 0x7A c h in G.letter k.0 k.1

    back : G.ALNUM c → within 0x30 0x39 c || within 0x61 0x7A c ≡ true
    back (G.letter p q) = or_right (within 0x30 0x39 c) (within 0x61 0x7A c) (inside 0x61 0x7A c p q)
    back (G.digit p q) = or_left (within 0x30 0x39 c) (within 0x61 0x7A c) (inside 0x30 0x39 c p q)

pub hyphen_says : Says hyphen G.HYPHEN
unfolding hyphen
hyphen_says c = (λ e. G.hyphen (eqb-true c 0x2D e), back)
  where
    back : G.HYPHEN c → eqb c 0x2D ≡ true
    back (G.hyphen e) = eq-eqb c 0x2D e

pub ascii_says : Says ascii_set G.ALNUM-HYPHEN
unfolding ascii_set
ascii_says = or_says alnum hyphen G.ALNUM G.HYPHEN alnum_says hyphen_says

pub dot_says : Says is_middle_dot G.MIDDLE-DOT
unfolding is_middle_dot
dot_says c = (λ e. G.dot (eqb-true c 0x30FB e), back)
  where
    back : G.MIDDLE-DOT c → eqb c 0x30FB ≡ true
    back (G.dot e) = eq-eqb c 0x30FB e

-- what a Japanese label may hold beside its ordinary characters
unfoldable pub exception : ℕ → Bool
exception c = eqb c 0x3006 || (eqb c 0x30FC || is_middle_dot c)

unfoldable pub exceptional : ℕ → Bool
exceptional c = exception c || ascii_set c

exception_says : Says exception G.EXCEPTION-char
unfolding exception
exception_says c = (go (eqb c 0x3006) refl (eqb c 0x30FC) refl, back)
  where
    go : (a : Bool) → eqb c 0x3006 ≡ a → (b : Bool) → eqb c 0x30FC ≡ b → a || (b || is_middle_dot c) ≡ true → G.EXCEPTION-char c
    go true p b q h = G.closing (eqb-true c 0x3006 p)
    go false p true q h = G.prolonged (eqb-true c 0x30FC q)
    go false p false q h = G.middle_dot ((dot_says c).0 h)

    back : G.EXCEPTION-char c → eqb c 0x3006 || (eqb c 0x30FC || is_middle_dot c) ≡ true
    back (G.closing e) = or_left (eqb c 0x3006) _ (eq-eqb c 0x3006 e)
    back (G.prolonged e) = or_right (eqb c 0x3006) _ (or_left (eqb c 0x30FC) (is_middle_dot c) (eq-eqb c 0x30FC e))
    back (G.middle_dot d) = or_right (eqb c 0x3006) _ (or_right (eqb c 0x30FC) (is_middle_dot c) ((dot_says c).1 d))

pub exceptional_says : Says exceptional (G.Or G.EXCEPTION-char G.ALNUM-HYPHEN)
unfolding exceptional
exceptional_says = or_says exception ascii_set G.EXCEPTION-char G.ALNUM-HYPHEN exception_says ascii_says

module _ (P : Permits) where
  pub ja_says : Says (ja_char P) (G.JA-char P)
  ja_says c = (λ e. G.ja e, back)
    where
      back : G.JA-char P c → ja_char P c ≡ true
      back (G.ja e) = e

  pub label_says : Says (label_char P) (G.JA-or-ALNUM-HYPHEN P)
  unfolding label_char
  label_says = or_says (ja_char P) ascii_set (G.JA-char P) G.ALNUM-HYPHEN ja_says ascii_says

  -- what a label may begin and end with
  unfoldable pub edge_char : ℕ → Bool
  edge_char c = ja_char P c || alnum c

  pub edge_says : Says edge_char (G.Or (G.JA-char P) G.ALNUM)
  unfolding edge_char
  edge_says = or_says (ja_char P) alnum (G.JA-char P) G.ALNUM ja_says alnum_says
