-- The normal form is no longer than the text and no shorter than half of it, is its own normal form, and holds no
-- upper-case letter: what is composed is not replaced, is no mark, and is never a base again.
-- Assumes nothing.
use mathlib.Core.Path.{◌≡◌, refl, sym, ap, ◌∙◌}
use mathlib.Core.Bool.{false}
use mathlib.Core.List.{List, [], ◌∷◌, map}
use Prim.Native.Nat.{ℕ, ◌*◌, ◌≤◌}
use native.Mathlib.Omega.{arith}
use lib.ListN.{length, get_or, drop, length-map}
use Rattle.lists.specs.Tests.{within, any_of}
use Rattle.characters.specs.Replace.{replace}
use Rattle.characters.specs.Compose.{composed}
use Rattle.characters.proofs.Classes.{twice, not_upper}
use Rattle.characters.proofs.Pairs.{unreplaced, no_mark, no_base}
use Rattle.normal.specs.Normal.{Placed, normal_placed, normal_form, places}
use Rattle.normal.proofs.Plain.{join_all, plain, join_stays, by_pair, join_baseless}

-- ---- the length

record Sized (n : ℕ) (l : List ℕ) : Type 0 where
  pub no_more : length l ≤ n
  pub half : n ≤ 2 * length l

sized : (xs : List ℕ) → Sized (length xs) (join_all xs)
unfolding join_all
sized [] = record { no_more = omega arith; half = omega arith }
sized (x ∷ []) = record { no_more = omega arith; half = omega arith }
sized (b ∷ m ∷ rest) = by_pair b m rest (Sized (length (b ∷ m ∷ rest))) (λ e. stays (sized (m ∷ rest))) (joins (sized rest))
  where
    stays : Sized (length (m ∷ rest)) (join_all (m ∷ rest)) → Sized (length (b ∷ m ∷ rest)) (b ∷ join_all (m ∷ rest))
    stays s = record { no_more = omega arith; half = omega arith }

    joins : Sized (length rest) (join_all rest) → Sized (length (b ∷ m ∷ rest)) (composed b m ∷ join_all rest)
    joins s = record { no_more = omega arith; half = omega arith }

module _ (t : List ℕ) where
  form_sized : Sized (length t) (normal_form t)
  form_sized = rw (plain t, ← length-map t replace) (sized (map replace t))

  pub no_longer : length (normal_form t) ≤ length t
  no_longer = form_sized.no_more

  pub not_twice : length t ≤ 2 * length (normal_form t)
  not_twice = form_sized.half

  -- each character has its place
  pub places_length : length (places t) ≡ length (normal_form t)
  unfolding places normal_form
  places_length = length-map (normal_placed t) (λ (p : Placed). p.began) ∙ sym (length-map (normal_placed t) (λ (p : Placed). p.code))

-- ---- the normal form of the normal form

map_twice : (t : List ℕ) → map replace (map replace t) ≡ map replace t
map_twice [] = refl
map_twice (x ∷ xs) = rw (twice x, map_twice xs)

-- nothing of a list is replaced
abbrev Unreplaced : List ℕ → Type 0
Unreplaced l = map replace l ≡ l

cons : (x : ℕ) (xs : List ℕ) → replace x ≡ x → Unreplaced xs → Unreplaced (x ∷ xs)
cons x xs e f = rw (e, f)

head_of : (x : ℕ) (xs : List ℕ) → Unreplaced (x ∷ xs) → replace x ≡ x
head_of x xs e = ap (λ (l : List ℕ). get_or l 0 0) e

tail_of : (x : ℕ) (xs : List ℕ) → Unreplaced (x ∷ xs) → Unreplaced xs
tail_of x xs e = ap (drop 1) e

join_unreplaced : (xs : List ℕ) → Unreplaced xs → Unreplaced (join_all xs)
unfolding join_all
join_unreplaced [] e = refl
join_unreplaced (x ∷ []) e = e
join_unreplaced (b ∷ m ∷ rest) e =
    let later = tail_of b (m ∷ rest) e in
    by_pair b m rest Unreplaced
    (λ z. cons b (join_all (m ∷ rest)) (head_of b (m ∷ rest) e) (join_unreplaced (m ∷ rest) later))
    (cons (composed b m) (join_all rest) (unreplaced b m) (join_unreplaced rest (tail_of m rest later)))

-- a composed list after b, to which its first is not joined
after : (b m : ℕ) (rest : List ℕ) → composed b m ≡ 0 → join_all (b ∷ join_all (m ∷ rest)) ≡ b ∷ join_all (join_all (m ∷ rest))
unfolding join_all
after b m [] e = join_stays b m [] e
after b m (x ∷ xs) e =
    by_pair m x xs (λ (l : List ℕ). join_all (b ∷ l) ≡ b ∷ join_all l)
    (λ z. join_stays b m (join_all (x ∷ xs)) e) (join_stays b (composed m x) (join_all xs) (no_mark m x b))

again : (xs : List ℕ) → join_all (join_all xs) ≡ join_all xs
unfolding join_all
again [] = refl
again (x ∷ []) = refl
again (b ∷ m ∷ rest) =
    by_pair b m rest (λ (l : List ℕ). join_all l ≡ l)
    (λ e. after b m rest e ∙ ap (λ (l : List ℕ). b ∷ l) (again (m ∷ rest)))
    (join_baseless (composed b m) (join_all rest) (no_base b m) ∙ ap (λ (l : List ℕ). composed b m ∷ l) (again rest))

pub unreplaced_form : (t : List ℕ) → map replace (normal_form t) ≡ normal_form t
unreplaced_form t = rw (plain t) (join_unreplaced (map replace t) (map_twice t))

pub idempotent : (t : List ℕ) → normal_form (normal_form t) ≡ normal_form t
idempotent t = plain (normal_form t) ∙ ap join_all (unreplaced_form t) ∙ ap join_all (plain t) ∙ again (map replace t) ∙ sym (plain t)

-- ---- upper-case letters

none_upper : (l : List ℕ) → Unreplaced l → any_of (within 0x41 0x5A) l ≡ false
unfolding any_of
none_upper [] e = refl
none_upper (x ∷ xs) e = rw (not_upper x (head_of x xs e)) (none_upper xs (tail_of x xs e))

pub no_upper : (t : List ℕ) → any_of (within 0x41 0x5A) (normal_form t) ≡ false
no_upper t = none_upper (normal_form t) (unreplaced_form t)
