-- Pieces that are put one after the other stand together: the next is put where the last one ended, and touches nothing before it.
-- Assumes nothing.
use mathlib.Core.Path.{◌≡◌, refl, sym, ap, ◌∙◌}
use mathlib.Core.List.{List, [], ◌∷◌, ◌++◌, append-nil, append_assoc}
use Prim.Native.Nat.{ℕ, suc, ◌+◌, ◌≤◌, ◌<◌}
use native.Mathlib.Numerals.{add-one}
use native.Mathlib.Omega.{arith}
use lib.ListN.{length, take, drop, set, get_or, length-append, length-drop, take-append-drop}
use lib.Seq.{paste, paste-suc, take_all, take_at, drop_at, drop-drop, set_split, append_snoc, length-take-le}
use Rattle.lists.specs.Front.{written, Puts}

module _ {p b₀ b₁ : List ℕ} {n m : ℕ} (x : Puts p b₀ b₁ n m) where
  head : length (take n b₀ ++ p) ≡ m
  head = length-append (take n b₀) p ∙ omega (arith, length-take-le n b₀ (omega (arith, x.place, x.room)), x.place)

  -- the buffer is as long as it was
  pub puts_length : length b₁ ≡ length b₀
  puts_length = ap length x.buffer ∙ length-append (take n b₀ ++ p) (drop m b₀) ∙ omega (arith, head, length-drop m b₀, x.room)

  -- one piece more
  pub then : {q b₂ : List ℕ} {r : ℕ} → Puts q b₁ b₂ m r → Puts (p ++ q) b₀ b₂ n r
  then {q} {b₂} {r} y =
      let front : take m b₁ ≡ take n b₀ ++ p = ap (take m) x.buffer ∙ take_at (take n b₀ ++ p) (drop m b₀) m head in
      let back : drop m b₁ ≡ drop m b₀ = ap (drop m) x.buffer ∙ drop_at (take n b₀ ++ p) (drop m b₀) m head in
      let rest : drop (m + length q) b₁ ≡ drop (m + length q) b₀ =
      sym (drop-drop (length q) m b₁) ∙ ap (drop (length q)) back ∙ drop-drop (length q) m b₀ in
      record {
        place = omega (arith, length-append p q, x.place, y.place);
        room = omega (arith, y.room, puts_length);
        buffer =
            y.buffer ∙ ap (λ (l : List ℕ). l ++ q ++ drop r b₁) front ∙ ap (λ (k : ℕ). take n b₀ ++ p ++ q ++ drop k b₁) y.place
            ∙ ap (λ (l : List ℕ). take n b₀ ++ p ++ q ++ l) rest ∙ ap (λ (k : ℕ). take n b₀ ++ p ++ q ++ drop k b₀) (sym y.place)
            ∙ ap (λ (l : List ℕ). l ++ drop r b₀) (append_assoc (take n b₀) p q);
      }

  -- inside the buffer, as it is then
  pub puts_inside : m ≤ length b₁
  puts_inside = omega (arith, x.room, puts_length)

-- nothing put leaves all as it was
pub stays : {before : List ℕ} {n : ℕ} → n ≤ length before → Puts [] before before n n
stays {before} {n} h =
    record { place = omega arith; room = h; buffer = sym (take-append-drop n before) ∙ ap (λ (l : List ℕ). l ++ drop n before) (sym (append-nil (take n before))) }

pub nothing : {before : List ℕ} → Puts [] before before 0 0
nothing = stays (omega arith)

-- what is put decides the buffer, and the place past it
pub puts_once : {xs ys before a b : List ℕ} {n m k : ℕ} → xs ≡ ys → Puts xs before a n m → Puts ys before b n k → (a ≡ b) × (m ≡ k)
puts_once {xs} {ys} {before} {n = n} {m} {k} e x y =
    let z : m ≡ k = x.place ∙ ap (λ (l : List ℕ). n + length l) e ∙ sym y.place in
    (x.buffer ∙ ap (λ (l : List ℕ). take n before ++ l ++ drop m before) e ∙ ap (λ (r : ℕ). take n before ++ ys ++ drop r before) z ∙ sym y.buffer, z)

-- put from 0 on it is written at the start, and read back there
module _ {xs before after : List ℕ} {r : ℕ} (x : Puts xs before after 0 r) where
  pub puts_count : r ≡ length xs
  puts_count = omega (arith, x.place)

  pub puts_written : after ≡ written xs before
  unfolding written
  puts_written = x.buffer ∙ ap (λ (k : ℕ). xs ++ drop k before) puts_count

  pub puts_front : take r after ≡ xs
  puts_front = ap (take r) x.buffer ∙ take_at xs (drop r before) r (sym puts_count)

-- ---- a loop that puts s entry by entry, and one entry

pub put_turn : (out₀ out s : List ℕ) (n i : ℕ) → n + length s ≤ length out₀ → i < length s → out ≡ paste out₀ n s i
    → set out (n + i) (get_or s i 0) ≡ paste out₀ n s (i + 1)
put_turn out₀ out s n i h g e = rw (e, add-one i) (paste-suc out₀ n s i 0 (omega arith) g)

pub put_all : (out₀ out s : List ℕ) (n i : ℕ) → n + length s ≤ length out₀ → i ≤ length s → length s ≤ i → out ≡ paste out₀ n s i → Puts s out₀ out n (n + i)
put_all out₀ out s n i r h g e =
    record { place = omega arith; room = omega arith; buffer = e ∙ ap (λ (l : List ℕ). take n out₀ ++ l ++ drop (n + i) out₀) (take_all i s g) }

pub put_one : (out : List ℕ) (n b : ℕ) → n < length out → Puts (b ∷ []) out (set out n b) n (n + 1)
put_one out n b h =
    record { place = refl; room = omega arith; buffer = rw add-one (set_split out n b h ∙ sym (append_snoc (take n out) b (drop (suc n) out))) }
