-- A part of a buffer that is lent to a call: what is put at its start stands in the buffer from where the part begins, since all past
-- it is as it was.
-- Assumes nothing.
use mathlib.Core.Path.{◌≡◌, sym, ap, ◌∙◌}
use mathlib.Core.List.{List, ◌++◌, append_assoc}
use Prim.Native.Nat.{ℕ, ◌+◌, ◌-◌, ◌≤◌}
use native.Mathlib.Omega.{arith}
use lib.ListN.{length, take, drop, length-take, length-drop, take-append-drop}
use lib.Seq.{take_all, drop-drop, drop-append-le}
use Rattle.lists.specs.Front.{Puts}

-- the part of s from a on, as it is lent
pub tail_part : (s : List ℕ) (a : ℕ) → take (length s - a) (drop a s) ≡ drop a s
tail_part s a = take_all (length s - a) (drop a s) (omega (arith, length-drop a s))

-- the part from 0 up to n
pub head_part : (s : List ℕ) (n : ℕ) → take (n - 0) (drop 0 s) ≡ take n s
head_part s n = let e : n - 0 ≡ n = omega arith in ap (λ (m : ℕ). take m s) e

-- a call that leaves the part from o on as it was leaves the buffer as it was
pub lent_back : (o : ℕ) (out : List ℕ) {last : List ℕ} → last ≡ take (length out - o) (drop o out) → take o out ++ (last ++ drop (length out - o) (drop o out)) ≡ out
lent_back o out e = rw (e, take-append-drop (length out - o) (drop o out)) (take-append-drop o out)

-- what a call puts at the start of the part of m entries from o on
pub lent : (o m : ℕ) (out : List ℕ) {ys last : List ℕ} {k : ℕ} → o ≤ length out → Puts ys (take m (drop o out)) last 0 k
    → Puts ys out (take o out ++ (last ++ drop m (drop o out))) o (o + k)
lent o m out {ys} {k = k} h p =
    let d : List ℕ = drop o out in
    let back : drop k (take m d) ++ drop m d ≡ drop (o + k) out =
    sym (drop-append-le k (take m d) (drop m d) p.room) ∙ ap (drop k) (take-append-drop m d) ∙ drop-drop k o out in
    record {
      place = omega (arith, p.place);
      room = omega (arith, p.room, length-take m d, length-drop o out);
      buffer =
          ap (λ (l : List ℕ). take o out ++ (l ++ drop m d)) p.buffer
          ∙ ap (λ (l : List ℕ). take o out ++ l) (append_assoc ys (drop k (take m d)) (drop m d) ∙ ap (λ (l : List ℕ). ys ++ l) back)
          ∙ sym (append_assoc (take o out) ys (drop (o + k) out));
    }
