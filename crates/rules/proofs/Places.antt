-- What starts and lengths cut out of a text of up to three labels are its labels: from each start on the text is that label and those
-- after it, joined. What belongs to no label is 0.
-- Assumes nothing.
use mathlib.Core.Path.{◌≡◌, refl, sym, ap, ◌∙◌}
use mathlib.Core.Bool.{Bool, true, false}
use mathlib.Core.List.{List, [], ◌∷◌, map}
use Prim.Native.Nat.{ℕ, zero, suc, ◌+◌, ◌≤◌}
use native.Mathlib.Omega.{arith}
use lib.Dec.{eqb}
use lib.ListN.{length, take, drop, get_or, length-map, get_or-eq_default}
use lib.Seq.{take-length, take-append_seam, drop-append-add, drop-drop}
use Rattle.lists.specs.Tests.{pick}
use Rattle.rules.specs.Labels.{labels, join}
use Rattle.rules.specs.Places.{starts_from, first_three, label_places, no_places, places_said, cuts, cut_out, CutsBack}
use Rattle.rules.proofs.Cuts.{join_labels}

-- labels that are joined from a place of a form on are cut out of it
cut_on : (form : List ℕ) (at : ℕ) (ls : List (List ℕ)) → drop at form ≡ join ls → cuts form (starts_from at ls) (map length ls) ≡ ls
unfolding cuts starts_from join
cut_on form at [] e = refl
cut_on form at (l ∷ []) e = rw (e, take-length l)
cut_on form at (l ∷ m ∷ ls) e =
    let rest = join (m ∷ ls) in
    let here : take (length l) (drop at form) ≡ l = rw e (take-append_seam l (0x2E ∷ rest)) in
    let next : at + length l + 1 ≡ at + (length l + 1) = omega arith in
    let past : drop (at + length l + 1) form ≡ rest =
    ap (λ (n : ℕ). drop n form) next ∙ sym (drop-drop (length l + 1) at form) ∙ ap (drop (length l + 1)) e ∙ drop-append-add l (0x2E ∷ rest) 1 in
    rw here (ap (λ (ms : List (List ℕ)). l ∷ ms) (cut_on form (at + length l + 1) (m ∷ ls) past))

-- of up to three nothing is lost
three_kept : (form : List ℕ) (ls : List (List ℕ)) → length ls ≤ 3 → cuts form (starts_from 0 ls) (map length ls) ≡ ls
    → (cut_out form (label_places ls) ≡ ls) × (take (label_places ls).count (label_places ls).lengths ≡ map length ls)
unfolding cut_out label_places first_three cuts starts_from
three_kept form [] h e = (refl, refl)
three_kept form (a ∷ []) h e = (e, refl)
three_kept form (a ∷ b ∷ []) h e = (e, refl)
three_kept form (a ∷ b ∷ c ∷ []) h e = (e, refl)
three_kept form (a ∷ b ∷ c ∷ d ∷ ls) h e = absurd (omega arith)

-- so it is where a buffer shows the form
pub cuts_back : (form buffer : List ℕ) (n : ℕ) → take n buffer ≡ form → length (labels form) ≤ 3 → CutsBack form buffer n (label_places (labels form))
cuts_back form buffer n e h =
    let k = three_kept form (labels form) h (cut_on form 0 (labels form) (sym (join_labels form))) in
    let c = ap (λ (t : List ℕ). cut_out t (label_places (labels form))) e ∙ k.0 in
    record { labels_are = c; as_long = k.1; joined = ap join c ∙ join_labels form }

-- ---- what belongs to no label is 0

starts_many : (at : ℕ) (ls : List (List ℕ)) → length (starts_from at ls) ≡ length ls
unfolding starts_from
starts_many at [] = refl
starts_many at (l ∷ ls) = ap suc (starts_many (at + length l + 1) ls)

past_zero : (xs : List ℕ) (i : ℕ) → length xs ≤ i → get_or (first_three xs) i 0 ≡ 0
unfolding first_three
past_zero xs zero h = get_or-eq_default xs 0 h
past_zero xs (suc zero) h = get_or-eq_default xs 0 h
past_zero xs (suc (suc zero)) h = get_or-eq_default xs 0 h
past_zero xs (suc (suc (suc i))) h = refl

pub absent_zero : (ls : List (List ℕ)) (number i : ℕ) → (places_said ls number).count ≤ i
    → (get_or (places_said ls number).starts i 0 ≡ 0) × (get_or (places_said ls number).lengths i 0 ≡ 0)
unfolding places_said label_places first_three
absent_zero ls number i = go (eqb number 0)
  where
    go : (b : Bool) → (pick b (label_places ls) no_places).count ≤ i
        → (get_or (pick b (label_places ls) no_places).starts i 0 ≡ 0) × (get_or (pick b (label_places ls) no_places).lengths i 0 ≡ 0)
    go true h = (past_zero (starts_from 0 ls) i (omega (arith, starts_many 0 ls)), past_zero (map length ls) i (omega (arith, length-map ls length)))
    go false h = (past_zero [] i (omega arith), past_zero [] i (omega arith))
