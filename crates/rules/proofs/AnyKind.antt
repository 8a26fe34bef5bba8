-- Whoever asks an edition for kinds asks only for any but none, by `ja_char`: so two editions with the same Japanese characters and the same
-- prefecture labels say the same, whichever kinds they give these characters: of names, of hosts, of what may become one, and as second reader.
-- Assumes nothing.
use mathlib.Core.Path.{◌≡◌, refl, ap}
use mathlib.Core.Bool.{Bool, not, ◌&&◌, ◌||◌}
use mathlib.Core.List.{List, [], ◌∷◌}
use Prim.Native.Nat.{ℕ, suc}
use lib.Dec.{eqb}
use Rattle.lists.specs.Rows.{first}
use Rattle.characters.specs.Characters.{ascii_set, any_kind}
use Rattle.characters.specs.Kinds.{Kind}
use Rattle.rules.specs.Labels.{period}
use Rattle.rules.specs.Permits.{Permits, ja_char, label_char, middle}
use Rattle.rules.specs.Rules.{unfit, is_middle_dot, ordinary, is_japanese, short, long, of_name, pretends, bare_dot, label_rows, name_rows, front_rows, text_rows, rules}
use Rattle.rules.specs.declared.Asks.{Asks}
use Rattle.rules.specs.Hosts.{of_host, each_rows, host_rows, host_text_rows}
use Rattle.rules.specs.Hopeful.{leftmost, grows, hopeful}
use Rattle.rules.specs.Reader.{nothing, note, skip, after_character, after_hyphen, reader}
use Rattle.rules.specs.declared.Seen.{Seen}

module _ (f g : ℕ → Kind) (same : (c : ℕ) → any_kind (f c) ≡ any_kind (g c)) (known : Bool) (middles : List (List ℕ)) (three : Bool) where
  abbrev by : (ℕ → Kind) → Permits
  by k = record { known = known; kind = k; middles = middles; three = three }

  same_japanese : ja_char (by f) ≡ ja_char (by g)
  unfolding ja_char
  same_japanese = λ i c. same c i

  same_unfit : unfit (by f) ≡ unfit (by g)
  unfolding unfit label_char
  same_unfit = ap {B = ℕ → Bool} (λ (ja : ℕ → Bool) (c : ℕ). not (period c || (ja c || ascii_set c))) same_japanese

  same_ordinary : ordinary (by f) ≡ ordinary (by g)
  unfolding ordinary
  same_ordinary = ap {B = ℕ → Bool} (λ (ja : ℕ → Bool) (c : ℕ). ja c && not (eqb c 0x3006 || (eqb c 0x30FC || is_middle_dot c))) same_japanese

  same_front : (text : List ℕ) → front_rows (by f) text ≡ front_rows (by g) text
  unfolding front_rows
  same_front text = rw same_unfit

  same_label : (A : Asks) (l : List ℕ) (at : ℕ) → label_rows (by f) A l at ≡ label_rows (by g) A l at
  unfolding is_japanese short long pretends bare_dot label_rows
  same_label A l at = rw (same_ordinary, same_japanese)

  -- names
  same_names : (text : List ℕ) → text_rows (by f) text ≡ text_rows (by g) text
  unfolding middle name_rows text_rows
  same_names text = rw (same_front text, same_label)

  pub same_rules : (text : List ℕ) → rules (by f) text ≡ rules (by g) text
  unfolding rules
  same_rules text = rw (same_names text)

  -- hosts
  same_each : (i : ℕ) (ls : List (List ℕ)) → each_rows (by f) i ls ≡ each_rows (by g) i ls
  unfolding each_rows
  same_each i [] = refl
  same_each i (l ∷ ls) = rw (same_label of_host l i, same_each (suc i) ls)

  pub same_hosts : (text : List ℕ) → host_text_rows (by f) text ≡ host_text_rows (by g) text
  unfolding host_rows host_text_rows
  same_hosts text = rw (same_front text, same_each)

  -- what may yet become a name
  same_leftmost : leftmost (by f) ≡ leftmost (by g)
  unfolding leftmost
  same_leftmost = λ i l. eqb (first (same_label of_name l 0 i)).number 0

  same_grows : (ls : List (List ℕ)) → grows (by f) ls ≡ grows (by g) ls
  unfolding middle grows
  same_grows [] = refl
  same_grows (l ∷ []) = rw same_leftmost
  same_grows (l ∷ m ∷ []) = rw same_leftmost
  same_grows (l ∷ m ∷ z ∷ []) = rw same_leftmost
  same_grows (l ∷ m ∷ z ∷ y ∷ ls) = refl

  pub same_hope : (text : List ℕ) → hopeful (by f) text ≡ hopeful (by g) text
  unfolding hopeful
  same_hope text = rw (same_unfit, same_grows)

  -- the second reader
  same_char : label_char (by f) ≡ label_char (by g)
  unfolding label_char
  same_char = ap {B = ℕ → Bool} (λ (ja : ℕ → Bool) (c : ℕ). ja c || ascii_set c) same_japanese

  same_note : (s : Seen) (x : ℕ) → note (by f) s x ≡ note (by g) s x
  unfolding note
  same_note s x = rw (same_japanese, same_ordinary)

  same_after : (l : List ℕ) (s : Seen) → (after_character (by f) l s ≡ after_character (by g) l s) × (after_hyphen (by f) l s ≡ after_hyphen (by g) l s)
  unfolding after_character after_hyphen
  same_after [] s = (refl, refl)
  same_after (x ∷ xs) s =
      let e = (same_after xs (skip s)).1 in
      let d = (same_after xs (note (by g) s x)).0 in
      (rw (same_char, same_note s x, e, d), rw (same_char, same_note s x, e, d))

  pub same_reader : (l : List ℕ) → reader (by f) l ≡ reader (by g) l
  unfolding reader
  same_reader [] = refl
  same_reader (x ∷ xs) = rw (same_char, same_note nothing x, (same_after xs (note (by g) nothing x)).0)
