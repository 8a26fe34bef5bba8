-- The rules of a name: document 01's table, 'Numbers a call may answer', 2 to 12, with 17 of document 02, K3, and 25 of
-- K12, a row each; the first that applies is given.
use Rattle.std.specs.Prelude.{Bool, true, false, not, ◌&&◌, ◌||◌, List, [], ◌∷◌, ◌++◌, ◌↔◌, ◌≡◌, ℕ, ◌-◌, eqb, ltb, length, get_or}
use Rattle.lists.specs.Tests.{pick, all_of, any_of, index_of, same}
use Rattle.lists.specs.Rows.{Row, row, first, without}
use Rattle.lists.specs.Rows.{Answer}
use Rattle.characters.specs.Characters.{hyphen}
use Rattle.normal.specs.Normal.{normal_form, places}
use Rattle.rules.specs.declared.Asks.{Asks}
use Rattle.rules.specs.Labels.{period, labels}
use Rattle.rules.specs.Permits.{Permits, ja_char, label_char, middle, is_empty}
use Rattle.rules.specs.Verdicts.{Class}
use Rattle.rules.specs.Verdicts.{None, General, Prefecture}
use Rattle.rules.specs.Verdicts.{Verdict}

-- ---- characters

-- neither period, ASCII set nor Japanese
unfoldable pub unfit : Permits → ℕ → Bool
unfit P c = not (period c || label_char P c)

unfoldable pub is_middle_dot : ℕ → Bool
is_middle_dot c = eqb c 0x30FB

-- a Japanese character other than 3006, 30FC and 30FB
unfoldable pub ordinary : Permits → ℕ → Bool
ordinary P c = ja_char P c && not (eqb c 0x3006 || (eqb c 0x30FC || is_middle_dot c))

-- ---- what is asked of a label

-- a Japanese label holds at least one Japanese character; any other is an ASCII label
unfoldable pub is_japanese : Permits → List ℕ → Bool
is_japanese P l = any_of (ja_char P) l

unfoldable pub begins_with_hyphen : List ℕ → Bool
begins_with_hyphen [] = false
begins_with_hyphen (x ∷ xs) = hyphen x

unfoldable pub ends_with_hyphen : List ℕ → Bool
ends_with_hyphen [] = false
ends_with_hyphen (x ∷ []) = hyphen x
ends_with_hyphen (x ∷ y ∷ ys) = ends_with_hyphen (y ∷ ys)

unfoldable pub hyphen_edge : List ℕ → Bool
hyphen_edge l = begins_with_hyphen l || ends_with_hyphen l

-- ASCII with fewer than the least; first of a label that is taken for Japanese or not
abbrev pub short_as : Bool → ℕ → List ℕ → Bool
short_as japanese least l = not japanese && ltb (length l) least

unfoldable pub short : Permits → ℕ → List ℕ → Bool
short P least l = short_as (is_japanese P l) least l

-- ASCII with more than 63, or Japanese with more than 15
abbrev pub long_as : Bool → List ℕ → Bool
long_as japanese l = ltb (pick japanese 15 63) (length l)

unfoldable pub long : Permits → List ℕ → Bool
long P l = long_as (is_japanese P l) l

-- hyphens in its third and fourth places, which RFC 5891 (4.2.3.1) sets aside
unfoldable pub hyphen_pair : List ℕ → Bool
hyphen_pair l = hyphen (get_or l 2 0) && hyphen (get_or l 3 0)

-- what a family of names asks of a label: how many characters an ASCII one must have, and whether the pair is refused
-- in every label or in an ASCII one alone
abbrev pub asks : ℕ → Bool → Asks
asks least every_pair = record { least = least; every_pair = every_pair }

-- of the leftmost label of a name
abbrev pub of_name : Asks
of_name = asks 3 false

-- it pretends to be encoded (document 02, K3): it has the pair where that is refused
abbrev pub pretends_as : Bool → Asks → List ℕ → Bool
pretends_as japanese A l = hyphen_pair l && (A.every_pair || not japanese)

unfoldable pub pretends : Permits → Asks → List ℕ → Bool
pretends P A l = pretends_as (is_japanese P l) A l

-- a middle dot, and no Japanese character other than the three
unfoldable pub bare_dot : Permits → List ℕ → Bool
bare_dot P l = any_of is_middle_dot l && not (any_of (ordinary P) l)

-- 7 to 10 and 17, of a label, with their place
unfoldable pub label_rows : Permits → Asks → List ℕ → ℕ → List Row
label_rows P A l at =
    row 7 (hyphen_edge l) at ∷
    row 8 (short P A.least l) at ∷
    row 9 (long P l) at ∷
    row 17 (pretends P A l) at ∷
    row 10 (bare_dot P l) at ∷
    []

-- none of 7 to 10 applies, rule by rule
pub record Meets (P : Permits) (least : ℕ) (l : List ℕ) : Type 0 where
  pub edge : hyphen_edge l ≡ false
  pub enough : short P least l ≡ false
  pub few : long P l ≡ false
  pub dotted : bare_dot P l ≡ false

-- what document 01 asks of a label that has at least so many characters where it is ASCII, 3 where it is leftmost: only
-- what a label may hold, not empty, and none of 7 to 10
pub record Sound (P : Permits) (least : ℕ) (l : List ℕ) : Type 0 where
  pub chars : all_of (label_char P) l ≡ true
  pub filled : is_empty l ≡ false
  pub meets : Meets P least l

-- ---- what is asked of a name

unfoldable pub jp : List ℕ
jp = 0x6A ∷ 0x70 ∷ []

-- 11 and 12, of the labels of a normal form
abbrev pub last_rows : Permits → List (List ℕ) → List Row
last_rows P ls =
    row 11 (not (same (get_or ls (length ls - 1) []) jp)) 0 ∷
    row 12 (eqb (length ls) 3 && not (middle P (get_or ls 1 []))) 0 ∷
    []

-- 5 to 12 and 17
unfoldable pub name_rows : Permits → List (List ℕ) → List Row
name_rows P ls =
    row 5 (not (eqb (length ls) 2 || (P.three && eqb (length ls) 3))) 0 ∷
    row 6 (any_of is_empty ls) (index_of is_empty ls) ∷
    (label_rows P of_name (get_or ls 0 []) 0 ++ last_rows P ls)

-- 2 to 4, of an application text
unfoldable pub front_rows : Permits → List ℕ → List Row
front_rows P text =
    let form = normal_form text in
    row 2 (eqb (length text) 0) 0 ∷
    row 3 (ltb 256 (length text)) 256 ∷
    row 4 (any_of (unfit P) form) (get_or (places text) (index_of (unfit P) form) 0) ∷
    []

-- 25 where there is no such edition (document 02, K12), then 2 to 12 and 17
unfoldable pub text_rows : Permits → List ℕ → List Row
text_rows P text = row 25 (not P.known) 0 ∷ (front_rows P text ++ name_rows P (labels (normal_form text)))

-- ---- what is answered

-- the class of an accepted name with these labels
unfoldable pub class_of : List (List ℕ) → Class
class_of ls = pick (eqb (length ls) 3) Prefecture General

-- class is general-use or prefecture with 0, and none otherwise
unfoldable pub verdict : Answer → List (List ℕ) → Verdict
verdict a ls = record { number = a.number; place = a.place; class = pick (eqb a.number 0) (class_of ls) None }

-- what 5 to 12 and 17 say of the labels of a form
abbrev pub by_labels : Permits → List (List ℕ) → Verdict
by_labels P ls = verdict (first (name_rows P ls)) ls

-- ONE set of rules: what is said of a text, given room
unfoldable pub rules : Permits → List ℕ → Verdict
rules P text = verdict (first (text_rows P text)) (labels (normal_form text))

-- the same without the row of a number
unfoldable pub rules_but : ℕ → Permits → List ℕ → Verdict
rules_but n P text = verdict (first (without n (text_rows P text))) (labels (normal_form text))

-- accepted as a name of class k, and refused
abbrev pub accepted : Class → Verdict
accepted k = record { number = 0; place = 0; class = k }

abbrev pub refused : ℕ → ℕ → Verdict
refused n p = record { number = n; place = p; class = None }

-- the class is none exactly where the number is not 0, and with 0 the place is 0
pub record Formed (v : Verdict) : Type 0 where
  pub class : (v.number ≡ 0) ↔ (v.class ≡ None → ⊥)
  pub place : v.number ≡ 0 → v.place ≡ 0
