-- A piece that is fed to its end: each call uses some of what is left, carries on the line that all before it makes, and what it hands out,
-- with what is still to come, is what the whole piece writes.
-- Assumes nothing.
use mathlib.Core.Path.{◌≡◌, refl, sym, ap, ◌∙◌}
use mathlib.Core.List.{List, ◌∷◌, ◌++◌}
use Rattle.std.specs.Prelude.{Some}
use Prim.Native.Nat.{ℕ, ◌+◌, ◌*◌, ◌≤◌, ◌<◌}
use native.Mathlib.Omega.{arith}
use lib.ListN.{length, take, drop, get_or, length-append}
use lib.Seq.{drop-cons}
use borrow.Author.Tests.{le-leb}
use Rattle.std.proofs.lemmas.List.{nil_from_length}
use Rattle.lists.proofs.Pieces.{puts_inside, puts_count}
use Rattle.characters.specs.KanjiBits.{kanji_bits}
use Rattle.rules.specs.Permits.{Permits}
use Rattle.rules.specs.Editions.{today, today_with}
use Rattle.rules.proofs.Editions.{lending}
use Rattle.batch.specs.declared.stream.Fed.{Fed}
use Rattle.batch.specs.declared.stream.Line.{Line}
use Rattle.answer.specs.Answer.{answer_to, bad_answer}
use Rattle.answer.specs.Answers.{most}
use Rattle.batch.specs.Stream.{after, wrote, ended, used}
use Rattle.batch.specs.Feed.{Feeds, Finishes, finish_told}
use Rattle.batch.proofs.Laws.{used_within, goes_on, again, wrote_again, wrote_few}
use Rattle.answer.proofs.Longest.{bad_length, longest_today}

-- what the lines that end in a piece are answered, by the rules in force
abbrev pub answered : Line → List ℕ → List ℕ
answered l s = wrote (answer_to today) bad_answer l s

-- no more than 256 bytes for each byte read
few : (l : Line) (s : List ℕ) → length (answered l s) ≤ most * length s
few = wrote_few (answer_to today) bad_answer longest_today bad_length

-- the rest of a piece is still to be fed, `count` bytes are handed out, and l is carried on
pub record Kept (piece rest out₀ out : List ℕ) (l₀ l : Line) (count : ℕ) : Type 0 where
  pub room : most ≤ length out
  pub long : length out ≡ length out₀
  pub same : after l₀ piece ≡ after l rest
  pub all : length (answered l₀ piece) ≡ count + length (answered l rest)

pub begins : (piece out : List ℕ) (l : Line) → most ≤ length out → Kept piece piece out out l l 0
begins piece out l h = record { room = h; long = refl; same = refl; all = omega arith }

module _ {table piece rest out₀ out out' : List ℕ} {l₀ l : Line} {count : ℕ} {r : Fed} (t : table ≡ kanji_bits) (k : Kept piece rest out₀ out l₀ l count)
    (f : Feeds (answer_to (today_with table)) bad_answer l rest out out' r) where
  left : Feeds (answer_to today) bad_answer l rest out out' r
  left = lending (λ (P : Permits). Feeds (answer_to P) bad_answer l rest out out' r) 4 t f

  pub wrote_fits : r.wrote ≤ length out'
  wrote_fits = puts_inside left.text

  pub used_fits : r.used ≤ length rest
  used_fits = omega (arith, left.amount, used_within (answer_to today) bad_answer l rest (length out))

  pub forward : 0 < length rest → 0 < r.used
  forward h =
      let z : 0 < used (answer_to today) bad_answer l (get_or rest 0 0 ∷ drop 1 rest) (length out) = goes_on (answer_to today) bad_answer l (get_or rest 0 0) (drop 1 rest) k.room in
      omega (arith, left.amount, ap (λ (s : List ℕ). used (answer_to today) bad_answer l s (length out)) (drop-cons rest 0 0 h))

  -- what is written now, and what the rest will be
  parts : length (answered l rest) ≡ r.wrote + length (answered r.line (drop r.used rest))
  parts =
      let a : answered l rest ≡ answered l (take r.used rest) ++ answered (after l (take r.used rest)) (drop r.used rest) = wrote_again (answer_to today) bad_answer l rest r.used in
      let m : answered (after l (take r.used rest)) (drop r.used rest) ≡ answered r.line (drop r.used rest) = ap (λ (m : Line). answered m (drop r.used rest)) (sym left.next) in
      omega (arith, ap length a, length-append (answered l (take r.used rest)) (answered (after l (take r.used rest)) (drop r.used rest)), ap length m, left.text.place)

  pub count_fits : length piece ≤ 65536 → count + r.wrote ≤ 16777216
  count_fits b = omega (arith, k.all, parts, few l₀ piece)

  pub goes : {n : ℕ} → n ≡ r.wrote → length out' ≡ length out → Kept piece (drop r.used rest) out₀ out' l₀ r.line (count + n)
  goes {n} q e = record {
    room = omega (arith, k.room);
    long = e ∙ k.long;
    same = k.same ∙ again l rest r.used ∙ ap (λ (m : Line). after m (drop r.used rest)) (sym left.next);
    all = omega (arith, k.all, parts);
  }

pub ends : {piece rest out₀ out : List ℕ} {l₀ l : Line} {count : ℕ} → length rest ≡ 0 → Kept piece rest out₀ out l₀ l count
    → (l ≡ after l₀ piece) × (count ≡ length (answered l₀ piece))
unfolding after wrote
ends {rest = rest} e k = let z = nil_from_length rest e in let k' = rw z at k in (sym k'.same, omega (arith, k'.all))

-- with room the end of the input writes the answer to the line that was carried
pub at_end : {table before after' : List ℕ} {l : Line} {n : ℕ} → table ≡ kanji_bits → most ≤ length before
    → Finishes (answer_to (today_with table)) bad_answer l before after' (finish_told (Some n)) → n ≡ length (ended (answer_to today) bad_answer l)
at_end {before = before} {after'} {l} {n} t h f =
    let g = lending (λ (P : Permits). Finishes (answer_to P) bad_answer l before after' (finish_told (Some n))) 4 t f in
    puts_count g.text ∙ rw (le-leb most (length before) h)
