-- A label's ASCII form goes to the lent buffer by way of a scratch of 63 octets: the call for one label, which the coder's answer lets accept,
-- leaves it at the scratch's start, and it is copied to its place. Label by label the whole is put (ascii, proofs/Joining).
-- Assumes nothing.
use mathlib.Core.Path.{◌≡◌, refl, sym, ap, ◌∙◌}
use mathlib.Core.Bool.{true, false, not}
use mathlib.Core.List.{List, [], ◌∷◌, ◌++◌, map, append-nil, append_assoc}
use Prim.Native.Nat.{ℕ, zero, suc, ◌+◌, ◌-◌, ◌≤◌, ◌<◌}
use native.Mathlib.Omega.{arith}
use lib.ListN.{length, take, drop, set, length-append}
use lib.Seq.{drop-drop}
use borrow.Author.Tests.{eqb-true}
use Rattle.std.specs.Prelude.{Result, Ok, Err, IsOk}
use Rattle.lists.specs.Tests.{all_of, any_of}
use Rattle.lists.specs.Front.{written, Puts}
use Rattle.lists.proofs.Fronts.{front}
use Rattle.lists.proofs.Laws.{both, neither}
use Rattle.lists.proofs.Pieces.{puts_length, nothing, then, put_one}
use Rattle.rules.specs.Labels.{labels, join}
use Rattle.rules.specs.Permits.{Permits, InStretch}
use Rattle.ascii.specs.Labels.{Forms}
use Rattle.ascii.specs.Ascii.{ascii_label, ascii_form, uncoded, writable}
use Rattle.refusals.specs.Refusals.{Filled, filled}
use Rattle.refusals.specs.declared.Refused.{Refused}
use Rattle.refusals.proofs.Once.{number_not_0}
use Rattle.ascii.proofs.OfNames.{label_size, took, gave}
use Rattle.hosts.specs.Steps.{Ready, AllReady}
use Rattle.hosts.proofs.Splitting.{At}

-- ---- a label, by way of the scratch

module _ (P : Permits) (stretch : InStretch P) (l : List ℕ) (at : ℕ) (out : List ℕ) (w : Ready P l at (length out)) {scratch last : List ℕ} {k : Filled}
    (F : Forms l scratch last k) (room : 63 ≤ length scratch) where
  number_is_0 : k.number ≡ 0
  number_is_0 = eqb-true k.number 0 (took P stretch F room w.fit ∙ ap not w.coded)

  given : (k.length ≡ length (ascii_label P l)) × (last ≡ written (ascii_label P l) scratch)
  given = gave P stretch F room w.fit number_is_0

  pub scratch_fits : k.length ≤ 63
  scratch_fits = omega (arith, given.0, label_size P l w.fit w.coded)

  piece : take k.length last ≡ ascii_label P l
  piece = rw (given.0, given.1) (front (ascii_label P l) scratch)

  pub place_fits : at + k.length ≤ length out
  place_fits = omega (arith, given.0, w.fits)

  -- the part of the buffer from `at` on, as long as the form, takes what the scratch begins with
  pub label_put : {copied : List ℕ} → copied ≡ take k.length last
      → Puts (ascii_label P l) out (take at out ++ (copied ++ drop (at + k.length - at) (drop at out))) at (at + k.length)
  label_put {copied} e =
      let a = ascii_label P l in
      let size : at + k.length - at ≡ length a = omega (arith, given.0) in
      let left : copied ≡ a = e ∙ piece in
      record {
        place = rw given.0;
        room = place_fits;
        buffer = rw (size, left, drop-drop (length a) at out, given.0) (sym (append_assoc (take at out) a (drop (at + length a) out)));
      }

-- so the call accepts
pub accepts : (P : Permits) → InStretch P → (l : List ℕ) (at : ℕ) (out : List ℕ) → Ready P l at (length out) → {scratch last : List ℕ} (r : Result ℕ Refused)
    → Forms l scratch last (filled r) → 63 ≤ length scratch → IsOk r
accepts P stretch l at out w (Ok n) F room = refl
accepts P stretch l at out w (Err e) F room = absurd (number_not_0 e.why (number_is_0 P stretch l at out w F room))

-- ---- all labels

module _ (P : Permits) where
  -- what follows a label: a period and the next, as long as there are labels
  unfoldable pub following : List (List ℕ) → List ℕ
  following [] = []
  following (l ∷ ls) = 0x2E ∷ ascii_label P l ++ following ls

  joined : (l : List ℕ) (ls : List (List ℕ)) → join (map (ascii_label P) (l ∷ ls)) ≡ ascii_label P l ++ following ls
  unfolding join following
  joined l [] = sym (append-nil (ascii_label P l))
  joined l (m ∷ ls) = ap (λ (x : List ℕ). ascii_label P l ++ 0x2E ∷ x) (joined m ls)

  -- what is left to put once k labels are
  abbrev pub left : ℕ → List (List ℕ) → List ℕ
  left zero ls = join (map (ascii_label P) ls)
  left (suc k) ls = following ls

  -- what is put and what is left to put, whose labels are ready
  pub record Hosting (form out₀ out : List ℕ) (k at : ℕ) : Type 0 where
    pub done : List ℕ
    pub put : Puts done out₀ out 0 at
    pub whole : done ++ left k (drop k (labels form)) ≡ ascii_form P form
    pub fit : all_of (writable P) (drop k (labels form)) ≡ true
    pub coded : any_of (uncoded P) (drop k (labels form)) ≡ false
    pub fits : length (ascii_form P form) ≤ length out₀

  -- the same with the period before the k-th label put
  pub record Placing (form out₀ out : List ℕ) (k at : ℕ) (label : List ℕ) : Type 0 where
    pub done : List ℕ
    pub put : Puts done out₀ out 0 at
    pub whole : done ++ (ascii_label P label ++ following (drop (suc k) (labels form))) ≡ ascii_form P form
    pub fit : (writable P label ≡ true) × (all_of (writable P) (drop (suc k) (labels form)) ≡ true)
    pub coded : (uncoded P label ≡ false) × (any_of (uncoded P) (drop (suc k) (labels form)) ≡ false)
    pub fits : length (ascii_form P form) ≤ length out₀

  module _ (form : List ℕ) where
    pub hosts_all : (out : List ℕ) → AllReady P form (length out) → Hosting form out out 0 0
    unfolding ascii_form
    hosts_all out w = record { done = []; put = nothing; whole = refl; fit = w.fit; coded = w.coded; fits = w.fits }

    module _ {out₀ out : List ℕ} {k at i : ℕ} {l : List ℕ} (g : Hosting form out₀ out k at) (t : At form k i l) where
      fit_both : (writable P l ≡ true) × (all_of (writable P) (drop (suc k) (labels form)) ≡ true)
      unfolding all_of
      fit_both = both (writable P l) (all_of (writable P) (drop (suc k) (labels form))) (rw t.here at g.fit)

      coded_both : (uncoded P l ≡ false) × (any_of (uncoded P) (drop (suc k) (labels form)) ≡ false)
      unfolding any_of
      coded_both = neither (uncoded P l) (any_of (uncoded P) (drop (suc k) (labels form))) (rw t.here at g.coded)

      left_first : k ≡ 0 → left k (drop k (labels form)) ≡ ascii_label P l ++ following (drop (suc k) (labels form))
      left_first e = rw (e, (rw e at t.here)) (joined l (drop 1 (labels form)))

      left_next : {n : ℕ} → k ≡ suc n → left k (drop k (labels form)) ≡ 0x2E ∷ ascii_label P l ++ following (drop (suc k) (labels form))
      unfolding following
      left_next e = rw (e, (rw e at t.here))

      pub host_first : i ≡ 0 → Placing form out₀ out k at l
      host_first z = record {
        done = g.done;
        put = g.put;
        whole = ap (λ (x : List ℕ). g.done ++ x) (sym (left_first (omega (arith, t.index)))) ∙ g.whole;
        fit = fit_both;
        coded = coded_both;
        fits = g.fits;
      }

      module _ (m : 0 < i) where
        abbrev rest : List ℕ
        rest = ascii_label P l ++ following (drop (suc k) (labels form))

        next_whole : g.done ++ (0x2E ∷ rest) ≡ ascii_form P form
        next_whole =
            let e : k ≡ suc (k - 1) = omega (arith, t.index) in
            ap (λ (x : List ℕ). g.done ++ x) (sym (left_next e)) ∙ g.whole

        pub host_room : at < length out
        host_room = omega (arith, g.put.place, ap length next_whole, length-append g.done (0x2E ∷ rest), g.fits, puts_length g.put)

        pub host_next : Placing form out₀ (set out at 0x2E) k (at + 1) l
        host_next = record {
          done = g.done ++ (0x2E ∷ []);
          put = then g.put (put_one out at 0x2E host_room);
          whole = append_assoc g.done (0x2E ∷ []) rest ∙ next_whole;
          fit = fit_both;
          coded = coded_both;
          fits = g.fits;
        }

    module _ {out₀ out : List ℕ} {k at : ℕ} {l : List ℕ} (g : Placing form out₀ out k at l) where
      abbrev rests : List ℕ
      rests = following (drop (suc k) (labels form))

      pub ready : Ready P l at (length out)
      ready = record {
        fit = g.fit.0;
        coded = g.coded.0;
        fits = omega (arith, g.put.place, ap length g.whole, length-append g.done (ascii_label P l ++ rests), length-append (ascii_label P l) rests, g.fits, puts_length g.put);
      }

      pub host_on : {out₁ : List ℕ} {r n : ℕ} → Puts (ascii_label P l) out out₁ at r → n ≡ suc k → Hosting form out₀ out₁ n r
      host_on t e = rw e (record {
        done = g.done ++ ascii_label P l;
        put = then g.put t;
        whole = append_assoc g.done (ascii_label P l) rests ∙ g.whole;
        fit = g.fit.1;
        coded = g.coded.1;
        fits = g.fits;
      })

    pub host_end : {out₀ out : List ℕ} (k at : ℕ) → Hosting form out₀ out k at → drop k (labels form) ≡ [] → Puts (ascii_form P form) out₀ out 0 at
    unfolding join following
    host_end {out₀} {out} k at g e = rw (sym (append-nil g.done) ∙ ap (λ (x : List ℕ). g.done ++ x) (none k refl) ∙ g.whole) at g.put
      where
        none : (n : ℕ) → n ≡ k → [] ≡ left n (drop k (labels form))
        none zero q = rw e
        none (suc n) q = rw e
