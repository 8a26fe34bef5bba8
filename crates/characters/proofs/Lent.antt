-- The bits of the kanji, lent as a table, say what the list says: the numbers of the bits that are set are the list, by computation.
-- Assumes nothing.
use mathlib.Core.Path.{◌≡◌, refl, sym, ap, ◌∙◌}
use mathlib.Core.Bool.{Bool, true, false, ◌&&◌}
use Prim.Native.Nat.{ℕ, ◌-◌, ◌/◌, ◌%◌, ◌<◌}
use native.Mathlib.Omega.{arith}
use lib.ListN.{length, get_or}
use Rattle.lists.specs.Tests.{within, all_of, any_of, elem, above, rising}
use Rattle.lists.proofs.Laws.{in_table, in_range, clash}
use Rattle.lists.proofs.Rising.{rises}
use Rattle.characters.specs.Kanji.{kanji}
use Rattle.characters.specs.KanjiBits.{kanji_bits}
use Rattle.characters.specs.Characters.{kinds, stretch, kind_among, kind_by, kind, bit_set, kanji_with, kind_with}
use Rattle.characters.proofs.Bits.{numbered, unpacked, in_unpacked}

pub kanji_length : length kanji ≡ 6355
unfolding kanji
kanji_length = refl

pub kanji_rise : rising kanji ≡ true
unfolding kanji rising above
kanji_rise = refl

-- carried to every two entries
pub kanji_order : (i j : ℕ) → i < j → j < length kanji → get_or kanji i 0 < get_or kanji j 0
kanji_order = rises kanji kanji_rise

-- 4EDD is a sign and is not in the list
pub no_sign : elem 0x4EDD kanji ≡ false
unfolding kanji elem any_of
no_sign = refl

-- all from 4E00 to 9FA0
pub kanji_within : all_of (within 0x4E00 0x9FA0) kanji ≡ true
unfolding kanji all_of within
kanji_within = refl

-- the bits that are set, in order
pub kanji_bits_lem : unpacked 0x4E00 kanji_bits ≡ kanji
unfolding kanji kanji_bits unpacked numbered
kanji_bits_lem = refl

pub same_kanji : (c : ℕ) → kanji_with kanji_bits c ≡ elem c kanji
unfolding kanji_with
same_kanji c = go (within 0x4E00 0x9FA0 c) refl (elem c kanji) refl
  where
    bit : Bool
    bit = bit_set (get_or kanji_bits ((c - 0x4E00) / 32) 0) ((c - 0x4E00) % 32)

    go : (t : Bool) → within 0x4E00 0x9FA0 c ≡ t → (b : Bool) → elem c kanji ≡ b → within 0x4E00 0x9FA0 c && bit ≡ elem c kanji
    go true p b q =
        let h = in_range 0x4E00 0x9FA0 c p in
        rw p (sym (in_unpacked c 0x4E00 (c - 0x4E00) kanji_bits (omega arith)) ∙ ap (elem c) kanji_bits_lem)
    go false p true q = clash (in_table (within 0x4E00 0x9FA0) c kanji kanji_within q) p
    go false p false q = rw p (sym q)

pub lent : (edition c : ℕ) → kind_with kanji_bits edition c ≡ kind edition c
unfolding kind_by kind kind_with kinds kind_among stretch
lent edition c = rw (same_kanji c)
