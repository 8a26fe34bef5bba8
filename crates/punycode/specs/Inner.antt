-- What the inner functions say of themselves. No public statement rests on it.
use Rattle.std.specs.Prelude.{Option, None, Some, List, ◌++◌, ℕ, ◌+◌, ◌-◌, ◌*◌, ◌/◌, ◌%◌, ◌≤◌, ◌<◌, take}
use Rattle.std.specs.Borrow.{Bor}
use Rattle.std.proofs.Math.Option as maybe
use Rattle.punycode.specs.Decoding.{Dec, reading, stuck}
use Rattle.punycode.specs.Punycode.{Enc, limit}
use Rattle.punycode.specs.declared.coder.State.{State}
use Rattle.punycode.specs.declared.decoder.Reader.{Reader}

-- ---- the coder keeps the first 64 octets of what is written

-- the procedure's state, with p written before it, as the coder keeps it
unfoldable pub kept : List ℕ → Enc → Enc
kept p s = record { delta = s.delta; bias = s.bias; h = s.h; out = take 64 (p ++ s.out) }

-- the coder's own state, and what it has written
unfoldable pub held : State → List ℕ → Enc
held s text = record { delta = 0; bias = s.bias; h = s.h; out = text }

-- the code point of the key comes after the one written last
pub record Ahead (s : State) (key : ℕ) : Type 0 where
  pub value : s.n ≤ key / 64
  pub place : s.i ≤ (key / 64 - s.n) * (s.h + 1) + key % 64
  pub top : key < 64 * limit
  pub few : s.h < 63

-- the delta from the one to the other
unfoldable pub way : State → ℕ → ℕ
way s key = (key / 64 - s.n) * (s.h + 1) + key % 64 - s.i

-- ---- the decoder

-- the decoder's own state, over the buffer that it writes to; none where something was refused
unfoldable pub read : Option Reader → List ℕ → Dec
read None text = stuck
read (Some s) text = reading s.n s.bias (take s.len text) s.oldi s.i s.w s.k

-- what bounds the numbers of the next step
pub record Bounded (s : Reader) : Type 0 where
  pub n_low : s.n < limit
  pub len_low : s.len ≤ 63
  pub i_low : s.i < 64 * limit
  pub i_from : s.oldi ≤ s.i

-- the label that is lent, or none
unfoldable pub answer : Option (Bor (List ℕ)) → maybe.Option (List ℕ)
answer None = maybe.none
answer (Some l) = maybe.some l.now
