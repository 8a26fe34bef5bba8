-- What a call leaves in a buffer that was lent to it.
use Rattle.std.specs.Prelude.{◌≡◌, List, ◌++◌, ℕ, ◌+◌, ◌≤◌, length, take, drop}

-- xs at the buffer's start, and past it what was there before; nothing written (xs empty) leaves all as it was
unfoldable pub written : List ℕ → List ℕ → List ℕ
written xs before = xs ++ drop (length xs) before

-- a piece stands from `at` on, r is past it and inside, and all else is as it was
pub record Puts (piece before after : List ℕ) (at r : ℕ) : Type 0 where
  pub place : r ≡ at + length piece
  pub room : r ≤ length before
  pub buffer : after ≡ take at before ++ piece ++ drop r before
