-- Bytes written behind those that are written already.
-- Assumes nothing.
use Rattle.std.specs.Prelude.{◌≡◌, ℕ, ◌+◌, ◌++◌, length, take, drop}
use Rattle.model.specs.Wire.{Bytes}

-- the first n bytes were written before; now bs stands behind them, and ends at m; what comes behind is as it was
pub record Puts (bs before after : Bytes) (n m : ℕ) : Type 0 where
  pub bytes : take m after ≡ take n before ++ bs
  pub end : m ≡ n + length bs
  pub rest : drop m after ≡ drop m before
  pub long : length after ≡ length before
