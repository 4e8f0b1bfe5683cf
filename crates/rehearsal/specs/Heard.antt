-- A line reaches the herd that is rehearsed with: it goes by the herd's code, and where the power failed the herd has woken.
-- Assumes nothing.
use Rattle.std.specs.Prelude.{◌≡◌, Result, MatchResult, slice_index}
use Rattle.model.specs.Memory.{Memory}
use Rattle.model.specs.Wire.{Bytes}
use Rattle.device.specs.declared.fused.Fused.{Fused}
use Rattle.device.specs.Follows.{Ended}
use Rattle.device.specs.Service.{Said}
use Rattle.serving.specs.Herd.{Held, herd_code}
use Rattle.serving.specs.Serves.{Serves}
use Rattle.rehearsal.specs.declared.words.Words.{Words}

-- what the kept words are
abbrev pub memory_of : Fused Words → Memory
memory_of f = slice_index f.kept.words.items

-- from a mind and kept words, by this line, to a reply, a mind and kept words
pub record Heard {V E : Type 0} (line : Bytes) (x : Held) (m : Memory) (r : Result V E) (reply : Bytes) (y : Held) (n : Memory) : Type 0 where
  pub said : Said Bytes Held
  pub serves : Serves line x m r said n
  pub after : MatchResult r (λ _. (said.reply ≡ reply) × (said.mind ≡ y)) (λ _. Ended herd_code.wakes n y n)
