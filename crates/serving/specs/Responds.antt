-- The answer to the bytes of a call, in memory.
-- Assumes nothing.
use Rattle.std.specs.Prelude.{◌≡◌, true}
use Rattle.model.specs.Wire.{Bytes}
use Rattle.model.specs.Lines.{core_kind, bytes_say}
use Rattle.calls.specs.declared.answer.Answer.{Answer}
use Rattle.calls.specs.Handled.{is_quiet}
use Rattle.calls.specs.Answers.{answer_of}
use Rattle.serving.specs.Herd.{Held, state_in}

pub record Responds (bs : Bytes) (x : Held) (a : Answer) (y : Held) : Type 0 where
  pub state : state_in y ≡ (bytes_say core_kind bs (state_in x)).state
  pub answer : answer_of a (state_in y) ≡ (bytes_say core_kind bs (state_in x)).answer
  pub quiet : is_quiet a ≡ true → y ≡ x
