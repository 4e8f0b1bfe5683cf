-- What the herd answers, over any words, is read as it means.
-- Assumes nothing.
use Rattle.std.specs.Prelude.{◌≡◌, ℕ, ◌<◌, Bool, true, ◌&&◌, List, slice_index}
use Rattle.model.specs.Wire.{meant, answer_bytes}
use Rattle.model.specs.Answers.{long, read_answer_lem}
use Rattle.jobs.specs.Tables.{state_of}
use Rattle.calls.specs.Answers.{answer_of}
use Rattle.calls.specs.declared.answer.Answer.{Answer}
use Rattle.calls.specs.declared.answer.Answer.TheVariants.{TurnedAway, Yes, Run, Lines}
use Rattle.wire.specs.Fits.{brief}

-- the report that is answered is one of the numbers that there are
abbrev pub head_fits : Answer → Bool
head_fits (TurnedAway r) = true
head_fits Yes = true
head_fits (Run r) = brief r.machine.0 && long r.life.0 && long r.number.0
head_fits (Lines n) = true

abbrev pub HerdAnswersBack : Type 0
HerdAnswersBack =
    (home live : List ℕ) (time : ℕ) (a : Answer) → ((k : ℕ) → slice_index home k < 18446744073709551616) → head_fits a ≡ true → read_answer_lem (answer_bytes (answer_of a (state_of home live time))) ≡ meant (answer_of a (state_of home live time))
