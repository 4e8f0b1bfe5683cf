-- What a call makes of a mind.
-- Assumes nothing.
use Rattle.model.specs.Calls.{Call}
use Rattle.calls.specs.declared.answer.Answer.{Answer}
use Rattle.calls.specs.declared.mind.Mind.{Mind}
use Rattle.calls.specs.Acted.{Acted}
use Rattle.calls.specs.Handled.{Handled}

-- of its words and its time, by what the call means
abbrev pub MindActed : Call → Mind → Answer → Mind → Type 0
MindActed c m a m' = Acted c m.home m.live m.time a m'.home m'.live m'.time

-- whether it is built or not
abbrev pub MindHandled : Call → Mind → Answer → Mind → Type 0
MindHandled c m a m' = Handled c m.home m.live m.time a m'.home m'.live m'.time
