-- What the bytes of calls and answers can carry, and the laws of writing and reading them.
-- Assumes nothing.
use Rattle.std.specs.Prelude.{◌≡◌, ℕ, Bool, true, ◌&&◌, length, nat_lt}
use Rattle.std.specs.Int.Digits.{AllBelowBase}
use Rattle.model.specs.Lists.{every}
use Rattle.model.specs.State.{Spec}
use Rattle.model.specs.Calls.{Seen, Call, SetJob, EndJob, AddMachine, Close, Reopen, Forget, Report, Tick, Show, Line, small}
use Rattle.model.specs.Wire.{Bytes, garbled, meant, read_call, call_bytes, Answer, Refused, Done, Runs, Shown, answer_bytes}
use Rattle.model.specs.Answers.{long, runs_fit_lem, read_answer_lem}
use Rattle.wire.specs.Short.{is_short_lem}

-- CALLS

-- a number of two bytes; `small` is one of four, `long` one of eight
abbrev pub brief : ℕ → Bool
brief n = nat_lt n 65536

abbrev pub spec_numbers : Spec → Bool
spec_numbers a = small a.image && small a.cpu && small a.mem && every small a.tags

abbrev pub long_id : Seen → Bool
long_id x = long x.id

abbrev pub numbers_fit : Call → Bool
numbers_fit (SetJob n a c l m) = spec_numbers a && brief c && brief l && brief m
numbers_fit (EndJob n) = true
numbers_fit (AddMachine k c m t) = brief k && small c && small m && every small t
numbers_fit (Close k) = brief k
numbers_fit (Reopen k) = brief k
numbers_fit (Forget k) = brief k
numbers_fit (Report k l n xs) = brief k && long l && long n && every long_id xs
numbers_fit (Tick t) = long t
numbers_fit (Show n) = true

abbrev pub call_fits : Call → Bool
call_fits c = is_short_lem c && numbers_fit c

-- ANSWERS

abbrev pub line_fits : Line → Bool
line_fits l = long l.id && small l.version && brief l.machine

abbrev pub answer_fits : Answer → Bool
answer_fits (Refused k) = nat_lt k 256
answer_fits Done = true
answer_fits (Runs k l n os) = runs_fit_lem k l n os
answer_fits (Shown ls) = brief (length ls) && every line_fits ls

-- LAWS

-- what was written is read back
abbrev pub CallsBack : Type 0
CallsBack = (c : Call) → call_fits c ≡ true → read_call (call_bytes c) ≡ meant c

abbrev pub AnswersBack : Type 0
AnswersBack = (a : Answer) → answer_fits a ≡ true → read_answer_lem (answer_bytes a) ≡ meant a

-- what was read is written as the same bytes, so that there is one way to write it
abbrev pub CallsAgain : Type 0
CallsAgain = (bs : Bytes) (c : Call) → AllBelowBase 256 bs → read_call bs ≡ meant c → (call_bytes c ≡ bs) × (call_fits c ≡ true)

abbrev pub AnswersAgain : Type 0
AnswersAgain = (bs : Bytes) (a : Answer) → AllBelowBase 256 bs → read_answer_lem bs ≡ meant a → (answer_bytes a ≡ bs) × (answer_fits a ≡ true)

-- bytes that are those of no call are read as none, whatever they are
abbrev pub NoOtherCalls : Type 0
NoOtherCalls = (bs : Bytes) → AllBelowBase 256 bs → ((c : Call) → call_fits c ≡ true → call_bytes c ≡ bs → ⊥) → read_call bs ≡ garbled

abbrev pub NoOtherAnswers : Type 0
NoOtherAnswers = (bs : Bytes) → AllBelowBase 256 bs → ((a : Answer) → answer_fits a ≡ true → answer_bytes a ≡ bs → ⊥) → read_answer_lem bs ≡ garbled
