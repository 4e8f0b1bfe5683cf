-- What is turned away unread, by the meaning of lines.
-- Assumes nothing.
use Rattle.std.proofs.Common.{◌≡◌, ℕ, false}
use Rattle.model.specs.State.{State}
use Rattle.model.specs.Wire.{Bytes, read_call}
use Rattle.model.specs.Lines.{core_kind, kind_in, refuses, call_says, bytes_say}
use Rattle.calls.specs.declared.answer.Refusal.{Refusal}
use Rattle.calls.specs.declared.answer.Refusal.TheVariants.{Malformed, Unknown, Present, Stale, Full, NoTime, NotBuilt}
use Rattle.calls.specs.Answers.{number_of}
use Rattle.serving.specs.Bars.{Bars, unbuilt, untimed}

module _ (bs : Bytes) (s : State) (kind time : ℕ) (k : kind ≡ kind_in bs) (t : time ≡ s.now) where
  pub says_barred : (e : Refusal) → Bars kind time e → bytes_say core_kind bs s ≡ refuses (number_of e) s
  says_barred NotBuilt b = let c = rw k at b in rw c
  says_barred NoTime b = let c = rw k at b.0 in let d = rw (k, t) at b.1 in rw (c, d)
  says_barred Malformed b = absurd b
  says_barred Unknown b = absurd b
  says_barred Present b = absurd b
  says_barred Stale b = absurd b
  says_barred Full b = absurd b

  pub says_call : unbuilt kind ≡ false → untimed kind time ≡ false → bytes_say core_kind bs s ≡ call_says (read_call bs) s
  says_call a b = let c = rw k at a in let d = rw (k, t) at b in rw (c, d)
