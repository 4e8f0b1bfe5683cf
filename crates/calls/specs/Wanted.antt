-- Names, specs and jobs that are made of what came, where that is in range.
-- Assumes nothing.
use Rattle.std.specs.Prelude.{◌≡◌, ℕ, Bool, true, false, ◌&&◌, List, length, Some, None, Option, nat_le, nat_lt}
use Rattle.model.specs.State as s
use Rattle.model.specs.Calls.{spec_ok_lem, job_ok, new_job}
use Rattle.jobs.specs.declared.name.Name.{Name}
use Rattle.jobs.specs.declared.spec.Spec.{Spec}
use Rattle.jobs.specs.declared.job.Job.{Job}
use Rattle.jobs.specs.Values.{name_of, spec_of, job_of}
use Rattle.calls.specs.declared.call.Wanted.{Wanted}
use Rattle.calls.specs.Meaning.{like_of}

-- a name has 1 to 64 bytes
abbrev pub name_ok : List ℕ → Bool
name_ok bs = nat_lt 0 (length bs) && nat_le (length bs) 64

abbrev pub NamedAs : List ℕ → Option Name → Type 0
NamedAs bs None = name_ok bs ≡ false
NamedAs bs (Some n) = (name_ok bs ≡ true) × (name_of n ≡ bs)

abbrev pub SpecAs : s.Spec → Option Spec → Type 0
SpecAs a None = spec_ok_lem a ≡ false
SpecAs a (Some r) = (spec_ok_lem a ≡ true) × (spec_of r ≡ a)

-- is all that is wanted in range
abbrev pub wanted_ok : Wanted → Bool
wanted_ok w = job_ok w.name.now (like_of w.like) w.count w.least w.most

abbrev pub wanted_job : Wanted → s.Job
wanted_job w = new_job w.name.now (like_of w.like) w.count w.least w.most

abbrev pub JobAs : Wanted → Option Job → Type 0
JobAs w None = wanted_ok w ≡ false
JobAs w (Some j) = (wanted_ok w ≡ true) × (job_of j ≡ wanted_job w)
