-- What the types of the code stand for.
-- Assumes nothing.
use Rattle.std.specs.Prelude.{ℕ, ◌+◌, ◌*◌, cond, List, [], ◌∷◌, ◌++◌, take, ◌==◌}
use Rattle.model.specs.State as s
use Rattle.jobs.specs.declared.name.Name.{Name}
use Rattle.jobs.specs.declared.spec.Spec.{Spec}
use Rattle.jobs.specs.declared.job.Job.{Job}
use Rattle.jobs.specs.declared.machine.Machine.{Machine}
use Rattle.jobs.specs.Rows.{at}
use Rattle.jobs.specs.declared.phase.Phase.{Phase}
use Rattle.jobs.specs.declared.phase.Phase.TheVariants.{Waiting, Told, Ready, Ending}
use Rattle.jobs.specs.declared.phase.Mark.{Mark}
use Rattle.jobs.specs.declared.phase.Mark.TheVariants as m
use Rattle.jobs.specs.Tables.{bytes_of}

abbrev pub name_of : Name → s.Name
name_of n = bytes_of n.len n.words

abbrev pub spec_of : Spec → s.Spec
spec_of a = record { image = a.image; cpu = a.cpu; mem = a.mem; tags = take a.count a.tags; apart = a.apart }

-- the mark of a row, by its word
abbrev pub mark_of : ℕ → Mark
mark_of w = cond (w == 0) m.Waiting (cond (w == 1) m.Placed m.Ending)

abbrev pub phase_of : Phase → s.Phase
phase_of Waiting = s.Waiting
phase_of (Told p) = s.Told
phase_of (Ready p) = s.Ready
phase_of (Ending p) = s.Ending

-- machine and life of a task that waits are 0
abbrev pub machine_of : Phase → ℕ
machine_of Waiting = 0
machine_of (Told p) = p.machine.0
machine_of (Ready p) = p.machine.0
machine_of (Ending p) = p.machine.0

abbrev pub life_of : Phase → ℕ
life_of Waiting = 0
life_of (Told p) = p.life.0
life_of (Ready p) = p.life.0
life_of (Ending p) = p.life.0

abbrev pub job_of : Job → s.Job
job_of j = record { name = name_of j.name; version = j.version.0; spec = spec_of j.spec; count = j.count; least = j.least; most = j.most }

-- THE WORDS THAT VALUES ARE WRITTEN AS

-- a version 0, which never comes to be, is no hole
abbrev pub version_word_lem : ℕ → ℕ
version_word_lem v = cond (v == 0) 4294967296 v

abbrev pub kind_words : Job → List ℕ
kind_words j =
    version_word_lem j.version.0 ∷ j.spec.image ∷ j.spec.cpu ∷ j.spec.mem ∷ cond j.spec.apart 1 0 ∷ j.spec.count ∷
    at j.spec.tags 0 ∷ at j.spec.tags 1 ∷ at j.spec.tags 2 ∷ at j.spec.tags 3 ∷ at j.spec.tags 4 ∷ at j.spec.tags 5 ∷ at j.spec.tags 6 ∷ at j.spec.tags 7 ∷
    j.name.len ∷ at j.name.words 0 ∷ at j.name.words 1 ∷ at j.name.words 2 ∷ at j.name.words 3 ∷ at j.name.words 4 ∷ at j.name.words 5 ∷ at j.name.words 6 ∷ at j.name.words 7 ∷ []

abbrev pub job_words_lem : Job → List ℕ
job_words_lem j = kind_words j ++ (j.count ∷ j.least ∷ j.most ∷ [])

-- a machine that is new is open, and nothing was heard of it
abbrev pub machine_words : Machine → List ℕ
machine_words m = 1 ∷ m.num.0 ∷ m.cpu ∷ m.mem ∷ 1 ∷ 0 ∷ 0 ∷ m.count ∷ m.tags

-- eight bytes from o on, in one word, high byte first
abbrev pub packed : List ℕ → ℕ → ℕ
packed bs o =
    at bs o * 72057594037927936 + at bs (o + 1) * 281474976710656 + at bs (o + 2) * 1099511627776 + at bs (o + 3) * 4294967296 + at bs (o + 4) * 16777216 + at bs (o + 5) * 65536 + at bs (o + 6) * 256 + at bs (o + 7)
