-- Words that a value was written as stand for that value.
-- Assumes nothing.
use Rattle.std.proofs.Common.{◌≡◌, ℕ, suc, ◌%◌, ◌<◌, min, Bool, true, false, cond, eqb, List, [], ◌∷◌, map, length, get_or, take, sym, refl, arith}
use mir.Val.{bool_byte}
use Rattle.std.proofs.lemmas.Bool.{eqb-true, eqb-false}
use Rattle.model.specs.Calls.{new_machine}
use Rattle.jobs.specs.declared.job.Job.{Job}
use Rattle.jobs.specs.declared.machine.Machine.{Machine}
use Rattle.jobs.specs.Rows.{at}
use Rattle.jobs.specs.Tables.{low, flag, job_from_lem, machine_from}
use Rattle.jobs.specs.Values.{job_of, job_words_lem, machine_words, version_word_lem}
use Rattle.jobs.proofs.Names.{eight}

-- what a job's type says of it
pub record Sized (j : Job) : Type 0 where
  pub name : length j.name.words ≡ 8
  pub version : j.version.0 < 4294967296
  pub image : j.spec.image < 4294967296
  pub cpu : j.spec.cpu < 4294967296
  pub mem : j.spec.mem < 4294967296
  pub tags : length j.spec.tags ≡ 8
  pub low : (k : ℕ) → get_or j.spec.tags k 0 < 4294967296
  pub count : j.count < 65536
  pub least : j.least < 65536
  pub most : j.most < 65536

small : (n : ℕ) → n < 4294967296 → low n ≡ n
small n h = omega arith

pub byte_cond : (b : Bool) → bool_byte b ≡ cond b 1 0
byte_cond true = refl
byte_cond false = refl

flag_back : (b : Bool) → flag (cond b 1 0) ≡ b
flag_back true = refl
flag_back false = refl

-- eight tags, and what stands behind them
tags_back : (xs : List ℕ) → length xs ≡ 8 → ((k : ℕ) → get_or xs k 0 < 4294967296) → low (at xs 0) ∷ low (at xs 1) ∷ low (at xs 2) ∷ low (at xs 3) ∷ low (at xs 4) ∷ low (at xs 5) ∷ low (at xs 6) ∷ low (at xs 7) ∷ [] ≡ xs
tags_back xs h lows =
    let e : (k : ℕ) → low (get_or xs k 0) ≡ get_or xs k 0 = λ k. small (get_or xs k 0) (lows k) in
    rw (e 0, e 1, e 2, e 3, e 4, e 5, e 6, e 7) (eight xs h)

-- a version is no hole, and read as it was written
pub version_there : (v : ℕ) → 0 < version_word_lem v
version_there v = pick (eqb v 0) refl
  where
    pick : (b : Bool) → eqb v 0 ≡ b → 0 < cond b 4294967296 v
    pick true e = omega arith
    pick false e = let f = eqb-false v 0 e in omega (arith, f)

version_back : (v : ℕ) → v < 4294967296 → low (version_word_lem v) ≡ v
version_back v h = pick (eqb v 0) refl
  where
    pick : (b : Bool) → eqb v 0 ≡ b → low (cond b 4294967296 v) ≡ v
    pick true e = sym (eqb-true v 0 e)
    pick false e = small v h

pub job_back : (j : Job) → Sized j → job_from_lem (job_words_lem j) ≡ job_of j
job_back j s =
    let v = version_back j.version.0 s.version in
    let a = small j.spec.image s.image in
    let b = small j.spec.cpu s.cpu in
    let c = small j.spec.mem s.mem in
    let d : min j.spec.count 8 ≡ j.spec.count = omega (arith, j.spec.few) in
    let n : min j.name.len 64 ≡ j.name.len = omega (arith, j.name.short) in
    let e : j.count % 65536 ≡ j.count = omega (arith, s.count) in
    let f : j.least % 65536 ≡ j.least = omega (arith, s.least) in
    let g : j.most % 65536 ≡ j.most = omega (arith, s.most) in
    rw (v, a, b, c, d, n, e, f, g, tags_back j.spec.tags s.tags s.low, flag_back j.spec.apart, eight j.name.words s.name)

pub record SizedMachine (m : Machine) : Type 0 where
  pub num : m.num.0 < 65536
  pub cpu : m.cpu < 4294967296
  pub mem : m.mem < 4294967296
  pub tags : length m.tags ≡ 16
  pub low : (k : ℕ) → get_or m.tags k 0 < 4294967296

lows_back : (xs : List ℕ) → ((k : ℕ) → get_or xs k 0 < 4294967296) → map low xs ≡ xs
lows_back [] h = refl
lows_back (x ∷ xs) h = let e : low x ≡ x = small x (h 0) in let r = lows_back xs (λ k. h (suc k)) in rw (e, r)

pub machine_back : (m : Machine) → SizedMachine m → machine_from (machine_words m) 0 ≡ new_machine m.num.0 m.cpu m.mem (take m.count m.tags)
machine_back m s =
    let a : m.num.0 % 65536 ≡ m.num.0 = omega (arith, s.num) in
    let b = small m.cpu s.cpu in
    let c = small m.mem s.mem in
    let d : min m.count 16 ≡ m.count = omega (arith, m.few) in
    rw (a, b, c, d, lows_back m.tags s.low)
