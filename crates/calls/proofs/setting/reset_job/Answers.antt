use Rattle.std.proofs.Common.{◌≡◌, ℕ, List, ◌+◌, true, false, cond, Some, None, Option, sym, refl, ap, ◌∙◌, subst}
use Rattle.std.proofs.lemmas.Result.{err_from_is_err_and}
use Rattle.model.specs.State as s
use Rattle.model.specs.Calls.{same_spec_lem}
use Rattle.jobs.specs.declared.ids.Version.{Version}
use Rattle.jobs.specs.Tables.{job_from_lem, spec_from_lem, version_from_lem}
use Rattle.jobs.specs.Values.{job_of, name_of, spec_of}
use Rattle.calls.specs.declared.answer.Refusal.TheVariants.{Full}
use Rattle.calls.specs.Versions.{NextAs, none_left_lem}
use Rattle.calls.proofs.Outcomes.{refused_by}
use Rattle.calls.proofs.Sets.{reset_full, resets, row_is}
use Rattle.calls.proofs.setting.reset_job.Goals as goal

pub returns-in_err-version : goal.returns-in_err-version
returns-in_err-version c = λ x e q f.
    let r : job_from_lem c.row.result.words.now ≡ x = ap job_from_lem c.row.ensures ∙ row_is c.args.home.now c.args.i x e in
    let next : Option Version → Type 0 = λ o. NextAs (same_spec_lem (spec_of c.args.job.spec) (job_from_lem c.row.result.words.now).spec) (job_from_lem c.row.result.words.now).version o in
    let by_row = subst (λ (k : List ℕ). NextAs (same_spec_lem (spec_of c.args.job.spec) (spec_from_lem k)) (version_from_lem k) c.next_version.result) c.kind.ensures in
    let none : next None = subst next c.in_err-version.ensures.ok_part (by_row c.next_version.ensures) in
    let p = err_from_is_err_and c.from_residual.result c.from_residual.ensures.1 in
    rw (p.1, refused_by c.next_version.result Full _ _ c.in_err-version.ensures.ok_part c.in_err-version.ensures.value p.2) (record {
      acts = reset_full (job_of c.args.job) x c.args.home.now (subst (λ (y : s.Job). none_left_lem (same_spec_lem (spec_of c.args.job.spec) y.spec) y.version ≡ true) r none);
      same = refl;
    })

pub returns : goal.returns
returns c = λ x e q f.
    let j = c.args.job in
    let r : job_from_lem c.row.result.words.now ≡ x = ap job_from_lem c.row.ensures ∙ row_is c.args.home.now c.args.i x e in
    let next : Option Version → Type 0 = λ o. NextAs (same_spec_lem (spec_of c.args.job.spec) (job_from_lem c.row.result.words.now).spec) (job_from_lem c.row.result.words.now).version o in
    let by_row = subst (λ (k : List ℕ). NextAs (same_spec_lem (spec_of c.args.job.spec) (spec_from_lem k)) (version_from_lem k) c.next_version.result) c.kind.ensures in
    let some : next (Some c.in_ok-version.version) = subst next c.in_ok-version.ensures.ok_part (by_row c.next_version.ensures) in
    let v : c.in_ok-version.version.0 ≡ cond (same_spec_lem (spec_of c.args.job.spec) x.spec) x.version (x.version + 1) =
    subst (λ (y : s.Job). c.in_ok-version.version.0 ≡ cond (same_spec_lem (spec_of c.args.job.spec) y.spec) y.version (y.version + 1)) r some.1 in
    resets (job_of j) x c.args.home.now c.args.i c.requires.within e q f (subst (λ (y : s.Job). none_left_lem (same_spec_lem (spec_of c.args.job.spec) y.spec) y.version ≡ false) r some.0) _
    (λ i. record { name = name_of c.args.job.name; version = sym v i; spec = spec_of c.args.job.spec; count = c.args.job.count; least = c.args.job.least; most = c.args.job.most })
    c.put_job.new.home c.put_job.ensures
