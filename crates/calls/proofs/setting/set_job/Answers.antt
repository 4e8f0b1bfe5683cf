use Rattle.std.proofs.Common.{◌≡◌, [], ◌∷◌, Some, None, sym, refl, ap, ◌∙◌, subst, arith}
use Rattle.std.proofs.lemmas.Result.{err_from_is_err_and}
use Rattle.model.specs.Lists.{find}
use Rattle.model.specs.State as s
use Rattle.model.specs.State.{is_job}
use Rattle.model.specs.Calls.{acts, all_most, others}
use Rattle.jobs.specs.Tables.{jobs_of, state_of}
use Rattle.jobs.specs.Values.{job_of, name_of}
use Rattle.calls.specs.Meaning.{like_of}
use Rattle.calls.specs.Setting.{set_call, sets_as}
use Rattle.calls.specs.Wanted.{JobAs}
use Rattle.calls.specs.declared.answer.Refusal.TheVariants.{Malformed}
use Rattle.calls.proofs.Outcomes.{refused_by}
use Rattle.calls.proofs.Sets.{set_bad, set_most, set_found, done_as}
use Rattle.calls.proofs.setting.set_job.Goals as goal

pub returns-in_err-job : goal.returns-in_err-job
returns-in_err-job c =
    let w = c.args.wanted in
    let bad : JobAs w None = subst (JobAs w) c.in_err-job.ensures.ok_part c.job_of.ensures in
    let p = err_from_is_err_and c.from_residual.result c.from_residual.ensures.1 in
    rw (p.1, refused_by c.job_of.result Malformed _ _ c.in_err-job.ensures.ok_part c.in_err-job.ensures.value p.2) (record { acts = set_bad w.name.now (like_of w.like) w.count w.least w.most c.args.home.now bad; same = refl })

pub returns-then-from : goal.returns-then-from
returns-then-from c =
    let w = c.args.wanted in
    let e : JobAs w (Some c.in_ok-job.job) = subst (JobAs w) c.in_ok-job.ensures.ok_part c.job_of.ensures in
    let n : name_of c.in_ok-job.job.name ≡ c.args.wanted.name.now = ap (λ (j : s.Job). j.name) e.1 in
    let m : c.in_ok-job.job.most ≡ c.args.wanted.most = ap (λ (j : s.Job). j.most) e.1 in
    let o : c.sum_of_mosts.result ≡ all_most (others c.args.wanted.name.now (jobs_of c.args.home.now)) = c.sum_of_mosts.ensures ∙ ap (λ (x : s.Name). all_most (others x (jobs_of c.args.home.now))) n in
    let t = c.if-from.true in
    record { acts = set_most w.name.now (like_of w.like) w.count w.least w.most c.args.home.now e.0 (omega arith); same = refl }

pub returns-in-None : goal.returns-in-None
returns-in-None c =
    let w = c.args.wanted in
    let home = c.args.home.now in
    let e : JobAs w (Some c.in_ok-job.job) = subst (JobAs w) c.in_ok-job.ensures.ok_part c.job_of.ensures in
    let n : name_of c.in_ok-job.job.name ≡ c.args.wanted.name.now = ap (λ (j : s.Job). j.name) e.1 in
    let m : c.in_ok-job.job.most ≡ c.args.wanted.most = ap (λ (j : s.Job). j.most) e.1 in
    let o : c.sum_of_mosts.result ≡ all_most (others c.args.wanted.name.now (jobs_of c.args.home.now)) = c.sum_of_mosts.ensures ∙ ap (λ (x : s.Name). all_most (others x (jobs_of c.args.home.now))) n in
    let t = c.if-from.false in
    let f : find (is_job c.args.wanted.name.now) (jobs_of c.args.home.now) ≡ [] = ap (λ (x : s.Name). find (is_job x) (jobs_of c.args.home.now)) (sym n) ∙ c.in-None.ensures in
    done_as (sets_as (job_of c.in_ok-job.job) []) (acts (set_call w)) home c.set_new.new.home c.set_new.result
    (λ live time. set_found w.name.now (like_of w.like) w.count w.least w.most home e.0 (omega arith) [] f live time ∙ ap (λ (j : s.Job). sets_as j [] (state_of home live time)) (sym e.1)) c.set_new.ensures

pub returns-in-Some : goal.returns-in-Some
returns-in-Some c =
    let w = c.args.wanted in
    let home = c.args.home.now in
    let e : JobAs w (Some c.in_ok-job.job) = subst (JobAs w) c.in_ok-job.ensures.ok_part c.job_of.ensures in
    let p = c.in-Some.ensures in
    let n : name_of c.in_ok-job.job.name ≡ c.args.wanted.name.now = ap (λ (j : s.Job). j.name) e.1 in
    let m : c.in_ok-job.job.most ≡ c.args.wanted.most = ap (λ (j : s.Job). j.most) e.1 in
    let o : c.sum_of_mosts.result ≡ all_most (others c.args.wanted.name.now (jobs_of c.args.home.now)) = c.sum_of_mosts.ensures ∙ ap (λ (x : s.Name). all_most (others x (jobs_of c.args.home.now))) n in
    let t = c.if-from.false in
    let f : find (is_job c.args.wanted.name.now) (jobs_of c.args.home.now) ≡ p.0 ∷ [] = ap (λ (x : s.Name). find (is_job x) (jobs_of c.args.home.now)) (sym n) ∙ p.3 in
    done_as (sets_as (job_of c.in_ok-job.job) (p.0 ∷ [])) (acts (set_call w)) home c.reset_job.new.home c.reset_job.result
    (λ live time. set_found w.name.now (like_of w.like) w.count w.least w.most home e.0 (omega arith) (p.0 ∷ []) f live time ∙ ap (λ (j : s.Job). sets_as j (p.0 ∷ []) (state_of home live time)) (sym e.1))
    (c.reset_job.ensures p.0 p.2 p.4 p.5)
