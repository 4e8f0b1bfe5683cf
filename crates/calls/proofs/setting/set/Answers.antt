use Rattle.std.proofs.Common.{sym, ◌∙◌, subst}
use Rattle.model.proofs.Settles.{Tidy}
use Rattle.model.specs.Calls.{acts}
use Rattle.calls.specs.Setting.{set_call}
use Rattle.calls.proofs.Outcomes.{acted_done}
use Rattle.calls.proofs.Sets.{begun, refused}
use Rattle.calls.proofs.setting.set.Goals as goal
use Rattle.calls.proofs.setting.set.Goals.{then-is_ok, else-is_ok}

pub settle-requires-clause-numbered : goal.settle-requires-clause-numbered
settle-requires-clause-numbered c =
    let p = begun (acts (set_call c.args.wanted)) c.args.home.now c.set_job-done.new.home c.set_job-done.result c.set_job-done.ensures (sym c.is_ok.ensures.value ∙ c.if-is_ok.true) in
    subst Tidy (sym (p.only.1 c.args.live.now c.args.time)) c.requires.fine.tidy

pub returns-clause-acted : goal.returns-clause-acted
returns-clause-acted c =
    elim c.if-is_ok.branch [
      | then-is_ok w ↦
          let t = sym c.is_ok.ensures.value ∙ w.if-is_ok.true in
          let p = begun (acts (set_call c.args.wanted)) c.args.home.now c.set_job-done.new.home c.set_job-done.result c.set_job-done.ensures t in
          rw (c.from.ensures, w.home-is, w.live-is) (acted_done _ _ _ _ _ c.args.time _ c.set_job-done.result _ t (p.acts c.args.live.now c.args.time) w.settle.ensures.state.state)
      | else-is_ok w ↦ rw (c.from.ensures, w.home-is, w.live-is) (refused (set_call c.args.wanted) _ _ _ c.args.time c.set_job-done.result c.set_job-done.ensures (sym c.is_ok.ensures.value ∙ w.if-is_ok.false))
    ]
