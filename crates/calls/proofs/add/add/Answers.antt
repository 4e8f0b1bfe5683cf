use Rattle.std.proofs.Common.{sym, ◌∙◌, subst}
use Rattle.model.proofs.Settles.{Tidy}
use Rattle.calls.proofs.Adds.{put_done, put_refused}
use Rattle.calls.proofs.Outcomes.{acted_done}
use Rattle.calls.proofs.add.add.Goals as goal
use Rattle.calls.proofs.add.add.Goals.{then-is_ok, else-is_ok}

pub settle-requires-clause-numbered : goal.settle-requires-clause-numbered
settle-requires-clause-numbered c =
    let p = put_done c.args.added c.args.home.now c.args.live.now c.put-done.new.home c.put-done.new.live tt c.put-done.result c.put-done.ensures (sym c.is_ok.ensures.value ∙ c.if-is_ok.true) in
    subst Tidy (sym (p.1.1 c.args.time)) c.requires.fine.tidy

pub returns-clause-acted : goal.returns-clause-acted
returns-clause-acted c =
    elim c.if-is_ok.branch [
      | then-is_ok w ↦
          let t = sym c.is_ok.ensures.value ∙ w.if-is_ok.true in
          let p = put_done c.args.added c.args.home.now c.args.live.now c.put-done.new.home c.put-done.new.live tt c.put-done.result c.put-done.ensures t in
          rw (c.from.ensures, w.home-is, w.live-is) (acted_done _ _ _ _ _ c.args.time _ c.put-done.result _ t (p.0 c.args.time) w.settle.ensures.state.state)
      | else-is_ok w ↦ rw (c.from.ensures, w.home-is, w.live-is) (put_refused c.args.added _ _ _ _ c.args.time c.put-done.result c.put-done.ensures (sym c.is_ok.ensures.value ∙ w.if-is_ok.false))
    ]
