use Rattle.calls.proofs.Quiet.{set_performed, add_performed, report_performed, tick_performed}
use Rattle.calls.proofs.mind.Mind.act.Goals as goal

pub returns-in-Set : goal.returns-in-Set
returns-in-Set c = rw c.in-Set.is (set_performed _ _ _ _ _ _ _ _ _ _ _ _ c.set.ensures)

pub returns-in-Add : goal.returns-in-Add
returns-in-Add c = rw c.in-Add.is (add_performed _ _ _ _ _ _ _ _ _ _ _ c.add.ensures)

pub returns-in-Report : goal.returns-in-Report
returns-in-Report c = rw c.in-Report.is (report_performed _ _ _ _ _ _ _ _ _ _ _ c.report.ensures)

pub returns-in-Time : goal.returns-in-Time
returns-in-Time c = rw c.in-Time.is (tick_performed _ _ _ _ _ _ _ _ c.tell.ensures)
