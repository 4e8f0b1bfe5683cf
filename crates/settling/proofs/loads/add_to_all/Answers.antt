use Rattle.std.proofs.Common.{ℕ, ◌%◌, ◌<◌, List, get_or, ap, ◌∙◌, arith}
use Rattle.std.proofs.lemmas.List.{get_or_append_left, get_or-take, length-take-le}
use Rattle.jobs.specs.Rows.{at}
use Rattle.jobs.specs.Tables.{machine_rows_lem}
use Rattle.settling.specs.Place.{heavier, no_load, num_at}
use Rattle.settling.proofs.Weighs.{adding_none, adding_more}
use Rattle.settling.proofs.loads.add_to_all.Goals as goal

pub loop-r-init : goal.loop-r-init
loop-r-init c = adding_none c.args.home.now c.args.w _

pub add_weight-requires : goal.add_weight-requires
add_weight-requires c =
    let long = length-take-le c.in_use.result c.args.loads.now (omega arith) in
    let r : c.loop-r.r < machine_rows_lem c.args.home.now = omega (arith, c.in_use.ensures.is) in
    let h = (c.loop-r.invariant c.loop-r.r no_load r).1 (omega arith) ∙ get_or-take c.in_use.result c.args.loads.now c.loop-r.r no_load (omega arith) in
    let f = c.requires.few c.loop-r.r no_load r in
    record { cpu = omega (arith, f.0, ap (λ x. x.cpu) h); mem = omega (arith, f.1, ap (λ x. x.mem) h) }

pub loop-r-preserved : goal.loop-r-preserved
loop-r-preserved c =
    let long = length-take-le c.in_use.result c.args.loads.now (omega arith) in
    adding_more c.args.home.now c.args.w _ c.loop-r.load-items c.loop-r.r c.add_weight.result no_load (omega arith) (omega (arith, c.in_use.ensures.is)) c.loop-r.invariant
    (c.add_weight.ensures ∙ ap (λ (k : ℕ). heavier k c.args.w (get_or c.loop-r.load-items c.loop-r.r no_load)) c.num.ensures ∙ ap (λ (row : List ℕ). heavier (at row 1 % 65536) c.args.w (get_or c.loop-r.load-items c.loop-r.r no_load)) c.row.ensures)

pub returns : goal.returns
returns c = λ r e h.
    let n = c.in_use.ensures.is in
    let long = length-take-le c.in_use.result c.args.loads.now (omega arith) in
    get_or_append_left c.loop-r.load-items _ e r (omega arith) ∙ (c.loop-r.invariant r e h).0 (omega arith) ∙ ap (heavier (num_at c.args.home.now r) c.args.w) (get_or-take c.in_use.result c.args.loads.now r e (omega arith))
