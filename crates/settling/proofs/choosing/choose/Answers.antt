use Rattle.std.proofs.Common.{◌≡◌, ℕ, ◌-◌, true, false, List, [], ◌∷◌, get_or, take, sym, ap, ◌∙◌, arith}
use Rattle.model.specs.Lists.{keep, every}
use Rattle.model.specs.State as s
use Rattle.model.specs.Settle.{takes, best, left}
use Rattle.jobs.specs.Rows.{at}
use Rattle.jobs.specs.Tables.{low, machine_at, machine_from, machine_row_lem, machine_rows_lem, machine_slot, tasks_of}
use Rattle.jobs.specs.Values.{spec_of}
use Rattle.jobs.proofs.Spans.{span_none}
use Rattle.jobs.proofs.Finds.{slot_hole, slot_full}
use Rattle.settling.specs.Place.{LoadBy, fits_on_lem, has_tag_lem, task_in, no_load}
use Rattle.settling.proofs.Scans.{keep_none}
use Rattle.settling.proofs.Tags.{each_not, each_next, each_end}
use Rattle.settling.proofs.Bests.{best_none, lacks_tag, lacks_rest, lacks_none, left_is, fits_cpu, passes, skips, tries}
use Rattle.jobs.proofs.Ranges.{hole, no_hole}
use Rattle.settling.proofs.choosing.choose.Goals as goal

pub machines-init : goal.machines-init
machines-init c =
    let ts = tasks_of c.args.home.now c.args.live.now in
    let p = takes c.args.time (task_in c.args.home.now c.args.live.now c.args.i) ts in
    ap (λ (ms : List s.Machine). best (keep p ms) ts) (span_none (machine_at c.args.home.now c.args.live.now) 0) ∙ ap (λ (ms : List s.Machine). best ms ts) (keep_none p) ∙ best_none ts

pub machines-preserved-then-is_hole : goal.machines-preserved-then-is_hole
machines-preserved-then-is_hole c =
    let home = c.args.home.now in
    let live = c.args.live.now in
    let ts = tasks_of home live in
    let r = c.row-row.result.words.now in
    let h = at live c.machines.r in
    passes (takes c.args.time (task_in home live c.args.i) ts) ts (machine_at home live) (machine_rows_lem home) c.machines.r (omega arith) c.machines.best
    (ap (λ (x : List ℕ). machine_slot x h) (sym c.row-row.ensures) ∙ slot_hole (at r 0) (machine_from r h) (hole c.is_hole.ensures c.if-is_hole.true)) c.machines.invariant

pub machines-preserved-then-not-fits_on : goal.machines-preserved-then-not-fits_on
machines-preserved-then-not-fits_on c =
    let home = c.args.home.now in
    let live = c.args.live.now in
    let ts = tasks_of home live in
    let t = task_in home live c.args.i in
    let h = at live c.machines.r in
    let m = machine_from (machine_row_lem home c.machines.r) h in
    let l = get_or c.args.loads.now c.machines.r no_load in
    let is : machine_at home live c.machines.r ≡ m ∷ [] = slot_full (at (machine_row_lem home c.machines.r) 0) m (λ e. (no_hole c.is_hole.ensures c.if-is_hole.false) (ap (λ (x : List ℕ). at x 0) c.row-row.ensures ∙ e)) in
    let no' : fits_on_lem c.args.time t.spec l m ≡ false = ap (λ (a : s.Spec). fits_on_lem c.args.time a l m) (sym c.requires.spec) ∙ ap (λ (x : List ℕ). fits_on_lem c.args.time (spec_of c.args.spec.now) l (machine_from x h)) (sym c.row-row.ensures) ∙ sym c.fits_on.ensures ∙ c.if-not-fits_on.true in
    skips (takes c.args.time t ts) ts (machine_at home live) (machine_rows_lem home) c.machines.r (omega arith) m is c.machines.best
    (lacks_rest c.args.time t ts m l (c.requires.loads c.machines.r no_load (omega arith)) no') c.machines.invariant

pub machines-preserved-then-not-has_tag : goal.machines-preserved-then-not-has_tag
machines-preserved-then-not-has_tag c =
    let home = c.args.home.now in
    let live = c.args.live.now in
    let ts = tasks_of home live in
    let t = task_in home live c.args.i in
    let h = at live c.machines.r in
    let m = machine_from (machine_row_lem home c.machines.r) h in
    let l = get_or c.args.loads.now c.machines.r no_load in
    let tags = take c.from.result c.args.spec.now.tags in
    let is : machine_at home live c.machines.r ≡ m ∷ [] = slot_full (at (machine_row_lem home c.machines.r) 0) m (λ e. (no_hole c.is_hole.ensures c.if-is_hole.false) (ap (λ (x : List ℕ). at x 0) c.row-row.ensures ∙ e)) in
    let no' : has_tag_lem m (get_or tags c.loop-tag.tag-index 0) ≡ false = ap (λ (x : List ℕ). has_tag_lem (machine_from x h) (get_or tags c.loop-tag.tag-index 0)) (sym c.row-row.ensures) ∙ sym c.has_tag.ensures ∙ c.if-not-has_tag.true in
    let e : every (has_tag_lem m) (spec_of c.args.spec.now).tags ≡ false = sym c.loop-tag.invariant ∙ each_not (has_tag_lem m) tags c.loop-tag.tag-index (omega arith) no' in
    let g : every (has_tag_lem m) t.spec.tags ≡ false = ap (λ (a : s.Spec). every (has_tag_lem m) a.tags) (sym c.requires.spec) ∙ e in
    skips (takes c.args.time t ts) ts (machine_at home live) (machine_rows_lem home) c.machines.r (omega arith) m is c.machines.best (lacks_tag c.args.time t ts m l g) c.machines.invariant

pub loop-tag-preserved : goal.loop-tag-preserved
loop-tag-preserved c =
    let h = at c.args.live.now c.machines.r in
    let m = machine_from (machine_row_lem c.args.home.now c.machines.r) h in
    let tags = take c.from.result c.args.spec.now.tags in
    let yes' : has_tag_lem m (get_or tags c.loop-tag.tag-index 0) ≡ true = ap (λ (x : List ℕ). has_tag_lem (machine_from x h) (get_or tags c.loop-tag.tag-index 0)) (sym c.row-row.ensures) ∙ sym c.has_tag.ensures ∙ c.if-not-has_tag.false in
    each_next (has_tag_lem m) tags c.loop-tag.tag-index (omega arith) yes' ∙ c.loop-tag.invariant

pub overflow_sub-from : goal.overflow_sub-from
overflow_sub-from c =
    let h = at c.args.live.now c.machines.r in
    let row = c.row-row.result.words.now in
    let l = get_or c.args.loads.now c.machines.r no_load in
    let yes' : fits_on_lem c.args.time (spec_of c.args.spec.now) l (machine_from row h) ≡ true = sym c.fits_on.ensures ∙ c.if-not-fits_on.false in
    omega (arith, fits_cpu c.args.time (spec_of c.args.spec.now) l (machine_from row h) yes', c.from-in-machines.ensures, c.cpu.ensures)

pub machines-preserved : goal.machines-preserved
machines-preserved c =
    let home = c.args.home.now in
    let live = c.args.live.now in
    let ts = tasks_of home live in
    let t = task_in home live c.args.i in
    let h = at live c.machines.r in
    let m = machine_from (machine_row_lem home c.machines.r) h in
    let l = get_or c.args.loads.now c.machines.r no_load in
    let tags = take c.from.result c.args.spec.now.tags in
    let k : LoadBy t.job m.num ts l = c.requires.loads c.machines.r no_load (omega arith) in
    let is : machine_at home live c.machines.r ≡ m ∷ [] = slot_full (at (machine_row_lem home c.machines.r) 0) m (λ e. (no_hole c.is_hole.ensures c.if-is_hole.false) (ap (λ (x : List ℕ). at x 0) c.row-row.ensures ∙ e)) in
    let fit : fits_on_lem c.args.time t.spec l m ≡ true = ap (λ (a : s.Spec). fits_on_lem c.args.time a l m) (sym c.requires.spec) ∙ ap (λ (x : List ℕ). fits_on_lem c.args.time (spec_of c.args.spec.now) l (machine_from x h)) (sym c.row-row.ensures) ∙ sym c.fits_on.ensures ∙ c.if-not-fits_on.false in
    let e : every (has_tag_lem m) (spec_of c.args.spec.now).tags ≡ true = sym c.loop-tag.invariant ∙ each_end (has_tag_lem m) tags c.loop-tag.tag-index (omega arith) in
    let g : every (has_tag_lem m) t.spec.tags ≡ true = ap (λ (a : s.Spec). every (has_tag_lem m) a.tags) (sym c.requires.spec) ∙ e in
    let cpu : c.from-in-machines.result ≡ m.cpu = c.from-in-machines.ensures ∙ c.cpu.ensures ∙ ap (λ (x : List ℕ). low (at x 2)) c.row-row.ensures in
    let v : c.from-in-machines.result - l.cpu ≡ left m ts = ap (λ (x : ℕ). x - l.cpu) cpu ∙ left_is c.args.time t ts m l k in
    rw c.improve-best.ensures
    (tries (takes c.args.time t ts) ts (machine_at home live) (machine_rows_lem home) c.machines.r (omega arith) m is c.machines.best (c.from-in-machines.result - l.cpu) (lacks_none c.args.time t ts m l k fit g) v c.machines.invariant)
