use Rattle.std.proofs.Common.{◌≡◌, ℕ, ◌<◌, ◌∷◌, [], ◌++◌, get_or, take, sym, refl, ap, ◌∙◌, subst, rules}
use Rattle.std.proofs.lemmas.Result.{err_from_is_err_and}
use Rattle.model.specs.State.{with_machines}
use Rattle.model.specs.Calls.{new_machine, yes'}
use Rattle.jobs.specs.Tables.{machines_of, state_of}
use Rattle.calls.specs.Meaning.{tags_of}
use Rattle.calls.proofs.Ranges.{small_tags}
use Rattle.calls.proofs.Adds.{tested, unfound, add_present, add_much, add_full, adds}
use Rattle.calls.proofs.add.put.Goals as goal

pub returns-then-is_some : goal.returns-then-is_some
returns-then-is_some c =
    let a = c.args.added in
    let found = unfound a.machine.0 c.args.home.now c.args.live.now c.find_machine.result (c.find_machine.ensures c.args.live.now) (sym c.if-is_some.ensures) in
    (λ time. add_present a.machine.0 a.cpu a.mem (tags_of a.tags.now) (state_of c.args.home.now c.args.live.now time) found, refl, refl)

pub returns-then-too_much : goal.returns-then-too_much
returns-then-too_much c =
    let a = c.args.added in
    let found = unfound a.machine.0 c.args.home.now c.args.live.now c.find_machine.result (c.find_machine.ensures c.args.live.now) (sym c.if-is_some.ensures) in
    (λ time. add_much a.machine.0 a.cpu a.mem (tags_of a.tags.now) (state_of c.args.home.now c.args.live.now time) found (tested a _ (sym c.if-too_much.ensures)), refl, refl)

pub returns-in_err-add_machine : goal.returns-in_err-add_machine
returns-in_err-add_machine c =
    let a = c.args.added in
    let found = unfound a.machine.0 c.args.home.now c.args.live.now c.find_machine.result (c.find_machine.ensures c.args.live.now) (sym c.if-is_some.ensures) in
    let m = c.machine.result in
    let e = c.machine.ensures in
    let num : m.num.0 < 65536 = search rules in
    let fits : (k : ℕ) → get_or m.tags k 0 < 4294967296 = search rules in
    let small = small_tags m.count m.tags (tags_of a.tags.now) e.tags fits in
    let p = err_from_is_err_and c.from_residual.result c.from_residual.ensures.1 in
    let same = c.in_err-add_machine.ensures.refused in
    rw (p.1, p.2) (λ time. add_full a.machine.0 a.cpu a.mem (tags_of a.tags.now) (state_of c.args.home.now c.args.live.now time) found (tested a _ (sym c.if-too_much.ensures)) (subst (λ (x : ℕ). x < 65536) e.num num) small (sym c.in_err-add_machine.ensures.answer), same.0, same.1)

pub returns : goal.returns
returns c =
    let a = c.args.added in
    let home = c.args.home.now in
    let live = c.args.live.now in
    let found = unfound a.machine.0 home live c.find_machine.result (c.find_machine.ensures live) (sym c.if-is_some.ensures) in
    let m = c.machine.result in
    let e = c.machine.ensures in
    let num : m.num.0 < 65536 = search rules in
    let fits : (k : ℕ) → get_or m.tags k 0 < 4294967296 = search rules in
    let small = small_tags m.count m.tags (tags_of a.tags.now) e.tags fits in
    let now = c.in_ok-add_machine.ensures.added in
    let one : (time : ℕ) → with_machines (machines_of home live ++ (new_machine a.machine.0 a.cpu a.mem (tags_of a.tags.now) ∷ [])) (state_of home live time) ≡ with_machines (machines_of home live ++ (new_machine m.num.0 m.cpu m.mem (take m.count m.tags) ∷ [])) (state_of home live time) =
    λ time i. with_machines (machines_of home live ++ (new_machine (sym e.num i) (sym e.cpu i) (sym e.mem i) (sym e.tags i) ∷ [])) (state_of home live time) in
    (λ time. adds a.machine.0 a.cpu a.mem (tags_of a.tags.now) (state_of home live time) found (tested a _ (sym c.if-too_much.ensures)) (subst (λ (x : ℕ). x < 65536) e.num num) small (sym c.in_ok-add_machine.ensures.answer) ∙ ap yes' (one time ∙ sym (now.state time)), (machines_of home live ++ (new_machine m.num.0 m.cpu m.mem (take m.count m.tags) ∷ []), now.state))
