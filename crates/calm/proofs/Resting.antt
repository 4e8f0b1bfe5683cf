-- What really runs comes to rest.
-- Assumes nothing.
use Rattle.std.proofs.Common.{◌≡◌, ℕ, ◌+◌, ◌≤◌, true, T, sym, ap, ◌∙◌, subst, subst₂}
use mathlib.Core.List.{Memᴰ}
use Rattle.model.specs.Lists.{keep}
use Rattle.model.specs.State.{Task, State, on_machine}
use Rattle.model.specs.Calls.{Seen, orders}
use Rattle.model.specs.World.{Agent}
use Rattle.rest.specs.Rounds.{Anyhow}
use Rattle.rest.specs.Rest.{AtRest, enough, SomeMachine, StaysAtRest, said_by}
use Rattle.rest.specs.Sooner.{Apart, enough_apart}
use Rattle.rest.specs.Listed.{AsListed}
use Rattle.rest.proofs.Lines as rest
use Rattle.rest.proofs.Sooner as sooner
use Rattle.rest.proofs.Listed as listed
use Rattle.together.specs.Real.{Body, Real}
use Rattle.together.specs.Telling.{Bodied}
use Rattle.together.specs.Now.{herd_state}
use Rattle.together.proofs.Telling.{Has}
use Rattle.calm.specs.Rest.{RemainsAtRest, ReallyRests, ReallySooner, RunsJust, ReallyAsListed}
use Rattle.calm.proofs.After.{Any, teller, any_came, told_state}
use Rattle.calm.proofs.Machines.{obeyed_there}
use Rattle.calm.proofs.Running.{ran, went_round, went_rounds}

-- what is told to be at rest is, and remains so
rests : (v : Real) (h : Has Any v) → AtRest h.told.state × StaysAtRest (teller h.told) → AtRest (herd_state v) × RemainsAtRest v
rests v h q = (subst AtRest (told_state v h.told) q.0, after)
  where
    after : RemainsAtRest v
    after ks x c =
        let r = ran h c in let k = q.1 ks (teller r.has.told) r.course in let e = told_state x r.has.told in let f = told_state v h.told in
        (sym (ap (λ (s : State). s.tasks) e) ∙ k.0 ∙ ap (λ (s : State). s.tasks) f, subst AtRest e k.1)

pub really_rests : ReallyRests
really_rests w u v n c s ra rs k =
    let h = any_came c in let e = sym (told_state w h.told) in let a = went_round h ra in let b = went_rounds a.has rs in
    rests v b.has (rest.comes_to_rest (teller h.told) (teller a.has.told) (teller b.has.told) n h.told.reached (subst SomeMachine e s) a.round b.rounds (subst (λ (t : State). enough t ≤ n + 1) e k))

pub really_sooner : ReallySooner
really_sooner w u v n c s ap' ra rs k =
    let h = any_came c in let e = sym (told_state w h.told) in let a = went_round h ra in let b = went_rounds a.has rs in
    rests v b.has (sooner.comes_sooner (teller h.told) (teller a.has.told) (teller b.has.told) n h.told.reached (subst SomeMachine e s) (subst Apart e ap') a.round b.rounds (subst (λ (t : State). enough_apart t ≤ n + 1) e k))

-- what is told to run does
just : (y : Real) (h : Has Any y) (i : ℕ) (a : Agent) → h.told.agents i ≡ a → AsListed (teller h.told) i → RunsJust y i a
just y h i a e q =
    let p = subst₂ (λ (s : State) (b : Agent). (b.ordered ≡ orders (keep (on_machine i) s.tasks)) × ((t : Task) → Memᴰ t s.tasks → T (on_machine i t) → Memᴰ (record { id = t.id; ready = true }) b.runs) × ((x : Seen) → Memᴰ x b.runs → (t : Task) × Memᴰ t s.tasks × T (on_machine i t) × (t.id ≡ x.id) × (x.ready ≡ true)))
    (told_state y h.told) e (q.ordered, q.all, q.only) in
    record { ordered = p.0; all = p.1; only = p.2 }

pub really_as_listed : ReallyAsListed
really_as_listed w v x y ks c ra at rb cs m mi a o ob said =
    let h = any_came c in let qa = went_round h ra in let qb = went_round qa.has rb in let qc = ran qb.has cs in
    let t = qc.has.told in
    let e : t.agents m.num ≡ a = subst (λ (z : Body). Bodied z (t.agents m.num)) o (t.bodies m.num) in
    let r = listed.runs_as_listed (teller h.told) (teller qa.has.told) (teller qb.has.told) (teller t) ks h.told.reached qa.round (subst AtRest (sym (told_state v qa.has.told)) at) qb.round qc.course m
    (subst (λ (s : State). Memᴰ m s.machines) (sym (told_state y t)) mi) (obeyed_there Anyhow y.herd y.body y.sent y.came qc.has m.num tt a e ob) (subst (λ (b : Agent). (s : Seen) → Memᴰ s (said_by b) → s.ready ≡ true) (sym e) said) in
    just y qc.has m.num a e r
