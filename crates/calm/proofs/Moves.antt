-- Calm moves are moves.
-- Assumes nothing.
use Rattle.std.proofs.Common.{◌≡◌, ℕ, List, T, sym, ◌∙◌, subst}
use Rattle.model.specs.Calls.{Call, Tick}
use Rattle.model.specs.Wire.{Bytes, Read, garbled, meant, read_call}
use Rattle.model.specs.Lines.{call_in}
use Rattle.model.proofs.Lists.{never}
use Rattle.together.specs.Real.{Body, Move, Comes, from_person}
use Rattle.calm.specs.Rounds.{CalmMove}
use Rattle.calm.specs.Rest.{CalmIsMove}

-- a time, and bytes that are no call, anyone may say
time_comes : (g : ℕ → Body) (bs : List Bytes) (b : Bytes) (t : ℕ) → read_call (call_in b) ≡ meant (Tick t) → Comes g bs b
time_comes g bs b t e = Comes.person b (λ c q. let o : meant (Tick t) ≡ meant c = sym e ∙ q in let y : Tick t ≡ c = cc in subst (λ (u : Call). T (from_person u)) y tt)

garbled_comes : (g : ℕ → Body) (bs : List Bytes) (b : Bytes) → read_call (call_in b) ≡ garbled → Comes g bs b
garbled_comes g bs b e = Comes.person b (λ c q. let o : ◌≡◌ {A = Read Call} garbled (meant c) = sym e ∙ q in never (cc))

pub calm_is_move : CalmIsMove
calm_is_move ks w v (CalmMove.tells x m g bs cs b d t way e k) = Move.answers x m g bs cs b d (time_comes g bs b t e) way
calm_is_move ks w v (CalmMove.hears x m g bs cs b d i a xs os way j o e ready q) = Move.answers x m g bs cs b d (Comes.line b j) way
calm_is_move ks w v (CalmMove.refuses x m g bs cs b d i l n k xs way j e q) = Move.answers x m g bs cs b d (Comes.line b j) way
calm_is_move ks w v (CalmMove.passes_over x m g bs cs b d way e) = Move.answers x m g bs cs b d (garbled_comes g bs b e) way
calm_is_move ks w v (CalmMove.reports y g bs cs i a o b q ob) = Move.reports y g bs cs i a o b q
calm_is_move ks w v (CalmMove.heeds y g bs cs i a b o j) = Move.hears y g bs cs i a b o j
calm_is_move ks w v (CalmMove.turns y g bs cs i b t k) = Move.turns y g bs cs i b t
