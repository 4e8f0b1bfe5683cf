use Rattle.std.proofs.Common.{Ok}
use denote.Param.Always.{always_mut}
use Rattle.std.specs.Fn.{CalledAt}
use Rattle.lines.specs.Input.{HandedOn}
use Rattle.lines.proofs.input.each_piece.Given as goal

-- the pieces so far
abbrev pub invariant-loop : goal.invariant-loop
invariant-loop g l =
    record {
      may : always_mut g.F.FnMut l.initial.hand → always_mut g.F.FnMut l.hand;
      handed : HandedOn (λ p x q. CalledAt g.F.FnMut p x (Ok tt) q) l.initial.hand l.hand (g.R.Read.remaining l.initial.input) (g.R.Read.remaining l.input);
    }
