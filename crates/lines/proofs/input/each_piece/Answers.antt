use Rattle.std.proofs.Common.{rules, tests, of_calls, refl}
use Rattle.lines.proofs.Handing.{handed_more, handed_all}
use Rattle.lines.proofs.input.each_piece.Goals as goal

pub returns-then-is_empty-clause-handed : goal.returns-then-is_empty-clause-handed
returns-then-is_empty-clause-handed g c = (_, handed_all _ _ _ _ _ _ c.loop.invariant.handed _ c.in_ok-piece.ensures.bytes (search (rules, tests)))

pub loop-preserved : goal.loop-preserved
loop-preserved g c = record { may = λ a. search of_calls; handed = handed_more _ _ _ _ _ _ c.loop.invariant.handed _ c.in_ok-piece.ensures.bytes _ (record { shown = c.in_ok-piece.piece; shows = refl; called = c.in_ok-hand.ensures }) }
