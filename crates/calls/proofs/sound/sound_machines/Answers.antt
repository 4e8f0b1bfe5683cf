use Rattle.std.proofs.Common.{◌∙◌, refl, arith, rules}
use Rattle.std.proofs.lemmas.Iterator.{YieldsList-from_range}
use Rattle.std.proofs.lemmas.Iterator.Search.{all_from_yields_List}
use Rattle.calls.specs.Sound.{first_machine_lem}
use Rattle.calls.proofs.Different.{machines_each}
use Rattle.calls.proofs.sound.sound_machines.Goals as goal

pub returns : goal.returns
returns c =
    all_from_yields_List (first_machine_lem c.args.home.now) _ _ _ c.all.ensures.ran (YieldsList-from_range 0 c.in_use.result c.in_use.result refl (omega arith)) (λ x b q k. search rules) ∙
    machines_each c.args.home.now c.in_use.result c.in_use.ensures.is
