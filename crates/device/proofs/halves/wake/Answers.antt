use Rattle.std.proofs.Common.{◌≡◌, length, sym, arith}
use Rattle.device.specs.Follows.{Ended}
use Rattle.device.specs.Halves.{wakening}
use Rattle.device.proofs.Wakened.{wakened, wakened_held}
use Rattle.device.proofs.halves.wake.Goals as goal

pub returns : goal.returns
returns g c =
    let size = length c.args.home.now in
    let m = g.K.Kept.word c.args.words.now in
    let long : length c.read.new.home ≡ size = omega arith in
    let e : Ended (wakening size) m c.read.new.home m = wakened m size c.locate-at.result.held c.load.result c.read.new.home c.load.ensures c.locate-at.ensures.holds long (λ j lt. sym (c.read.ensures j (omega arith))) in
    record { follows = e; whole = λ h l held. wakened_held m size h c.read.new.home l held e }
