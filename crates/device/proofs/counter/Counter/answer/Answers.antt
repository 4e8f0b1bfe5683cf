use Rattle.std.proofs.Common.{◌≡◌, ℕ, length, rules}
use Rattle.model.specs.Memory.{Memory}
use Rattle.device.specs.Follows.{FollowsTo}
use Rattle.device.specs.Service.{Said}
use Rattle.device.specs.Counter.{State, meant, code, service, mind_of, Stands, Tells, Awake}
use Rattle.device.proofs.Counted.{two_words, serves}
use Rattle.device.proofs.Served.{right}
use Rattle.device.proofs.Calls.{call_budget}
use Rattle.device.proofs.Telling.{finished, goes_on, does_so}
use Rattle.device.proofs.counter.Counter.answer.Goals as goal

pub returns : goal.returns
returns g c =
    let long : length c.act-acted.new.self.home ≡ 2 = search rules in
    let x : State = mind_of c.args.self.now.home c.args.self.now.asked in
    let y : State = mind_of c.act-acted.new.self.home c.act-acted.new.self.asked in
    let m : Memory = g.K.Kept.word c.args.words.now in
    let n : Memory = g.K.Kept.word c.finish.new.words in
    let z : ℕ → Said ℕ State = λ r. record { reply = r; mind = y } in
    let f : FollowsTo (code.does c.args.ask x) m c.finish.result z n =
    finished service c.args.ask x (λ r. r) c.act-acted.result.reply y c.act-acted.ensures.says c.act-acted.result.changed c.act-acted.ensures.keeps c.act-acted.new.self.home (two_words c.act-acted.new.self.home c.act-acted.new.self.asked long) m n c.finish.result c.finish.ensures in
    record { follows = f; runs = goes_on code c.args.ask x m c.finish.result z n f; tells = does_so code c.args.ask x m c.finish.result z n f meant Tells Awake (right meant service Stands serves); budget = call_budget service c.args.ask x m }
