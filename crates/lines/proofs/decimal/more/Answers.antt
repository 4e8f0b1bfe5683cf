use Rattle.std.proofs.Common.{◌≡◌, ℕ, ◌<◌, ◌≤◌, Some, None, Option, sym, ap, ◌∙◌, subst, arith}
use Rattle.std.specs.Char.{digit_value}
use Rattle.std.specs.Option.{SomeIff}
use Rattle.model.specs.Wire.{meant}
use Rattle.lines.specs.Text.{decimal_on, longer}
use Rattle.lines.specs.Resume.{number_in}
use Rattle.lines.specs.Digits.{More}
use Rattle.lines.proofs.Reading.{decimal_more, decimal_no, decimal_full, so_far_lem}
use Rattle.lines.proofs.decimal.more.Goals as goal

-- the last sum, where the digit is one
by_sum : (n : Option ℕ) (c s : ℕ) (r : Option ℕ) → digit_value c < 10 → s ≡ longer (number_in n) c → SomeIff r (s < 18446744073709551616) s → More n c r
by_sum n c s None d e r = λ ts. decimal_full (number_in n) c ts d (omega (arith, e, r))
by_sum n c s (Some m) d e r = λ ts. let f : longer (number_in n) c < 18446744073709551616 = omega (arith, e, r.0) in decimal_more (number_in n) c ts d f ∙ ap (λ (x : ℕ). decimal_on (meant x) ts) (sym (r.1 ∙ e))

pub returns-in_err-digit : goal.returns-in_err-digit
returns-in_err-digit c = subst (More c.args.before c.args.c) (sym c.from_residual.ensures) (λ ts. decimal_no (number_in c.args.before) c.args.c ts c.in_err-digit.ensures.value)

pub returns-in_err-tens : goal.returns-in_err-tens
returns-in_err-tens c =
    let s = so_far_lem c.args.before in let u = c.unwrap_or.ensures in
    let full : 18446744073709551616 ≤ longer (number_in c.args.before) c.args.c = omega (arith, c.in_err-tens.ensures, s, u) in
    subst (More c.args.before c.args.c) (sym c.from_residual-in_err-tens.ensures) (λ ts. decimal_full (number_in c.args.before) c.args.c ts c.in_ok-digit.ensures.value.0 full)

pub returns : goal.returns
returns c =
    let s = so_far_lem c.args.before in let u = c.unwrap_or.ensures in let d = c.in_ok-digit.ensures.value in
    by_sum c.args.before c.args.c _ _ d.0 (omega (arith, s, u, d.1, c.in_ok-tens.ensures.1, c.from.ensures)) c.checked_add.ensures
