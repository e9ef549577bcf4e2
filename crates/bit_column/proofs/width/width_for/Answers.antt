use Rattle.std.proofs.Common.{rules, max, ap, ◌∙◌, ◌≡◌, ◌-◌, sym, subst, arith}
use Rattle.std.specs.Int.Count.{count_leading_zeros}
use Rattle.bit_column.specs.Column.{IsWidth, width_of}
use Rattle.bit_column.proofs.Widths.{width-least}
use Rattle.bit_column.proofs.width.width_for.Goals as goal

pub returns-clause-least : goal.returns-clause-least
returns-clause-least c =
    let digits = c.max.ensures ∙ ap (λ a. max (32 - count_leading_zeros 32 a) 1) c.saturating_sub.ensures in
    let is : c.max.result ≡ width_of c.args.count = digits ∙ omega arith in
    subst (IsWidth c.args.count) (sym is) (width-least c.args.count (search rules))
