use Rattle.std.proofs.Common.{◌≤◌, ◌∙◌, ap, arith, length, pos}
use Rattle.std.proofs.lemmas.Bool.Decides.{nat_tests}
use Rattle.std.proofs.lemmas.List.{get_or_past}
use Rattle.values.specs.declared.value.Value.TheVariants.{Whole}
use Rattle.scan_engine.proofs.holds.number_in.Goals as goal

pub returns-in-None : goal.returns-in-None
returns-in-None c =
    let past : length c.in-Some.numbers.now ≤ c.args.at = grind (arith, nat_tests, c.in-None.ensures.lookup) in
    c.in-Some.ensures.each c.args.at ∙ ap Whole (get_or_past c.in-Some.numbers.now c.args.at (pos 0) past)
