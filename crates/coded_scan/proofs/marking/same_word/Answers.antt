use Rattle.std.proofs.Common.{◌≡◌, true, arith, rules}
use Rattle.coded_scan.proofs.MarkSteps.{all-marks, first-marks}
use Rattle.coded_scan.proofs.marking.same_word.Goals as goal

pub returns-then-rest-ge64 : goal.returns-then-rest-ge64
returns-then-rest-ge64 c =
    let is : c.args.holds ≡ true = search rules in
    all-marks c.args.many c.args.from c.args.holds is (omega (arith, c.if-rest-ge64.true, c.if-many-from.false))

pub returns : goal.returns
returns c =
    let is : c.args.holds ≡ true = search rules in
    first-marks c.args.many c.args.from c.args.holds is (omega (arith, c.if-rest-ge64.false))
