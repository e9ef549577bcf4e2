use Rattle.std.proofs.Common.{◌+◌, ◌-◌, get_or, length, arith}
use Rattle.coded_columns.specs.Ids.{seen_ids}
use Rattle.coded_scan.specs.Marks.{is_between}
use Rattle.coded_scan.proofs.MarkSteps.{rest-marks}
use Rattle.coded_scan.proofs.marking.rest_of_run.Goals as goal

pub returns : goal.returns
returns c =
    rest-marks (λ row. is_between c.args.first (c.args.first + c.args.more) (get_or (seen_ids c.args.ids) row 0)) (length (seen_ids c.args.ids)) c.args.from (c.loop-at.at - c.args.from) c.loop-at.word
    (omega (arith, c.loop-at.invariant.within, c.loop-at-test.false, c.count-at-end.ensures)) (omega (arith, c.loop-at.invariant.within, c.requires.few)) c.loop-at.invariant.small c.loop-at.invariant.marks
