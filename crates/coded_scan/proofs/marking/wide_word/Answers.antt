use Rattle.std.proofs.Common.{◌-◌, get_or, length, arith}
use Rattle.value_ids.specs.Ids.{has_id}
use Rattle.coded_scan.proofs.MarkSteps.{marks-there}
use Rattle.coded_scan.proofs.marking.wide_word.Goals as goal

pub returns : goal.returns
returns c =
    marks-there (λ row. has_id c.args.matching.now (get_or c.args.ids.now row 0)) (length c.args.ids.now) c.args.from (c.loop-at.at - c.args.from) c.loop-at.word
    (omega (arith, c.loop-at.invariant.within, c.loop-at.invariant.few, c.loop-at-test.false, c.min-end.ensures)) (omega (arith, c.loop-at.invariant.few)) c.loop-at.invariant.small c.loop-at.invariant.marks
