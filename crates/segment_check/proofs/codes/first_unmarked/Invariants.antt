use Rattle.segment_check.specs.Codes.{AreMarked}
use Rattle.segment_check.proofs.codes.first_unmarked.Given as goal

abbrev pub invariant-marks : goal.invariant-marks
invariant-marks l = AreMarked l.fn.marks l.fn.from l.at
