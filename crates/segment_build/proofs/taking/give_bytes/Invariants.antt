use Rattle.std.proofs.Common.{Result, length}
use Rattle.outside.specs.Seen.{Seen, seen}
use Rattle.segment_build.proofs.taking.give_bytes.Given as goal

-- what comes of the bytes that are left comes of all
abbrev pub invariant-pieces : goal.invariant-pieces
invariant-pieces g l = (r : Result (Unit {0}) g.row.T-Fault.Denot) (z : g.row.T.Denot) (u : Seen) → g.T.Taker.takes l.left r l.taker (seen g.S.Shelf l.shelf) z u
    → g.T.Taker.takes l.fn.bytes r l.fn.taker (seen g.S.Shelf l.fn.shelf) z u

abbrev pub decreases-pieces : goal.decreases-pieces
decreases-pieces g l = length l.left
