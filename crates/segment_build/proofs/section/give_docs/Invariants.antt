use Rattle.std.proofs.Common.{◌≤◌, Result, ◌-◌, drop}
use Rattle.outside.specs.Seen.{Seen, seen}
use Rattle.star_file.specs.Bytes.{doc_bytes}
use Rattle.segment_build.proofs.section.give_docs.Given as goal

-- what comes of the documents that are left comes of all
abbrev pub invariant-pieces : goal.invariant-pieces
invariant-pieces g l = record {
  within : l.from ≤ l.count;
  left : (r : Result (Unit {0}) g.row.T-Fault.Denot) (z : g.row.T.Denot) (u : Seen) → g.T.Taker.takes (doc_bytes (drop l.from l.docs.tree.docs.docs)) r l.taker (seen g.S.Shelf l.shelf) z u
      → g.T.Taker.takes (doc_bytes l.docs.tree.docs.docs) r l.fn.taker (seen g.S.Shelf l.fn.shelf) z u;
}

abbrev pub decreases-pieces : goal.decreases-pieces
decreases-pieces g l = l.count - l.from
