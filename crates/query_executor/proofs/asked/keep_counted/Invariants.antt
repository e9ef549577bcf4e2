use Rattle.std.proofs.Common.{◌≡◌, take}
use Rattle.segment_opening.specs.Found.{with_counts}
use Rattle.query_executor.proofs.asked.keep_counted.Given as goal

abbrev pub invariant-columns : goal.invariant-columns
invariant-columns l = l.head ≡ with_counts (take l.column l.counts) l.fn.head
