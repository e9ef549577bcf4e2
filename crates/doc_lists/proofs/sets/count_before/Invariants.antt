use Rattle.std.proofs.Common.{◌≤◌, ◌-◌, length, take}
use Rattle.doc_lists.specs.Docs.{next_from}
use Rattle.doc_lists.proofs.sets.count_before.Given as goal

abbrev pub invariant-loop-count : goal.invariant-loop-count
invariant-loop-count l = record {
  within : l.count ≤ length l.runs;
  before : next_from 0 (take l.count l.runs) ≤ l.doc;
}

abbrev pub decreases-loop-count : goal.decreases-loop-count
decreases-loop-count l = length l.runs - l.count
