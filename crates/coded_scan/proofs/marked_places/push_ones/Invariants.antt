use Rattle.std.proofs.Common.{◌≡◌, ◌≤◌, ◌+◌, ◌++◌, length, take}
use Rattle.coded_scan.specs.Marks.{ones}
use Rattle.coded_scan.proofs.marked_places.push_ones.Given as goal

abbrev pub invariant-loop-left : goal.invariant-loop-left
invariant-loop-left l = record {
  count : l.n + length (ones l.from 64 l.left) ≡ l.after + length (ones l.from 64 l.word);
  small : l.left ≤ l.word;
  places : take l.n l.out ++ ones l.from 64 l.left ≡ take l.after l.fn.out ++ ones l.from 64 l.word;
}

abbrev pub decreases-loop-left : goal.decreases-loop-left
decreases-loop-left l = l.left
