use Rattle.std.proofs.Common.{◌≡◌, length, take}
use Rattle.coded_scan.specs.Marks.{ones_in}
use Rattle.coded_scan.proofs.marked_places.put_marked.Given as goal

abbrev pub invariant-loop-at : goal.invariant-loop-at
invariant-loop-at l = record {
  count : l.n ≡ length (ones_in l.from l.words l.at);
  places : take l.n l.out ≡ ones_in l.from l.words l.at;
}
