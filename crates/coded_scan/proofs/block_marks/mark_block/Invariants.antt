use Rattle.std.proofs.Common.{◌≡◌, ◌+◌, length, take}
use Rattle.coded_scan.specs.Marks.{AreMarks}
use Rattle.coded_scan.specs.RowFilters.{all_let}
use Rattle.coded_scan.proofs.block_marks.mark_block.Given as goal

abbrev pub invariant-loop-at : goal.invariant-loop-at
invariant-loop-at l = record {
  marks : AreMarks l.block.length (λ row. all_let (l.block.from + row) (take l.at l.row_filters)) l.words;
  same : length l.others ≡ length l.words;
}
