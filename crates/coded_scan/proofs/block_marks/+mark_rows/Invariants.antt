use Rattle.std.proofs.Common.{◌≡◌, ◌+◌, ◌&&◌, ◌||◌, ℕ, Bool, true, drop, length, map}
use Rattle.values.specs.Tests.{all_true, any_true}
use Rattle.coded_scan.specs.Marks.{AreMarks}
use Rattle.coded_scan.specs.RowFilters.{covers, lets}
use Rattle.coded_scan.proofs.block_marks.+mark_rows.Given as goal

abbrev pub invariant-loop-member : goal.invariant-loop-member
invariant-loop-member l = record {
  sofar : ℕ → Bool;
  marks : AreMarks l.fn.block.length sofar l.words;
  each : (at : ℕ) → lets (l.fn.block.from + at) l.fn.row_filter ≡ (sofar at && all_true (map (lets (l.fn.block.from + at)) (drop l.member-index l.member-items)));
  others : length l.others ≡ length l.words;
  count : length l.words ≡ length l.fn.words;
  covers : all_true (map (covers l.fn.count) (drop l.member-index l.member-items)) ≡ true;
}

abbrev pub invariant-loop-member-2 : goal.invariant-loop-member-2
invariant-loop-member-2 l = record {
  sofar : ℕ → Bool;
  marks : AreMarks l.fn.block.length sofar l.words;
  each : (at : ℕ) → lets (l.fn.block.from + at) l.fn.row_filter ≡ (sofar at || any_true (map (lets (l.fn.block.from + at)) (drop l.member-index l.member-items)));
  others : length l.others ≡ length l.words;
  count : length l.words ≡ length l.fn.words;
  covers : all_true (map (covers l.fn.count) (drop l.member-index l.member-items)) ≡ true;
}

abbrev pub decreases-mark_rows : goal.decreases-mark_rows
decreases-mark_rows l = goal.size-mark_rows l
