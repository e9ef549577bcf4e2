use Rattle.std.proofs.Common.{◌≤◌, get_or, length, take}
use Rattle.value_ids.specs.Ids.{has_id}
use Rattle.coded_columns.specs.Ids.{seen_ids}
use Rattle.coded_scan.specs.Marks.{AreMarks}
use Rattle.coded_scan.proofs.marking.mark_runs.Given as goal

abbrev pub invariant-loop : goal.invariant-loop
invariant-loop l = record {
  within : l.start ≤ length l.matching;
  marks : AreMarks (length (seen_ids l.ids)) (λ row. has_id (take l.start l.matching) (get_or (seen_ids l.ids) row 0)) l.words;
}
