use Rattle.std.proofs.Common.{◌≡◌, ◌+◌, ◌≤◌, ◌++◌, length, take}
use Rattle.star_reader.specs.Answers.{asked_of, left_of}
use Rattle.star_reader.specs.Selected.{IsSelected, selected_docs}
use Rattle.star_reader.proofs.selection.Selected.take_passing.Given as goal

abbrev pub invariant-loop-at : goal.invariant-loop-at
invariant-loop-at l = record {
  selected : IsSelected l.shape l.asked l.rows l.self.table;
  docs : l.self.table.docs ≡ l.fn.self.table.docs ++ selected_docs l.asked
      (left_of (asked_of l.task) (length l.task.matched) l.level (take l.at l.table.docs));
  room : l.count ≤ l.self.table.spare + l.at;
}
