use Rattle.std.proofs.Common.{◌≡◌, ◌+◌, ◌++◌, length, take}
use Rattle.agg_laws.specs.Rows.{merged_rows}
use Rattle.agg_laws.specs.Tree.{merged_docs}
use Rattle.star_table.proofs.StarSteps.{starred_at}
use Rattle.star_table.proofs.star_table.StarTable.append_ordered.Given as goal

abbrev pub invariant-loop-i : goal.invariant-loop-i
invariant-loop-i l = record {
  docs : l.self.docs ≡ l.fn.self.docs
      ++ merged_docs merged_rows (starred_at l.level l.fn.self.docs (take l.i l.order));
  room : l.self.spare + length l.self.docs ≡ l.fn.self.spare + length l.fn.self.docs;
  dims : l.self.dims ≡ l.fn.self.dims;
  kinds : l.self.kinds ≡ l.fn.self.kinds;
}
