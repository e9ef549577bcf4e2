use Rattle.std.proofs.Common.{◌≡◌, ◌+◌, ◌++◌, take}
use Rattle.state_columns.specs.Grouping.{starred_docs}
use Rattle.star_table.proofs.star_table.StarTable.append_firsts.Given as goal

abbrev pub invariant-loop-i : goal.invariant-loop-i
invariant-loop-i l = record {
  docs : l.self.docs ≡ l.fn.self.docs ++ starred_docs l.level l.fn.self.docs (take l.i l.firsts);
  room : l.self.spare + l.i ≡ l.fn.self.spare;
  dims : l.self.dims ≡ l.fn.self.dims;
  kinds : l.self.kinds ≡ l.fn.self.kinds;
}
