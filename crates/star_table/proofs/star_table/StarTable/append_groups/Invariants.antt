use Rattle.std.proofs.Common.{◌≡◌, ◌+◌, ◌++◌, length, map, take}
use Rattle.agg_laws.specs.Rows.{merged_rows}
use Rattle.agg_laws.specs.Tree.{merged_docs}
use Rattle.state_columns.specs.Docs.{Doc}
use Rattle.state_columns.specs.Packing.{place}
use Rattle.star_table.proofs.StarSteps.{starred_at}
use Rattle.star_table.proofs.star_table.StarTable.append_groups.Given as goal

abbrev pub invariant-loop-i : goal.invariant-loop-i
invariant-loop-i l = record {
  docs : l.self.docs ≡ l.fn.self.docs
      ++ merged_docs merged_rows (starred_at l.level l.fn.self.docs
      (take (length l.groups.firsts.items + l.i)
      (l.groups.firsts.items ++ map (place l.start) l.groups.others.items)));
  keys : map (λ (e : Doc). e.0) (merged_docs merged_rows (starred_at l.level l.fn.self.docs
      (take (length l.groups.firsts.items + l.i)
      (l.groups.firsts.items ++ map (place l.start) l.groups.others.items))))
      ≡ map (λ (e : Doc). e.0) (starred_at l.level l.fn.self.docs l.groups.firsts.items);
  room : l.self.spare + length l.groups.firsts.items ≡ l.fn.self.spare;
  dims : l.self.dims ≡ l.fn.self.dims;
  kinds : l.self.kinds ≡ l.fn.self.kinds;
}
