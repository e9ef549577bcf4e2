use Rattle.std.proofs.Common.{◌≡◌, drop, length}
use Rattle.std.specs.Vec.Iter.{into_iter_items, into_iter_len}
use Rattle.values.specs.Columns.{ListedColumns}
use Rattle.segment_build.specs.Merging.{AreMerged}
use Rattle.segment_build.proofs.MergeLemmas.{HaveGrown}
use Rattle.segment_build.proofs.trees.grow_trees.Given as goal

abbrev pub invariant-trees : goal.invariant-trees
invariant-trees l = record {
  rest : into_iter_items l.left ≡ drop l.at l.fn.merged.items;
  size : into_iter_len l.left ≡ length (into_iter_items l.left);
  these : (t : ListedColumns) → AreMerged l.table t l.fn.merged.items → HaveGrown l.table t l.at l.trees l.grown;
}
