use Rattle.std.proofs.Common.{take, map}
use Rattle.std.specs.List.{AllZip}
use Rattle.segment_build.specs.Coded.{HaveNumbers, columns_in}
use Rattle.segment_build.specs.Merging.{IsMerged}
use Rattle.segment_build.proofs.ColumnCodes.{in_rows}
use Rattle.segment_build.proofs.trees.merge_trees.Given as goal

abbrev pub invariant-trees : goal.invariant-trees
invariant-trees l = record {
  merged : AllZip (IsMerged (in_rows l.table (columns_in l.coded))) (take l.at l.trees) l.all.items;
  have : HaveNumbers (columns_in l.coded) (map (λ v. v.items) l.numbers.items);
}
