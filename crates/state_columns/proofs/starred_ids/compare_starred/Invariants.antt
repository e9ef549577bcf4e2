use Rattle.std.proofs.Common.{◌≡◌, ◌≤◌, drop, length}
use Rattle.std.specs.Ordering.{nat_cmp}
use Rattle.std.specs.Cmp.Lexicographic.{slice_cmp}
use Rattle.agg_laws.specs.Tree.{dims_order, set_star}
use Rattle.state_columns.proofs.starred_ids.compare_starred.Given as goal

abbrev pub invariant-loop-at : goal.invariant-loop-at
invariant-loop-at l = record {
  left : dims_order (set_star l.level l.x) (set_star l.level l.y)
      ≡ slice_cmp nat_cmp (drop l.at (set_star l.level l.x)) (drop l.at (set_star l.level l.y));
  within : l.at ≤ length l.y;
}
