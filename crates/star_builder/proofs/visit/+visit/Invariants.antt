use Rattle.std.proofs.Common.{◌≡◌, ◌+◌, ◌-◌, ◌*◌, ◌≤◌, length}
use Rattle.agg_laws.specs.Rows.{merged_rows}
use Rattle.star_tree.specs.Flat.{visited}
use Rattle.star_file.specs.Rules.{most_bytes}
use Rattle.star_builder.specs.Building.{Written, bytes_of, children_in, drop_children, Standing}
use Rattle.star_builder.specs.Growing.{written}
use Rattle.star_builder.proofs.visit.+visit.Given as goal

abbrev pub decreases-visit : goal.decreases-visit
decreases-visit l = 2 * (l.shape.now.dims - l.level)

abbrev pub decreases-visit_children : goal.decreases-visit_children
decreases-visit_children l = 2 * (l.shape.now.dims - l.level) - 1

-- the nodes still to be visited stand, and their visits give what was to come
abbrev pub invariant-visit_children-loop-i : goal.invariant-visit_children-loop-i
invariant-visit_children-loop-i l =
    let before : Written = written l.fn.tree in
    let now : Written = written l.tree in
    let subtrees = children_in l.shape l.level l.start l.end before in
    record {
      left : visited merged_rows (l.level + 1) (l.first + l.i) (drop_children l.i subtrees) now
          ≡ visited merged_rows (l.level + 1) l.first subtrees before;
      stand : Standing l.shape (l.shape.dims - (l.level + 1)) (l.level + 1) (l.first + l.i)
          (drop_children l.i subtrees) now;
      longer : length before.0 ≤ length now.0;
      dims : l.tree.docs.dims ≡ l.fn.tree.docs.dims;
      kinds : l.tree.docs.kinds ≡ l.fn.tree.docs.kinds;
      small : bytes_of l.shape now ≤ most_bytes;
    }
