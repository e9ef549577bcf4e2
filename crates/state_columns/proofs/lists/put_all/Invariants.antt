use Rattle.std.proofs.Common.{◌≡◌, ◌≤◌, ◌++◌, take}
use Rattle.std.specs.Prelude.{vec_capacity}
use Rattle.state_columns.proofs.lists.put_all.Given as goal

abbrev pub invariant-loop-i : goal.invariant-loop-i
invariant-loop-i g l = record {
  items : l.out.items ≡ l.initial.out.items ++ take l.i l.items;
  capacity : vec_capacity l.initial.out ≤ vec_capacity l.out;
}
