use Rattle.std.proofs.Common.{◌≡◌, ◌≤◌, ◌++◌, take, drop}
use Rattle.std.specs.Prelude.{vec_capacity}
use Rattle.state_columns.proofs.lists.put_again.Given as goal

abbrev pub invariant-loop-i : goal.invariant-loop-i
invariant-loop-i g l = record {
  items : l.out.items ≡ l.initial.out.items ++ take l.i (drop l.from l.initial.out.items);
  capacity : vec_capacity l.initial.out ≤ vec_capacity l.out;
}
