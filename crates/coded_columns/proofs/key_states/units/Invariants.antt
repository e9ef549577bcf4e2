use Rattle.std.proofs.Common.{◌≡◌, ◌+◌, ◌≤◌, replicate}
use Rattle.agg_laws.specs.States.{unit_of}
use Rattle.coded_columns.proofs.key_states.units.Given as goal

abbrev pub invariant-loop : goal.invariant-loop
invariant-loop l = record {
  kind : l.column.kind ≡ l.fn.kind;
  states : l.column.states ≡ replicate l.counter (unit_of l.fn.kind);
  room : l.fn.count ≤ l.column.spare + l.counter;
}
