use Rattle.std.proofs.Common.{◌≡◌, map, take}
use Rattle.agg_laws.specs.States.{unit_of}
use Rattle.state_columns.proofs.state_row.StateRow.units.Given as goal

abbrev pub invariant-loop-kind : goal.invariant-loop-kind
invariant-loop-kind l = l.states.items ≡ map unit_of (take l.kind-index l.kind-items)
