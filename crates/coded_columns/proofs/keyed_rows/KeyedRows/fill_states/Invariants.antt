use Rattle.std.proofs.Common.{◌≡◌, map, take}
use Rattle.coded_columns.specs.Keyed.{state_in}
use Rattle.coded_columns.proofs.keyed_rows.KeyedRows.fill_states.Given as goal

abbrev pub invariant-loop-own : goal.invariant-loop-own
invariant-loop-own l = l.row ≡ map (λ own. state_in own l.key) (take l.own-index l.self.aggs.items)
