use Rattle.std.proofs.Common.{◌≡◌, ◌<◌, [], ℕ, get_or, length}
use Rattle.coded_columns.specs.Keyed.{HoldsAgg}
use Rattle.coded_columns.specs.declared.key_states.KeyStates.{KeyStates}
use Rattle.table_schema.specs.declared.query.Agg.{Agg}
use Rattle.coded_columns.proofs.keyed_rows.units_of.Given as goal

abbrev pub invariant-loop-agg : goal.invariant-loop-agg
invariant-loop-agg l = record {
  count : length l.owns.items ≡ l.agg-index;
  each : (i : ℕ) (agg : Agg) (own : KeyStates) → i < l.agg-index → HoldsAgg l.size [] [] (get_or l.aggs i agg) (get_or l.owns.items i own);
}
