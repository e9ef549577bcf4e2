use Rattle.std.proofs.Common.{◌≡◌, ◌<◌, ◌≤◌, ℕ, get_or, length}
use Rattle.table_schema.specs.declared.query.Agg.{Agg}
use Rattle.coded_columns.specs.Keyed.{AddsAgg, AreOfRows, rows_in}
use Rattle.coded_columns.specs.declared.key_states.KeyStates.{KeyStates}
use Rattle.coded_columns.proofs.keyed_rows.add_all.Given as goal

abbrev pub invariant-loop-at : goal.invariant-loop-at
invariant-loop-at l = record {
  count : length l.owns ≡ length l.fn.owns;
  done : (i : ℕ) (agg : Agg) (own : KeyStates) → i < l.at → AddsAgg (get_or l.aggs i agg) l.keys (rows_in l.placed) (get_or l.fn.owns i own) (get_or l.owns i own);
  rest : (i : ℕ) (own : KeyStates) → l.at ≤ i → get_or l.owns i own ≡ get_or l.fn.owns i own;
  told : AreOfRows (rows_in l.placed) l.numbers;
}
