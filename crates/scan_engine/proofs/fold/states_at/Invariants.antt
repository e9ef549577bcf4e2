use Rattle.std.proofs.Common.{◌≡◌, length, take}
use Rattle.agg_laws.specs.Rows.{RowFits}
use Rattle.group_table.specs.Groups.{states_of}
use Rattle.scan_engine.specs.Places.{rows_at}
use Rattle.scan_engine.proofs.fold.states_at.Given as goal

abbrev pub invariant-loop-agg : goal.invariant-loop-agg
invariant-loop-agg l = record {
  states : l.states ≡ states_of (take l.agg-index l.aggs) (rows_at l.block.columns.now.columns l.places);
  fits : RowFits l.states (length l.places);
}
