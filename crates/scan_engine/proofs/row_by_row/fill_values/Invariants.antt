use Rattle.std.proofs.Common.{◌≡◌, take, map}
use Rattle.values.specs.Columns.{row_of}
use Rattle.agg_laws.specs.Numbers.{AreWhole}
use Rattle.group_table.specs.Groups.{number_for}
use Rattle.scan_engine.proofs.row_by_row.fill_values.Given as goal

abbrev pub invariant-loop-agg : goal.invariant-loop-agg
invariant-loop-agg l = record {
  values : l.values.items ≡ map (λ agg. number_for agg (row_of l.block.columns.now.columns l.at)) (take l.agg-index l.aggs);
  whole : AreWhole l.values.items;
}
