use Rattle.std.proofs.Common.{[], List, subst}
use Rattle.table_schema.specs.declared.query.Agg.{Agg}
use Rattle.coded_columns.specs.Keyed.{HoldsPacked}
use Rattle.coded_columns.proofs.KeyedSteps.{packed-holds}
use Rattle.coded_scan.specs.Passed.{passed}
use Rattle.coded_scan.proofs.KeyedMerges.{passed-below}
use Rattle.coded_scan.proofs.keyed_scan.keyed_by_ids.Goals as goal

pub add_blocks-requires-clause-none : goal.add_blocks-requires-clause-none
add_blocks-requires-clause-none c =
    let segment = c.args.rows.segment.now in
    subst (λ (aggs : List Agg). HoldsPacked segment c.args.query.now.groups aggs [] c.in_ok-keyed.keyed) c.as_slice.ensures (c.in_ok-keyed.ensures segment c.args.query.now.groups c.requires)

pub returns : goal.returns
returns c =
    let query = c.args.query.now in
    packed-holds c.args.rows.segment.now query.groups query.aggs (passed c.args.rows) c.add_blocks.new.keyed c.in_ok-add_blocks.ensures (passed-below c.args.rows)
