use Rattle.std.proofs.Common.{◌∙◌, length, ap, subst, sym, List}
use Rattle.std.proofs.lemmas.Result.{IfOk-weaker}
use Rattle.table_schema.specs.declared.query.Agg.{Agg}
use Rattle.agg_laws.specs.declared.states.AggState.{AggState}
use Rattle.group_table.specs.Groups.{states_of}
use Rattle.group_table.specs.Kept.{HaveValues, groups_in}
use Rattle.agg_laws.specs.Rows.{kinds_of}
use Rattle.scan_engine.specs.Places.{rows_at}
use Rattle.scan_engine.proofs.AddLemmas.{merged_within}
use Rattle.scan_engine.proofs.RunLemmas.{adds_run, kinds_states, no_room_for_run, states_have}
use Rattle.group_table.specs.Pooled.{in_pool}
use Rattle.scan_engine.proofs.run.add_run.Goals as goal

pub merge_row-requires-clause-kinds : goal.merge_row-requires-clause-kinds
merge_row-requires-clause-kinds c =
    let run = rows_at c.args.block.columns.now.columns c.args.places.now in
    ap kinds_of (c.in_ok-states.ensures.states ∙ ap (λ (aggs : List Agg). states_of aggs run) c.as_slice.ensures) ∙ kinds_states c.args.query.now.aggs run ∙ sym c.requires.room.of_query.kinds

pub merge_row-requires-clause-values : goal.merge_row-requires-clause-values
merge_row-requires-clause-values c = λ lt.
    let run = rows_at c.args.block.columns.now.columns c.args.places.now in
    subst (λ (s : List AggState). HaveValues s) (sym c.in_ok-states.ensures.states) (states_have c.as_slice.result.now run c.requires.run.some)

pub merge_row-requires-clause-fits : goal.merge_row-requires-clause-fits
merge_row-requires-clause-fits c = merged_within (groups_in (in_pool c.args.table.now c.args.pool.now)) c.args.key.now c.in_ok-states.states (length c.args.places.now) c.requires.room.at_most c.requires.room.fits c.in_ok-states.ensures.fits

pub returns-clause-adds : goal.returns-clause-adds
returns-clause-adds c =
    let run = rows_at c.args.block.columns.now.columns c.args.places.now in
    record {
      added = IfOk-weaker c.merge_row.result _ _ (λ u m. adds_run c.args.query.now (length c.args.places.now) run c.args.key.now c.in_ok-states.states (in_pool c.args.table.now c.args.pool.now) (in_pool c.merge_row.new.self c.merge_row.new.pool)
          c.requires.room.of_query c.requires.run (c.in_ok-states.ensures.states ∙ ap (λ (aggs : List Agg). states_of aggs run) c.as_slice.ensures) c.in_ok-states.ensures.fits m) c.merge_row.ensures.ok;
      full = λ bad.
          let full = c.merge_row.ensures.full.0 bad in
          no_room_for_run c.args.query.now run c.args.key.now (in_pool c.args.table.now c.args.pool.now) c.requires.run full.0 full.1;
    }
