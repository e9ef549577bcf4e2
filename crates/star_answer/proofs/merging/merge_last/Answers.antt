use Rattle.std.proofs.Common.{◌∙◌, ◌<◌, ◌≤◌, List, length, refl, ap, sym, subst, arith}
use Rattle.agg_laws.specs.declared.states.AggState.{AggState}
use Rattle.agg_laws.specs.Rows.{RowFits, kinds_of, row_weight}
use Rattle.state_columns.specs.Docs.{doc_at}
use Rattle.state_columns.proofs.RegionSteps.{shape_at, stored_at}
use Rattle.group_table.specs.Kept.{HaveValues}
use Rattle.scan_engine.proofs.AddLemmas.{merged_within}
use Rattle.scan_engine.proofs.RunLemmas.{same_fault}
use Rattle.star_reader.specs.Selected.{key_values, keyed}
use Rattle.star_answer.proofs.MergeSteps as steps
use Rattle.star_answer.proofs.MergeSteps.{upto}
use Rattle.group_table.specs.Pooled.{in_pool}
use Rattle.group_table.proofs.SlotFrames.{stays_both}
use Rattle.star_answer.proofs.merging.merge_last.Goals as goal

pub merge_document-requires-clause-merges : goal.merge_document-requires-clause-merges
merge_document-requires-clause-merges c =
    let t = c.args.selected.now in
    let docs = t.docs in
    let from = c.args.from in
    let at = c.loop-at.at in
    let lt : at < length docs = omega (arith, c.loop-at-test.true, c.len-at-end.ensures.count) in
    let le : from ≤ at = omega (arith, c.loop-at.auto.at) in
    let columns = c.args.columns.now in
    let e = doc_at docs at in
    let states = c.fill_states.new.states in
    let es = keyed columns (upto docs from at) in
    let fits : RowFits states (row_weight e.1) =
    subst (λ (s : List AggState). RowFits s (row_weight e.1)) (sym c.in_ok-fill_states.ensures)
    (steps.fits_stored e.1 (stored_at docs at c.len-at-end.ensures.stored lt)) in
    record {
      keyed = record {
        within = lt;
        dims = c.requires.merges.dims;
        few_columns = c.requires.merges.few_columns;
        ids = steps.key_there docs from at le lt columns c.requires.merges.keyed;
      };
      as_many = c.loop-at.invariant.adds.columns ∙ c.requires.merges.as_many;
      kinds = ap kinds_of c.in_ok-fill_states.ensures
          ∙ (shape_at t.dims t.kinds docs at c.len-at-end.ensures.shape lt).1
          ∙ sym (c.loop-at.invariant.adds.kinds ∙ c.requires.merges.kinds);
      values = λ some. subst HaveValues (sym c.in_ok-fill_states.ensures)
          (steps.values_stored e.1 (stored_at docs at c.len-at-end.ensures.stored lt));
      fits = merged_within _ (key_values columns e.0) states (row_weight e.1)
          (steps.few_there docs from at le lt c.requires.merges.weight_fits)
          (steps.room_there docs from at le lt es (in_pool c.args.groups.now c.args.pool.now)
          (in_pool c.loop-at.groups c.loop-at.pool) c.requires.merges.weight_fits
          c.requires.merges.fits c.loop-at.invariant.adds) fits;
    }

pub returns-in-Err-clause-full : goal.returns-in-Err-clause-full
returns-in-Err-clause-full c is =
    let t = c.args.selected.now in
    let docs = t.docs in
    let from = c.args.from in
    let at = c.loop-at.at in
    let lt : at < length docs = omega (arith, c.loop-at-test.true, c.len-at-end.ensures.count) in
    let le : from ≤ at = omega (arith, c.loop-at.auto.at) in
    let full = c.merge_document.ensures.full (c.in-Err.is ∙ same_fault _ _ is) in
    steps.no_room_there docs from at le lt c.args.columns.now
    (key_values c.args.columns.now (doc_at docs at).0) (in_pool c.args.groups.now c.args.pool.now)
    (in_pool c.loop-at.groups c.loop-at.pool) refl c.loop-at.invariant.adds full.0 full.1

pub loop-at-preserved : goal.loop-at-preserved
loop-at-preserved c =
    let t = c.args.selected.now in
    let docs = t.docs in
    let from = c.args.from in
    let at = c.loop-at.at in
    let lt : at < length docs = omega (arith, c.loop-at-test.true, c.len-at-end.ensures.count) in
    let le : from ≤ at = omega (arith, c.loop-at.auto.at) in
    let mid = in_pool c.loop-at.groups c.loop-at.pool in
    let new = in_pool c.merge_document.new.groups c.merge_document.new.pool in
    record {
      adds = steps.merged_more docs from at le lt c.args.columns.now
          (key_values c.args.columns.now (doc_at docs at).0) c.fill_states.new.states
          (in_pool c.args.groups.now c.args.pool.now) mid new refl c.in_ok-fill_states.ensures
          (stored_at docs at c.len-at-end.ensures.stored lt) c.loop-at.invariant.adds
          c.in_default.ensures.ok;
      stays = stays_both c.args.groups.now c.loop-at.groups c.merge_document.new.groups c.args.pool.now
          c.loop-at.pool c.merge_document.new.pool c.loop-at.invariant.stays c.merge_document.ensures.stays;
    }

pub returns-in-Err-clause-stays : goal.returns-in-Err-clause-stays
returns-in-Err-clause-stays c = stays_both c.args.groups.now c.loop-at.groups c.merge_document.new.groups
    c.args.pool.now c.loop-at.pool c.merge_document.new.pool c.loop-at.invariant.stays
    c.merge_document.ensures.stays
