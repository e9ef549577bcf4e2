use Rattle.std.proofs.Common.{◌∙◌, length, sym, subst, rules}
use Rattle.agg_laws.specs.Rows.{RowFits}
use Rattle.scan_engine.proofs.FoldLemmas.{fits_push, states_more}
use Rattle.scan_engine.proofs.fold.states_at.Goals as goal

pub loop-agg-preserved : goal.loop-agg-preserved
loop-agg-preserved c = record {
  states = c.in_ok-push.ensures.ok ∙ states_more c.args.aggs.now c.loop-agg.agg-index _ c.args.block.columns.now.columns c.numbers_for.result.now c.args.places.now c.loop-agg.states c.state_at.result
      c.loop-agg-test.true (search rules) c.numbers_for.ensures c.state_at.ensures.state c.loop-agg.invariant.states;
  fits = subst (λ l. RowFits l (length c.args.places.now)) (sym c.in_ok-push.ensures.ok)
      (fits_push c.loop-agg.states c.state_at.result (length c.args.places.now) c.loop-agg.invariant.fits c.state_at.ensures.fits);
}
