use Rattle.std.proofs.Common.{◌∙◌, [], List, get_or, length, ap, sym, arith, subst}
use Rattle.std.proofs.lemmas.List.{length_push}
use Rattle.coded_columns.specs.Keyed.{HoldsAgg}
use Rattle.coded_columns.specs.declared.key_states.KeyStates.{KeyStates}
use Rattle.coded_columns.proofs.KeyedSteps.{unit-push}
use Rattle.coded_columns.proofs.keyed_rows.units_of.Goals as goal

pub loop-agg-init : goal.loop-agg-init
loop-agg-init c = record {
  count = ap length c.in_ok-owns.ensures.items;
  each = λ i agg own lt. absurd (omega (arith, lt));
}

pub loop-agg-preserved : goal.loop-agg-preserved
loop-agg-preserved c =
    let owns : List KeyStates = c.loop-agg.owns.items in
    let new : KeyStates = c.in_ok-units.field-0 in
    let is = c.in_ok-push.ensures.items in
    record {
      count = ap length is ∙ length_push owns new ∙ omega (arith, c.loop-agg.invariant.count);
      each = λ i agg own lt.
          subst (λ (l : List KeyStates). HoldsAgg c.args.size [] [] (get_or c.args.aggs.now i agg) (get_or l i own)) (sym is)
          (unit-push c.args.size c.args.aggs.now owns c.loop-agg.agg-index _ new c.loop-agg-test.true c.loop-agg.invariant.count
          c.in_ok-units.ensures.kind c.in_ok-units.ensures.size c.in_ok-units.ensures.each c.loop-agg.invariant.each i agg own lt);
    }

pub returns : goal.returns
returns c =
    let all = c.loop-agg.invariant.count in
    record {
      count = omega (arith, all, c.loop-agg.auto.agg-index-end, c.loop-agg-test.false);
      each = λ i agg own lt. c.loop-agg.invariant.each i agg own (omega (arith, lt, c.loop-agg.auto.agg-index-end, c.loop-agg-test.false));
    }
