use Rattle.std.proofs.Common.{◌∙◌, ◌<◌, ℕ, length, sym, subst, arith, rules}
use Rattle.std.proofs.Math.ListN.{length-set}
use Rattle.coded_columns.specs.Keyed.{TakesKeys, rows_in}
use Rattle.coded_columns.proofs.KeyedSteps.{all-next, rest-next}
use Rattle.coded_columns.proofs.keyed_rows.add_all.Goals as goal

pub add_agg-requires-clause-takes : goal.add_agg-requires-clause-takes
add_agg-requires-clause-takes c =
    let at : ℕ = c.loop-at.at in
    let own = c.index-owns-at.result in
    subst (TakesKeys c.args.keys.now) (sym (c.loop-at.invariant.rest at own (omega arith))) (c.requires.takes.each at own c.loop-at-test.true)

pub loop-at-preserved : goal.loop-at-preserved
loop-at-preserved c =
    let at : ℕ = c.loop-at.at in
    let lt : at < length c.loop-at.owns = omega (arith, c.loop-at-test.true, c.loop-at.invariant.count) in
    record {
      count = length-set c.loop-at.owns at c.add_agg.new.own ∙ c.loop-at.invariant.count;
      done = all-next c.args.aggs.now c.args.keys.now (rows_in c.args.placed) c.args.owns.now c.loop-at.owns at _ c.add_agg.new.own _ lt c.loop-at.invariant.count
          c.loop-at.invariant.done c.loop-at.invariant.rest (omega (arith, lt, c.requires.takes.count, c.loop-at.invariant.count)) (search rules) (search rules) c.in_ok-add_agg.ensures.adds;
      rest = rest-next c.args.owns.now c.loop-at.owns at c.add_agg.new.own c.loop-at.invariant.rest;
      told = c.in_ok-add_agg.ensures.told;
    }
