use Rattle.std.proofs.Common.{arith}
use Rattle.text_scan.specs.Named.{IsAggMarked}
use Rattle.text_scan.proofs.NamedLemmas.{agg-stays, below-next}
use Rattle.text_scan.proofs.named.mark_aggs.Goals as goal

pub aggs-init : goal.aggs-init
aggs-init c = record { stay = λ column is. is; marked = λ k d lt below. absurd (omega (arith, lt)) }

pub aggs-preserved : goal.aggs-preserved
aggs-preserved c =
    let old = c.aggs.marks in
    let new = c.mark_agg.new.marks in
    let stay = c.mark_agg.ensures.stay in
    record {
      stay = λ column is. stay column (c.aggs.invariant.stay column is);
      marked = below-next (IsAggMarked old) (IsAggMarked new) c.args.aggs.now c.aggs.i _ (agg-stays old new stay) c.aggs.invariant.marked c.aggs-test.true c.mark_agg.ensures.marked;
    }

pub returns-clause-marked : goal.returns-clause-marked
returns-clause-marked c = λ k d lt. c.aggs.invariant.marked k d (omega (arith, lt, c.aggs-test.false)) lt
