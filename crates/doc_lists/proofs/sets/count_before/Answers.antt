use Rattle.std.proofs.Common.{arith}
use Rattle.doc_lists.proofs.Stretches.{before_more}
use Rattle.doc_lists.proofs.sets.count_before.Goals as goal

pub loop-count-preserved : goal.loop-count-preserved
loop-count-preserved c = record {
  within = omega (arith, c.loop-count-test.true);
  before = before_more c.args.runs.now c.loop-count.count c.args.doc (record { first = 0; last = 0 }) (omega (arith, c.loop-count-test.true)) c.if-runs-count.true;
}
