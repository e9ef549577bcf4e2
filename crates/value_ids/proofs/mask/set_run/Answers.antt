use Rattle.std.proofs.Common.{arith, refl}
use Rattle.value_ids.proofs.RunLemmas.{set_one, set_word}
use Rattle.value_ids.proofs.mask.set_run.Goals as goal

pub loop-id-preserved-then-id-end : goal.loop-id-preserved-then-id-end
loop-id-preserved-then-id-end c = record {
  within = c.if-id-end.true;
  bits = set_word c.args.from c.loop-id.id c.args.mask.now c.loop-id.mask _ c.loop-id.invariant.bits (omega (arith, c.loop-id-test.true, c.requires.room)) c.if-id-eq0.true refl;
}

pub loop-id-preserved : goal.loop-id-preserved
loop-id-preserved c = record {
  within = omega (arith, c.loop-id-test.true);
  bits = set_one c.args.from c.loop-id.id c.args.mask.now c.loop-id.mask _ c.loop-id.invariant.bits (omega (arith, c.loop-id-test.true, c.requires.room)) refl;
}
