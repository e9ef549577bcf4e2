use Rattle.std.proofs.Common.{length, arith}
use Rattle.std.specs.Prelude.{vec_capacity}
use Rattle.state_columns.proofs.CopySteps as steps
use Rattle.state_columns.proofs.lists.put_all.Goals as goal

pub put-requires : goal.put-requires
put-requires g c = record {
  room = steps.copied_fits c.args.out.now.items c.args.items.now c.loop-i.out.items c.loop-i.i
      (length c.args.items.now) (vec_capacity c.args.out.now) (vec_capacity c.loop-i.out)
      c.loop-i-test.true c.requires.room c.loop-i.invariant.capacity c.loop-i.invariant.items;
}

pub loop-i-preserved : goal.loop-i-preserved
loop-i-preserved g c = record {
  items = steps.copied_more c.args.out.now.items c.args.items.now c.loop-i.out.items
      c.put.new.out.items c.loop-i.i c.index-items-i.result c.loop-i-test.true
      c.loop-i.invariant.items c.index-items-i.is c.put.ensures.items;
  capacity = omega (arith, c.loop-i.invariant.capacity, c.put.ensures.capacity);
}

pub returns-clause-items : goal.returns-clause-items
returns-clause-items g c =
    steps.copied_all c.args.out.now.items c.args.items.now c.loop-i.out.items c.loop-i.i
    c.loop-i-test.false c.loop-i.invariant.items
