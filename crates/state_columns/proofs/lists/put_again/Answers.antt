use Rattle.std.proofs.Common.{◌+◌, take, drop, arith}
use Rattle.std.specs.Prelude.{vec_capacity}
use Rattle.state_columns.proofs.CopySteps as steps
use Rattle.state_columns.proofs.lists.put_again.Goals as goal

pub overflow_add-from : goal.overflow_add-from
overflow_add-from g c =
    omega (arith, c.requires.there, c.args.out.now.ok, c.args.out.now.small, c.loop-i-test.true)

pub index-item-requires : goal.index-item-requires
index-item-requires g c =
    let there = steps.still_there c.args.out.now.items (take c.loop-i.i (drop c.args.from
    c.args.out.now.items)) c.loop-i.out.items (c.args.from + c.loop-i.i)
    (omega (arith, c.requires.there, c.loop-i-test.true)) c.loop-i.invariant.items in
    omega (arith, there, c.loop-i.out.ok.0)

pub put-requires : goal.put-requires
put-requires g c = record {
  room = steps.copied_fits c.args.out.now.items (drop c.args.from c.args.out.now.items)
      c.loop-i.out.items c.loop-i.i c.args.count (vec_capacity c.args.out.now)
      (vec_capacity c.loop-i.out) c.loop-i-test.true c.requires.room c.loop-i.invariant.capacity
      c.loop-i.invariant.items;
}

pub loop-i-preserved : goal.loop-i-preserved
loop-i-preserved g c = record {
  items = steps.repeated_more c.args.out.now.items c.loop-i.out.items c.put.new.out.items
      c.args.from c.loop-i.i c.index-item.result.now
      (omega (arith, c.requires.there, c.loop-i-test.true)) c.loop-i.invariant.items
      c.index-item.ensures c.put.ensures.items;
  capacity = omega (arith, c.loop-i.invariant.capacity, c.put.ensures.capacity);
}

pub returns-clause-items : goal.returns-clause-items
returns-clause-items g c =
    steps.copied_ended c.args.out.now.items (drop c.args.from c.args.out.now.items)
    c.loop-i.out.items c.loop-i.i c.args.count c.loop-i.auto.i-end c.loop-i-test.false
    c.loop-i.invariant.items
