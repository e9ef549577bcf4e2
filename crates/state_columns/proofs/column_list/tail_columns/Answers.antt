use Rattle.std.proofs.Common.{length, ap, ◌∙◌, arith}
use Rattle.state_columns.specs.Columns.{Column, column_tail}
use Rattle.state_columns.proofs.CopySteps.{mapped_more, mapped_all}
use Rattle.state_columns.proofs.EachSteps as steps
use Rattle.state_columns.proofs.column_list.tail_columns.Goals as goal

pub tail-requires : goal.tail-requires
tail-requires c =
    let d = c.index-columns-i.result in
    let lengths = steps.long_at c.args.count 0 c.args.columns.now c.loop-i.i d c.requires.lengths
    c.loop-i-test.true in
    let e = ap (λ (c : Column). length c.states) c.index-columns-i.is in
    omega (arith, e, lengths, c.requires.from)

pub loop-i-preserved : goal.loop-i-preserved
loop-i-preserved c =
    let from = c.args.from in
    mapped_more (column_tail from) c.args.columns.now c.loop-i.tails.items c.push.new.self.items
    c.loop-i.i c.index-columns-i.result c.in_ok-tail.field-0 c.loop-i-test.true c.loop-i.invariant
    (c.in_ok-tail.ensures ∙ ap (column_tail from) c.index-columns-i.is) c.in_ok-push.ensures.items

pub returns : goal.returns
returns c =
    mapped_all (column_tail c.args.from) c.args.columns.now c.loop-i.tails.items c.loop-i.i
    c.loop-i-test.false c.loop-i.invariant
