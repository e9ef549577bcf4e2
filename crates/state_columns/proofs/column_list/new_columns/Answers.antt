use Rattle.agg_laws.specs.declared.aggregate_kind.AggKind.TheVariants as kinds
use Rattle.state_columns.specs.Columns.{column_of}
use Rattle.state_columns.proofs.CopySteps as steps
use Rattle.state_columns.proofs.column_list.new_columns.Goals as goal

pub loop-i-preserved : goal.loop-i-preserved
loop-i-preserved c =
    steps.mapped_more column_of c.args.kinds.now c.loop-i.columns.items c.push.new.self.items
    c.loop-i.i kinds.Count c.new.result c.loop-i-test.true c.loop-i.invariant c.new.ensures
    c.in_ok-push.ensures.items

pub returns : goal.returns
returns c =
    steps.mapped_all column_of c.args.kinds.now c.loop-i.columns.items c.loop-i.i
    c.loop-i-test.false c.loop-i.invariant
