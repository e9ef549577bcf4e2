use Rattle.std.proofs.Common.{◌∙◌, ◌<◌, length, subst, sym}
use Rattle.segment_plan.specs.Plan.{leaves_none}
use Rattle.segment_plan.proofs.Columns.{no_column, some_column}
use Rattle.segment_plan.proofs.planning.is_emptied.Goals as goal

pub returns-then-branch : goal.returns-then-branch
returns-then-branch c =
    sym (some_column (leaves_none c.args.conjuncts.now c.args.head.now) (length c.args.table.now.schema.fields) c.loop-column.column
    (subst (λ n. c.loop-column.column < n) c.len-column-end.ensures c.loop-column-test.true) (sym c.in_ok-leaves_none.ensures ∙ c.if-branch.true))

pub loop-column-preserved : goal.loop-column-preserved
loop-column-preserved c =
    no_column (leaves_none c.args.conjuncts.now c.args.head.now) c.loop-column.column c.loop-column.invariant (sym c.in_ok-leaves_none.ensures ∙ c.if-branch.false)
