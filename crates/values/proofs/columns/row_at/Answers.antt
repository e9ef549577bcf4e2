use Rattle.std.proofs.Common.{◌≡◌, ◌∙◌, arith, take, sym, ap, Some}
use Rattle.std.proofs.lemmas.List.{take_all}
use Rattle.values.specs.Columns.{row_of}
use Rattle.values.proofs.RowLemmas.{row-at, row-more}
use Rattle.values.proofs.columns.row_at.Goals as goal

pub loop-column-preserved : goal.loop-column-preserved
loop-column-preserved c = c.in_ok-push.ensures.ok ∙ row-more c.args.columns.now c.loop-column.column-index c.args.at c.loop-column.row c.column-item.result c.in_ok-value.field-0 c.loop-column-test.true c.loop-column.invariant c.column-item.is c.in_ok-value.ensures

pub returns-clause-place : goal.returns-clause-place
returns-clause-place c =
    let all : row_of (take c.loop-column.column-index c.args.columns.now) c.args.at ≡ row_of c.args.columns.now c.args.at = ap (λ cs. row_of cs c.args.at) (take_all c.loop-column.column-index c.args.columns.now (omega arith)) in
    row-at c.args.count c.args.at c.args.columns.now c.requires.at c.requires.counts ∙ ap Some (sym (c.loop-column.invariant ∙ all))
