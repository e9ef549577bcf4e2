use Rattle.std.proofs.Common.{◌∙◌, arith}
use Rattle.std.proofs.lemmas.List.{take_all}
use Rattle.values.specs.Columns.{rows_in_columns}
use Rattle.values.proofs.RowLemmas.{length-rows, rows-more}
use Rattle.values.proofs.columns.rows_in.Goals as goal

pub loop-at-preserved : goal.loop-at-preserved
loop-at-preserved c = c.in_ok-push.ensures.ok ∙ rows-more (rows_in_columns c.args.count c.args.columns.now) c.loop-at.rows c.loop-at.at c.in_ok-row_at.field-0 c.loop-at.invariant c.in_ok-row_at.ensures.place

pub returns : goal.returns
returns c = c.loop-at.invariant ∙ take_all c.loop-at.at (rows_in_columns c.args.count c.args.columns.now) (omega (arith, length-rows c.args.count c.args.columns.now c.requires))
