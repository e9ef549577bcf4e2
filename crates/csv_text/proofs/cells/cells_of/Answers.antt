use Rattle.std.proofs.Common.{length, sym, subst, arith}
use Rattle.csv_text.specs.Cells.{HasCells, cell_texts}
use Rattle.csv_text.specs.Coded.{values_of}
use Rattle.csv_text.specs.declared.coded.CodedColumn.{CodedColumn}
use Rattle.csv_text.proofs.CellLemmas.{cells_more}
use Rattle.csv_text.proofs.cells.cells_of.Goals as goal

pub columns-preserved : goal.columns-preserved
columns-preserved c =
    cells_more c.args.columns.now c.columns.at c.index-columns-at.result c.columns.cells.items c.push.new.self.items c.in_ok-own.own (omega (arith, c.columns-test.true)) c.index-columns-at.is c.columns.invariant c.in_ok-push.ensures.items
    (subst (λ (x : CodedColumn). HasCells (cell_texts c.columns.at (length c.args.columns.now) (values_of x)) c.in_ok-own.own) (sym c.index-columns-at.is) c.in_ok-own.ensures)
