use Rattle.csv_text.specs.Cells.{AreCells}
use Rattle.csv_text.proofs.cells.cells_of.Given as goal

-- the cells of the columns so far
abbrev pub invariant-columns : goal.invariant-columns
invariant-columns l = AreCells l.columns l.at l.cells.items
