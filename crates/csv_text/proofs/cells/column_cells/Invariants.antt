use Rattle.csv_text.specs.Cells.{cell_texts}
use Rattle.csv_text.proofs.CellLemmas.{Begun}
use Rattle.csv_text.proofs.cells.column_cells.Given as goal

-- the cells so far
abbrev pub invariant-values : goal.invariant-values
invariant-values l = Begun (cell_texts l.at l.width l.dictionary.values) l.id l.bytes.items l.starts.items
