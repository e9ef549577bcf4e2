use Rattle.star_answer.proofs.RowSteps.{asks_of_rows, columns_of_rows, nodes_of_rows, rows_projected}
use Rattle.star_answer.proofs.laws.rows_law.Goals as goal

pub returns : goal.returns
returns c = record {
  projected = rows_projected;
  asks = asks_of_rows;
  columns = columns_of_rows;
  nodes = nodes_of_rows c.head_tells_trees_law.ensures;
}
