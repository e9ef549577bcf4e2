use Rattle.star_answer.proofs.CoveredRows.{covered_row, own_ids, own_no_star, values_row}
use Rattle.state_columns.specs.Docs.{projected}
use Rattle.star_answer.proofs.laws.covered_law.Goals as goal

pub returns-clause-rows : goal.returns-clause-rows
returns-clause-rows c query shape split pairs values t rows entries dims at_most asks_for projects at lt =
    covered_row query shape split pairs values t rows entries dims at_most asks_for projects at lt
    (c.covered_law.ensures.flat t shape shape.dims (projected shape.kinds entries)
    (own_ids query shape split pairs values t rows entries dims at_most asks_for projects)
    (own_no_star query shape split pairs values t rows entries dims at_most asks_for projects))

pub returns-clause-values : goal.returns-clause-values
returns-clause-values c query shape split pairs values t rows entries dims at_most asks_for projects at lt =
    values_row query shape split pairs values t rows entries dims at_most asks_for projects at lt
    (c.covered_law.ensures.values t shape shape.dims (projected shape.kinds entries)
    (own_ids query shape split pairs values t rows entries dims at_most asks_for projects)
    (own_no_star query shape split pairs values t rows entries dims at_most asks_for projects))
