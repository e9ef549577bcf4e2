use Rattle.state_columns.proofs.DocLemmas.{total-projected}
use Rattle.star_tree.proofs.laws.projected_law.Goals as goal

pub returns : goal.returns
returns c = total-projected
