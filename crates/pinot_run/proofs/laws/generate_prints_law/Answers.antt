use Rattle.pinot_run.proofs.GeneratePrints.{generate_prints}
use Rattle.pinot_run.proofs.laws.generate_prints_law.Goals as goal

pub returns : goal.returns
returns c = generate_prints c.pruned_law.ensures c.empty_law.ensures
