use Rattle.pinot_run.proofs.GenerateSteps.{generate_steps}
use Rattle.pinot_run.proofs.laws.generate_steps_law.Goals as goal

pub returns : goal.returns
returns c = generate_steps
