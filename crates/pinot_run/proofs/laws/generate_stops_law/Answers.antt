use Rattle.pinot_run.proofs.GenerateStops.{generate_stops}
use Rattle.pinot_run.proofs.laws.generate_stops_law.Goals as goal

pub returns : goal.returns
returns c = generate_stops
