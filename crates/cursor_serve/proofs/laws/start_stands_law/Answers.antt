use Rattle.cursor_serve.proofs.ServingLemmas.{start_stands}
use Rattle.cursor_serve.proofs.laws.start_stands_law.Goals as goal

pub returns : goal.returns
returns c = start_stands
