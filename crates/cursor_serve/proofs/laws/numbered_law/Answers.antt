use Rattle.cursor_serve.proofs.NumberedLemmas.{stays_numbered}
use Rattle.cursor_serve.proofs.laws.numbered_law.Goals as goal

pub returns : goal.returns
returns c = stays_numbered
