use Rattle.cursor_serve.proofs.NumberedLemmas.{starts_numbered}
use Rattle.cursor_serve.proofs.laws.numbered_start_law.Goals as goal

pub returns : goal.returns
returns c = starts_numbered
