use Rattle.commands.proofs.IdleLemmas.{idle}
use Rattle.commands.proofs.laws.idle_law.Goals as goal

pub returns : goal.returns
returns c = idle c.docs_bound_law.ensures.bound
