use Rattle.cursors.proofs.NewLemmas.{no_cursors}
use Rattle.serving.proofs.serving.Serving.new.Goals as goal

pub returns-clause-cursors : goal.returns-clause-cursors
returns-clause-cursors c = no_cursors c.in_ok-pool.pool c.new-cursors.result.items c.new-cursors.ensures.items c.in_ok-pool.ensures
