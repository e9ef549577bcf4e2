use Rattle.state_pool.proofs.HeldLemmas.{slot_still_out}
use Rattle.base_tests.proofs.slots.takes.Goals as goal

pub returns-in-Some-clause-still : goal.returns-in-Some-clause-still
returns-in-Some-clause-still c = slot_still_out c.args.owner c.in-Some.slot c.args.pool.now c.take.new.self c.in-Some.ensures.taken
