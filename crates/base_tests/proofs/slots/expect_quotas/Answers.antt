use Rattle.state_pool.proofs.HeldLemmas.{taken_out}
use Rattle.base_tests.proofs.slots.expect_quotas.Goals as goal

pub give_back-requires : goal.give_back-requires
give_back-requires c =
    let slot = c.in-Some.slot in
    c.takes-4.ensures.still slot (c.takes-3.ensures.still slot (c.takes-2.ensures.still slot (c.takes.ensures.still slot
    (taken_out 1 slot c.args.pool.now c.take.new.self c.in-Some.ensures.taken))))
