use Rattle.std.proofs.Common.{◌≡◌, take, sum}
use Rattle.state_pool.proofs.pool.total.Given as goal

abbrev pub invariant-loop-quota : goal.invariant-loop-quota
invariant-loop-quota l = l.slots ≡ sum (take l.quota-index l.quotas)
