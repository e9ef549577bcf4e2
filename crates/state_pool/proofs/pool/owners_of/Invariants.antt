use Rattle.std.proofs.Common.{◌≡◌, take, map}
use Rattle.state_pool.proofs.pool.owners_of.Given as goal

abbrev pub invariant-loop-quota : goal.invariant-loop-quota
invariant-loop-quota l = l.owners.items
    ≡ map (λ quota. record { quota = quota; held = 0; kinds = l.kinds }) (take l.quota-index l.quotas)
