use Rattle.std.proofs.Common.{◌≡◌, ◌≤◌, drop, length, map}
use Rattle.query_bind.specs.Terms.{aggs_from}
use Rattle.query_bind.specs.Limits.{keys_finding}
use Rattle.query_bind.proofs.distinct.key_aggs.Given as goal

abbrev pub invariant-loop-others : goal.invariant-loop-others
invariant-loop-others l =
    (keys_finding l.others l.aggs (drop l.others l.keys) ≡ keys_finding 0 l.fn.before l.keys)
    × (aggs_from l.aggs (map (λ k. k.term) (drop l.others l.keys)) ≡ aggs_from l.fn.before (map (λ k. k.term) l.keys))
    × (length l.aggs ≤ 16)
