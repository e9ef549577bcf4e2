use Rattle.std.proofs.Common.{◌≡◌, ◌≤◌, drop, length}
use Rattle.query_bind.specs.Terms.{aggs_from}
use Rattle.query_bind.specs.Limits.{aggs_finding}
use Rattle.query_bind.proofs.distinct.more_aggs.Given as goal

abbrev pub invariant-loop-term : goal.invariant-loop-term
invariant-loop-term l =
    (aggs_finding l.aggs (drop l.term-index l.terms) ≡ aggs_finding l.fn.before l.terms)
    × (aggs_from l.aggs (drop l.term-index l.terms) ≡ aggs_from l.fn.before l.terms)
    × (length l.aggs ≤ 16)
