use Rattle.std.proofs.Common.{◌≡◌, drop}
use Rattle.std.specs.List.{list_any}
use Rattle.segment_plan.specs.Named.{conjunct_names}
use Rattle.segment_plan.specs.Served.{unserved}
use Rattle.segment_plan.proofs.named.conjuncts_name.Given as goal

abbrev pub invariant-loop-at : goal.invariant-loop-at
invariant-loop-at l = list_any (conjunct_names l.column) (unserved l.choices l.conjuncts) ≡ list_any (conjunct_names l.column) (unserved (drop l.at l.choices) (drop l.at l.conjuncts))
