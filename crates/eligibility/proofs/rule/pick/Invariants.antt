use Rattle.std.proofs.Common.{◌≡◌, drop}
use Rattle.eligibility.specs.Rule.{picked_from, picked}
use Rattle.eligibility.proofs.rule.pick.Given as goal

abbrev pub invariant-loop-number : goal.invariant-loop-number
invariant-loop-number l = picked_from l.query l.number (drop l.number l.trees) ≡ picked l.query l.trees
