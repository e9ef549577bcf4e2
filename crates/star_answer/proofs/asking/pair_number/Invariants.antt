use Rattle.std.proofs.Common.{◌≡◌, false, take}
use Rattle.eligibility.specs.Rule.{is_kept}
use Rattle.star_answer.proofs.asking.pair_number.Given as goal

abbrev pub invariant-loop-number : goal.invariant-loop-number
invariant-loop-number l = is_kept (take l.number l.pairs) l.agg ≡ false
