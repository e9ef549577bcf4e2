use Rattle.std.proofs.Common.{◌≡◌, ◌+◌, ◌≤◌, drop}
use Rattle.star_walk.specs.Images.{read_of}
use Rattle.star_answer.proofs.answer.count_within.Given as goal

-- what was counted, and what is left, are all
abbrev pub invariant-loop-pick : goal.invariant-loop-pick
invariant-loop-pick l =
    (l.count + read_of (drop l.pick-index l.picks) ≡ read_of l.picks) × (l.count ≤ l.most)
