use Rattle.std.proofs.Common.{◌≡◌, map, take}
use Rattle.segment_plan.specs.RowsLeft.{sure_choice}
use Rattle.segment_plan.proofs.serving.sure_choices.Given as goal

abbrev pub invariant-loop-choice : goal.invariant-loop-choice
invariant-loop-choice l = l.sure.items ≡ map sure_choice (take l.choice-index l.choices)
