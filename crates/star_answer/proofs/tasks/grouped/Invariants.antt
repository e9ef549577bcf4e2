use Rattle.star_answer.specs.Tasks.{AreGrouped}
use Rattle.star_answer.proofs.tasks.grouped.Given as goal

abbrev pub invariant-loop-level : goal.invariant-loop-level
invariant-loop-level l = AreGrouped l.groups l.split l.level l.all
