use Rattle.star_answer.specs.Tasks.{AreTested}
use Rattle.star_answer.proofs.tasks.tested.Given as goal

abbrev pub invariant-loop-level : goal.invariant-loop-level
invariant-loop-level l = AreTested l.conjuncts l.split l.head l.level l.all
