use Rattle.std.proofs.Common.{get_or, refl}
use Rattle.star_answer.proofs.TaskSteps.{tested_more}
use Rattle.star_answer.proofs.tasks.tested.Goals as goal

pub loop-level-preserved : goal.loop-level-preserved
loop-level-preserved c = tested_more c.args.conjuncts.now c.args.split.now c.args.head.now
    c.loop-level.level (get_or c.args.split.now c.loop-level.level 0) c.loop-level.all
    c.push.new.self c.in_ok-matched_ids.field-0 refl c.in_ok-push.ensures.ok c.loop-level.invariant
    c.in_ok-matched_ids.ensures
