use Rattle.std.proofs.Common.{◌≡◌, [], ◌∷◌, ◌++◌, subst}
use Rattle.group_table.specs.Pooled.{HoldsAll, with_slots}
use Rattle.group_table.proofs.PooledSteps as steps
use Rattle.group_table.proofs.SlotFrames as frames
use Rattle.group_table.proofs.table.GroupTable.close.Goals as goal

pub rest-preserved : goal.rest-preserved
rest-preserved c =
    let t = c.args.self in
    let es = c.pop.new.self.entries in
    let split : c.rest.slots.entries ≡ es ++ (c.in-Some._key, c.in-Some.slot) ∷ [] = c.in-Some.ensures.entries in
    let holds = subst (λ es. HoldsAll (with_slots t es) c.rest.pool) split c.rest.invariant.holds in
    record {
      holds = steps.holds_less t es c.in-Some._key c.in-Some.slot c.rest.pool holds c.give_back.new.self c.give_back.ensures;
      keeps = frames.keeps_both t.owner c.args.pool.now c.rest.pool c.give_back.new.self c.rest.invariant.keeps
          (steps.keeps_less t es c.in-Some._key c.in-Some.slot c.rest.pool holds c.give_back.new.self c.give_back.ensures);
    }
