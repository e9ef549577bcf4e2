use Rattle.std.proofs.Common.{◌∙◌, ◌*◌, map, sum, ap, refl}
use Rattle.std.specs.Vec.{vec_capacity}
use Rattle.state_pool.proofs.PoolSteps.{fresh, new_kept, new_pool, new_room}
use Rattle.state_pool.proofs.pool.SlotPool.with_slots.Goals as goal

pub invariant_of-result : goal.invariant_of-result
invariant_of-result c = (
  new_kept c.args.kinds.now c.args.quotas.now c.in_ok-owners_of.field-0.items c.in_ok-with_capacity.field-0.items c.len.result 0 c.in_ok-with_capacity-2.field-0.items c.in_ok-with_capacity-3.field-0.items
      (c.in_ok-owners_of.ensures ∙ ap (map (fresh c.args.kinds.now)) c.as_slice-2.ensures) c.in_ok-with_capacity.ensures.items c.len.ensures refl c.in_ok-with_capacity-2.ensures.items c.in_ok-with_capacity-3.ensures.items,
  new_room c.args.kinds.now c.args.quotas.now c.in_ok-owners_of.field-0.items c.in_ok-with_capacity.field-0.items c.len.result 0 c.in_ok-with_capacity-2.field-0.items c.in_ok-with_capacity-3.field-0.items
      (c.in_ok-owners_of.ensures ∙ ap (map (fresh c.args.kinds.now)) c.as_slice-2.ensures) c.in_ok-with_capacity.ensures.items c.len.ensures refl c.in_ok-with_capacity-2.ensures.items
      (vec_capacity c.in_ok-with_capacity.field-0) (vec_capacity c.in_ok-with_capacity-2.field-0) (vec_capacity c.in_ok-with_capacity-3.field-0) c.total-slots.result
      (c.total-slots.ensures ∙ ap sum c.as_slice.ensures) c.requires.quotas c.in_ok-with_capacity.ensures.exact
      (c.in_ok-with_capacity-2.ensures.exact ∙ ap (λ n. c.total-slots.result * n) c.len-2.ensures) c.in_ok-with_capacity-3.ensures.exact,
)

pub returns : goal.returns
returns c = new_pool c.args.kinds.now c.args.quotas.now c.in_ok-owners_of.field-0.items c.in_ok-with_capacity.field-0.items c.len.result 0 c.in_ok-with_capacity-2.field-0.items c.in_ok-with_capacity-3.field-0.items
    (c.in_ok-owners_of.ensures ∙ ap (map (fresh c.args.kinds.now)) c.as_slice-2.ensures) c.in_ok-with_capacity.ensures.items c.len.ensures refl c.in_ok-with_capacity-2.ensures.items
