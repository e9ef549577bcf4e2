use Rattle.std.proofs.Common.{rules, refl}
use Rattle.state_pool.proofs.PoolSteps.{seen_place, seen_state, seen_with, seen_writes, seen_at, seen_out, written_kept}
use Rattle.state_pool.proofs.pool.SlotPool.state_mut.Goals as goal

pub overflow_mul-slot-inside : goal.overflow_mul-slot-inside
overflow_mul-slot-inside c =
    let s = c.self.inside in
    let place = seen_place s.owners.items s.holders.items s.width s.stride s.cells.items s.free.items c.self.invariant.0 c.args.self.now c.self.view_is c.slot.inside.owner c.slot.inside.number c.args.slot.now c.slot.view_is c.requires.out c.args.at c.requires.at in
    search (rules, place)

pub overflow_add-slot-inside : goal.overflow_add-slot-inside
overflow_add-slot-inside c =
    let s = c.self.inside in
    let place = seen_place s.owners.items s.holders.items s.width s.stride s.cells.items s.free.items c.self.invariant.0 c.args.self.now c.self.view_is c.slot.inside.owner c.slot.inside.number c.args.slot.now c.slot.view_is c.requires.out c.args.at c.requires.at in
    search (rules, place)

pub index_mut-requires : goal.index_mut-requires
index_mut-requires c =
    let s = c.self.inside in
    let place = seen_place s.owners.items s.holders.items s.width s.stride s.cells.items s.free.items c.self.invariant.0 c.args.self.now c.self.view_is c.slot.inside.owner c.slot.inside.number c.args.slot.now c.slot.view_is c.requires.out c.args.at c.requires.at in
    search (rules, place)

pub invariant_of-self-lent : goal.invariant_of-self-lent
invariant_of-self-lent c state =
    let s = c.self.inside in (
      written_kept s.owners.items s.holders.items s.width s.stride s.cells.items s.free.items c.self.invariant.0 (record { owner = c.slot.inside.owner; number = c.slot.inside.number })
          (seen_out s.owners.items s.holders.items s.width s.stride s.cells.items s.free.items c.self.invariant.0 c.args.self.now c.self.view_is c.slot.inside.owner c.slot.inside.number c.args.slot.now c.slot.view_is c.requires.out)
          c.args.at
          (seen_at s.owners.items s.holders.items s.width s.stride s.cells.items s.free.items c.self.invariant.0 c.args.self.now c.self.view_is c.slot.inside.owner c.slot.inside.number c.args.slot.now c.slot.view_is c.requires.out c.args.at c.requires.at)
          state,
      c.self.invariant.1,
    )

pub returns : goal.returns
returns c =
    let s = c.self.inside in (
      (refl, seen_with s.owners.items s.holders.items s.width s.stride s.cells.items s.free.items c.self.invariant.0 c.args.self.now c.self.view_is c.slot.inside.owner c.slot.inside.number c.args.slot.now c.slot.view_is c.requires.out c.args.at c.requires.at),
      record {
        writes_back = tt;
        value = seen_state s.owners.items s.holders.items s.width s.stride s.cells.items s.free.items c.self.invariant.0 c.args.self.now c.self.view_is c.slot.inside.owner c.slot.inside.number c.args.slot.now c.slot.view_is c.requires.out c.args.at c.requires.at c.index_mut.result.now c.index_mut.ensures.value;
        writes = seen_writes s.owners.items s.holders.items s.width s.stride s.cells.items s.free.items c.self.invariant.0 c.args.self.now c.self.view_is c.slot.inside.owner c.slot.inside.number c.args.slot.now c.slot.view_is c.requires.out c.args.at c.requires.at;
      },
    )
