use Rattle.std.proofs.Common.{rules}
use Rattle.state_pool.proofs.PoolSteps.{seen_place, seen_state}
use Rattle.state_pool.proofs.pool.SlotPool.state.Goals as goal

pub overflow_mul-slot-inside : goal.overflow_mul-slot-inside
overflow_mul-slot-inside c =
    let s = c.self.inside in
    let place = seen_place s.owners.items s.holders.items s.width s.stride s.cells.items s.free.items c.self.invariant.0 c.args.self.now c.self.view_is c.slot.inside.owner c.slot.inside.number c.args.slot.now c.slot.view_is c.requires.out c.args.at c.requires.at in
    search (rules, place)

pub overflow_add-slot-inside : goal.overflow_add-slot-inside
overflow_add-slot-inside c =
    let s = c.self.inside in
    let place = seen_place s.owners.items s.holders.items s.width s.stride s.cells.items s.free.items c.self.invariant.0 c.args.self.now c.self.view_is c.slot.inside.owner c.slot.inside.number c.args.slot.now c.slot.view_is c.requires.out c.args.at c.requires.at in
    search (rules, place)

pub index-requires : goal.index-requires
index-requires c =
    let s = c.self.inside in
    let place = seen_place s.owners.items s.holders.items s.width s.stride s.cells.items s.free.items c.self.invariant.0 c.args.self.now c.self.view_is c.slot.inside.owner c.slot.inside.number c.args.slot.now c.slot.view_is c.requires.out c.args.at c.requires.at in
    search (rules, place)

pub returns : goal.returns
returns c =
    let s = c.self.inside in
    seen_state s.owners.items s.holders.items s.width s.stride s.cells.items s.free.items c.self.invariant.0 c.args.self.now c.self.view_is c.slot.inside.owner c.slot.inside.number c.args.slot.now c.slot.view_is c.requires.out c.args.at c.requires.at c.index.result.now c.index.ensures
