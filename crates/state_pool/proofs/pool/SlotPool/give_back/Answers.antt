use Rattle.std.proofs.Common.{◌-◌, set, None, rules, subst, sym}
use Rattle.std.specs.Vec.{vec_capacity}
use Rattle.state_pool.specs.Pool.{Pool, Place, GivesBack}
use Rattle.state_pool.specs.Kept.{IsKept, pool_in, most_of}
use Rattle.state_pool.proofs.CellLemmas.{in_range}
use Rattle.state_pool.proofs.OwnerLemmas.{some_held, free_fits, gives, given_kept, same_most}
use Rattle.state_pool.proofs.PoolSteps.{seen_out, seen_holder, known_owner, wider}
use Rattle.state_pool.proofs.pool.SlotPool.give_back.Goals as goal

pub index_mut-requires : goal.index_mut-requires
index_mut-requires c =
    let s = c.self.inside in
    let lt = known_owner s.owners.items s.holders.items s.width s.stride s.cells.items s.free.items c.self.invariant.0 c.args.self.now c.self.view_is c.slot.inside.owner c.slot.inside.number c.args.slot c.slot.view_is c.requires in
    search (rules, lt)

pub overflow_sub-index_mut : goal.overflow_sub-index_mut
overflow_sub-index_mut c =
    let s = c.self.inside in
    some_held s.owners.items s.holders.items s.width s.stride s.cells.items s.free.items c.self.invariant.0 c.slot.inside.owner c.index_mut.result.now (known_owner s.owners.items s.holders.items s.width s.stride s.cells.items s.free.items c.self.invariant.0 c.args.self.now c.self.view_is c.slot.inside.owner c.slot.inside.number c.args.slot c.slot.view_is c.requires) c.index_mut.ensures.value c.slot.inside.number
    (seen_out s.owners.items s.holders.items s.width s.stride s.cells.items s.free.items c.self.invariant.0 c.args.self.now c.self.view_is c.slot.inside.owner c.slot.inside.number c.args.slot c.slot.view_is c.requires) (seen_holder s.owners.items s.holders.items s.width s.stride s.cells.items s.free.items c.self.invariant.0 c.args.self.now c.self.view_is c.slot.inside.owner c.slot.inside.number c.args.slot c.slot.view_is c.requires)

pub index_mut-requires-2 : goal.index_mut-requires-2
index_mut-requires-2 c =
    let s = c.self.inside in
    let lt = in_range s.holders.items c.slot.inside.number c.slot.inside.owner (seen_holder s.owners.items s.holders.items s.width s.stride s.cells.items s.free.items c.self.invariant.0 c.args.self.now c.self.view_is c.slot.inside.owner c.slot.inside.number c.args.slot c.slot.view_is c.requires) in
    search (rules, lt)

pub put_all-requires : goal.put_all-requires
put_all-requires c =
    let s = c.self.inside in
    record {
      room = free_fits s.owners.items s.holders.items s.width s.stride s.cells.items s.free.items c.self.invariant.0 c.slot.inside.owner c.index_mut.result.now (known_owner s.owners.items s.holders.items s.width s.stride s.cells.items s.free.items c.self.invariant.0 c.args.self.now c.self.view_is c.slot.inside.owner c.slot.inside.number c.args.slot c.slot.view_is c.requires) c.index_mut.ensures.value c.slot.inside.number
          (seen_out s.owners.items s.holders.items s.width s.stride s.cells.items s.free.items c.self.invariant.0 c.args.self.now c.self.view_is c.slot.inside.owner c.slot.inside.number c.args.slot c.slot.view_is c.requires) (seen_holder s.owners.items s.holders.items s.width s.stride s.cells.items s.free.items c.self.invariant.0 c.args.self.now c.self.view_is c.slot.inside.owner c.slot.inside.number c.args.slot c.slot.view_is c.requires) _ _ _ c.self.invariant.1;
    }

pub invariant_of-self : goal.invariant_of-self
invariant_of-self c =
    let s = c.self.inside in
    let own = c.index_mut.result.now in
    let lt = known_owner s.owners.items s.holders.items s.width s.stride s.cells.items s.free.items c.self.invariant.0 c.args.self.now c.self.view_is c.slot.inside.owner c.slot.inside.number c.args.slot c.slot.view_is c.requires in
    let owners = set s.owners.items c.slot.inside.owner (record { quota = own.quota; held = own.held - 1; kinds = own.kinds }) in (
      subst (IsKept owners (pool_in owners (set s.holders.items c.slot.inside.number None) s.width s.stride s.cells.items)) (sym c.put_all.ensures.items)
          (given_kept s.owners.items s.holders.items s.width s.stride s.cells.items s.free.items c.self.invariant.0 c.slot.inside.owner own lt c.index_mut.ensures.value c.slot.inside.number (seen_out s.owners.items s.holders.items s.width s.stride s.cells.items s.free.items c.self.invariant.0 c.args.self.now c.self.view_is c.slot.inside.owner c.slot.inside.number c.args.slot c.slot.view_is c.requires) (seen_holder s.owners.items s.holders.items s.width s.stride s.cells.items s.free.items c.self.invariant.0 c.args.self.now c.self.view_is c.slot.inside.owner c.slot.inside.number c.args.slot c.slot.view_is c.requires)),
      wider (most_of s.owners.items) (most_of owners) s.width (vec_capacity s.holders) (vec_capacity s.cells) (vec_capacity s.free) (vec_capacity c.put_all.new.out)
          (same_most s.owners.items s.holders.items s.width s.stride s.cells.items s.free.items c.self.invariant.0 c.slot.inside.owner own lt c.index_mut.ensures.value (own.held - 1)) c.put_all.ensures.capacity c.self.invariant.1,
    )

pub returns : goal.returns
returns c =
    let s = c.self.inside in
    let own = c.index_mut.result.now in
    let lt = known_owner s.owners.items s.holders.items s.width s.stride s.cells.items s.free.items c.self.invariant.0 c.args.self.now c.self.view_is c.slot.inside.owner c.slot.inside.number c.args.slot c.slot.view_is c.requires in
    let new = pool_in (set s.owners.items c.slot.inside.owner (record { quota = own.quota; held = own.held - 1; kinds = own.kinds })) (set s.holders.items c.slot.inside.number None) s.width s.stride s.cells.items in
    subst (λ (p : Pool). GivesBack c.args.slot p new) c.self.view_is
    (subst (λ (slot : Place). GivesBack slot (pool_in s.owners.items s.holders.items s.width s.stride s.cells.items) new) c.slot.view_is
    (gives s.owners.items s.holders.items s.width s.stride s.cells.items s.free.items c.self.invariant.0 c.slot.inside.owner own lt c.index_mut.ensures.value c.slot.inside.number (seen_out s.owners.items s.holders.items s.width s.stride s.cells.items s.free.items c.self.invariant.0 c.args.self.now c.self.view_is c.slot.inside.owner c.slot.inside.number c.args.slot c.slot.view_is c.requires) (seen_holder s.owners.items s.holders.items s.width s.stride s.cells.items s.free.items c.self.invariant.0 c.args.self.now c.self.view_is c.slot.inside.owner c.slot.inside.number c.args.slot c.slot.view_is c.requires)))
