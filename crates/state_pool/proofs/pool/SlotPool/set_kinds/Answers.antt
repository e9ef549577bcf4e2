use Rattle.std.proofs.Common.{◌<◌, ◌≤◌, length, set, ap, subst, arith, ◌∙◌}
use Rattle.std.proofs.lemmas.List.{length-map}
use Rattle.state_pool.specs.declared.pool.Owner.{Owner}
use Rattle.state_pool.specs.Pool.{Pool, SetsKinds, held}
use Rattle.state_pool.specs.Kept.{pool_in}
use Rattle.state_pool.proofs.KindSteps.{sets_kinds, kinds_kept, kinds_room}
use Rattle.state_pool.proofs.pool.SlotPool.set_kinds.Goals as goal

pub invariant_of-self : goal.invariant_of-self
invariant_of-self c =
    let s = c.self.inside in
    let own = c.index_mut.result.now in
    let lt : c.args.owner < length s.owners.items = omega (arith, c.requires.owner, ap (λ (p : Pool). length p.quotas) c.self.view_is, length-map s.owners.items (λ (o : Owner). o.quota)) in
    let none = ap (λ p. held p c.args.owner) c.self.view_is ∙ c.requires.none in
    let few : length c.args.kinds ≤ s.width = omega (arith, c.requires.few, ap (λ (p : Pool). p.width) c.self.view_is) in (
      kinds_kept s.owners.items s.holders.items s.width s.stride s.cells.items s.free.items c.self.invariant.0 c.args.owner own lt c.index_mut.ensures.value c.args.kinds none few,
      kinds_room s.owners.items s.holders.items s.width s.stride s.cells.items s.free.items c.self.invariant.0 c.args.owner own lt c.index_mut.ensures.value c.args.kinds none _ _ _ c.self.invariant.1,
    )

pub returns : goal.returns
returns c =
    let s = c.self.inside in
    let own = c.index_mut.result.now in
    let lt : c.args.owner < length s.owners.items = omega (arith, c.requires.owner, ap (λ (p : Pool). length p.quotas) c.self.view_is, length-map s.owners.items (λ (o : Owner). o.quota)) in
    let none = ap (λ p. held p c.args.owner) c.self.view_is ∙ c.requires.none in
    let new = pool_in (set s.owners.items c.args.owner (record { quota = own.quota; held = own.held; kinds = c.args.kinds })) s.holders.items s.width s.stride s.cells.items in
    subst (λ p. SetsKinds c.args.owner c.args.kinds p new) c.self.view_is
    (sets_kinds s.owners.items s.holders.items s.width s.stride s.cells.items s.free.items c.self.invariant.0 c.args.owner own lt c.index_mut.ensures.value c.args.kinds none)
