use Rattle.std.proofs.Common.{◌≡◌, ◌*◌, length, List, rules, arith, refl, sym, ap, subst, ◌∙◌}
use Rattle.std.proofs.lemmas.List.{with_items_is}
use Rattle.agg_laws.specs.declared.states.AggState.{AggState}
use Rattle.state_pool.specs.Pool.{Writes}
use Rattle.state_pool.specs.Kept.{IsKept, pool_in, with_part}
use Rattle.state_pool.proofs.PoolSteps.{seen_row, seen_rewrites, seen_row_kept}
use Rattle.state_pool.proofs.pool.SlotPool.put_states.Goals as goal

pub overflow_mul-from : goal.overflow_mul-from
overflow_mul-from c =
    let s = c.self.inside in
    let row = seen_row s.owners.items s.holders.items s.width s.stride s.cells.items s.free.items c.self.invariant.0 c.args.self.now c.self.view_is c.slot.inside.owner c.slot.inside.number c.args.slot.now c.slot.view_is c.requires.out in
    search (rules, row)

pub copy_cells-requires : goal.copy_cells-requires
copy_cells-requires c =
    let s = c.self.inside in
    omega (arith, seen_row s.owners.items s.holders.items s.width s.stride s.cells.items s.free.items c.self.invariant.0 c.args.self.now c.self.view_is c.slot.inside.owner c.slot.inside.number c.args.slot.now c.slot.view_is c.requires.out, ap length c.as_mut_slice.ensures.value, c.requires.length)

pub invariant_of-self : goal.invariant_of-self
invariant_of-self c =
    let s = c.self.inside in
    let len : length c.copy_cells.new.cells ≡ s.cells.len = omega (arith, c.copy_cells.auto.cells, ap length c.as_mut_slice.ensures.value, s.cells.ok.0) in
    let cells = with_items_is s.cells c.copy_cells.new.cells len ∙ c.copy_cells.ensures
    ∙ (λ i. with_part (c.as_mut_slice.ensures.value i) (c.slot.inside.number * s.stride) (length c.args.states.now) c.args.states.now) in (
      subst (λ (cs : List AggState). IsKept s.owners.items (pool_in s.owners.items s.holders.items s.width s.stride cs) s.free.items) (sym cells)
          (seen_row_kept s.owners.items s.holders.items s.width s.stride s.cells.items s.free.items c.self.invariant.0 c.args.self.now c.self.view_is c.slot.inside.owner c.slot.inside.number c.args.slot.now c.slot.view_is c.requires.out c.args.states.now (length c.args.states.now) c.requires.length refl),
      c.self.invariant.1,
    )

pub returns : goal.returns
returns c =
    let s = c.self.inside in
    let len : length c.copy_cells.new.cells ≡ s.cells.len = omega (arith, c.copy_cells.auto.cells, ap length c.as_mut_slice.ensures.value, s.cells.ok.0) in
    let cells = with_items_is s.cells c.copy_cells.new.cells len ∙ c.copy_cells.ensures
    ∙ (λ i. with_part (c.as_mut_slice.ensures.value i) (c.slot.inside.number * s.stride) (length c.args.states.now) c.args.states.now) in
    subst (λ (cs : List AggState). Writes c.args.slot.now c.args.states.now c.args.self.now (pool_in s.owners.items s.holders.items s.width s.stride cs)) (sym cells)
    (seen_rewrites s.owners.items s.holders.items s.width s.stride s.cells.items s.free.items c.self.invariant.0 c.args.self.now c.self.view_is c.slot.inside.owner c.slot.inside.number c.args.slot.now c.slot.view_is c.requires.out c.args.states.now (length c.args.states.now) c.requires.length refl)
