use Rattle.std.proofs.Common.{◌≡◌, ◌*◌, length, List, rules, arith, sym, ap, subst, ◌∙◌}
use Rattle.std.proofs.lemmas.List.{with_items_is}
use Rattle.agg_laws.specs.declared.states.AggState.{AggState}
use Rattle.agg_laws.specs.Numbers.{most_values}
use Rattle.agg_laws.specs.Rows.{kinds_of, merged_rows, RowFits}
use Rattle.state_columns.proofs.EachSteps.{length-merged}
use Rattle.state_columns.proofs.RowPlaces.{same_length}
use Rattle.state_pool.specs.Pool.{Writes, states_at, kinds_at}
use Rattle.state_pool.specs.Kept.{IsKept, pool_in, part_of, with_part}
use Rattle.state_pool.proofs.PoolSteps.{seen_row, seen_long, seen_states, seen_rewrites, seen_row_kept}
use Rattle.state_pool.proofs.pool.SlotPool.merge.Goals as goal

pub overflow_mul-from : goal.overflow_mul-from
overflow_mul-from c =
    let s = c.self.inside in
    let row = seen_row s.owners.items s.holders.items s.width s.stride s.cells.items s.free.items c.self.invariant.0 c.args.self.now c.self.view_is c.slot.inside.owner c.slot.inside.number c.args.slot.now c.slot.view_is c.requires.out in
    search (rules, row)

pub merge_cells-requires-clause-within : goal.merge_cells-requires-clause-within
merge_cells-requires-clause-within c =
    let s = c.self.inside in
    let few : length c.args.states.now ≡ length (kinds_at c.args.self.now c.args.slot.now.owner) = (same_length c.args.states.now (states_at c.args.self.now c.args.slot.now) (sym c.requires.kinds) ∙ seen_long s.owners.items s.holders.items s.width s.stride s.cells.items s.free.items c.self.invariant.0 c.args.self.now c.self.view_is c.slot.inside.owner c.slot.inside.number c.args.slot.now c.slot.view_is c.requires.out) in
    omega (arith, seen_row s.owners.items s.holders.items s.width s.stride s.cells.items s.free.items c.self.invariant.0 c.args.self.now c.self.view_is c.slot.inside.owner c.slot.inside.number c.args.slot.now c.slot.view_is c.requires.out, ap length c.as_mut_slice.ensures.value, ap length c.as_slice.ensures, few)

pub merge_cells-requires-clause-kinds : goal.merge_cells-requires-clause-kinds
merge_cells-requires-clause-kinds c =
    let s = c.self.inside in
    let few : length c.args.states.now ≡ length (kinds_at c.args.self.now c.args.slot.now.owner) = (same_length c.args.states.now (states_at c.args.self.now c.args.slot.now) (sym c.requires.kinds) ∙ seen_long s.owners.items s.holders.items s.width s.stride s.cells.items s.free.items c.self.invariant.0 c.args.self.now c.self.view_is c.slot.inside.owner c.slot.inside.number c.args.slot.now c.slot.view_is c.requires.out) in
    let own = (λ i. part_of (c.as_mut_slice.ensures.value i) (c.slot.inside.number * s.stride) (length (c.as_slice.ensures i)))
    ∙ seen_states s.owners.items s.holders.items s.width s.stride s.cells.items s.free.items c.self.invariant.0 c.args.self.now c.self.view_is c.slot.inside.owner c.slot.inside.number c.args.slot.now c.slot.view_is c.requires.out (length c.args.states.now) few in
    ap kinds_of own ∙ c.requires.kinds ∙ ap kinds_of (sym c.as_slice.ensures)

pub merge_cells-requires-clause-fits : goal.merge_cells-requires-clause-fits
merge_cells-requires-clause-fits c =
    let s = c.self.inside in
    let few : length c.args.states.now ≡ length (kinds_at c.args.self.now c.args.slot.now.owner) = (same_length c.args.states.now (states_at c.args.self.now c.args.slot.now) (sym c.requires.kinds) ∙ seen_long s.owners.items s.holders.items s.width s.stride s.cells.items s.free.items c.self.invariant.0 c.args.self.now c.self.view_is c.slot.inside.owner c.slot.inside.number c.args.slot.now c.slot.view_is c.requires.out) in
    let own = (λ i. part_of (c.as_mut_slice.ensures.value i) (c.slot.inside.number * s.stride) (length (c.as_slice.ensures i)))
    ∙ seen_states s.owners.items s.holders.items s.width s.stride s.cells.items s.free.items c.self.invariant.0 c.args.self.now c.self.view_is c.slot.inside.owner c.slot.inside.number c.args.slot.now c.slot.view_is c.requires.out (length c.args.states.now) few in
    subst (λ (vs : List AggState). RowFits vs most_values) (sym (λ i. merged_rows (own i) (c.as_slice.ensures i))) c.requires.fits

pub invariant_of-self : goal.invariant_of-self
invariant_of-self c =
    let s = c.self.inside in
    let few : length c.args.states.now ≡ length (kinds_at c.args.self.now c.args.slot.now.owner) = (same_length c.args.states.now (states_at c.args.self.now c.args.slot.now) (sym c.requires.kinds) ∙ seen_long s.owners.items s.holders.items s.width s.stride s.cells.items s.free.items c.self.invariant.0 c.args.self.now c.self.view_is c.slot.inside.owner c.slot.inside.number c.args.slot.now c.slot.view_is c.requires.out) in
    let own = (λ i. part_of (c.as_mut_slice.ensures.value i) (c.slot.inside.number * s.stride) (length (c.as_slice.ensures i)))
    ∙ seen_states s.owners.items s.holders.items s.width s.stride s.cells.items s.free.items c.self.invariant.0 c.args.self.now c.self.view_is c.slot.inside.owner c.slot.inside.number c.args.slot.now c.slot.view_is c.requires.out (length c.args.states.now) few in
    let len : length c.merge_cells.new.cells ≡ s.cells.len = omega (arith, c.merge_cells.auto.cells, ap length c.as_mut_slice.ensures.value, s.cells.ok.0) in
    let cells = with_items_is s.cells c.merge_cells.new.cells len ∙ c.merge_cells.ensures
    ∙ (λ i. with_part (c.as_mut_slice.ensures.value i) (c.slot.inside.number * s.stride) (length (c.as_slice.ensures i)) (merged_rows (own i) (c.as_slice.ensures i))) in
    let n : length (merged_rows (states_at c.args.self.now c.args.slot.now) c.args.states.now) ≡ length c.args.states.now =
    length-merged (states_at c.args.self.now c.args.slot.now) c.args.states.now (same_length (states_at c.args.self.now c.args.slot.now) c.args.states.now c.requires.kinds)
    ∙ same_length (states_at c.args.self.now c.args.slot.now) c.args.states.now c.requires.kinds in (
      subst (λ (cs : List AggState). IsKept s.owners.items (pool_in s.owners.items s.holders.items s.width s.stride cs) s.free.items) (sym cells)
          (seen_row_kept s.owners.items s.holders.items s.width s.stride s.cells.items s.free.items c.self.invariant.0 c.args.self.now c.self.view_is c.slot.inside.owner c.slot.inside.number c.args.slot.now c.slot.view_is c.requires.out (merged_rows (states_at c.args.self.now c.args.slot.now) c.args.states.now) (length c.args.states.now) few n),
      c.self.invariant.1,
    )

pub returns : goal.returns
returns c =
    let s = c.self.inside in
    let few : length c.args.states.now ≡ length (kinds_at c.args.self.now c.args.slot.now.owner) = (same_length c.args.states.now (states_at c.args.self.now c.args.slot.now) (sym c.requires.kinds) ∙ seen_long s.owners.items s.holders.items s.width s.stride s.cells.items s.free.items c.self.invariant.0 c.args.self.now c.self.view_is c.slot.inside.owner c.slot.inside.number c.args.slot.now c.slot.view_is c.requires.out) in
    let own = (λ i. part_of (c.as_mut_slice.ensures.value i) (c.slot.inside.number * s.stride) (length (c.as_slice.ensures i)))
    ∙ seen_states s.owners.items s.holders.items s.width s.stride s.cells.items s.free.items c.self.invariant.0 c.args.self.now c.self.view_is c.slot.inside.owner c.slot.inside.number c.args.slot.now c.slot.view_is c.requires.out (length c.args.states.now) few in
    let len : length c.merge_cells.new.cells ≡ s.cells.len = omega (arith, c.merge_cells.auto.cells, ap length c.as_mut_slice.ensures.value, s.cells.ok.0) in
    let cells = with_items_is s.cells c.merge_cells.new.cells len ∙ c.merge_cells.ensures
    ∙ (λ i. with_part (c.as_mut_slice.ensures.value i) (c.slot.inside.number * s.stride) (length (c.as_slice.ensures i)) (merged_rows (own i) (c.as_slice.ensures i))) in
    let n : length (merged_rows (states_at c.args.self.now c.args.slot.now) c.args.states.now) ≡ length c.args.states.now =
    length-merged (states_at c.args.self.now c.args.slot.now) c.args.states.now (same_length (states_at c.args.self.now c.args.slot.now) c.args.states.now c.requires.kinds)
    ∙ same_length (states_at c.args.self.now c.args.slot.now) c.args.states.now c.requires.kinds in
    subst (λ (cs : List AggState). Writes c.args.slot.now (merged_rows (states_at c.args.self.now c.args.slot.now) c.args.states.now) c.args.self.now (pool_in s.owners.items s.holders.items s.width s.stride cs)) (sym cells)
    (seen_rewrites s.owners.items s.holders.items s.width s.stride s.cells.items s.free.items c.self.invariant.0 c.args.self.now c.self.view_is c.slot.inside.owner c.slot.inside.number c.args.slot.now c.slot.view_is c.requires.out (merged_rows (states_at c.args.self.now c.args.slot.now) c.args.states.now) (length c.args.states.now) few n)
