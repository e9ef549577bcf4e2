use Rattle.std.proofs.Common.{◌≡◌, ◌*◌, [], ◌∷◌, length, ℕ, ℤ, List, rules, arith, sym, ap, subst, ◌∙◌}
use Rattle.std.proofs.lemmas.List.{with_items_is}
use Rattle.agg_laws.specs.declared.states.AggState.{AggState}
use Rattle.agg_laws.specs.Numbers.{most_values}
use Rattle.agg_laws.specs.Rows.{row_of, kinds_of, merged_rows, RowFits}
use Rattle.state_columns.proofs.EachSteps.{length-merged}
use Rattle.state_columns.proofs.RowPlaces.{length-row_of, length-kinds_of}
use Rattle.state_pool.specs.Pool.{Writes, states_at}
use Rattle.state_pool.specs.Kept.{IsKept, pool_in, part_of, with_part}
use Rattle.state_pool.proofs.PoolSteps.{seen_row, seen_long, seen_states, seen_rewrites, seen_row_kept}
use Rattle.state_pool.proofs.pool.SlotPool.add.Goals as goal

pub overflow_mul-from : goal.overflow_mul-from
overflow_mul-from c =
    let s = c.self.inside in
    let row = seen_row s.owners.items s.holders.items s.width s.stride s.cells.items s.free.items c.self.invariant.0 c.args.self.now c.self.view_is c.slot.inside.owner c.slot.inside.number c.args.slot.now c.slot.view_is c.requires.out in
    search (rules, row)

pub add_cells-requires-clause-within : goal.add_cells-requires-clause-within
add_cells-requires-clause-within c =
    let s = c.self.inside in
    omega (arith, seen_row s.owners.items s.holders.items s.width s.stride s.cells.items s.free.items c.self.invariant.0 c.args.self.now c.self.view_is c.slot.inside.owner c.slot.inside.number c.args.slot.now c.slot.view_is c.requires.out, ap length c.as_mut_slice.ensures.value, c.requires.length)

pub add_cells-requires-clause-fits : goal.add_cells-requires-clause-fits
add_cells-requires-clause-fits c =
    let s = c.self.inside in
    let own = ap (λ (cs : List AggState). part_of cs (c.slot.inside.number * s.stride) (length c.args.values.now)) c.as_mut_slice.ensures.value
    ∙ seen_states s.owners.items s.holders.items s.width s.stride s.cells.items s.free.items c.self.invariant.0 c.args.self.now c.self.view_is c.slot.inside.owner c.slot.inside.number c.args.slot.now c.slot.view_is c.requires.out (length c.args.values.now) c.requires.length in
    subst (λ (vs : List AggState). RowFits (merged_rows vs (row_of (kinds_of vs) (c.args.values.now ∷ []))) most_values) (sym own) c.requires.fits

-- the states of the slot, and the cells afterwards
abbrev now : List AggState → List ℤ → List AggState
now own values = merged_rows own (row_of (kinds_of own) (values ∷ []))

long : (own : List AggState) (values : List ℤ) (n : ℕ) → length own ≡ n → length (now own values) ≡ n
long own values n len = length-merged own (row_of (kinds_of own) (values ∷ [])) (sym (length-row_of (kinds_of own) (values ∷ []) ∙ length-kinds_of own)) ∙ len

pub invariant_of-self : goal.invariant_of-self
invariant_of-self c =
    let s = c.self.inside in
    let own = ap (λ (cs : List AggState). part_of cs (c.slot.inside.number * s.stride) (length c.args.values.now)) c.as_mut_slice.ensures.value
    ∙ seen_states s.owners.items s.holders.items s.width s.stride s.cells.items s.free.items c.self.invariant.0 c.args.self.now c.self.view_is c.slot.inside.owner c.slot.inside.number c.args.slot.now c.slot.view_is c.requires.out (length c.args.values.now) c.requires.length in
    let len : length c.add_cells.new.cells ≡ s.cells.len = omega (arith, c.add_cells.auto.cells, ap length c.as_mut_slice.ensures.value, s.cells.ok.0) in
    let cells = with_items_is s.cells c.add_cells.new.cells len ∙ c.add_cells.ensures
    ∙ (λ i. with_part (c.as_mut_slice.ensures.value i) (c.slot.inside.number * s.stride) (length c.args.values.now) (now (own i) c.args.values.now)) in
    let n : length (now (states_at c.args.self.now c.args.slot.now) c.args.values.now) ≡ length c.args.values.now =
    long (states_at c.args.self.now c.args.slot.now) c.args.values.now (length c.args.values.now) (seen_long s.owners.items s.holders.items s.width s.stride s.cells.items s.free.items c.self.invariant.0 c.args.self.now c.self.view_is c.slot.inside.owner c.slot.inside.number c.args.slot.now c.slot.view_is c.requires.out ∙ sym c.requires.length) in (
      subst (λ (cs : List AggState). IsKept s.owners.items (pool_in s.owners.items s.holders.items s.width s.stride cs) s.free.items) (sym cells)
          (seen_row_kept s.owners.items s.holders.items s.width s.stride s.cells.items s.free.items c.self.invariant.0 c.args.self.now c.self.view_is c.slot.inside.owner c.slot.inside.number c.args.slot.now c.slot.view_is c.requires.out (now (states_at c.args.self.now c.args.slot.now) c.args.values.now) (length c.args.values.now) c.requires.length n),
      c.self.invariant.1,
    )

pub returns : goal.returns
returns c =
    let s = c.self.inside in
    let own = ap (λ (cs : List AggState). part_of cs (c.slot.inside.number * s.stride) (length c.args.values.now)) c.as_mut_slice.ensures.value
    ∙ seen_states s.owners.items s.holders.items s.width s.stride s.cells.items s.free.items c.self.invariant.0 c.args.self.now c.self.view_is c.slot.inside.owner c.slot.inside.number c.args.slot.now c.slot.view_is c.requires.out (length c.args.values.now) c.requires.length in
    let len : length c.add_cells.new.cells ≡ s.cells.len = omega (arith, c.add_cells.auto.cells, ap length c.as_mut_slice.ensures.value, s.cells.ok.0) in
    let cells = with_items_is s.cells c.add_cells.new.cells len ∙ c.add_cells.ensures
    ∙ (λ i. with_part (c.as_mut_slice.ensures.value i) (c.slot.inside.number * s.stride) (length c.args.values.now) (now (own i) c.args.values.now)) in
    let n : length (now (states_at c.args.self.now c.args.slot.now) c.args.values.now) ≡ length c.args.values.now =
    long (states_at c.args.self.now c.args.slot.now) c.args.values.now (length c.args.values.now) (seen_long s.owners.items s.holders.items s.width s.stride s.cells.items s.free.items c.self.invariant.0 c.args.self.now c.self.view_is c.slot.inside.owner c.slot.inside.number c.args.slot.now c.slot.view_is c.requires.out ∙ sym c.requires.length) in
    subst (λ (cs : List AggState). Writes c.args.slot.now (now (states_at c.args.self.now c.args.slot.now) c.args.values.now) c.args.self.now (pool_in s.owners.items s.holders.items s.width s.stride cs)) (sym cells)
    (seen_rewrites s.owners.items s.holders.items s.width s.stride s.cells.items s.free.items c.self.invariant.0 c.args.self.now c.self.view_is c.slot.inside.owner c.slot.inside.number c.args.slot.now c.slot.view_is c.requires.out (now (states_at c.args.self.now c.args.slot.now) c.args.values.now) (length c.args.values.now) c.requires.length n)
