use Rattle.std.proofs.Common.{◌≡◌, ◌*◌, length, List, rules, arith, sym, ap, subst, ◌∙◌}
use Rattle.std.proofs.lemmas.List.{with_items_is}
use Rattle.agg_laws.specs.declared.states.AggState.{AggState}
use Rattle.agg_laws.specs.Numbers.{most_values}
use Rattle.agg_laws.specs.Rows.{kinds_of, merged_rows, RowFits}
use Rattle.state_columns.proofs.EachSteps.{length-merged}
use Rattle.state_columns.proofs.RowPlaces.{same_length}
use Rattle.state_pool.specs.Pool.{states_at}
use Rattle.state_pool.specs.Kept.{part_of, with_part}
use Rattle.state_pool.proofs.PoolSteps.{known_owner, seen_row}
use Rattle.state_pool.proofs.PairSteps.{long_into, row_into, row_from, rows_apart, states_into, states_from, pair_writes, pair_kept}
use Rattle.state_pool.proofs.pool.SlotPool.merge_slot.Goals as goal

pub index-requires : goal.index-requires
index-requires c =
    let s = c.self.inside in
    let lt = known_owner s.owners.items s.holders.items s.width s.stride s.cells.items s.free.items c.self.invariant.0 c.args.self.now c.self.view_is c.slot.inside.owner c.slot.inside.number c.args.slot.now c.slot.view_is c.requires.out in
    search (rules, lt)

pub overflow_mul-into : goal.overflow_mul-into
overflow_mul-into c =
    let s = c.self.inside in
    let row = seen_row s.owners.items s.holders.items s.width s.stride s.cells.items s.free.items c.self.invariant.0 c.args.self.now c.self.view_is c.slot.inside.owner c.slot.inside.number c.args.slot.now c.slot.view_is c.requires.out in
    search (rules, row)

pub overflow_mul-from : goal.overflow_mul-from
overflow_mul-from c =
    let s = c.self.inside in
    let row = seen_row s.owners.items s.holders.items s.width s.stride s.cells.items s.free.items c.self.invariant.0 c.args.self.now c.self.view_is c.from.inside.owner c.from.inside.number c.args.from.now c.from.view_is c.requires.from in
    search (rules, row)

pub merge_part-requires-clause-into : goal.merge_part-requires-clause-into
merge_part-requires-clause-into c =
    let s = c.self.inside in
    omega (arith, row_into s.owners.items s.holders.items s.width s.stride s.cells.items s.free.items c.self.invariant.0 c.args.self.now c.self.view_is c.slot.inside.owner c.slot.inside.number c.args.slot.now c.slot.view_is c.requires.out c.from.inside.owner c.from.inside.number c.args.from.now c.from.view_is c.requires.from c.requires.apart c.requires.kinds c.index.result.now c.index.ensures c.len-count.result c.len-count.ensures, ap length c.as_mut_slice.ensures.value)

pub merge_part-requires-clause-from : goal.merge_part-requires-clause-from
merge_part-requires-clause-from c =
    let s = c.self.inside in
    omega (arith, row_from s.owners.items s.holders.items s.width s.stride s.cells.items s.free.items c.self.invariant.0 c.args.self.now c.self.view_is c.slot.inside.owner c.slot.inside.number c.args.slot.now c.slot.view_is c.requires.out c.from.inside.owner c.from.inside.number c.args.from.now c.from.view_is c.requires.from c.requires.apart c.requires.kinds c.index.result.now c.index.ensures c.len-count.result c.len-count.ensures, ap length c.as_mut_slice.ensures.value)

pub merge_part-requires-clause-apart : goal.merge_part-requires-clause-apart
merge_part-requires-clause-apart c =
    let s = c.self.inside in
    rows_apart s.owners.items s.holders.items s.width s.stride s.cells.items s.free.items c.self.invariant.0 c.args.self.now c.self.view_is c.slot.inside.owner c.slot.inside.number c.args.slot.now c.slot.view_is c.requires.out c.from.inside.owner c.from.inside.number c.args.from.now c.from.view_is c.requires.from c.requires.apart c.requires.kinds c.index.result.now c.index.ensures c.len-count.result c.len-count.ensures

pub merge_part-requires-clause-kinds : goal.merge_part-requires-clause-kinds
merge_part-requires-clause-kinds c =
    let s = c.self.inside in
    let own = ap (λ cells. part_of cells (c.slot.inside.number * s.stride) c.len-count.result) c.as_mut_slice.ensures.value ∙ states_into s.owners.items s.holders.items s.width s.stride s.cells.items s.free.items c.self.invariant.0 c.args.self.now c.self.view_is c.slot.inside.owner c.slot.inside.number c.args.slot.now c.slot.view_is c.requires.out c.from.inside.owner c.from.inside.number c.args.from.now c.from.view_is c.requires.from c.requires.apart c.requires.kinds c.index.result.now c.index.ensures c.len-count.result c.len-count.ensures in
    let its = ap (λ cells. part_of cells (c.from.inside.number * s.stride) c.len-count.result) c.as_mut_slice.ensures.value ∙ states_from s.owners.items s.holders.items s.width s.stride s.cells.items s.free.items c.self.invariant.0 c.args.self.now c.self.view_is c.slot.inside.owner c.slot.inside.number c.args.slot.now c.slot.view_is c.requires.out c.from.inside.owner c.from.inside.number c.args.from.now c.from.view_is c.requires.from c.requires.apart c.requires.kinds c.index.result.now c.index.ensures c.len-count.result c.len-count.ensures in
    ap kinds_of own ∙ c.requires.kinds ∙ ap kinds_of (sym its)

pub merge_part-requires-clause-fits : goal.merge_part-requires-clause-fits
merge_part-requires-clause-fits c =
    let s = c.self.inside in
    let own = ap (λ cells. part_of cells (c.slot.inside.number * s.stride) c.len-count.result) c.as_mut_slice.ensures.value ∙ states_into s.owners.items s.holders.items s.width s.stride s.cells.items s.free.items c.self.invariant.0 c.args.self.now c.self.view_is c.slot.inside.owner c.slot.inside.number c.args.slot.now c.slot.view_is c.requires.out c.from.inside.owner c.from.inside.number c.args.from.now c.from.view_is c.requires.from c.requires.apart c.requires.kinds c.index.result.now c.index.ensures c.len-count.result c.len-count.ensures in
    let its = ap (λ cells. part_of cells (c.from.inside.number * s.stride) c.len-count.result) c.as_mut_slice.ensures.value ∙ states_from s.owners.items s.holders.items s.width s.stride s.cells.items s.free.items c.self.invariant.0 c.args.self.now c.self.view_is c.slot.inside.owner c.slot.inside.number c.args.slot.now c.slot.view_is c.requires.out c.from.inside.owner c.from.inside.number c.args.from.now c.from.view_is c.requires.from c.requires.apart c.requires.kinds c.index.result.now c.index.ensures c.len-count.result c.len-count.ensures in
    subst (λ (vs : List AggState). RowFits vs most_values) (sym (λ i. merged_rows (own i) (its i))) c.requires.fits

pub invariant_of-self : goal.invariant_of-self
invariant_of-self c =
    let s = c.self.inside in
    let own = ap (λ cells. part_of cells (c.slot.inside.number * s.stride) c.len-count.result) c.as_mut_slice.ensures.value ∙ states_into s.owners.items s.holders.items s.width s.stride s.cells.items s.free.items c.self.invariant.0 c.args.self.now c.self.view_is c.slot.inside.owner c.slot.inside.number c.args.slot.now c.slot.view_is c.requires.out c.from.inside.owner c.from.inside.number c.args.from.now c.from.view_is c.requires.from c.requires.apart c.requires.kinds c.index.result.now c.index.ensures c.len-count.result c.len-count.ensures in
    let its = ap (λ cells. part_of cells (c.from.inside.number * s.stride) c.len-count.result) c.as_mut_slice.ensures.value ∙ states_from s.owners.items s.holders.items s.width s.stride s.cells.items s.free.items c.self.invariant.0 c.args.self.now c.self.view_is c.slot.inside.owner c.slot.inside.number c.args.slot.now c.slot.view_is c.requires.out c.from.inside.owner c.from.inside.number c.args.from.now c.from.view_is c.requires.from c.requires.apart c.requires.kinds c.index.result.now c.index.ensures c.len-count.result c.len-count.ensures in
    let len : length c.merge_part.new.cells ≡ s.cells.len = omega (arith, c.merge_part.auto.cells, ap length c.as_mut_slice.ensures.value, s.cells.ok.0) in
    let cells = with_items_is s.cells c.merge_part.new.cells len ∙ c.merge_part.ensures
    ∙ ap (with_part _ (c.slot.inside.number * s.stride) c.len-count.result) (λ i. merged_rows (own i) (its i)) in
    let one = states_at c.args.self.now c.args.slot.now in let other = states_at c.args.self.now c.args.from.now in
    let n : length (merged_rows one other) ≡ c.len-count.result = length-merged one other (same_length one other c.requires.kinds) ∙ long_into s.owners.items s.holders.items s.width s.stride s.cells.items s.free.items c.self.invariant.0 c.args.self.now c.self.view_is c.slot.inside.owner c.slot.inside.number c.args.slot.now c.slot.view_is c.requires.out c.from.inside.owner c.from.inside.number c.args.from.now c.from.view_is c.requires.from c.requires.apart c.requires.kinds c.index.result.now c.index.ensures c.len-count.result c.len-count.ensures in
    (pair_kept s.owners.items s.holders.items s.width s.stride s.cells.items s.free.items c.self.invariant.0 c.args.self.now c.self.view_is c.slot.inside.owner c.slot.inside.number c.args.slot.now c.slot.view_is c.requires.out c.from.inside.owner c.from.inside.number c.args.from.now c.from.view_is c.requires.from c.requires.apart c.requires.kinds c.index.result.now c.index.ensures c.len-count.result c.len-count.ensures (merged_rows one other) _ _ n c.as_mut_slice.ensures.value cells, c.self.invariant.1)

pub returns : goal.returns
returns c =
    let s = c.self.inside in
    let own = ap (λ cells. part_of cells (c.slot.inside.number * s.stride) c.len-count.result) c.as_mut_slice.ensures.value ∙ states_into s.owners.items s.holders.items s.width s.stride s.cells.items s.free.items c.self.invariant.0 c.args.self.now c.self.view_is c.slot.inside.owner c.slot.inside.number c.args.slot.now c.slot.view_is c.requires.out c.from.inside.owner c.from.inside.number c.args.from.now c.from.view_is c.requires.from c.requires.apart c.requires.kinds c.index.result.now c.index.ensures c.len-count.result c.len-count.ensures in
    let its = ap (λ cells. part_of cells (c.from.inside.number * s.stride) c.len-count.result) c.as_mut_slice.ensures.value ∙ states_from s.owners.items s.holders.items s.width s.stride s.cells.items s.free.items c.self.invariant.0 c.args.self.now c.self.view_is c.slot.inside.owner c.slot.inside.number c.args.slot.now c.slot.view_is c.requires.out c.from.inside.owner c.from.inside.number c.args.from.now c.from.view_is c.requires.from c.requires.apart c.requires.kinds c.index.result.now c.index.ensures c.len-count.result c.len-count.ensures in
    let len : length c.merge_part.new.cells ≡ s.cells.len = omega (arith, c.merge_part.auto.cells, ap length c.as_mut_slice.ensures.value, s.cells.ok.0) in
    let cells = with_items_is s.cells c.merge_part.new.cells len ∙ c.merge_part.ensures
    ∙ ap (with_part _ (c.slot.inside.number * s.stride) c.len-count.result) (λ i. merged_rows (own i) (its i)) in
    let one = states_at c.args.self.now c.args.slot.now in let other = states_at c.args.self.now c.args.from.now in
    let n : length (merged_rows one other) ≡ c.len-count.result = length-merged one other (same_length one other c.requires.kinds) ∙ long_into s.owners.items s.holders.items s.width s.stride s.cells.items s.free.items c.self.invariant.0 c.args.self.now c.self.view_is c.slot.inside.owner c.slot.inside.number c.args.slot.now c.slot.view_is c.requires.out c.from.inside.owner c.from.inside.number c.args.from.now c.from.view_is c.requires.from c.requires.apart c.requires.kinds c.index.result.now c.index.ensures c.len-count.result c.len-count.ensures in
    pair_writes s.owners.items s.holders.items s.width s.stride s.cells.items s.free.items c.self.invariant.0 c.args.self.now c.self.view_is c.slot.inside.owner c.slot.inside.number c.args.slot.now c.slot.view_is c.requires.out c.from.inside.owner c.from.inside.number c.args.from.now c.from.view_is c.requires.from c.requires.apart c.requires.kinds c.index.result.now c.index.ensures c.len-count.result c.len-count.ensures (merged_rows one other) _ _ n c.as_mut_slice.ensures.value cells
