use Rattle.std.proofs.Common.{◌≡◌, ◌+◌, ◌-◌, ◌*◌, ◌++◌, ◌≤◌, length, List, rules, arith, ap, ◌∙◌}
use Rattle.std.specs.Prelude.{Result, Ok, Err, IfOk, is_ok, if◌then◌else◌}
use Rattle.agg_laws.specs.declared.states.AggState.{AggState}
use Rattle.state_pool.specs.Pool.{states_at}
use Rattle.state_pool.specs.Kept.{part_of}
use Rattle.state_pool.proofs.PoolSteps.{known_owner, seen_row, seen_long, seen_states}
use Rattle.state_pool.proofs.PairSteps.{counted}
use Rattle.state_pool.proofs.pool.SlotPool.append_states.Goals as goal

pub index-requires : goal.index-requires
index-requires c =
    let s = c.self.inside in
    let lt = known_owner s.owners.items s.holders.items s.width s.stride s.cells.items s.free.items c.self.invariant.0 c.args.self.now c.self.view_is c.slot.inside.owner c.slot.inside.number c.args.slot.now c.slot.view_is c.requires in
    search (rules, lt)

pub overflow_mul-from : goal.overflow_mul-from
overflow_mul-from c =
    let s = c.self.inside in
    let row = seen_row s.owners.items s.holders.items s.width s.stride s.cells.items s.free.items c.self.invariant.0 c.args.self.now c.self.view_is c.slot.inside.owner c.slot.inside.number c.args.slot.now c.slot.view_is c.requires in
    search (rules, row)

pub returns-clause-count : goal.returns-clause-count
returns-clause-count c =
    let s = c.self.inside in
    seen_long s.owners.items s.holders.items s.width s.stride s.cells.items s.free.items c.self.invariant.0 c.args.self.now c.self.view_is c.slot.inside.owner c.slot.inside.number c.args.slot.now c.slot.view_is c.requires

pub overflow_add-from : goal.overflow_add-from
overflow_add-from c =
    let s = c.self.inside in
    let few = counted s.owners.items s.holders.items s.width s.stride s.cells.items s.free.items c.self.invariant.0 c.args.self.now c.self.view_is c.slot.inside.owner c.slot.inside.number c.args.slot.now c.slot.view_is c.requires c.index.result.now c.index.ensures c.len-count.result c.len-count.ensures in
    let row : c.slot.inside.number * s.stride + c.len-count.result ≤ length s.cells.items = omega (arith, seen_row s.owners.items s.holders.items s.width s.stride s.cells.items s.free.items c.self.invariant.0 c.args.self.now c.self.view_is c.slot.inside.owner c.slot.inside.number c.args.slot.now c.slot.view_is c.requires, few) in
    search (rules, row)

pub offset_bounds-deref-from : goal.offset_bounds-deref-from
offset_bounds-deref-from c =
    let s = c.self.inside in
    let row = seen_row s.owners.items s.holders.items s.width s.stride s.cells.items s.free.items c.self.invariant.0 c.args.self.now c.self.view_is c.slot.inside.owner c.slot.inside.number c.args.slot.now c.slot.view_is c.requires in
    search (rules, row)

pub slice_bounds-extend_from_slice-end : goal.slice_bounds-extend_from_slice-end
slice_bounds-extend_from_slice-end c =
    let s = c.self.inside in
    let few = counted s.owners.items s.holders.items s.width s.stride s.cells.items s.free.items c.self.invariant.0 c.args.self.now c.self.view_is c.slot.inside.owner c.slot.inside.number c.args.slot.now c.slot.view_is c.requires c.index.result.now c.index.ensures c.len-count.result c.len-count.ensures in
    let row : c.slot.inside.number * s.stride + c.len-count.result ≤ length s.cells.items = omega (arith, seen_row s.owners.items s.holders.items s.width s.stride s.cells.items s.free.items c.self.invariant.0 c.args.self.now c.self.view_is c.slot.inside.owner c.slot.inside.number c.args.slot.now c.slot.view_is c.requires, few) in
    search (rules, row)

-- a list that has more where that went well
ok_more : {E : Type 0} (r : Result Unit E) (new more old : List AggState) → new ≡ (if is_ok r then more else old) → IfOk r (λ _. new ≡ more)
ok_more (Ok u) new more old is = is
ok_more (Err e) new more old is = tt

pub returns-clause-states : goal.returns-clause-states
returns-clause-states c =
    let s = c.self.inside in
    let few = counted s.owners.items s.holders.items s.width s.stride s.cells.items s.free.items c.self.invariant.0 c.args.self.now c.self.view_is c.slot.inside.owner c.slot.inside.number c.args.slot.now c.slot.view_is c.requires c.index.result.now c.index.ensures c.len-count.result c.len-count.ensures in
    let from = c.slot.inside.number * s.stride in
    let wide : from + c.len-count.result - from ≡ c.len-count.result = omega arith in
    ok_more c.extend_from_slice.result c.extend_from_slice.new.self.items (c.args.into.now.items ++ states_at c.args.self.now c.args.slot.now) c.args.into.now.items
    (c.extend_from_slice.ensures.items ∙ ap (λ states. if is_ok c.extend_from_slice.result then c.args.into.now.items ++ states else c.args.into.now.items)
    ((λ i. part_of (c.deref.ensures.value i) from (wide i)) ∙ seen_states s.owners.items s.holders.items s.width s.stride s.cells.items s.free.items c.self.invariant.0 c.args.self.now c.self.view_is c.slot.inside.owner c.slot.inside.number c.args.slot.now c.slot.view_is c.requires c.len-count.result few))
