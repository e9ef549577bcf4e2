use Rattle.std.proofs.Common.{◌≡◌, ◌∙◌, ◌-◌, ◌+◌, ◌∷◌, [], ℕ, List, ap, lit≤, subst, arith, length, take, get_or}
use Rattle.std.proofs.lemmas.List.{take_all}
use Rattle.agg_laws.specs.Numbers.{most_values}
use Rattle.values.specs.declared.value.Value.{Value}
use Rattle.values.specs.Columns.{row_of}
use Rattle.group_table.specs.Kept.{groups_in}
use Rattle.scan_engine.specs.Places.{rows_at}
use Rattle.scan_engine.specs.Scanned.{AddsRows}
use Rattle.scan_engine.proofs.AddLemmas.{adds_both, adds_nothing, at_most_more}
use Rattle.scan_engine.proofs.RunLemmas.{overfull_next, rows_next, same_fault}
use Rattle.group_table.specs.Pooled.{in_pool}
use Rattle.group_table.proofs.SlotFrames.{stays_same, stays_both}
use Rattle.scan_engine.proofs.row_by_row.add_singly.Goals as goal

pub loop-place-init : goal.loop-place-init
loop-place-init c = record {
  adds = adds_nothing c.args.query.now 0 (in_pool c.args.table.now c.args.pool.now) c.requires.room.of_query;
  stays = stays_same c.args.table.now c.args.pool.now c.requires.table;
}

pub add_one-requires-clause-room : goal.add_one-requires-clause-room
add_one-requires-clause-room c =
    let count : ℕ = length c.args.places.now in
    let at : ℕ = c.loop-place.place-index in
    record {
      of_query = c.loop-place.invariant.adds.of_query;
      at_most = lit≤ tt;
      fits = at_most_more (groups_in (in_pool c.loop-place.table c.loop-place.pool)) ((most_values - count) + at) 536870911 (omega (arith, c.requires.room.at_most, c.loop-place-test.true)) (c.loop-place.invariant.adds.fits (most_values - count) c.requires.room.fits);
    }

pub returns-in-Err-clause-adds : goal.returns-in-Err-clause-adds
returns-in-Err-clause-adds c = record {
  added = tt;
  full = λ bad. overfull_next c.args.query.now c.args.block.columns.now.columns c.loop-place.place-index c.args.places.now (in_pool c.args.table.now c.args.pool.now) (in_pool c.loop-place.table c.loop-place.pool) c.loop-place-test.true c.loop-place.invariant.adds
      (c.add_one.ensures.adds.full (c.in-Err.is ∙ same_fault _ _ bad));
}

pub loop-place-preserved : goal.loop-place-preserved
loop-place-preserved c =
    let q = c.args.query.now in
    let columns = c.args.block.columns.now.columns in
    let places = c.args.places.now in
    let at : ℕ = c.loop-place.place-index in
    record {
      adds = subst (λ (l : List (List Value)). AddsRows q (at + 1) l (in_pool c.args.table.now c.args.pool.now) (in_pool c.add_one.new.table c.add_one.new.pool)) (rows_next columns at places c.loop-place-test.true)
          (adds_both q at 1 (rows_at columns (take at places)) (row_of columns (get_or places at 0) ∷ []) (in_pool c.args.table.now c.args.pool.now) (in_pool c.loop-place.table c.loop-place.pool) (in_pool c.add_one.new.table c.add_one.new.pool) c.loop-place.invariant.adds c.in-Ok.ensures.adds.added);
      stays = stays_both c.args.table.now c.loop-place.table c.add_one.new.table c.args.pool.now c.loop-place.pool c.add_one.new.pool c.loop-place.invariant.stays c.in-Ok.ensures.stays;
    }

pub returns-in-Err-clause-stays : goal.returns-in-Err-clause-stays
returns-in-Err-clause-stays c = stays_both c.args.table.now c.loop-place.table c.add_one.new.table c.args.pool.now c.loop-place.pool c.add_one.new.pool c.loop-place.invariant.stays c.add_one.ensures.stays

pub returns-clause-adds : goal.returns-clause-adds
returns-clause-adds c =
    let places = c.args.places.now in
    let end : c.loop-place.place-index ≡ length places = omega (arith, c.loop-place-test.false, c.loop-place.auto.place-index-end) in
    record {
      added = subst (λ (l : List (List Value)). AddsRows c.args.query.now (length places) l (in_pool c.args.table.now c.args.pool.now) (in_pool c.loop-place.table c.loop-place.pool))
          (ap (rows_at c.args.block.columns.now.columns) (take_all (length places) places (omega arith)))
          (subst (λ n. AddsRows c.args.query.now n (rows_at c.args.block.columns.now.columns (take n places)) (in_pool c.args.table.now c.args.pool.now) (in_pool c.loop-place.table c.loop-place.pool)) end c.loop-place.invariant.adds);
      full = λ bad. absurd cc;
    }
