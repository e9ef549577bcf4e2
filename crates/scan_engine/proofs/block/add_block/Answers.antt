use Rattle.std.proofs.Common.{◌≡◌, ◌∙◌, ◌≤◌, ◌-◌, ℕ, List, ap, sym, subst, arith, length}
use Rattle.std.proofs.lemmas.Result.{IfOk-weaker}
use Rattle.agg_laws.specs.Numbers.{most_values}
use Rattle.values.specs.declared.value.Value.{Value}
use Rattle.values.specs.Columns.{ListedColumns, rows_of}
use Rattle.group_table.specs.Kept.{groups_in}
use Rattle.table_schema.specs.declared.query.BoundQuery.{BoundQuery}
use Rattle.scan_engine.specs.Places.{rows_at}
use Rattle.scan_engine.specs.Scanned.{AddsRows, IsOverfull, selected}
use Rattle.scan_engine.proofs.AddLemmas.{at_most_more}
use Rattle.scan_engine.proofs.RunLemmas.{adds_as_more}
use Rattle.group_table.specs.Pooled.{in_pool}
use Rattle.scan_engine.proofs.block.add_block.Goals as goal

pub add_places-requires-clause-room : goal.add_places-requires-clause-room
add_places-requires-clause-room c =
    let count : ℕ = c.args.block.now.count in
    let few : length c.as_slice.result.now ≤ count = subst (λ (l : List ℕ). length l ≤ count) (sym c.as_slice.ensures.value) c.in_ok-places.ensures.count in
    record {
      of_query = c.requires.room.of_query;
      at_most = omega (arith, few, c.requires.room.at_most);
      fits = at_most_more (groups_in (in_pool c.args.table.now c.args.pool.now)) (most_values - count) (most_values - length c.as_slice.result.now) (omega (arith, few)) c.requires.room.fits;
    }

pub returns-clause-adds : goal.returns-clause-adds
returns-clause-adds c =
    let q : BoundQuery = c.args.query.now in
    let b : ListedColumns = c.args.block.now in
    let few : length c.as_slice.result.now ≤ b.count = subst (λ (l : List ℕ). length l ≤ b.count) (sym c.as_slice.ensures.value) c.in_ok-places.ensures.count in
    let rows : rows_at b.columns c.as_slice.result.now ≡ selected q (rows_of b) = ap (rows_at b.columns) c.as_slice.ensures.value ∙ c.in_ok-places.ensures.rows in
    record {
      added = IfOk-weaker c.add_places.result _ _ (λ u a. subst (λ (l : List (List Value)). AddsRows q b.count l (in_pool c.args.table.now c.args.pool.now) (in_pool c.add_places.new.table c.add_places.new.pool)) rows
          (adds_as_more q (length c.as_slice.result.now) b.count (rows_at b.columns c.as_slice.result.now) (in_pool c.args.table.now c.args.pool.now) (in_pool c.add_places.new.table c.add_places.new.pool) few a)) c.add_places.ensures.adds.added;
      full = λ bad. subst (λ (l : List (List Value)). IsOverfull q l (in_pool c.args.table.now c.args.pool.now)) rows (c.add_places.ensures.adds.full bad);
    }
