use Rattle.std.proofs.Common.{◌≡◌, ◌∙◌, ◌≤◌, ◌-◌, ℕ, List, length, arith}
use Rattle.std.proofs.lemmas.List.{length-map}
use Rattle.agg_laws.specs.Numbers.{most_values}
use Rattle.values.specs.Columns.{row_of}
use Rattle.group_table.specs.Kept.{groups_in}
use Rattle.scan_engine.specs.Scanned.{HaveAtMost}
use Rattle.scan_engine.proofs.AddLemmas.{adds_nothing, at_most_more}
use Rattle.scan_engine.proofs.RunLemmas.{adds_as_more, same_fault}
use Rattle.coded_columns.specs.Coded.{table_of}
use Rattle.coded_scan.specs.Passed.{passed, passed_rows}
use Rattle.coded_scan.proofs.KeyedMerges.{as-many, keys-below, passed-few}
use Rattle.coded_scan.proofs.MergeSteps.{merge-all, merge-next, merge-none, merge-overfull, room-next}
use Rattle.group_table.specs.Pooled.{in_pool}
use Rattle.group_table.proofs.SlotFrames.{stays_same, stays_both}
use Rattle.coded_scan.proofs.merging.merge_keys.Goals as goal

pub loop-key-init : goal.loop-key-init
loop-key-init c =
    let query = c.args.query.now in
    let keys : List ℕ = c.requires.holds.keys in
    record {
      keys = keys;
      holds = c.requires.holds.holds;
      stays = stays_same c.args.table.now c.args.pool.now c.requires.pooled;
      adds = merge-none query keys (passed_rows c.args.rows) (in_pool c.args.table.now c.args.pool.now) (adds_nothing query 0 (in_pool c.args.table.now c.args.pool.now) c.requires.table);
    }

pub merge_key-requires-clause-may : goal.merge_key-requires-clause-may
merge_key-requires-clause-may c =
    let query = c.args.query.now in
    let rows = c.args.rows in
    let inv = c.loop-key.invariant in
    let many : length (passed_rows rows) ≡ length (passed rows) = length-map (passed rows) (row_of (table_of rows.segment.now).columns) in
    let few : length (passed_rows rows) ≤ rows.segment.now.count = omega (arith, many, passed-few rows) in
    let room : HaveAtMost (most_values - length (passed_rows rows)) (groups_in (in_pool c.args.table.now c.args.pool.now)) =
    at_most_more (groups_in (in_pool c.args.table.now c.args.pool.now)) (most_values - rows.segment.now.count) (most_values - length (passed_rows rows)) (omega (arith, few)) c.requires.fits in
    record {
      keys = inv.keys;
      holds = inv.holds;
      fits = room-next query inv.keys (passed_rows rows) c.loop-key.key (in_pool c.args.table.now c.args.pool.now) (in_pool c.loop-key.table c.loop-key.pool) (omega (arith, few, rows.segment.now.coded.at_most)) room inv.adds;
    }

pub loop-key-preserved : goal.loop-key-preserved
loop-key-preserved c =
    let query = c.args.query.now in
    let inv = c.loop-key.invariant in
    record {
      keys = inv.keys;
      holds = inv.holds;
      stays = stays_both c.args.table.now c.loop-key.table c.merge_key.new.table c.args.pool.now c.loop-key.pool c.merge_key.new.pool inv.stays c.in-Ok.ensures.stays;
      adds = merge-next query inv.keys (passed_rows c.args.rows) c.loop-key.key (in_pool c.args.table.now c.args.pool.now) (in_pool c.loop-key.table c.loop-key.pool) (in_pool c.merge_key.new.table c.merge_key.new.pool) inv.adds (c.in-Ok.ensures.adds inv.keys inv.holds).ok;
    }

pub returns-in-Err-clause-adds : goal.returns-in-Err-clause-adds
returns-in-Err-clause-adds c =
    let query = c.args.query.now in
    let rows = c.args.rows in
    let inv = c.loop-key.invariant in
    let told = c.in-Err.ensures.adds inv.keys inv.holds in
    record {
      ok = tt;
      full = λ bad.
          merge-overfull query inv.keys (passed_rows rows) c.loop-key.key (in_pool c.args.table.now c.args.pool.now) (in_pool c.loop-key.table c.loop-key.pool)
          (as-many rows.segment.now query.groups query.aggs inv.keys (passed rows) c.args.keyed.now inv.holds) inv.adds (told.full (same_fault _ _ bad));
      filled = λ bad. told.filled (same_fault _ _ bad) ∙ inv.adds.most;
    }

pub returns-clause-adds : goal.returns-clause-adds
returns-clause-adds c =
    let query = c.args.query.now in
    let rows = c.args.rows in
    let inv = c.loop-key.invariant in
    let segment = rows.segment.now in
    let many : length (passed_rows rows) ≡ length (passed rows) = length-map (passed rows) (row_of (table_of segment).columns) in
    record {
      ok = adds_as_more query (length (passed_rows rows)) segment.count (passed_rows rows) (in_pool c.args.table.now c.args.pool.now) (in_pool c.loop-key.table c.loop-key.pool) (omega (arith, many, passed-few rows))
          (merge-all query inv.keys (passed_rows rows) c.loop-key.key (in_pool c.args.table.now c.args.pool.now) (in_pool c.loop-key.table c.loop-key.pool)
          (as-many segment query.groups query.aggs inv.keys (passed rows) c.args.keyed.now inv.holds)
          (λ k lt. omega (arith, keys-below segment query.groups query.aggs inv.keys (passed rows) c.args.keyed.now inv.holds k lt, c.loop-key-test.false, c.len-key-end.ensures)) inv.adds);
      full = λ bad. absurd cc;
      filled = λ bad. absurd cc;
    }

pub returns-in-Err-clause-stays : goal.returns-in-Err-clause-stays
returns-in-Err-clause-stays c = stays_both c.args.table.now c.loop-key.table c.merge_key.new.table c.args.pool.now c.loop-key.pool c.merge_key.new.pool c.loop-key.invariant.stays c.in-Err.ensures.stays

pub returns-clause-stays : goal.returns-clause-stays
returns-clause-stays c = c.loop-key.invariant.stays
