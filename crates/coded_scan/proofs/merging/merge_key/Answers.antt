use Rattle.std.proofs.Common.{◌≡◌, ◌∙◌, ◌<◌, ◌≤◌, ◌-◌, [], ℕ, List, length, get_or, ap, sym, subst, arith}
use Rattle.std.proofs.lemmas.List.{get_or_default, length-map}
use Rattle.agg_laws.specs.declared.states.AggState.{AggState}
use Rattle.agg_laws.specs.Numbers.{most_values}
use Rattle.agg_laws.specs.Rows.{RowFits, kinds_of}
use Rattle.values.specs.declared.value.Value.{Value}
use Rattle.values.specs.Columns.{row_of}
use Rattle.group_table.specs.Groups.{key_of, states_of}
use Rattle.group_table.specs.Kept.{HaveValues, KeptGroups, groups_in}
use Rattle.std.specs.FinMap as finite
use Rattle.coded_columns.specs.Keyed.{IsKept, size_in}
use Rattle.scan_engine.specs.Places.{IsRun}
use Rattle.scan_engine.specs.Scanned.{AddsRows}
use Rattle.scan_engine.proofs.AddLemmas.{adds_nothing, merged_within}
use Rattle.scan_engine.proofs.RunLemmas.{adds_run, kinds_states, no_room_for_run, same_fault, states_have}
use Rattle.coded_columns.specs.Coded.{table_of}
use Rattle.coded_columns.proofs.KeyedSteps.{in-agg, row-fits, row-states}
use Rattle.coded_columns.proofs.SlotLemmas.{in_slot-few}
use Rattle.coded_scan.specs.Passed.{passed, passed_rows, run_of}
use Rattle.coded_scan.proofs.KeyedMerges.{key-none, key-run, passed-few}
use Rattle.group_table.specs.Pooled.{in_pool}
use Rattle.coded_scan.proofs.merging.merge_key.Goals as goal

pub fill_ids-requires : goal.fill_ids-requires
fill_ids-requires c =
    let segment = c.args.rows.segment.now in
    let firsts : List ℕ = c.args.keyed.now.firsts.items in
    let k : ℕ = c.args.key in
    let first : c.index-first.result.now ≡ get_or firsts k 0 = c.index-first.ensures ∙ get_or_default firsts k c.index-first.result.now 0 c.requires.key in
    let some : 0 < get_or firsts k 0 = omega (arith, first, c.if-first-eq0.false) in
    let holds = c.requires.may.holds in
    subst (λ (gs : List ℕ). IsKept segment gs c.args.keyed.now k) (sym c.as_slice-columns.ensures)
    (record {
      key = c.requires.key;
      some = some;
      within = (holds.firsts k c.requires.key).within some;
      packed = holds.packed;
    })

pub fill_states-requires : goal.fill_states-requires
fill_states-requires c =
    let q = c.args.query.now in
    let rows = c.args.rows in
    let segment = rows.segment.now in
    let places : List ℕ = passed rows in
    let firsts : List ℕ = c.args.keyed.now.firsts.items in
    let owns = c.args.keyed.now.aggs.items in
    let k : ℕ = c.args.key in
    let first : c.index-first.result.now ≡ get_or firsts k 0 = c.index-first.ensures ∙ get_or_default firsts k c.index-first.result.now 0 c.requires.key in
    let holds = c.requires.may.holds in
    in-agg (length firsts) c.requires.may.keys (passed_rows rows) q.aggs owns (λ own. k < size_in own) holds.states (λ agg own o. omega (arith, c.requires.key, o.size_is))

pub merge_ids-requires-clause-merges : goal.merge_ids-requires-clause-merges
merge_ids-requires-clause-merges c =
    let q = c.args.query.now in
    let rows = c.args.rows in
    let segment = rows.segment.now in
    let places : List ℕ = passed rows in
    let firsts : List ℕ = c.args.keyed.now.firsts.items in
    let owns = c.args.keyed.now.aggs.items in
    let k : ℕ = c.args.key in
    let first : c.index-first.result.now ≡ get_or firsts k 0 = c.index-first.ensures ∙ get_or_default firsts k c.index-first.result.now 0 c.requires.key in
    let at : ℕ = get_or firsts k 0 - 1 in
    let keys : List ℕ = c.requires.may.keys in
    let holds = c.requires.may.holds in
    let run : List (List Value) = run_of rows keys k in
    let some : 0 < get_or firsts k 0 = omega (arith, first, c.if-first-eq0.false) in
    let row_is : c.fill_states.new.row ≡ states_of q.aggs run = c.in_ok-fill_states.ensures ∙ row-states (length firsts) keys (passed_rows rows) q.aggs owns k holds.states c.requires.key in
    let fits : RowFits c.fill_states.new.row (length run) = subst (λ (s : List AggState). RowFits s (length run)) (sym c.in_ok-fill_states.ensures) (row-fits (length firsts) keys (passed_rows rows) q.aggs owns k holds.states c.requires.key) in
    let at_most : length run ≤ most_values =
    omega (arith, in_slot-few k keys (passed_rows rows), length-map places (row_of (table_of segment).columns), passed-few rows, segment.coded.at_most) in
    let some_run : 0 < length run = (key-run segment q.groups q.aggs keys places c.args.keyed.now holds k (key_of q.groups (row_of (table_of segment).columns at)) c.requires.key some (λ i. key_of q.groups (row_of (table_of segment).columns at))).some in
    record {
      row = record { row = at; within = (holds.firsts k c.requires.key).within some; are = c.in_ok-fill_ids.ensures };
      as_many = c.requires.table.columns ∙ ap length (sym c.as_slice-columns.ensures);
      kinds = ap kinds_of row_is ∙ kinds_states q.aggs run ∙ sym c.requires.table.kinds;
      values = λ any. subst (λ (s : List AggState). HaveValues s) (sym row_is) (states_have q.aggs run some_run);
      fits = λ row lt are. merged_within (groups_in (in_pool c.args.table.now c.args.pool.now)) (key_of c.as_slice-columns.result.now (row_of (table_of segment).columns row)) c.fill_states.new.row (length run) at_most c.requires.may.fits fits;
    }

pub returns-then-first-eq0-clause-adds : goal.returns-then-first-eq0-clause-adds
returns-then-first-eq0-clause-adds c = λ keys holds.
    let q = c.args.query.now in
    let rows = c.args.rows in
    let segment = rows.segment.now in
    let places : List ℕ = passed rows in
    let firsts : List ℕ = c.args.keyed.now.firsts.items in
    let owns = c.args.keyed.now.aggs.items in
    let k : ℕ = c.args.key in
    let first : c.index-first.result.now ≡ get_or firsts k 0 = c.index-first.ensures ∙ get_or_default firsts k c.index-first.result.now 0 c.requires.key in
    let run : List (List Value) = run_of rows keys k in
    let none : run ≡ [] = key-none segment q.groups q.aggs keys places c.args.keyed.now holds k c.requires.key (omega (arith, first, c.if-first-eq0.true)) in
    record {
      ok = subst (λ (l : List (List Value)). AddsRows q (length l) l (in_pool c.args.table.now c.args.pool.now) (in_pool c.args.table.now c.args.pool.now)) (sym none) (adds_nothing q 0 (in_pool c.args.table.now c.args.pool.now) c.requires.table);
      full = λ bad. absurd cc;
      filled = λ bad. absurd cc;
    }

pub returns-in-Err-clause-adds : goal.returns-in-Err-clause-adds
returns-in-Err-clause-adds c = λ keys holds.
    let q = c.args.query.now in
    let rows = c.args.rows in
    let segment = rows.segment.now in
    let places : List ℕ = passed rows in
    let firsts : List ℕ = c.args.keyed.now.firsts.items in
    let owns = c.args.keyed.now.aggs.items in
    let k : ℕ = c.args.key in
    let first : c.index-first.result.now ≡ get_or firsts k 0 = c.index-first.ensures ∙ get_or_default firsts k c.index-first.result.now 0 c.requires.key in
    let at : ℕ = get_or firsts k 0 - 1 in
    let run : List (List Value) = run_of rows keys k in
    let some : 0 < get_or firsts k 0 = omega (arith, first, c.if-first-eq0.false) in
    let within : at < segment.count = (holds.firsts k c.requires.key).within some in
    let own : List Value = key_of c.as_slice-columns.result.now (row_of (table_of segment).columns at) in
    let r : IsRun q.groups own run = key-run segment q.groups q.aggs keys places c.args.keyed.now holds k own c.requires.key some (ap (λ (gs : List ℕ). key_of gs (row_of (table_of segment).columns at)) c.as_slice-columns.ensures) in
    record {
      ok = tt;
      full = λ bad.
          let full = c.in-Err.ensures.full (same_fault _ _ bad) in
          no_room_for_run q run own (in_pool c.args.table.now c.args.pool.now) r (full.0 at within c.in_ok-fill_ids.ensures) full.1;
      filled = λ bad.
          let full = c.in-Err.ensures.full (same_fault _ _ bad) in
          let same : in_pool c.merge_ids.new.table c.merge_ids.new.pool ≡ in_pool c.args.table.now c.args.pool.now = λ i. in_pool (c.in-Err.ensures.err.0 i) (c.in-Err.ensures.err.1 i) in
          ap (λ (t : KeptGroups). finite.len (groups_in t)) same ∙ full.1;
    }

pub returns-clause-adds : goal.returns-clause-adds
returns-clause-adds c = λ keys holds.
    let q = c.args.query.now in
    let rows = c.args.rows in
    let segment = rows.segment.now in
    let places : List ℕ = passed rows in
    let firsts : List ℕ = c.args.keyed.now.firsts.items in
    let owns = c.args.keyed.now.aggs.items in
    let k : ℕ = c.args.key in
    let first : c.index-first.result.now ≡ get_or firsts k 0 = c.index-first.ensures ∙ get_or_default firsts k c.index-first.result.now 0 c.requires.key in
    let at : ℕ = get_or firsts k 0 - 1 in
    let run : List (List Value) = run_of rows keys k in
    let some : 0 < get_or firsts k 0 = omega (arith, first, c.if-first-eq0.false) in
    let within : at < segment.count = (holds.firsts k c.requires.key).within some in
    let own : List Value = key_of c.as_slice-columns.result.now (row_of (table_of segment).columns at) in
    let r : IsRun q.groups own run = key-run segment q.groups q.aggs keys places c.args.keyed.now holds k own c.requires.key some (ap (λ (gs : List ℕ). key_of gs (row_of (table_of segment).columns at)) c.as_slice-columns.ensures) in
    let row_is : c.fill_states.new.row ≡ states_of q.aggs run = c.in_ok-fill_states.ensures ∙ row-states (length firsts) keys (passed_rows rows) q.aggs owns k holds.states c.requires.key in
    let fits : RowFits c.fill_states.new.row (length run) = subst (λ (s : List AggState). RowFits s (length run)) (sym c.in_ok-fill_states.ensures) (row-fits (length firsts) keys (passed_rows rows) q.aggs owns k holds.states c.requires.key) in
    record {
      ok = adds_run q (length run) run own c.fill_states.new.row (in_pool c.args.table.now c.args.pool.now) (in_pool c.merge_ids.new.table c.merge_ids.new.pool) c.requires.table r row_is fits (c.in_default.ensures.ok at within c.in_ok-fill_ids.ensures);
      full = λ bad. absurd cc;
      filled = λ bad. absurd cc;
    }
