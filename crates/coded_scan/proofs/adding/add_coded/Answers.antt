use Rattle.std.proofs.Common.{◌≡◌, ◌∙◌, ◌<◌, ℕ, Bool, List, ap, subst, arith, length}
use Rattle.std.proofs.lemmas.List.{take_all}
use Rattle.values.specs.declared.value.Value.{Value}
use Rattle.values.specs.Columns.{ListedColumns, row_of, rows_of}
use Rattle.values.proofs.RowLemmas.{length-rows}
use Rattle.table_schema.specs.Conditions.{all_hold}
use Rattle.table_schema.specs.declared.query.BoundQuery.{BoundQuery}
use Rattle.table_schema.specs.declared.query.Conjunct.{Conjunct}
use Rattle.scan_engine.specs.Places.{rows_at}
use Rattle.scan_engine.specs.Scanned.{selected}
use Rattle.coded_columns.specs.Coded.{table_of}
use Rattle.coded_columns.proofs.CodedLemmas.{counts}
use Rattle.coded_scan.specs.declared.row_filter.RowFilter.{RowFilter}
use Rattle.coded_scan.specs.Added.{AddsOrFills}
use Rattle.coded_scan.specs.RowFilters.{all_let, passing}
use Rattle.segment_plan.specs.Served.{rest_of, unserved}
use Rattle.coded_scan.proofs.AddSteps.{passing-rows}
use Rattle.group_table.specs.Pooled.{in_pool}
use Rattle.coded_scan.proofs.adding.add_coded.Goals as goal

pub returns-clause-adds : goal.returns-clause-adds
returns-clause-adds c =
    let q : BoundQuery = c.args.query.now in
    let rest : BoundQuery = rest_of q c.args.choices.now in
    let b : ListedColumns = table_of c.args.segment.now in
    let holds : ℕ → Bool = λ at. all_let at c.as_slice-2.result.now in
    let same : (at : ℕ) → at < b.count → holds at ≡ all_hold (row_of b.columns at) rest.conjuncts = λ at lt.
    ap (λ (l : List RowFilter). all_let at l) c.as_slice-2.ensures.value ∙ c.in_ok-row_filters.ensures.lets at lt
    ∙ ap (λ (l : List Conjunct). all_hold (row_of b.columns at) (unserved c.args.choices.now l)) c.as_slice.ensures in
    let many : length (rows_of b) ≡ b.count = length-rows b.count b.columns (counts c.args.segment.now) in
    let rows : rows_at b.columns (passing holds 0 b.count) ≡ selected rest (rows_of b) =
    passing-rows c.args.segment.now rest holds same b.count (omega arith) ∙ ap (selected rest) (take_all b.count (rows_of b) (omega (arith, many))) in
    subst (λ (l : List (List Value)). AddsOrFills q b.count l (in_pool c.args.table.now c.args.pool.now) (in_pool c.merge_keys.new.table c.merge_keys.new.pool) c.merge_keys.result) rows c.merge_keys.ensures.adds
