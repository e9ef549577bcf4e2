use Rattle.std.proofs.Common.{◌≡◌, ◌∙◌, ◌++◌, ◌<◌, ◌≤◌, ◌+◌, ℕ, Bool, List, ap, sym, subst, arith, length}
use Rattle.std.proofs.lemmas.List.{take_all}
use Rattle.values.specs.declared.value.Value.{Value}
use Rattle.values.specs.Columns.{ListedColumns, row_of, rows_of}
use Rattle.values.proofs.RowLemmas.{length-rows, row-at}
use Rattle.table_schema.specs.declared.query.BoundQuery.{BoundQuery}
use Rattle.scan_engine.specs.Places.{rows_at}
use Rattle.scan_engine.specs.Scanned.{marked, selected}
use Rattle.scan_engine.proofs.AddLemmas.{mark_is, selected_more}
use Rattle.scan_engine.proofs.FoldLemmas.{count_marked, rows_marked}
use Rattle.scan_engine.proofs.places.selected_places.Goals as goal

pub loop-at-preserved : goal.loop-at-preserved
loop-at-preserved c =
    let q : BoundQuery = c.args.query.now in
    let b : ListedColumns = c.args.block.columns.now in
    let at : ℕ = c.loop-at.at in
    let mark : Bool = c.index.result.now in
    let row : List Value = row_of b.columns at in
    let lt : at < b.count = omega (arith, c.len-at-end.ensures.count) in
    let is = mark_is q c.as_slice.result.now b c.in_ok-marks.marks.items at mark c.as_slice.ensures c.in_ok-marks.ensures lt c.index.ensures in
    record {
      rows = ap (rows_at b.columns) c.in_ok-push_marked.ensures ∙ rows_marked b.columns c.loop-at.places.items at mark
          ∙ ap (λ (l : List (List Value)). l ++ marked mark row) c.loop-at.invariant.rows
          ∙ selected_more q (rows_of b) at row mark (row-at b.count at b.columns lt c.len-at-end.ensures.each) is;
      count = subst (λ (l : List ℕ). length l ≤ at + 1) (sym c.in_ok-push_marked.ensures) (count_marked c.loop-at.places.items at mark at c.loop-at.invariant.count);
    }

pub returns-clause-rows : goal.returns-clause-rows
returns-clause-rows c =
    let q : BoundQuery = c.args.query.now in
    let b : ListedColumns = c.args.block.columns.now in
    let rows : length (rows_of b) ≡ b.count = length-rows b.count b.columns c.len-at-end.ensures.each in
    c.loop-at.invariant.rows ∙ ap (selected q) (take_all c.loop-at.at (rows_of b) (omega (arith, rows, c.len-at-end.ensures.count)))
