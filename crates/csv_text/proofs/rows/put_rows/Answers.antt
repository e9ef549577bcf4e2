use Rattle.std.proofs.Common.{◌≡◌, ◌≤◌, ℕ, List, length, map, take, sym, ap, subst, arith}
use Rattle.std.proofs.lemmas.List.{take_all}
use Rattle.values.specs.Columns.{ListedColumns, row_of, rows_of}
use Rattle.values.proofs.RowLemmas.{length-rows, row-at}
use Rattle.csv.specs.Writing.{default_writer, row_text}
use Rattle.values.specs.Printed.{text_of}
use Rattle.csv_text.specs.Cells.{IsPut}
use Rattle.csv_text.specs.Coded.{listed_columns}
use Rattle.csv_text.specs.Rows.{records_text}
use Rattle.csv_text.proofs.CellLemmas.{counts_of, put_then, records_step}
use Rattle.csv_text.proofs.rows.put_rows.Goals as goal

pub rows-preserved : goal.rows-preserved
rows-preserved c =
    let t : ListedColumns = listed_columns c.args.rows c.args.columns.now in
    let old : List ℕ = c.args.text.now.items in
    let own : List ℕ = records_text (take c.rows.row (rows_of t)) in
    let got = row-at t.count c.rows.row t.columns c.rows-test.true (counts_of c.args.rows c.args.columns.now c.requires.coded) in
    let one : List ℕ = row_text default_writer (map text_of (row_of t.columns c.rows.row)) in
    let put : IsPut c.rows.text.items c.rows.end one c.put_row.new.text.items c.in_ok-end.end =
    subst (λ (xs : List ℕ). IsPut xs c.rows.end one c.put_row.new.text.items c.in_ok-end.end) c.make_room.ensures c.in_ok-end.ensures in
    put_then old c.rows.text.items c.put_row.new.text.items own one _ (length old) c.rows.end c.in_ok-end.end c.rows.invariant put
    (records_step (rows_of t) c.rows.row (row_of t.columns c.rows.row) got)

pub put_row-requires-clause-at : goal.put_row-requires-clause-at
put_row-requires-clause-at c = subst (λ (xs : List ℕ). c.rows.end ≤ length xs) (sym c.make_room.ensures) c.rows.invariant.within

pub returns : goal.returns
returns c =
    let t : ListedColumns = listed_columns c.args.rows c.args.columns.now in
    let old : List ℕ = c.args.text.now.items in
    let many : length (rows_of t) ≡ c.args.rows = length-rows t.count t.columns (counts_of c.args.rows c.args.columns.now c.requires.coded) in
    subst (λ rows. IsPut old (length old) (records_text rows) c.rows.text.items c.rows.end) (take_all c.rows.row (rows_of t) (omega (arith, many, c.rows-test.false))) c.rows.invariant
