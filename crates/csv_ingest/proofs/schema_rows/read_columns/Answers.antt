use Rattle.std.proofs.Common.{◌≡◌, List, ℕ, IfSome, Ok, sym, ap, subst, ◌∙◌}
use Rattle.csv.specs.Reading.{default_config, records}
use Rattle.values.specs.Columns.{ListedColumns, rows_of as rows_of_columns}
use Rattle.table_schema.specs.ValidTable.{AreRows}
use Rattle.csv_row.specs.Row.{csv_limits}
use Rattle.csv_ingest.specs.Rows.{records_of, rows_in}
use Rattle.csv_ingest.proofs.NumberTextLemmas.{ok-at}
use Rattle.csv_ingest.proofs.ValidRows.{rows_by_schema}
use Rattle.csv_ingest.proofs.schema_rows.read_columns.Goals as goal

pub returns-clause-valid : goal.returns-clause-valid
returns-clause-valid c = λ valid.
    let records = records_of c.args.bytes.now in
    ok-at c.record_columns.result
    (λ (table : ListedColumns). rows_in csv_limits c.as_slice-2.result.now records ≡ Ok (rows_of_columns table))
    (λ (table : ListedColumns). AreRows c.args.schema.now.fields (rows_of_columns table))
    (λ table is. rows_by_schema c.args.schema.now records (rows_of_columns table) valid (ap (λ fields. rows_in csv_limits fields records) (sym c.as_slice-2.ensures) ∙ is))
    c.record_columns.ensures.ok

pub returns-in-Ok-Some-clause-valid : goal.returns-in-Ok-Some-clause-valid
returns-in-Ok-Some-clause-valid c = λ valid.
    let columns = c.in-Ok-Some.columns in
    let fields = c.as_slice.result.now in
    let text : List ℕ = c.unmarked-text.result.now in
    let given : rows_in csv_limits fields (records default_config text) ≡ Ok (rows_of_columns columns) =
    subst (λ t. IfSome t (λ (t : ListedColumns). rows_in csv_limits fields (records default_config text) ≡ Ok (rows_of_columns t))) c.in-Ok-Some.field-0-is c.in-Ok-Some.ensures.ok in
    rows_by_schema c.args.schema.now (records default_config text) (rows_of_columns columns) valid (ap (λ fs. rows_in csv_limits fs (records default_config text)) (sym c.as_slice.ensures) ∙ given)
