use Rattle.std.proofs.Common.{◌≡◌, ℕ, List, Ok, subst}
use Rattle.table_schema.specs.declared.field.Field.{Field}
use Rattle.values.specs.Columns.{rows_of as rows_of_columns}
use Rattle.csv_row.specs.Layouts.{header_of}
use Rattle.csv_ingest.specs.Reading.{records_left}
use Rattle.csv_row.specs.Row.{csv_limits}
use Rattle.csv_ingest.specs.Rows.{rows_of}
use Rattle.csv_ingest.proofs.BlockLemmas.{whole-block}
use Rattle.csv_ingest.proofs.rows.columns_below.Goals as goal

pub returns-in-Ok-clause-ok : goal.returns-in-Ok-clause-ok
returns-in-Ok-clause-ok c = λ rest r.
    let layout = c.in_ok-layout.layout in
    let block = c.in-Ok.field-0 in
    subst (λ (header : List (List ℕ)). rows_of csv_limits c.args.fields.now header (records_left c.args.most c.args.reader.now rest) ≡ Ok (rows_of_columns block.columns)) c.in_ok-layout.ensures.names
    (subst (λ (fields : List Field). rows_of csv_limits fields (header_of layout) (records_left c.args.most c.args.reader.now rest) ≡ Ok (rows_of_columns block.columns)) c.in_ok-layout.ensures.fields
    (whole-block layout.fields.now (header_of layout) c.args.most c.args.reader.now c.read_block.new.reader rest block.columns block.last (c.in-Ok.ensures.ok rest r)))
