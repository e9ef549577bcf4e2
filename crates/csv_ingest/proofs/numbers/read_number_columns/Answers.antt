use Rattle.std.proofs.Common.{◌≡◌, ◌+◌, ◌≤◌, List, ℕ, length, Ok}
use Rattle.std.specs.List.{All}
use Rattle.csv.specs.Reading.{strip_bom}
use Rattle.values.specs.Columns.{rows_of as rows_of_columns}
use Rattle.csv_ingest.specs.Reading.{Reads, records_left}
use Rattle.csv_row.specs.Row.{csv_limits}
use Rattle.csv_ingest.specs.Rows.{IsNumbers, number_rows_in}
use Rattle.csv_ingest.proofs.NumberLemmas.{few-plain, numbers-plain}
use Rattle.csv_ingest.proofs.NumberTextLemmas.{ok-at}
use Rattle.csv_ingest.proofs.ValidRows.{rows_by_header}
use Rattle.table_schema.specs.ValidTable.{AreRows}
use Rattle.csv_ingest.proofs.numbers.read_number_columns.Goals as goal

pub returns-clause-numbers : goal.returns-clause-numbers
returns-clause-numbers c =
    ok-at c.number_records.result
    (λ table. (rest : List ℕ) → Reads c.text_reader-reader.result rest → number_rows_in csv_limits (records_left (c.unmarked_len.result + 1) c.text_reader-reader.result rest) ≡ Ok (table.0, rows_of_columns table.1))
    (λ table. All (IsNumbers (length table.0.fields)) (rows_of_columns table.1))
    (λ table is. numbers-plain csv_limits (records_left (c.unmarked_len.result + 1) c.text_reader-reader.result (strip_bom c.args.bytes.now)) (table.0, rows_of_columns table.1) (is (strip_bom c.args.bytes.now) c.text_reader-reader.ensures.reads))
    c.number_records.ensures.ok

pub returns-clause-at_most : goal.returns-clause-at_most
returns-clause-at_most c =
    ok-at c.number_records.result
    (λ table. (rest : List ℕ) → Reads c.text_reader-reader.result rest → number_rows_in csv_limits (records_left (c.unmarked_len.result + 1) c.text_reader-reader.result rest) ≡ Ok (table.0, rows_of_columns table.1))
    (λ table. length table.0.fields ≤ 64)
    (λ table is. few-plain (records_left (c.unmarked_len.result + 1) c.text_reader-reader.result (strip_bom c.args.bytes.now)) (table.0, rows_of_columns table.1) (is (strip_bom c.args.bytes.now) c.text_reader-reader.ensures.reads))
    c.number_records.ensures.ok

pub returns-clause-valid : goal.returns-clause-valid
returns-clause-valid c =
    ok-at c.number_records.result
    (λ table. (rest : List ℕ) → Reads c.text_reader-reader.result rest → number_rows_in csv_limits (records_left (c.unmarked_len.result + 1) c.text_reader-reader.result rest) ≡ Ok (table.0, rows_of_columns table.1))
    (λ table. AreRows table.0.fields (rows_of_columns table.1))
    (λ table is. rows_by_header (records_left (c.unmarked_len.result + 1) c.text_reader-reader.result (strip_bom c.args.bytes.now)) (table.0, rows_of_columns table.1) (is (strip_bom c.args.bytes.now) c.text_reader-reader.ensures.reads))
    c.number_records.ensures.ok
