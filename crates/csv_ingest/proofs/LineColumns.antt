-- The rows of lines, and of the records after them.
use Rattle.std.proofs.Common.{◌≡◌, ◌∙◌, ◌≤◌, ◌+◌, ◌-◌, ℕ, List, drop, Ok, Err, sym, ap, ap₂, arith}
use Rattle.csv.specs.Reading.{default_config, records_from, strip_bom}
use Rattle.csv.specs.declared.parser.State.TheVariants as st
use Rattle.values.specs.Columns.{Listed, ListedColumns, rows_in_columns, rows_of as rows_of_columns}
use Rattle.table_schema.specs.declared.field.Field.{Field}
use Rattle.csv_row.specs.InOrder.{after}
use Rattle.csv_row.specs.Row.{csv_limits}
use Rattle.csv_row.specs.declared.fault.CsvFault.{CsvFault}
use Rattle.csv_ingest.specs.declared.lines.Taken.{Taken}
use Rattle.csv_ingest.specs.declared.rows.Added.{Added}
use Rattle.csv_ingest.specs.Blocks.{AddsBlock, rows_from}
use Rattle.csv_ingest.specs.Lines.{AtLineEnd}
use Rattle.csv_ingest.specs.Parts.{AddsLines}
use Rattle.csv_ingest.specs.Reading.{TextReader, records_left}
use Rattle.csv_ingest.specs.Rows.{rows_of}
use Rattle.csv_ingest.proofs.BlockLemmas.{added-rows}
use Rattle.csv_ingest.proofs.HeaderLine.{end-unmarked}

module _ (fields : List Field) (header : List (List ℕ)) (text : List ℕ) (held : List Listed) (room most : ℕ) (taken : Taken) (reader : TextReader) (left : List ℕ) (lines : AddsLines fields header text held room taken) (some : taken.rows ≤ most)
    (end : AtLineEnd text) (left_is : left ≡ drop taken.bytes text)
    (same : (n : ℕ) → records_left n reader (strip_bom left) ≡ records_from default_config n st.StartRecord (strip_bom left)) where
  -- what all records give, by those after the lines
  by_records : rows_of csv_limits fields header (records_from default_config most st.StartRecord text) ≡ after (rows_in_columns taken.rows held) (rows_from taken.rows fields header (records_left (most - taken.rows) reader (strip_bom left)))
  by_records =
      let split : most ≡ most - taken.rows + taken.rows = omega (arith, some) in
      let none : 0 + taken.rows ≡ taken.rows = omega arith in
      let m = most - taken.rows in
      ap (λ k. rows_from 0 fields header (records_from default_config k st.StartRecord text)) split
      ∙ lines.lines.each m
      ∙ ap₂ (λ k t. after (rows_in_columns taken.rows held) (rows_from k fields header (records_from default_config m st.StartRecord t))) none
      (sym (end-unmarked (drop taken.bytes text) (lines.lines.at_end end)) ∙ ap strip_bom (sym left_is))
      ∙ ap (λ records. after (rows_in_columns taken.rows held) (rows_from taken.rows fields header records)) (sym (same m))

  pub rows-whole : (new : TextReader) (more : List Listed) (added : Added) (table : ListedColumns) → AddsBlock fields header taken.rows (most - taken.rows) reader new (strip_bom left) held more added → table ≡ record { columns = more; count = taken.rows + added.count }
      → rows_of csv_limits fields header (records_from default_config most st.StartRecord text) ≡ Ok (rows_of_columns table)
  rows-whole new more added table a is =
      by_records
      ∙ ap (after (rows_in_columns taken.rows held)) (added-rows fields header taken.rows (most - taken.rows) reader new (strip_bom left) held more added a)
      ∙ ap Ok (sym (a.pushed taken.rows lines.counts) ∙ ap rows_of_columns (sym is))

  pub rows-fault : (fault : CsvFault) → rows_from taken.rows fields header (records_left (most - taken.rows) reader (strip_bom left)) ≡ Err fault → rows_of csv_limits fields header (records_from default_config most st.StartRecord text) ≡ Err fault
  rows-fault fault bad = by_records ∙ ap (after (rows_in_columns taken.rows held)) bad
