-- Block after block of a text that is read by lines, and then by records.
use Rattle.std.proofs.Common.{◌≡◌, ◌∙◌, ◌≤◌, ◌+◌, ◌-◌, Bor, ℕ, List, [], drop, Ok, sym, ap, subst, arith}
use Rattle.csv.specs.Reading.{default_config, records_from, strip_bom}
use Rattle.csv.specs.declared.parser.State.TheVariants as st
use Rattle.values.specs.Columns.{ListedColumns, rows_of as rows_of_columns}
use Rattle.table_schema.specs.declared.field.Field.{Field}
use Rattle.csv_ingest.specs.declared.blocks.Source.{Source}
use Rattle.csv_ingest.specs.declared.blocks.Source.TheVariants as source
use Rattle.csv_row.specs.InOrder.{after}
use Rattle.csv_ingest.specs.Blocks.{RowsOrFault, rows_from}
use Rattle.csv_ingest.specs.Lines.{AreLines}
use Rattle.csv_ingest.specs.NumberBlocks.{HasLeft, HasLines, HasRows}
use Rattle.csv_ingest.specs.Reading.{Reads, TextReader, records_left}
use Rattle.csv_ingest.proofs.HeaderLine.{end-unmarked}

module _ (fields : List Field) (header : List (List ℕ)) (before left : ℕ) (whole : RowsOrFault) where
  pub by-records : (from : Source) (reader : TextReader) → from ≡ source.Records reader → HasLeft fields header from before left whole → HasRows fields header reader before left whole
  by-records from reader is h = subst (λ s. HasLeft fields header s before left whole) is h

  pub by-lines : (from : Source) (text : Bor (List ℕ)) → from ≡ source.Lines text → HasLeft fields header from before left whole → HasLines fields header text.now before left whole
  by-lines from text is h = subst (λ s. HasLeft fields header s before left whole) is h

  -- records are read from here on
  pub lines-left : (text : List ℕ) (reader : TextReader) → HasLines fields header text before left whole → Reads reader (strip_bom text)
      → ((n : ℕ) → records_left n reader (strip_bom text) ≡ records_from default_config n st.StartRecord (strip_bom text)) → HasRows fields header reader before left whole
  lines-left text reader h reads same = record {
    rest = strip_bom text;
    reads = reads;
    is = h.is ∙ ap (rows_from before fields header) (ap (records_from default_config left st.StartRecord) (sym (end-unmarked text h.at_end)) ∙ sym (same left));
  }

  -- more lines
  pub lines-next : (text : List ℕ) (columns : ListedColumns) (taken : ℕ) → HasLines fields header text before left whole → AreLines fields header before text columns taken → columns.count ≤ left
      → whole ≡ after (rows_of_columns columns) (rows_from (before + columns.count) fields header (records_from default_config (left - columns.count) st.StartRecord (drop taken text)))
  lines-next text columns taken h lines le =
      let split : left ≡ left - columns.count + columns.count = omega (arith, le) in
      h.is ∙ ap (λ k. rows_from before fields header (records_from default_config k st.StartRecord text)) split ∙ lines.each (left - columns.count)

none-from : (n : ℕ) (text : List ℕ) → n ≡ 0 → records_from default_config n st.StartRecord text ≡ []
unfolding records_from
none-from n text e = ap (λ k. records_from default_config k st.StartRecord text) e

-- where no record may be left
pub no-lines : (fields : List Field) (header : List (List ℕ)) (before left : ℕ) (text : List ℕ) → left ≡ 0 → rows_from before fields header (records_from default_config left st.StartRecord text) ≡ Ok []
no-lines fields header before left text e = ap (rows_from before fields header) (none-from left text e)
