use Rattle.std.proofs.Common.{◌≡◌, ◌∙◌, length, map, sym, ap}
use Rattle.std.proofs.lemmas.List.{length-map}
use Rattle.csv_row.specs.Columns.{is_text_kind}
use Rattle.csv_ingest.proofs.ValidLemmas.{valid-defaults}
use Rattle.bench_parts.proofs.rows.read_files.Goals as goal

pub read_columns-requires-clause-defaults : goal.read_columns-requires-clause-defaults
read_columns-requires-clause-defaults c = valid-defaults c.in-Ok-read_schema.schema c.in-Ok-read_schema.ensures.valid

pub returns-in-Ok-read_columns : goal.returns-in-Ok-read_columns
returns-in-Ok-read_columns c =
    let fields = c.in-Ok-read_schema.schema.fields in
    let columns = c.in-Ok-read_columns.columns.columns in
    record {
      width = sym (length-map columns (λ x. x.are_texts)) ∙ ap length c.in-Ok-read_columns.ensures.sorts ∙ length-map fields (λ f. is_text_kind f.kind);
      counts = c.len-rows.ensures.each;
      rows = c.in-Ok-read_columns.ensures.valid c.in-Ok-read_schema.ensures.valid;
    }
