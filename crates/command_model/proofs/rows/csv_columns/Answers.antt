use Rattle.std.proofs.Common.{◌∙◌, length, sym, ap, subst, All}
use Rattle.std.proofs.lemmas.List.{length-map}
use Rattle.csv_row.specs.Columns.{is_text_kind}
use Rattle.csv_ingest.specs.Rows.{records_of}
use Rattle.csv_ingest.specs.Unicode.{IsUnicode}
use Rattle.csv_ingest.proofs.ValidLemmas.{valid-defaults}
use Rattle.table_schema.specs.declared.field.Field.{Field}
use Rattle.values.specs.Columns.{rows_of}
use Rattle.command_model.proofs.RowsLemmas.{rows_unicode}
use Rattle.command_model.proofs.rows.csv_columns.Goals as goal

pub read_columns-requires-clause-defaults : goal.read_columns-requires-clause-defaults
read_columns-requires-clause-defaults c = valid-defaults c.args.table.now.schema c.requires.valid.schema

pub returns-in-Ok-clause-made : goal.returns-in-Ok-clause-made
returns-in-Ok-clause-made c =
    let fields = c.args.table.now.schema.fields in
    let columns = c.in-Ok.columns.columns in
    let defaults : All (λ (field : Field). IsUnicode field.default) fields = subst (All (λ (field : Field). IsUnicode field.default)) c.as_slice.ensures c.look_at_defaults.ensures in
    record {
      width = sym (length-map columns (λ x. x.are_texts)) ∙ ap length c.in-Ok.ensures.sorts ∙ length-map fields (λ f. is_text_kind f.kind);
      fit = c.in-Ok.ensures.valid c.requires.valid.schema;
      unicode = rows_unicode fields (records_of c.args.text.now) (rows_of c.in-Ok.columns) defaults c.in-Ok.ensures.ok;
    }
