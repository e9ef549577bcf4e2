use Rattle.std.proofs.Common.{◌∙◌, length, sym, ap}
use Rattle.std.proofs.lemmas.List.{length-map}
use Rattle.csv_row.specs.Columns.{is_text_kind}
use Rattle.csv_ingest.proofs.ValidLemmas.{valid-defaults}
use Rattle.store_tests.proofs.built.generated.Goals as goal

pub read_columns-requires-clause-defaults : goal.read_columns-requires-clause-defaults
read_columns-requires-clause-defaults c = valid-defaults c.args.table.now.schema c.requires.valid.schema

pub appends-requires-clause-width : goal.appends-requires-clause-width
appends-requires-clause-width c =
    let fields = c.args.table.now.schema.fields in
    let columns = c.in-Ok.columns.columns in
    sym (length-map columns (λ x. x.are_texts)) ∙ ap length c.in-Ok.ensures.sorts ∙ length-map fields (λ f. is_text_kind f.kind)
