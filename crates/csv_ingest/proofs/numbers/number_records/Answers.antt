use Rattle.std.proofs.Common.{◌∙◌, ℕ, List, Ok, ap, subst, sym, arith}
use Rattle.csv.specs.Records.{fields_of}
use Rattle.values.specs.Columns.{rows_of as rows_of_columns}
use Rattle.table_schema.specs.declared.field.Schema.{Schema}
use Rattle.csv_ingest.specs.NumberBlocks.{AreNumbers}
use Rattle.csv_ingest.specs.Rows.{with_schema}
use Rattle.csv_ingest.proofs.BlockLemmas.{whole-block}
use Rattle.csv_ingest.proofs.NumberLemmas.{number-columns}
use Rattle.csv_ingest.proofs.numbers.number_records.Goals as goal

pub returns-in-Err-clause-err : goal.returns-in-Err-clause-err
returns-in-Err-clause-err c = λ real rest r. c.in-Err.ensures.err real rest r c.args.most

pub returns-in-Ok-next_block-clause-ok : goal.returns-in-Ok-next_block-clause-ok
returns-in-Ok-next_block-clause-ok c = λ rest r.
    let (left, reads, next) = c.in-Ok.ensures.ok rest r in
    let fields = c.in-Ok.header.fields in
    let names : List (List ℕ) = fields_of c.in-Ok.header.names in
    let block = c.in-Ok-next_block.field-0 in
    next c.args.most
    ∙ ap (with_schema fields) (whole-block fields names c.args.most c.read_header.new.reader c.next_block.new.reader left block.columns block.last (c.in-Ok-next_block.ensures.ok left reads))
    ∙ ap (λ schema. Ok (schema, rows_of_columns block.columns)) (sym c.into_schema.ensures)

pub returns-in-Err-next_block-clause-err : goal.returns-in-Err-next_block-clause-err
returns-in-Err-next_block-clause-err c = λ real rest r.
    let (left, reads, next) = c.in-Ok.ensures.ok rest r in
    next c.args.most
    ∙ ap (with_schema c.in-Ok.header.fields) (c.in-Err-next_block.ensures.err real left reads c.args.most (omega arith))

pub returns-in-Ok-next_block-clause-columns : goal.returns-in-Ok-next_block-clause-columns
returns-in-Ok-next_block-clause-columns c =
    let columns = c.in-Ok-next_block.field-0.columns.columns in
    subst (λ (schema : Schema). AreNumbers schema.fields columns) (sym c.into_schema.ensures)
    (number-columns (fields_of c.in-Ok.header.names) c.in-Ok.header.fields columns c.in-Ok.ensures.header.fields c.in-Ok-next_block.ensures.sorts)
