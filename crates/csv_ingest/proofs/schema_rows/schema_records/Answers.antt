use Rattle.std.proofs.Common.{◌∙◌, ap, arith}
use Rattle.csv.specs.Records.{fields_of}
use Rattle.csv_ingest.specs.Reading.{records_left}
use Rattle.csv_row.specs.Row.{csv_limits}
use Rattle.csv_ingest.specs.Rows.{rows_in}
use Rattle.csv_ingest.proofs.CountLemmas.{cells-count}
use Rattle.csv_ingest.proofs.SchemaLemmas.{no-names}
use Rattle.csv_ingest.proofs.NumberTextLemmas.{err-at, ok-at}
use Rattle.csv_ingest.proofs.schema_rows.schema_records.Goals as goal

pub returns-then-not-branch-clause-err : goal.returns-then-not-branch-clause-err
returns-then-not-branch-clause-err c = λ _ rest r.
    let none = rw c.if-not-branch.true at (c.in_ok-next_record.ensures rest r) in
    ap (rows_in csv_limits c.args.fields.now) (none c.args.most) ∙ no-names c.args.fields.now

pub schema_columns-requires-clause-at_most : goal.schema_columns-requires-clause-at_most
schema_columns-requires-clause-at_most c =
    let (rest, reads, within) = c.requires.left in
    let (after, reads_on, next) = rw c.if-not-branch.false at (c.in_ok-next_record.ensures rest reads) in
    let at_most = cells-count c.args.reader.now rest (fields_of c.next_record.new.row) (records_left 0 c.next_record.new.reader after) (next 0) in
    omega (arith, at_most, within)

pub returns-clause-ok : goal.returns-clause-ok
returns-clause-ok c = ok-at c.schema_columns.result _ _ (λ rows so rest r.
    let (after, reads, next) = rw c.if-not-branch.false at (c.in_ok-next_record.ensures rest r) in
    ap (rows_in csv_limits c.args.fields.now) (next c.args.most) ∙ so after reads) c.schema_columns.ensures.ok

pub returns-clause-err : goal.returns-clause-err
returns-clause-err c = err-at c.schema_columns.result _ _ (λ fault so real rest r.
    let (after, reads, next) = rw c.if-not-branch.false at (c.in_ok-next_record.ensures rest r) in
    ap (rows_in csv_limits c.args.fields.now) (next c.args.most) ∙ so real after reads) c.schema_columns.ensures.err
