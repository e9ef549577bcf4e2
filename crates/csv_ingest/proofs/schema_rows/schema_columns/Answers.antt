use Rattle.std.proofs.Common.{◌≡◌, ◌∙◌, Bor, ℕ, List, Ok, Err, IsOk, map, ap, subst}
use Rattle.csv.specs.Records.{fields_of}
use Rattle.csv_ingest.specs.Names.{schema_name}
use Rattle.values.specs.Columns.{rows_of as rows_of_columns}
use Rattle.csv_ingest.specs.Reading.{records_left}
use Rattle.csv_row.specs.Row.{csv_limits}
use Rattle.csv_ingest.specs.Rows.{header_of, rows_of}
use Rattle.csv_ingest.proofs.SchemaLemmas.{bad-names, good-names}
use Rattle.csv_ingest.proofs.NumberTextLemmas.{err-at, ok-at}
use Rattle.csv_ingest.proofs.schema_rows.schema_columns.Goals as goal

pub returns-in-Err-clause-err : goal.returns-in-Err-clause-err
returns-in-Err-clause-err c = λ real rest r.
    let now : Bor (List ℕ) → List ℕ = λ f. f.now in
    let names : map now c.deref.result.now ≡ fields_of c.args.header.now = ap (map now) c.deref.ensures.value ∙ c.in_ok-names.ensures in
    bad-names c.args.fields.now (fields_of c.args.header.now) (records_left c.args.most c.args.reader.now rest) c.in-Err.fault
    (subst (λ ns. header_of (schema_name c.args.fields.now) ns ≡ Err c.in-Err.fault) names c.in-Err.ensures.err)

pub returns-clause-ok : goal.returns-clause-ok
returns-clause-ok c =
    let now : Bor (List ℕ) → List ℕ = λ f. f.now in
    let names : map now c.deref.result.now ≡ fields_of c.args.header.now = ap (map now) c.deref.ensures.value ∙ c.in_ok-names.ensures in
    let again : map now c.deref-2.result.now ≡ fields_of c.args.header.now = ap (map now) c.deref-2.ensures.value ∙ c.in_ok-names.ensures in
    ok-at c.columns_below.result _ _ (λ rows so rest r.
    good-names c.args.fields.now (fields_of c.args.header.now) (records_left c.args.most c.args.reader.now rest) (subst (λ ns. IsOk (header_of (schema_name c.args.fields.now) ns)) names c.in_default.ensures.ok)
    ∙ subst (λ ns. rows_of csv_limits c.args.fields.now ns (records_left c.args.most c.args.reader.now rest) ≡ Ok (rows_of_columns rows)) again (so rest r)) c.columns_below.ensures.ok

pub returns-clause-err : goal.returns-clause-err
returns-clause-err c =
    let now : Bor (List ℕ) → List ℕ = λ f. f.now in
    let names : map now c.deref.result.now ≡ fields_of c.args.header.now = ap (map now) c.deref.ensures.value ∙ c.in_ok-names.ensures in
    let again : map now c.deref-2.result.now ≡ fields_of c.args.header.now = ap (map now) c.deref-2.ensures.value ∙ c.in_ok-names.ensures in
    err-at c.columns_below.result _ _ (λ fault so real rest r.
    good-names c.args.fields.now (fields_of c.args.header.now) (records_left c.args.most c.args.reader.now rest) (subst (λ ns. IsOk (header_of (schema_name c.args.fields.now) ns)) names c.in_default.ensures.ok)
    ∙ subst (λ ns. rows_of csv_limits c.args.fields.now ns (records_left c.args.most c.args.reader.now rest) ≡ Err fault) again (so real rest r)) c.columns_below.ensures.err
