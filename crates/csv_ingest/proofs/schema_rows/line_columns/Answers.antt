use Rattle.std.proofs.Common.{◌≡◌, ◌≢◌, ◌∙◌, Bor, ℕ, List, Option, IfSome, IsOk, Ok, Err, length, map, drop, ap, sym, subst, arith}
use Rattle.std.proofs.lemmas.List.{length-map}
use Rattle.csv.specs.Reading.{default_config, records, records_from}
use Rattle.csv.specs.Records.{fields_of}
use Rattle.csv.specs.declared.parser.State.TheVariants as st
use Rattle.values.specs.Columns.{ListedColumns, rows_of as rows_of_columns}
use Rattle.csv_row.specs.Layouts.{header_of}
use Rattle.csv_row.specs.Row.{csv_limits}
use Rattle.csv_row.specs.declared.fault.CsvFault.{CsvFault}
use Rattle.csv_row.specs.declared.fault.CsvFault.TheVariants.{NoMemory}
use Rattle.csv_ingest.specs.Names.{schema_name}
use Rattle.csv_ingest.specs.Rows.{header_of as header_names, rows_in, rows_of}
use Rattle.csv_ingest.proofs.CountLemmas.{first-count}
use Rattle.csv_ingest.proofs.NumberTextLemmas.{err-at, ok-at, some-at}
use Rattle.csv_ingest.proofs.SchemaLemmas.{bad-names, below-line}
use Rattle.csv_ingest.proofs.schema_rows.line_columns.Goals as goal

pub check_names-requires : goal.check_names-requires
check_names-requires c =
    let now : Bor (List ℕ) → List ℕ = λ f. f.now in
    let text = c.args.text.now in
    let names : map now c.deref.result.now ≡ fields_of c.in_ok-header.header = ap (map now) c.deref.ensures.value ∙ c.in_ok-names.ensures in
    let few = first-count text (fields_of c.in_ok-header.header) (records_from default_config 0 st.StartRecord (drop c.args.end text)) (c.in_ok-header.ensures 0) in
    omega (arith, few, ap length names, length-map c.deref.result.now now, c.requires.at_most)

pub new-requires-clause-at_most : goal.new-requires-clause-at_most
new-requires-clause-at_most c =
    let now : Bor (List ℕ) → List ℕ = λ f. f.now in
    let text = c.args.text.now in
    let names : map now c.deref-2.result.now ≡ fields_of c.in_ok-header.header = ap (map now) c.deref-2.ensures.value ∙ c.in_ok-names.ensures in
    let few = first-count text (fields_of c.in_ok-header.header) (records_from default_config 0 st.StartRecord (drop c.args.end text)) (c.in_ok-header.ensures 0) in
    omega (arith, few, ap length names, length-map c.deref-2.result.now now, c.requires.at_most)

pub returns-in-Err-clause-err : goal.returns-in-Err-clause-err
returns-in-Err-clause-err c = λ real.
    let now : Bor (List ℕ) → List ℕ = λ f. f.now in
    let text = c.args.text.now in
    let n : ℕ = length text in
    let header : List (List ℕ) = fields_of c.in_ok-header.header in
    let names : map now c.deref.result.now ≡ header = ap (map now) c.deref.ensures.value ∙ c.in_ok-names.ensures in
    ap (rows_in csv_limits c.args.fields.now) (c.in_ok-header.ensures n)
    ∙ bad-names c.args.fields.now header (records_from default_config n st.StartRecord (drop c.args.end text)) c.in-Err.fault
    (subst (λ ns. header_names (schema_name c.args.fields.now) ns ≡ Err c.in-Err.fault) names c.in-Err.ensures.err)

pub returns-clause-ok : goal.returns-clause-ok
returns-clause-ok c =
    let now : Bor (List ℕ) → List ℕ = λ f. f.now in
    let text = c.args.text.now in
    let n : ℕ = length text in
    let header : List (List ℕ) = fields_of c.in_ok-header.header in
    let rest : List ℕ = c.from_place.result.now in
    let layout = c.in_ok-layout.layout in
    let names : map now c.deref.result.now ≡ header = ap (map now) c.deref.ensures.value ∙ c.in_ok-names.ensures in
    let again : header_of layout ≡ header = c.in_ok-layout.ensures.names ∙ ap (map now) c.deref-2.ensures.value ∙ c.in_ok-names.ensures in
    let whole = below-line c.args.fields.now layout.fields.now header (header_of layout) (records default_config text) (records_from default_config n st.StartRecord (drop c.args.end text)) (records_from default_config n st.StartRecord rest)
    (c.in_ok-header.ensures n) (ap (records_from default_config n st.StartRecord) (sym c.from_place.ensures)) (subst (λ ns. IsOk (header_names (schema_name c.args.fields.now) ns)) names c.in_default.ensures.ok) c.in_ok-layout.ensures.fields again in
    ok-at c.rows_below.result
    (λ (table : Option ListedColumns). IfSome table (λ columns. rows_of csv_limits layout.fields.now (header_of layout) (records_from default_config n st.StartRecord rest) ≡ Ok (rows_of_columns columns)))
    (λ (table : Option ListedColumns). IfSome table (λ columns. rows_in csv_limits c.args.fields.now (records default_config text) ≡ Ok (rows_of_columns columns)))
    (λ table is. some-at table (λ columns. rows_of csv_limits layout.fields.now (header_of layout) (records_from default_config n st.StartRecord rest) ≡ Ok (rows_of_columns columns))
    (λ columns. rows_in csv_limits c.args.fields.now (records default_config text) ≡ Ok (rows_of_columns columns)) (λ columns so. whole ∙ so) is)
    c.rows_below.ensures.ok

pub returns-clause-err : goal.returns-clause-err
returns-clause-err c =
    let now : Bor (List ℕ) → List ℕ = λ f. f.now in
    let text = c.args.text.now in
    let n : ℕ = length text in
    let header : List (List ℕ) = fields_of c.in_ok-header.header in
    let rest : List ℕ = c.from_place.result.now in
    let layout = c.in_ok-layout.layout in
    let names : map now c.deref.result.now ≡ header = ap (map now) c.deref.ensures.value ∙ c.in_ok-names.ensures in
    let again : header_of layout ≡ header = c.in_ok-layout.ensures.names ∙ ap (map now) c.deref-2.ensures.value ∙ c.in_ok-names.ensures in
    let whole = below-line c.args.fields.now layout.fields.now header (header_of layout) (records default_config text) (records_from default_config n st.StartRecord (drop c.args.end text)) (records_from default_config n st.StartRecord rest)
    (c.in_ok-header.ensures n) (ap (records_from default_config n st.StartRecord) (sym c.from_place.ensures)) (subst (λ ns. IsOk (header_names (schema_name c.args.fields.now) ns)) names c.in_default.ensures.ok) c.in_ok-layout.ensures.fields again in
    err-at c.rows_below.result
    (λ (fault : CsvFault). fault ≢ NoMemory → rows_of csv_limits layout.fields.now (header_of layout) (records_from default_config n st.StartRecord rest) ≡ Err fault)
    (λ (fault : CsvFault). fault ≢ NoMemory → rows_in csv_limits c.args.fields.now (records default_config text) ≡ Err fault)
    (λ fault so real. whole ∙ so real)
    c.rows_below.ensures.err
