-- The rows of a list of records over the fields of a table.
use Rattle.std.proofs.Common.{◌≡◌, ◌∙◌, ℕ, List, [], ◌∷◌, Result, Ok, Err, IsOk, refl, sym, ap}
use Rattle.table_schema.specs.declared.field.Field.{Field}
use Rattle.csv_row.specs.declared.fault.CsvKind.TheVariants.{NoHeader}
use Rattle.csv_row.specs.declared.fault.CsvFault.{CsvFault}
use Rattle.csv_row.specs.declared.fault.CsvFault.TheVariants.{At}
use Rattle.csv_ingest.specs.Names.{schema_name}
use Rattle.csv_row.specs.Row.{csv_limits}
use Rattle.csv_ingest.specs.Rows.{header_of, rows_in, rows_of, under}

module _ (fields : List Field) where
  pub no-names : rows_in csv_limits fields [] ≡ Err (At NoHeader 0 0)
  unfolding rows_in
  no-names = refl

  pub bad-names : (header : List (List ℕ)) (rows : List (List (List ℕ))) (fault : CsvFault) → header_of (schema_name fields) header ≡ Err fault → rows_in csv_limits fields (header ∷ rows) ≡ Err fault
  unfolding rows_in
  bad-names header rows fault bad = ap (λ h. under h (λ _. rows_of csv_limits fields header rows)) bad

passed : {A B E : Type 0} (r : Result A E) (rest : Result B E) → IsOk r → under r (λ _. rest) ≡ rest
passed (Ok a) rest ok = refl
passed (Err e) rest ok = absurd cc

pub good-names : (fields : List Field) (header : List (List ℕ)) (rows : List (List (List ℕ))) → IsOk (header_of (schema_name fields) header) → rows_in csv_limits fields (header ∷ rows) ≡ rows_of csv_limits fields header rows
unfolding rows_in
good-names fields header rows ok = passed (header_of (schema_name fields) header) (rows_of csv_limits fields header rows) ok

-- the rows below a first line, under the names that are there
pub below-line : (fields fields' : List Field) (header header' : List (List ℕ)) (all rest rest' : List (List (List ℕ))) → all ≡ header ∷ rest → rest ≡ rest' → IsOk (header_of (schema_name fields) header) → fields' ≡ fields → header' ≡ header
    → rows_in csv_limits fields all ≡ rows_of csv_limits fields' header' rest'
below-line fields fields' header header' all rest rest' is same ok f h =
    ap (rows_in csv_limits fields) is ∙ good-names fields header rest ok
    ∙ ap (λ fs. rows_of csv_limits fs header rest) (sym f) ∙ ap (λ hs. rows_of csv_limits fields' hs rest) (sym h) ∙ ap (rows_of csv_limits fields' header') same
