-- The columns and rows of a list of records.
use Rattle.std.proofs.Common.{◌≡◌, ◌∙◌, ◌<◌, ◌≤◌, ◌+◌, ℕ, List, [], ◌∷◌, length, nat_lt, true, false, Result, Ok, Err, IfOk, IfErr, IfSome, Option, Some, None, refl, sym, ap, arith}
use Rattle.std.proofs.lemmas.Bool.Decides.{nat_tests}
use Rattle.csv.specs.Records.{fields_of}
use Rattle.table_schema.specs.declared.field.Field.{Field}
use Rattle.csv_row.specs.declared.fault.CsvKind.TheVariants.{NoHeader}
use Rattle.csv_row.specs.declared.fault.CsvFault.{CsvFault}
use Rattle.csv_row.specs.declared.fault.CsvFault.TheVariants.{At, TooManyColumns}
use Rattle.csv_ingest.specs.declared.blocks.NumberHeader.{NumberHeader}
use Rattle.csv_ingest.specs.Names.{number_name}
use Rattle.csv_ingest.specs.NumberBlocks.{IsNumberHeader}
use Rattle.csv_ingest.specs.Reading.{Reads, TextReader, records_left}
use Rattle.csv_row.specs.Row.{csv_limits}
use Rattle.csv_ingest.specs.Rows.{header_of, number_rows_in, rows_of, under, with_schema}

-- what follows of the value or the fault of a call
pub ok-at : {T E : Type 0} (r : Result T E) (P Q : T → Type 0) → ((t : T) → P t → Q t) → IfOk r P → IfOk r Q
ok-at (Ok t) P Q f p = f t p
ok-at (Err e) P Q f p = tt

pub some-at : {T : Type 0} (o : Option T) (P Q : T → Type 0) → ((t : T) → P t → Q t) → IfSome o P → IfSome o Q
some-at None P Q f p = tt
some-at (Some t) P Q f p = f t p

pub err-at : {T E : Type 0} (r : Result T E) (P Q : E → Type 0) → ((e : E) → P e → Q e) → IfErr r P → IfErr r Q
err-at (Ok t) P Q f p = tt
err-at (Err e) P Q f p = f e p

pub both-ok : {T E : Type 0} (r : Result T E) (P Q R : T → Type 0) → ((t : T) → P t → Q t → R t) → IfOk r P → IfOk r Q → IfOk r R
both-ok (Ok t) P Q R f p q = f t p q
both-ok (Err e) P Q R f p q = tt

pub no-record : number_rows_in csv_limits [] ≡ Err (At NoHeader 0 0)
unfolding number_rows_in
no-record = refl

module _ (header : List (List ℕ)) (rows : List (List (List ℕ))) where
  pub many-columns : 64 < length header → number_rows_in csv_limits (header ∷ rows) ≡ Err TooManyColumns
  unfolding number_rows_in
  many-columns lt =
      let test : nat_lt 64 (length header) ≡ true = grind (arith, nat_tests) in
      rw test refl

  few_columns : length header ≤ 64 → number_rows_in csv_limits (header ∷ rows) ≡ under (header_of number_name header) (λ fields. with_schema fields (rows_of csv_limits fields header rows))
  unfolding number_rows_in
  few_columns le =
      let test : nat_lt 64 (length header) ≡ false = grind (arith, nat_tests) in
      rw test refl

  pub bad-header : (fault : CsvFault) → length header ≤ 64 → header_of number_name header ≡ Err fault → number_rows_in csv_limits (header ∷ rows) ≡ Err fault
  bad-header fault le bad = few_columns le ∙ ap (λ h. under h (λ fields. with_schema fields (rows_of csv_limits fields header rows))) bad

  -- what a good header's records give
  pub below-header : (fields : List Field) → length header ≤ 64 → header_of number_name header ≡ Ok fields → number_rows_in csv_limits (header ∷ rows) ≡ with_schema fields (rows_of csv_limits fields header rows)
  below-header fields le ok = few_columns le ∙ ap (λ h. under h (λ fs. with_schema fs (rows_of csv_limits fs header rows))) ok

-- what a text gives whose header was read
abbrev pub HeaderRead : TextReader → TextReader → NumberHeader → Type 0
HeaderRead old new header =
    (rest : List ℕ) → Reads old rest → (left : List ℕ) × Reads new left
    × ((n : ℕ) → number_rows_in csv_limits (records_left (n + 1) old rest) ≡ with_schema header.fields (rows_of csv_limits header.fields (fields_of header.names) (records_left n new left)))

pub header-read : (old new : TextReader) (rest left : List ℕ) (header : NumberHeader) (names : List (List ℕ)) → IsNumberHeader header → fields_of header.names ≡ names
    → ((n : ℕ) → records_left (n + 1) old rest ≡ names ∷ records_left n new left)
    → (n : ℕ) → number_rows_in csv_limits (records_left (n + 1) old rest) ≡ with_schema header.fields (rows_of csv_limits header.fields (fields_of header.names) (records_left n new left))
header-read old new rest left header names is same next n =
    ap (number_rows_in csv_limits) (next n)
    ∙ ap (λ row. number_rows_in csv_limits (row ∷ records_left n new left)) (sym same)
    ∙ below-header (fields_of header.names) (records_left n new left) header.fields is.at_most is.fields
