-- The faults that rows over a schema can have.
use Rattle.std.proofs.Common.{◌≡◌, ◌≢◌, ◌-◌, ℕ, List, [], ◌∷◌, length, map, nat_lt, slice_index_or, take, Bool, true, false, not, ◌==◌, Option, Some, None, Result, Ok, Err, if◌then◌else◌}
use Rattle.std.specs.List.{enumerate_from}
use Rattle.values.specs.declared.value.Value.{Value}
use Rattle.table_schema.specs.declared.field.Field.{Field}
use Rattle.table_schema.specs.ValidTable.{most_rows}
use Rattle.csv_ingest.specs.Names.{schema_name}
use Rattle.csv_row.specs.declared.fault.CsvKind.{CsvKind}
use Rattle.csv_row.specs.declared.fault.CsvKind.TheVariants.{WrongLength}
use Rattle.csv_row.specs.declared.fault.CsvFault.{CsvFault}
use Rattle.csv_row.specs.declared.fault.CsvFault.TheVariants.{At, TooManyColumns, TooManyRows}
use Rattle.csv_row.specs.InOrder.{all_or_first, joined}
use Rattle.csv_row.specs.Row.{cell_value, csv_limits, placed, place_of, row_at, value_at, values_of}
use Rattle.csv_ingest.specs.Rows.{header_of, name_at, rows_in, rows_of, under}

-- a fault other than one of too many columns
abbrev IsOther : CsvFault → Type 0
IsOther fault = fault ≢ TooManyColumns

-- the fault of what is joined is that of one of the two
one_of : {A E : Type 0} (P : E → Type 0) (r : Result A E) (rest : Result (List A) E) (fault : E) → (r ≡ Err fault → P fault) → (rest ≡ Err fault → P fault) → joined r rest ≡ Err fault → P fault
one_of P (Err e) rest fault first more is = first cc
one_of P (Ok a) (Err e) fault first more is = more cc
one_of P (Ok a) (Ok all) fault first more is = absurd cc

-- what holds of each fault that a rule gives holds of the first
first_fault : {A B E : Type 0} (P : E → Type 0) (f : A → Result B E) → ((a : A) (fault : E) → f a ≡ Err fault → P fault) → (xs : List A) (fault : E) → all_or_first (map f xs) ≡ Err fault → P fault
first_fault P f rule [] fault is = absurd cc
first_fault P f rule (x ∷ xs) fault is = one_of P (f x) (all_or_first (map f xs)) fault (rule x fault) (first_fault P f rule xs fault) is

placed_other : {A : Type 0} (row column : ℕ) (r : Result A CsvKind) (fault : CsvFault) → placed row column r ≡ Err fault → IsOther fault
placed_other row column (Ok a) fault is = absurd cc
placed_other row column (Err kind) fault is = λ same. cc

value_other : (row : ℕ) (cells : List (List ℕ)) (field : Field) (place : Option ℕ) (fault : CsvFault) → value_at row cells field place ≡ Err fault → IsOther fault
value_other row cells field None fault is = absurd cc
value_other row cells field (Some column) fault is = placed_other row column (cell_value field (slice_index_or cells (column - 1) [])) fault is

row_other : (many short : Bool) (most row : ℕ) (values : Result (List Value) CsvFault) (fault : CsvFault) → (values ≡ Err fault → IsOther fault)
    → (if many then Err (TooManyRows most) else if short then Err (At WrongLength row 0) else values) ≡ Err fault → IsOther fault
row_other true short most row values fault rest is = λ same. cc
row_other false true most row values fault rest is = λ same. cc
row_other false false most row values fault rest is = rest is

rows_other : (fields : List Field) (header : List (List ℕ)) (records : List (List (List ℕ))) (fault : CsvFault) → rows_of csv_limits fields header records ≡ Err fault → IsOther fault
rows_other fields header records fault is =
    first_fault IsOther (row_at csv_limits fields header)
    (λ (n, cells) wrong one. row_other (nat_lt (most_rows (length fields)) n) (not (length cells == length header)) (most_rows (length fields)) n (values_of fields header n cells) wrong
    (first_fault IsOther (λ field. value_at n cells field (place_of header field)) (λ field e at. value_other n cells field (place_of header field) e at) fields wrong) one)
    (enumerate_from 1 records) fault is

header_other : (fields : List Field) (header : List (List ℕ)) (fault : CsvFault) → header_of (schema_name fields) header ≡ Err fault → IsOther fault
header_other fields header fault is =
    first_fault IsOther (name_at (schema_name fields) header) (λ (column, name) wrong one. placed_other 0 column (schema_name fields (take (column - 1) header) name) wrong one) (enumerate_from 1 header) fault is

under_other : {A B : Type 0} (names : Result A CsvFault) (rows : A → Result B CsvFault) (fault : CsvFault) → (names ≡ Err fault → IsOther fault) → ((a : A) → rows a ≡ Err fault → IsOther fault) → under names rows ≡ Err fault → IsOther fault
under_other (Err e) rows fault first rest is = first cc
under_other (Ok a) rows fault first rest is = rest a is

-- over a schema there are never too many columns
pub any_columns : (fields : List Field) (records : List (List (List ℕ))) (fault : CsvFault) → rows_in csv_limits fields records ≡ Err fault → fault ≢ TooManyColumns
unfolding rows_in
any_columns fields [] fault is = λ same. cc
any_columns fields (header ∷ records) fault is =
    under_other (header_of (schema_name fields) header) (λ _. rows_of csv_limits fields header records) fault (header_other fields header fault) (λ names. rows_other fields header records fault) is
