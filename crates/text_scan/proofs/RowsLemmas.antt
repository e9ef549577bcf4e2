-- The reading of a CSV text never ends for want of memory.
use Rattle.std.proofs.Common.{◌≡◌, refl, ℕ, Bool, true, false, cond, not, ◌==◌, nat_lt, List, [], ◌∷◌, length, map, Option, Some, None, Result, Ok, Err}
use Rattle.std.specs.List.{enumerate_from}
use Rattle.values.specs.declared.value.Value.{Value}
use Rattle.table_schema.specs.declared.field.Field.{Field}
use Rattle.csv_row.specs.declared.fault.CsvKind.{CsvKind}
use Rattle.csv_row.specs.declared.fault.CsvFault.{CsvFault}
use Rattle.csv_row.specs.declared.fault.CsvFault.TheVariants.{At, NoMemory, TooManyRows}
use Rattle.csv_row.specs.declared.fault.CsvKind.TheVariants.{WrongLength}
use Rattle.csv_ingest.specs.Names.{number_name}
use Rattle.csv_row.specs.Row.{Limits, place_of, placed, row_at, value_at, values_of}
use Rattle.csv_row.specs.InOrder.{all_or_first, joined}
use Rattle.csv_ingest.specs.Rows.{header_of, name_at, number_rows_in, rows_of, under, with_schema}

-- a result that is none of memory
abbrev Told : {A : Type 0} → Result A CsvFault → Type 0
Told r = r ≡ Err NoMemory → ⊥

placed_told : {A : Type 0} (row column : ℕ) (r : Result A CsvKind) → Told (placed row column r)
placed_told row column (Ok a) e = absurd cc
placed_told row column (Err kind) e = absurd cc

joined_told : {A : Type 0} (r : Result A CsvFault) (rest : Result (List A) CsvFault) → Told r → Told rest → Told (joined r rest)
joined_told (Err NoMemory) rest here there e = here refl
joined_told (Err fault) rest here there e = absurd cc
joined_told (Ok a) (Err NoMemory) here there e = there refl
joined_told (Ok a) (Err fault) here there e = absurd cc
joined_told (Ok a) (Ok all) here there e = absurd cc

all_told : {A X : Type 0} (f : X → Result A CsvFault) → ((x : X) → Told (f x)) → (xs : List X) → Told (all_or_first (map f xs))
all_told f each [] e = absurd cc
all_told f each (x ∷ xs) e = joined_told (f x) (all_or_first (map f xs)) (each x) (all_told f each xs) e

chosen : {A : Type 0} (b : Bool) (r s : Result A CsvFault) → Told r → Told s → Told (cond b r s)
chosen true r s here there e = here e
chosen false r s here there e = there e

value_told : (row : ℕ) (cells : List (List ℕ)) (field : Field) (place : Option ℕ) → Told (value_at row cells field place)
value_told row cells field None e = absurd cc
value_told row cells field (Some column) e = placed_told row column _ e

row_by : (many wrong : Bool) (most row : ℕ) (r : Result (List Value) CsvFault) → Told r → Told (cond many (Err (TooManyRows most)) (cond wrong (Err (At WrongLength row 0)) r))
row_by true wrong most row r own e = absurd cc
row_by false true most row r own e = absurd cc
row_by false false most row r own e = own e

row_told : (limits : Limits) (fields : List Field) (header : List (List ℕ)) (at : ℕ × List (List ℕ)) → Told (row_at limits fields header at)
row_told limits fields header (row, cells) e =
    row_by (nat_lt (limits.most_rows (length fields)) row) (not (length cells == length header)) (limits.most_rows (length fields)) row (values_of fields header row cells) (all_told (λ field. value_at row cells field (place_of header field)) (λ field. value_told row cells field (place_of header field)) fields) e

schema_told : (fields : List Field) (rows : Result (List (List Value)) CsvFault) → Told rows → Told (with_schema fields rows)
schema_told fields (Ok rows) told e = absurd cc
schema_told fields (Err NoMemory) told e = told refl
schema_told fields (Err fault) told e = absurd cc

under_told : {A B : Type 0} (r : Result A CsvFault) (f : A → Result B CsvFault) → Told r → ((a : A) → Told (f a)) → Told (under r f)
under_told (Ok a) f here there e = there a e
under_told (Err NoMemory) f here there e = here refl
under_told (Err fault) f here there e = absurd cc

name_told : (header : List (List ℕ)) (at : ℕ × List ℕ) → Told (name_at number_name header at)
name_told header (column, name) e = placed_told 0 column _ e

-- records are rows, or they have a fault
pub plain_told : (limits : Limits) (records : List (List (List ℕ))) → Told (number_rows_in limits records)
unfolding number_rows_in
plain_told limits [] e = absurd cc
plain_told limits (header ∷ rows) e =
    chosen (limits.many_columns (length header)) _ _ (λ e. absurd cc) (under_told (header_of number_name header) (λ fields. with_schema fields (rows_of limits fields header rows))
    (all_told (name_at number_name header) (name_told header) (enumerate_from 1 header))
    (λ fields. schema_told fields (rows_of limits fields header rows) (all_told (row_at limits fields header) (row_told limits fields header) (enumerate_from 1 rows)))) e
