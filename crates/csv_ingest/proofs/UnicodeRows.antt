-- The texts of the rows of a text are UTF-8.
use Rattle.std.proofs.Common.{◌≡◌, ◌-◌, ℕ, ℤ, List, [], ◌∷◌, length, nat_le, nat_lt, slice_index_or, Bool, true, false, not, ◌==◌, Option, Some, None, Result, Ok, Err, if◌then◌else◌, refl, subst}
use Rattle.std.specs.Bool.{⊤}
use Rattle.std.specs.List.{AllByRecursion, enumerate_from}
use Rattle.std.specs.Str.{is_utf8}
use Rattle.std.proofs.lemmas.Str.{IsUtf8-from_is_utf8}
use Rattle.data_types.specs.Numbers.{ranged, spelled_number}
use Rattle.values.specs.Reading.{number_value, value_of}
use Rattle.data_types.specs.declared.kind.FieldKind.{FieldKind}
use Rattle.data_types.specs.declared.kind.FieldKind.TheVariants as kind
use Rattle.values.specs.declared.value.Value.{Value}
use Rattle.values.specs.declared.value.Value.TheVariants.{Whole, Text}
use Rattle.values.specs.declared.read.ValueFault.TheVariants.{TooLong}
use Rattle.data_types.specs.declared.whole.WholeFault.{WholeFault}
use Rattle.data_types.specs.declared.whole.WholeFault.TheVariants as whole
use Rattle.table_schema.specs.declared.field.Field.{Field}
use Rattle.table_schema.specs.ValidTable.{most_rows}
use Rattle.csv_ingest.specs.Names.{schema_name}
use Rattle.csv_row.specs.declared.fault.CsvKind.TheVariants.{NotUtf8, WrongLength}
use Rattle.csv_row.specs.declared.fault.CsvFault.{CsvFault}
use Rattle.csv_row.specs.declared.fault.CsvFault.TheVariants.{At, TooManyRows}
use Rattle.csv_row.specs.Row.{cell_value, csv_limits, kinded, place_of, row_at, value_at, values_of}
use Rattle.csv_ingest.specs.Rows.{header_of, rows_in, rows_of, under}
use Rattle.csv_ingest.specs.Unicode.{IsUnicode, RowsAreUnicode}
use Rattle.csv_ingest.proofs.NumberLemmas.{anything, each, placed_ok}

-- ---- values

number_unicode : (r : Result ℤ WholeFault) (v : Value) → kinded (number_value r) ≡ Ok v → IsUnicode v
number_unicode (Ok z) v e = let same : Whole z ≡ v = cc in subst IsUnicode same tt
number_unicode (Err whole.NotANumber) v e = absurd cc
number_unicode (Err whole.OutOfRange) v e = absurd cc

text_unicode : (text : List ℕ) (short : Bool) (v : Value) → is_utf8 text ≡ true → kinded (if short then Ok (Text text) else Err TooLong) ≡ Ok v → IsUnicode v
text_unicode text true v utf8 e = let same : Text text ≡ v = cc in subst IsUnicode same (IsUtf8-from_is_utf8 text utf8)
text_unicode text false v utf8 e = absurd cc

value_unicode : (k : FieldKind) (bytes : List ℕ) (v : Value) → is_utf8 bytes ≡ true → kinded (value_of k bytes) ≡ Ok v → IsUnicode v
value_unicode kind.Int bytes v utf8 e = number_unicode (ranged kind.Int (spelled_number bytes)) v e
value_unicode kind.Long bytes v utf8 e = number_unicode (ranged kind.Long (spelled_number bytes)) v e
value_unicode kind.Text bytes v utf8 e = text_unicode bytes (nat_le (length bytes) 512) v utf8 e

utf8_unicode : (utf8 : Bool) (k : FieldKind) (bytes : List ℕ) (v : Value) → is_utf8 bytes ≡ utf8 → (if utf8 then kinded (value_of k bytes) else Err NotUtf8) ≡ Ok v → IsUnicode v
utf8_unicode true k bytes v is e = value_unicode k bytes v is e
utf8_unicode false k bytes v is e = absurd cc

default_unicode : (field : Field) (v : Value) → IsUnicode field.default → field.default ≡ v → IsUnicode v
default_unicode field v own e = subst IsUnicode e own

cell_unicode : (field : Field) (bytes : List ℕ) (v : Value) → IsUnicode field.default → cell_value field bytes ≡ Ok v → IsUnicode v
cell_unicode field [] v own e = default_unicode field v own cc
cell_unicode field (b ∷ bytes) v own e = utf8_unicode (is_utf8 (b ∷ bytes)) field.kind (b ∷ bytes) v refl e

place_unicode : (row : ℕ) (cells : List (List ℕ)) (field : Field) (place : Option ℕ) (v : Value) → IsUnicode field.default → value_at row cells field place ≡ Ok v → IsUnicode v
place_unicode row cells field None v own e = default_unicode field v own cc
place_unicode row cells field (Some column) v own e = cell_unicode field (slice_index_or cells (column - 1) []) v own (placed_ok row column (cell_value field (slice_index_or cells (column - 1) [])) v e)

-- ---- rows

values_unicode : (header : List (List ℕ)) (n : ℕ) (cells : List (List ℕ)) (fields : List Field) (row : List Value) → AllByRecursion (λ field. IsUnicode field.default) fields → values_of fields header n cells ≡ Ok row → AllByRecursion IsUnicode row
values_unicode header n cells fields row own e =
    each (λ field. IsUnicode field.default) IsUnicode (λ field. value_at n cells field (place_of header field)) (λ field v unicode ok. place_unicode n cells field (place_of header field) v unicode ok) fields row own e

row_unicode : (many short : Bool) (much wrong : CsvFault) (header : List (List ℕ)) (n : ℕ) (cells : List (List ℕ)) (fields : List Field) (row : List Value) → AllByRecursion (λ field. IsUnicode field.default) fields
    → (if many then Err much else if short then Err wrong else values_of fields header n cells) ≡ Ok row → AllByRecursion IsUnicode row
row_unicode true short much wrong header n cells fields row own e = absurd cc
row_unicode false true much wrong header n cells fields row own e = absurd cc
row_unicode false false much wrong header n cells fields row own e = values_unicode header n cells fields row own e

under_unicode : (fields : List Field) (header : List (List ℕ)) (records : List (List (List ℕ))) (names : Result (List (List ℕ)) CsvFault) (rows : List (List Value)) → AllByRecursion (λ field. IsUnicode field.default) fields
    → under names (λ _. rows_of csv_limits fields header records) ≡ Ok rows → AllByRecursion (AllByRecursion IsUnicode) rows
under_unicode fields header records (Err fault) rows own e = absurd cc
under_unicode fields header records (Ok names) rows own e =
    each (λ x. ⊤) (AllByRecursion IsUnicode) (row_at csv_limits fields header)
    (λ (n, cells) row _ ok. row_unicode (nat_lt (most_rows (length fields)) n) (not (length cells == length header)) (TooManyRows (most_rows (length fields))) (At WrongLength n 0) header n cells fields row own ok)
    (enumerate_from 1 records) rows (anything (enumerate_from 1 records)) e

pub rows_are_unicode : RowsAreUnicode
unfolding rows_in
rows_are_unicode fields [] rows own e = absurd cc
rows_are_unicode fields (header ∷ records) rows own e = under_unicode fields header records (header_of (schema_name fields) header) rows own e
