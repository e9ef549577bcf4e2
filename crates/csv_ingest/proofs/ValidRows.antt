-- The rows of a text are rows of their table, and no more than there may be.
use Rattle.std.proofs.Common.{◌≡◌, ◌-◌, ◌+◌, ◌≤◌, ℕ, ℤ, List, [], ◌∷◌, length, map, nat_lt, nat_le, slice_index_or, Bool, true, false, ◌&&◌, not, ◌==◌, cond, Option, Some, None, Result, Ok, Err, if◌then◌else◌, refl, sym, ap, ◌∙◌, subst, arith}
use Rattle.std.specs.Bool.{⊤}
use Rattle.std.specs.List.{AllByRecursion, enumerate_from, list_all}
use Rattle.std.specs.Str.{is_utf8}
use Rattle.std.proofs.lemmas.Bool.{ltb-false}
use Rattle.std.proofs.lemmas.List.Elements.{All-from_recursion}
use Rattle.values.specs.Kinds.{fits}
use Rattle.data_types.specs.Numbers.{is_in_range, ranged, spelled_number}
use Rattle.values.specs.Reading.{number_value, value_of}
use Rattle.data_types.specs.declared.kind.FieldKind.{FieldKind}
use Rattle.data_types.specs.declared.kind.FieldKind.TheVariants as kind
use Rattle.values.specs.declared.value.Value.{Value}
use Rattle.values.specs.declared.value.Value.TheVariants.{Whole, Text}
use Rattle.values.specs.declared.read.ValueFault.TheVariants.{TooLong}
use Rattle.data_types.specs.declared.whole.WholeFault.TheVariants.{OutOfRange}
use Rattle.table_schema.specs.declared.field.Field.{Field}
use Rattle.table_schema.specs.declared.field.Schema.{Schema}
use Rattle.table_schema.specs.Roles.{is_text_metric}
use Rattle.table_schema.specs.Names.{is_column_name}
use Rattle.table_schema.specs.Valid.{is_short, default_fits, is_valid_field, IsValidSchema}
use Rattle.table_schema.specs.ValidTable.{is_row, IsRow, most_rows, AreRows}
use Rattle.csv_row.specs.declared.fault.CsvKind.TheVariants.{NotUtf8, WrongLength}
use Rattle.csv_row.specs.declared.fault.CsvFault.{CsvFault}
use Rattle.csv_row.specs.declared.fault.CsvFault.TheVariants.{At, TooManyRows, TooManyColumns}
use Rattle.csv_ingest.specs.Names.{schema_name, number_name}
use Rattle.csv_row.specs.InOrder.{all_or_first}
use Rattle.csv_row.specs.Row.{cell_value, csv_limits, kinded, place_of, row_at, value_at, values_of}
use Rattle.csv_ingest.specs.Rows.{header_of, number_rows_in, rows_in, rows_of, under, with_schema}
use Rattle.csv_ingest.proofs.NumberLemmas.{IsNumberField, joins, each, placed_ok, anything, header_plain}

-- ---- values

-- a whole number in range
abbrev IsIn : FieldKind → Value → Type 0
IsIn k v = (z : ℤ) × (Whole z ≡ v) × (is_in_range k z ≡ true)

ranged_by : (k : FieldKind) (z : ℤ) (b : Bool) (v : Value) → is_in_range k z ≡ b → kinded (number_value (cond b (Ok z) (Err OutOfRange))) ≡ Ok v → IsIn k v
ranged_by k z true v is e = (z, cc, is)
ranged_by k z false v is e = absurd cc

number_in : (k : FieldKind) (o : Option ℤ) (v : Value) → kinded (number_value (ranged k o)) ≡ Ok v → IsIn k v
number_in k None v e = absurd cc
number_in k (Some z) v e = ranged_by k z (is_in_range k z) v refl e

text_by : (text : List ℕ) (b : Bool) (v : Value) → nat_le (length text) 512 ≡ b → kinded (if b then Ok (Text text) else Err TooLong) ≡ Ok v → fits kind.Text v ≡ true
text_by text true v is e = let same : Text text ≡ v = cc in subst (λ w. fits kind.Text w ≡ true) same is
text_by text false v is e = absurd cc

value_fits : (k : FieldKind) (bytes : List ℕ) (v : Value) → kinded (value_of k bytes) ≡ Ok v → fits k v ≡ true
value_fits kind.Int bytes v e = let n = number_in kind.Int (spelled_number bytes) v e in subst (λ w. fits kind.Int w ≡ true) n.1 n.2
value_fits kind.Long bytes v e = let n = number_in kind.Long (spelled_number bytes) v e in subst (λ w. fits kind.Long w ≡ true) n.1 n.2
value_fits kind.Text bytes v e = text_by bytes (nat_le (length bytes) 512) v refl e

utf8_fits : (utf8 : Bool) (k : FieldKind) (bytes : List ℕ) (v : Value) → (if utf8 then kinded (value_of k bytes) else Err NotUtf8) ≡ Ok v → fits k v ≡ true
utf8_fits true k bytes v e = value_fits k bytes v e
utf8_fits false k bytes v e = absurd cc

default_is : (field : Field) (v : Value) → fits field.kind field.default ≡ true → field.default ≡ v → fits field.kind v ≡ true
default_is field v own e = subst (λ w. fits field.kind w ≡ true) e own

cell_fits : (field : Field) (bytes : List ℕ) (v : Value) → fits field.kind field.default ≡ true → cell_value field bytes ≡ Ok v → fits field.kind v ≡ true
cell_fits field [] v own e = default_is field v own cc
cell_fits field (b ∷ bytes) v own e = utf8_fits (is_utf8 (b ∷ bytes)) field.kind (b ∷ bytes) v e

place_fits : (row : ℕ) (cells : List (List ℕ)) (field : Field) (place : Option ℕ) (v : Value) → fits field.kind field.default ≡ true → value_at row cells field place ≡ Ok v → fits field.kind v ≡ true
place_fits row cells field None v own e = default_is field v own cc
place_fits row cells field (Some column) v own e = cell_fits field (slice_index_or cells (column - 1) []) v own (placed_ok row column (cell_value field (slice_index_or cells (column - 1) [])) v e)

-- ---- rows

-- the default of a field is a value of its kind
abbrev HasDefault : Field → Type 0
HasDefault field = fits field.kind field.default ≡ true

and_of : (a b : Bool) → a ≡ true → b ≡ true → (a && b) ≡ true
and_of a b e f = ap (λ c. c && b) e ∙ f

values_row : (header : List (List ℕ)) (n : ℕ) (cells : List (List ℕ)) (fields : List Field) (row : List Value) → AllByRecursion HasDefault fields → values_of fields header n cells ≡ Ok row → IsRow fields row
values_row header n cells [] row own e = let none : [] ≡ row = cc in subst (IsRow []) none refl
values_row header n cells (f ∷ fs) row own e =
    let parts = joins (value_at n cells f (place_of header f)) (values_of fs header n cells) row e in
    let v = parts.0 in
    let more = parts.1 in
    subst (IsRow (f ∷ fs)) (sym parts.4) (and_of (fits f.kind v) (is_row fs more) (place_fits n cells f (place_of header f) v own.0 parts.2) (values_row header n cells fs more own.1 parts.3))

row_valid : (many short : Bool) (much wrong : CsvFault) (header : List (List ℕ)) (n : ℕ) (cells : List (List ℕ)) (fields : List Field) (row : List Value) → AllByRecursion HasDefault fields
    → (if many then Err much else if short then Err wrong else values_of fields header n cells) ≡ Ok row → IsRow fields row
row_valid true short much wrong header n cells fields row own e = absurd cc
row_valid false true much wrong header n cells fields row own e = absurd cc
row_valid false false much wrong header n cells fields row own e = values_row header n cells fields row own e

rows_valid : (fields : List Field) (header : List (List ℕ)) (records : List (List (List ℕ))) (rows : List (List Value)) → AllByRecursion HasDefault fields
    → rows_of csv_limits fields header records ≡ Ok rows → AllByRecursion (IsRow fields) rows
rows_valid fields header records rows own e =
    each (λ x. ⊤) (IsRow fields) (row_at csv_limits fields header)
    (λ (n, cells) row _ ok. row_valid (nat_lt (most_rows (length fields)) n) (not (length cells == length header)) (TooManyRows (most_rows (length fields))) (At WrongLength n 0) header n cells fields row own ok)
    (enumerate_from 1 records) rows (anything (enumerate_from 1 records)) e

-- ---- how many rows there are

not_many : (many : Bool) (most n : ℕ) (much : CsvFault) (rest : Result (List Value) CsvFault) (row : List Value) → nat_lt most n ≡ many → (if many then Err much else rest) ≡ Ok row → n ≤ most
not_many true most n much rest row is e = absurd cc
not_many false most n much rest row is e = ltb-false most n is

few_from : (fields : List Field) (header : List (List ℕ)) (n : ℕ) (records : List (List (List ℕ))) (rows : List (List Value)) → n ≤ most_rows (length fields) + 1
    → all_or_first (map (row_at csv_limits fields header) (enumerate_from n records)) ≡ Ok rows → n + length rows ≤ most_rows (length fields) + 1
few_from fields header n [] rows room e = let none : rows ≡ [] = cc in omega (arith, ap length none, room)
few_from fields header n (cells ∷ records) rows room e =
    let most = most_rows (length fields) in
    let parts = joins (row_at csv_limits fields header (n, cells)) (all_or_first (map (row_at csv_limits fields header) (enumerate_from (n + 1) records))) rows e in
    let here = not_many (nat_lt most n) most n (TooManyRows most) (if not (length cells == length header) then Err (At WrongLength n 0) else values_of fields header n cells) parts.0 refl parts.2 in
    let rest = few_from fields header (n + 1) records parts.1 (omega (arith, here)) parts.3 in
    omega (arith, rest, ap length parts.4)

are_rows : (fields : List Field) (header : List (List ℕ)) (records : List (List (List ℕ))) (rows : List (List Value)) → AllByRecursion HasDefault fields → rows_of csv_limits fields header records ≡ Ok rows → AreRows fields rows
are_rows fields header records rows own e =
    let count = few_from fields header 1 records rows (omega arith) e in record {
      each = All-from_recursion (IsRow fields) rows (rows_valid fields header records rows own e);
      at_most = omega (arith, count);
    }

-- ---- the two laws

both : (a b : Bool) → (a && b) ≡ true → (a ≡ true) × (b ≡ true)
both true b e = (refl, e)
both false b e = absurd cc

have_defaults : (fields : List Field) → list_all is_valid_field fields ≡ true → AllByRecursion HasDefault fields
have_defaults [] e = tt
have_defaults (f ∷ fs) e =
    let parts = both (is_valid_field f) (list_all is_valid_field fs) e in
    let own = both (is_column_name f.name && not (is_text_metric f.role f.kind)) (default_fits f.kind f.default) parts.0 in
    ((both (fits f.kind f.default) (is_short f.default) own.1).0, have_defaults fs parts.1)

under_rows : (fields : List Field) (header : List (List ℕ)) (records : List (List (List ℕ))) (names : Result (List (List ℕ)) CsvFault) (rows : List (List Value)) → AllByRecursion HasDefault fields
    → under names (λ _. rows_of csv_limits fields header records) ≡ Ok rows → AreRows fields rows
under_rows fields header records (Err fault) rows own e = absurd cc
under_rows fields header records (Ok names) rows own e = are_rows fields header records rows own e

pub rows_by_schema : (schema : Schema) (records : List (List (List ℕ))) (rows : List (List Value)) → IsValidSchema schema → rows_in csv_limits schema.fields records ≡ Ok rows → AreRows schema.fields rows
unfolding rows_in
rows_by_schema schema [] rows valid e = absurd cc
rows_by_schema schema (header ∷ records) rows valid e = under_rows schema.fields header records (header_of (schema_name schema.fields) header) rows (have_defaults schema.fields valid.fields) e

plain_own : (field : Field) → IsNumberField field → HasDefault field
plain_own field (name, is) = subst HasDefault (sym is) refl

plain_all : (fields : List Field) → AllByRecursion IsNumberField fields → AllByRecursion HasDefault fields
plain_all [] q = tt
plain_all (field ∷ fields) q = (plain_own field q.0, plain_all fields q.1)

abbrev TableRows : Schema × List (List Value) → Type 0
TableRows table = AreRows table.0.fields table.1

schema_rows : (fields : List Field) (header : List (List ℕ)) (records : List (List (List ℕ))) (r : Result (List (List Value)) CsvFault) (table : Schema × List (List Value)) → AllByRecursion HasDefault fields
    → rows_of csv_limits fields header records ≡ r → with_schema fields r ≡ Ok table → TableRows table
schema_rows fields header records (Err fault) table own is e = absurd cc
schema_rows fields header records (Ok rows) table own is e =
    let same : (record { fields = fields }, rows) ≡ table = cc in
    subst TableRows same (are_rows fields header records rows own is)

under_plain : (header : List (List ℕ)) (records : List (List (List ℕ))) (names : Result (List Field) CsvFault) (table : Schema × List (List Value))
    → ((fields : List Field) → names ≡ Ok fields → AllByRecursion HasDefault fields) → under names (λ fields. with_schema fields (rows_of csv_limits fields header records)) ≡ Ok table → TableRows table
under_plain header records (Err fault) table own e = absurd cc
under_plain header records (Ok fields) table own e = schema_rows fields header records (rows_of csv_limits fields header records) table (own fields refl) refl e

plain_by : (many : Bool) (header : List (List ℕ)) (records : List (List (List ℕ))) (table : Schema × List (List Value))
    → (if many then Err TooManyColumns else under (header_of number_name header) (λ fields. with_schema fields (rows_of csv_limits fields header records))) ≡ Ok table → TableRows table
plain_by true header records table e = absurd cc
plain_by false header records table e = under_plain header records (header_of number_name header) table (λ fields is. plain_all fields (header_plain header fields is)) e

pub rows_by_header : (records : List (List (List ℕ))) (table : Schema × List (List Value)) → number_rows_in csv_limits records ≡ Ok table → TableRows table
unfolding number_rows_in
rows_by_header [] table e = absurd cc
rows_by_header (header ∷ records) table e = plain_by (csv_limits.many_columns (length header)) header records table e
