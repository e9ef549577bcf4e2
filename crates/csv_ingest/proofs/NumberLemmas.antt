-- The rows of a text of whole numbers have a number for each column.
use Rattle.std.proofs.Common.{◌≡◌, ◌∙◌, ◌-◌, ◌≤◌, ℕ, ℤ, suc, pos, List, [], ◌∷◌, length, take, map, nat_lt, slice_index_or, Bool, true, false, not, ◌==◌, Option, Some, None, Result, Ok, Err, if◌then◌else◌, refl, sym, ap, subst, arith}
use Rattle.std.specs.Bool.{⊤}
use Rattle.std.specs.List.{All, AllByRecursion, enumerate_from, list_all}
use Rattle.std.specs.Str.{is_utf8}
use Rattle.std.proofs.lemmas.Bool.Decides.{nat_tests}
use Rattle.std.proofs.lemmas.List.Elements.{All-from_recursion}
use Rattle.std.proofs.lemmas.List.FromFn.{length-enumerate_from}
use Rattle.data_types.specs.Numbers.{whole_of}
use Rattle.values.specs.Reading.{number_value, value_of}
use Rattle.data_types.specs.declared.kind.FieldKind.TheVariants.{Long}
use Rattle.values.specs.declared.value.Value.{Value}
use Rattle.values.specs.declared.value.Value.TheVariants.{Whole}
use Rattle.data_types.specs.declared.whole.WholeFault.{WholeFault}
use Rattle.data_types.specs.declared.whole.WholeFault.TheVariants as whole
use Rattle.table_schema.specs.declared.field.Field.{Field}
use Rattle.table_schema.specs.declared.field.Schema.{Schema}
use Rattle.csv_row.specs.declared.fault.CsvKind.{CsvKind}
use Rattle.csv_row.specs.declared.fault.CsvKind.TheVariants.{NotUtf8, BadHeader, DuplicateHeader, WrongLength}
use Rattle.csv_row.specs.declared.fault.CsvFault.{CsvFault}
use Rattle.csv_row.specs.declared.fault.CsvFault.TheVariants.{At, TooManyRows, TooManyColumns}
use Rattle.csv_row.specs.Columns.{DefaultFits, DefaultsFit, OfSorts, is_text_kind}
use Rattle.csv_ingest.specs.NumberBlocks.{AreNumbers}
use Rattle.csv_row.proofs.ColumnLemmas.{widths}
use Rattle.values.specs.Columns.{Listed}
use Rattle.csv_ingest.specs.Names.{is_among, number_field, number_name}
use Rattle.table_schema.specs.Names.{is_column_name}
use Rattle.csv_row.specs.InOrder.{all_or_first, joined}
use Rattle.csv_row.specs.Row.{cell_value, csv_limits, kinded, Limits, placed, place_of, row_at, value_at, values_of}
use Rattle.csv_ingest.specs.Rows.{header_of, is_number, IsNumbers, name_at, number_rows_in, rows_of, under, with_schema}

-- what joins two results
pub joins : {A E : Type 0} (r : Result A E) (rest : Result (List A) E) (all : List A) → joined r rest ≡ Ok all → (a : A) × (more : List A) × (r ≡ Ok a) × (rest ≡ Ok more) × (all ≡ a ∷ more)
joins (Err e) rest all is = absurd cc
joins (Ok a) (Err e) all is = absurd cc
joins (Ok a) (Ok more) all is = (a, more, refl, refl, cc)

-- what a rule gives of each item holds of all that it gives
pub each : {A B E : Type 0} (Q : A → Type 0) (P : B → Type 0) (f : A → Result B E) → ((a : A) (b : B) → Q a → f a ≡ Ok b → P b)
    → (xs : List A) (ys : List B) → AllByRecursion Q xs → all_or_first (map f xs) ≡ Ok ys → AllByRecursion P ys
each Q P f rule [] ys q is =
    let none : [] ≡ ys = cc in
    subst (AllByRecursion P) none tt
each Q P f rule (x ∷ xs) ys q is =
    let (b, bs, first, rest, all) = joins (f x) (all_or_first (map f xs)) ys is in
    subst (AllByRecursion P) (sym all) (rule x b q.0 first, each Q P f rule xs bs q.1 rest)

as_many : {A B E : Type 0} (f : A → Result B E) (xs : List A) (ys : List B) → all_or_first (map f xs) ≡ Ok ys → length ys ≡ length xs
as_many f [] ys is =
    let none : ys ≡ [] = cc in
    ap length none
as_many f (x ∷ xs) ys is =
    let (b, bs, first, rest, all) = joins (f x) (all_or_first (map f xs)) ys is in
    ap length all ∙ ap suc (as_many f xs bs rest)

-- a column of whole numbers
abbrev pub IsNumberField : Field → Type 0
IsNumberField field = (name : List ℕ) × (field ≡ number_field name)

whole_number : (r : Result ℤ WholeFault) (v : Value) → kinded (number_value r) ≡ Ok v → is_number v ≡ true
whole_number (Ok n) v is =
    let same : Whole n ≡ v = cc in
    subst (λ w. is_number w ≡ true) same refl
whole_number (Err whole.NotANumber) v is = absurd cc
whole_number (Err whole.OutOfRange) v is = absurd cc

utf8_number : (utf8 : Bool) (bytes : List ℕ) (v : Value) → (if utf8 then kinded (value_of Long bytes) else Err NotUtf8) ≡ Ok v → is_number v ≡ true
utf8_number true bytes v is = whole_number (whole_of Long bytes) v is
utf8_number false bytes v is = absurd cc

cell_number : (name bytes : List ℕ) (v : Value) → cell_value (number_field name) bytes ≡ Ok v → is_number v ≡ true
cell_number name [] v is =
    let same : Whole (pos 0) ≡ v = cc in
    subst (λ w. is_number w ≡ true) same refl
cell_number name (b ∷ bytes) v is = utf8_number (is_utf8 (b ∷ bytes)) (b ∷ bytes) v is

pub placed_ok : {A : Type 0} (row column : ℕ) (r : Result A CsvKind) (a : A) → placed row column r ≡ Ok a → r ≡ Ok a
placed_ok row column (Ok b) a is = ap Ok cc
placed_ok row column (Err kind) a is = absurd cc

place_number : (row : ℕ) (cells : List (List ℕ)) (place : Option ℕ) (name : List ℕ) (v : Value) → value_at row cells (number_field name) place ≡ Ok v → is_number v ≡ true
place_number row cells None name v is =
    let same : Whole (pos 0) ≡ v = cc in
    subst (λ w. is_number w ≡ true) same refl
place_number row cells (Some column) name v is = cell_number name (slice_index_or cells (column - 1) []) v (placed_ok row column (cell_value (number_field name) (slice_index_or cells (column - 1) [])) v is)

field_number : (header : List (List ℕ)) (row : ℕ) (cells : List (List ℕ)) (field : Field) (v : Value) → IsNumberField field → value_at row cells field (place_of header field) ≡ Ok v → is_number v ≡ true
field_number header row cells field v (name, is) =
    subst (λ f. value_at row cells f (place_of header f) ≡ Ok v → is_number v ≡ true) (sym is) (place_number row cells (place_of header (number_field name)) name v)

all_numbers : (row : List Value) → AllByRecursion (λ v. is_number v ≡ true) row → list_all is_number row ≡ true
all_numbers [] q = refl
all_numbers (v ∷ row) q = rw q.0 (all_numbers row q.1)

values_numbers : (header : List (List ℕ)) (n : ℕ) (cells : List (List ℕ)) (fields : List Field) (row : List Value) → AllByRecursion IsNumberField fields → values_of fields header n cells ≡ Ok row → IsNumbers (length fields) row
values_numbers header n cells fields row plain is = record {
  width = as_many (λ field. value_at n cells field (place_of header field)) fields row is;
  numbers = all_numbers row (each IsNumberField (λ v. is_number v ≡ true) (λ field. value_at n cells field (place_of header field)) (field_number header n cells) fields row plain is);
}

row_numbers : (many short : Bool) (much wrong : CsvFault) (header : List (List ℕ)) (n : ℕ) (cells : List (List ℕ)) (fields : List Field) (row : List Value) → AllByRecursion IsNumberField fields
    → (if many then Err much else if short then Err wrong else values_of fields header n cells) ≡ Ok row → IsNumbers (length fields) row
row_numbers true short much wrong header n cells fields row plain is = absurd cc
row_numbers false true much wrong header n cells fields row plain is = absurd cc
row_numbers false false much wrong header n cells fields row plain is = values_numbers header n cells fields row plain is

pub anything : {A : Type 0} (xs : List A) → AllByRecursion (λ x. ⊤) xs
anything [] = tt
anything (x ∷ xs) = (tt, anything xs)

rows_numbers : (limits : Limits) (fields : List Field) (header : List (List ℕ)) (records : List (List (List ℕ))) (rows : List (List Value)) → AllByRecursion IsNumberField fields
    → rows_of limits fields header records ≡ Ok rows → AllByRecursion (IsNumbers (length fields)) rows
rows_numbers limits fields header records rows plain is =
    each (λ x. ⊤) (IsNumbers (length fields)) (row_at limits fields header)
    (λ (n, cells) row _ ok. row_numbers (nat_lt (limits.most_rows (length fields)) n) (not (length cells == length header)) (TooManyRows (limits.most_rows (length fields))) (At WrongLength n 0) header n cells fields row plain ok)
    (enumerate_from 1 records) rows (anything (enumerate_from 1 records)) is

name_plain : (odd bad twice : Bool) (name : List ℕ) (field : Field) → (if odd then Err NotUtf8 else if bad then Err BadHeader else if twice then Err DuplicateHeader else Ok (number_field name)) ≡ Ok field → IsNumberField field
name_plain true bad twice name field is = absurd cc
name_plain false true twice name field is = absurd cc
name_plain false false true name field is = absurd cc
name_plain false false false name field is = (name, cc)

pub header_plain : (header : List (List ℕ)) (fields : List Field) → header_of number_name header ≡ Ok fields → AllByRecursion IsNumberField fields
header_plain header fields is =
    each (λ x. ⊤) IsNumberField (name_at number_name header)
    (λ (column, name) field _ ok. name_plain (not (is_utf8 name)) (not (is_column_name name)) (is_among name (take (column - 1) header)) name field (placed_ok 0 column (number_name (take (column - 1) header) name) field ok))
    (enumerate_from 1 header) fields (anything (enumerate_from 1 header)) is

plain_default : (field : Field) → IsNumberField field → DefaultFits field
plain_default field (name, is) = subst DefaultFits (sym is) refl

plain_defaults : (fields : List Field) → AllByRecursion IsNumberField fields → AllByRecursion DefaultFits fields
plain_defaults [] q = tt
plain_defaults (field ∷ fields) q = (plain_default field q.0, plain_defaults fields q.1)

-- the defaults of columns of whole numbers are numbers
pub number-defaults : (header : List (List ℕ)) (fields : List Field) → header_of number_name header ≡ Ok fields → DefaultsFit fields
number-defaults header fields is = All-from_recursion DefaultFits fields (plain_defaults fields (header_plain header fields is))

number_kind : (field : Field) → IsNumberField field → is_text_kind field.kind ≡ false
number_kind field (name, is) = subst (λ f. is_text_kind f.kind ≡ false) (sym is) refl

number_columns : (fields : List Field) (columns : List Listed) → AllByRecursion IsNumberField fields → map (λ c. c.are_texts) columns ≡ map (λ f. is_text_kind f.kind) fields → AllByRecursion (λ c. c.are_texts ≡ false) columns
number_columns fields [] q s = tt
number_columns [] (c ∷ cs) q s = absurd cc
number_columns (f ∷ fs) (c ∷ cs) q s =
    let one : c.are_texts ≡ is_text_kind f.kind = cc in
    let rest : map (λ x. x.are_texts) cs ≡ map (λ x. is_text_kind x.kind) fs = cc in
    (one ∙ number_kind f q.0, number_columns fs cs q.1 rest)

-- the columns of such fields are of numbers
pub number-columns : (header : List (List ℕ)) (fields : List Field) (columns : List Listed) → header_of number_name header ≡ Ok fields → OfSorts fields columns → AreNumbers fields columns
number-columns header fields columns is sorts = record {
  width = widths fields columns sorts;
  numbers = All-from_recursion (λ c. c.are_texts ≡ false) columns (number_columns fields columns (header_plain header fields is) sorts);
}

-- each row of this table has a number for each column
abbrev Holds : Schema × List (List Value) → Type 0
Holds table = All (IsNumbers (length table.0.fields)) table.1

schema_numbers : (fields : List Field) (rows : Result (List (List Value)) CsvFault) (table : Schema × List (List Value)) → with_schema fields rows ≡ Ok table
    → ((all : List (List Value)) → rows ≡ Ok all → AllByRecursion (IsNumbers (length fields)) all) → Holds table
schema_numbers fields (Err fault) table is all = absurd cc
schema_numbers fields (Ok rows) table is all =
    let same : (record { fields = fields }, rows) ≡ table = cc in
    subst Holds same (All-from_recursion (IsNumbers (length fields)) rows (all rows refl))

under_numbers : (limits : Limits) (header : List (List ℕ)) (records : List (List (List ℕ))) (names : Result (List Field) CsvFault) (table : Schema × List (List Value))
    → ((fields : List Field) → names ≡ Ok fields → AllByRecursion IsNumberField fields) → under names (λ fields. with_schema fields (rows_of limits fields header records)) ≡ Ok table → Holds table
under_numbers limits header records (Err fault) table plain is = absurd cc
under_numbers limits header records (Ok fields) table plain is =
    schema_numbers fields (rows_of limits fields header records) table is (λ rows ok. rows_numbers limits fields header records rows (plain fields refl) ok)

columns_numbers : (limits : Limits) (many : Bool) (header : List (List ℕ)) (records : List (List (List ℕ))) (table : Schema × List (List Value))
    → (if many then Err TooManyColumns else under (header_of number_name header) (λ fields. with_schema fields (rows_of limits fields header records))) ≡ Ok table → Holds table
columns_numbers limits true header records table is = absurd cc
columns_numbers limits false header records table is = under_numbers limits header records (header_of number_name header) table (header_plain header) is

pub numbers-plain : (limits : Limits) (records : List (List (List ℕ))) (table : Schema × List (List Value)) → number_rows_in limits records ≡ Ok table → Holds table
unfolding number_rows_in
numbers-plain limits [] table is = absurd cc
numbers-plain limits (header ∷ records) table is = columns_numbers limits (limits.many_columns (length header)) header records table is

-- ---- how many columns there are

pub header_width : (header : List (List ℕ)) (fields : List Field) → header_of number_name header ≡ Ok fields → length fields ≡ length header
header_width header fields is = as_many (name_at number_name header) (enumerate_from 1 header) fields is ∙ length-enumerate_from 1 header

-- this table has as many columns as it may
abbrev IsFew : Schema × List (List Value) → Type 0
IsFew table = length table.0.fields ≤ 64

schema_few : (fields : List Field) (rows : Result (List (List Value)) CsvFault) (table : Schema × List (List Value)) → with_schema fields rows ≡ Ok table → length fields ≤ 64 → IsFew table
schema_few fields (Err fault) table is at_most = absurd cc
schema_few fields (Ok rows) table is at_most =
    let same : (record { fields = fields }, rows) ≡ table = cc in
    subst IsFew same at_most

under_few : (header : List (List ℕ)) (records : List (List (List ℕ))) (names : Result (List Field) CsvFault) (table : Schema × List (List Value))
    → ((fields : List Field) → names ≡ Ok fields → length fields ≤ 64) → under names (λ fields. with_schema fields (rows_of csv_limits fields header records)) ≡ Ok table → IsFew table
under_few header records (Err fault) table at_most is = absurd cc
under_few header records (Ok fields) table at_most is = schema_few fields (rows_of csv_limits fields header records) table is (at_most fields refl)

columns_few : (many : Bool) (header : List (List ℕ)) (records : List (List (List ℕ))) (table : Schema × List (List Value)) → nat_lt 64 (length header) ≡ many
    → (if many then Err TooManyColumns else under (header_of number_name header) (λ fields. with_schema fields (rows_of csv_limits fields header records))) ≡ Ok table → IsFew table
columns_few true header records table test is = absurd cc
columns_few false header records table test is =
    under_few header records (header_of number_name header) table (λ fields ok. let width = header_width header fields ok in grind (arith, nat_tests)) is

pub few-plain : (records : List (List (List ℕ))) (table : Schema × List (List Value)) → number_rows_in csv_limits records ≡ Ok table → IsFew table
unfolding number_rows_in
few-plain [] table is = absurd cc
few-plain (header ∷ records) table is = columns_few (nat_lt 64 (length header)) header records table refl is
