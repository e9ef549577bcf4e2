-- The records of the text of rows are read as these rows.
use Rattle.std.proofs.Common.{◌≡◌, ◌∙◌, ◌<◌, ◌≤◌, ◌+◌, ◌-◌, ◌&&◌, ◌||◌, ◌==◌, ℕ, zero, suc, Bool, true, false, not, List, [], ◌∷◌, ◌++◌, length, map, take, get_or, cond, nat_le, nat_lt, Some, Ok, Err, refl, sym, ap, subst, arith, append_assoc, length-append, inl, inr}
use Rattle.std.specs.Prelude.{if◌then◌else◌, slice_index_or}
use Rattle.std.specs.List.{All, AllZip, enumerate_from, list_all, position_from}
use Rattle.std.proofs.lemmas.List.Sums.{AllPass-from_list_all}
use Rattle.std.proofs.lemmas.Str.Ascii.{IsAscii-from_all}
use Rattle.std.specs.Str.{bytes_eq, is_utf8}
use Rattle.std.proofs.lemmas.Bool.{cases_Bool, eq-eqb, le-ltb, ne_eqb}
use Rattle.std.proofs.lemmas.Bool.Decides.{nat_tests}
use Rattle.std.proofs.lemmas.List.{get_or_at, length-map, map-append}
use Rattle.std.proofs.lemmas.List.Elements.{All-cons, All-head, All-nil, All-tail}
use Rattle.std.proofs.lemmas.Slice.Eq.{bytes_eq-Decides}
use Rattle.std.proofs.lemmas.Str.{IsUtf8-from_ascii, is_utf8-from_IsUtf8}
use Rattle.csv.specs.Reading.{default_config, records_from, strip_bom}
use Rattle.csv.specs.Machine.{next_record}
use Rattle.csv.specs.declared.parser.State.TheVariants as st
use Rattle.csv.specs.Writing.{default_writer, field_text, fields_text, is_blank, needs_quotes, read_back, row_body, row_text}
use Rattle.csv.proofs.RoundTrip.{read-write, rows_text as csv_rows}
use Rattle.values.specs.declared.value.Value.{Value}
use Rattle.values.specs.Kinds.{fits}
use Rattle.values.specs.Printed.{text_of}
use Rattle.table_schema.specs.declared.field.Field.{Field}
use Rattle.table_schema.specs.Names.{is_among as among_fields, is_column_name, is_name_byte}
use Rattle.table_schema.specs.Roles.{is_text_metric}
use Rattle.table_schema.specs.Valid.{default_fits, is_valid_field, no_repeat}
use Rattle.table_schema.specs.ValidTable.{IsRow, is_row, most_rows}
use Rattle.csv_row.specs.declared.fault.CsvKind.TheVariants.{DuplicateHeader, NotUtf8, WrongLength}
use Rattle.csv_row.specs.declared.fault.CsvFault.TheVariants.{At, TooManyRows}
use Rattle.csv_row.specs.InOrder.{all_or_first, joined}
use Rattle.csv_row.specs.Row.{cell_value, csv_limits, place_of, placed, row_at, value_at, values_of}
use Rattle.csv_ingest.specs.Names.{is_among, names_of as names_in, schema_name}
use Rattle.csv_ingest.specs.Rows.{name_at, records_of, rows_in, rows_of, under}
use Rattle.value_ids.specs.Dictionary.{IsUnicode}
use Rattle.csv_text.specs.Laws.{AreKept, IsKept, ReadsBack}
use Rattle.csv_text.specs.Rows.{names_of, records_text, rows_text}
use Rattle.csv_text.proofs.ReadCells.{cell_read}

-- ---- the records of a text

both : (a b : Bool) → (a && b) ≡ true → (a ≡ true) × (b ≡ true)
both true b e = (refl, e)
both false b e = absurd cc

not_so : (b : Bool) → not b ≡ true → b ≡ false
not_so true e = absurd cc
not_so false e = refl

-- as many records as there are, and then none
records_all : (rows : List (List (List ℕ))) (n : ℕ) → length rows ≤ n → records_from default_config n st.StartRecord (csv_rows rows) ≡ map read_back rows
unfolding records_from csv_rows next_record
records_all [] zero le = refl
records_all [] (suc n) le = refl
records_all (row ∷ rows) zero le = absurd (omega (arith, le))
records_all (row ∷ rows) (suc n) le = rw (read-write row (csv_rows rows)) (ap (λ (t : List (List (List ℕ))). read_back row ∷ t) (records_all rows n (omega (arith, le))))

row_some : (row : List (List ℕ)) → 0 < length (row_text default_writer row)
row_some row =
    let ends = length-append {A = ℕ} (row_body default_writer row) ((if is_blank default_writer row then 34 ∷ 34 ∷ [] else []) ++ 10 ∷ []) in
    let last = length-append {A = ℕ} (if is_blank default_writer row then 34 ∷ 34 ∷ [] else []) (10 ∷ []) in
    omega (arith, ends, last)

rows_long : (rows : List (List (List ℕ))) → length rows ≤ length (csv_rows rows)
unfolding csv_rows
rows_long [] = omega arith
rows_long (row ∷ rows) = omega (arith, row_some row, rows_long rows, length-append (row_text default_writer row) (csv_rows rows))

-- the text of rows is that of records
records_same : (rows : List (List Value)) → records_text rows ≡ csv_rows (map (map text_of) rows)
unfolding csv_rows
records_same [] = refl
records_same (row ∷ rows) = ap (λ t. row_text default_writer (map text_of row) ++ t) (records_same rows)

text_same : (fields : List Field) (rows : List (List Value)) → rows_text fields rows ≡ csv_rows (names_of fields ∷ map (map text_of) rows)
unfolding csv_rows
text_same fields rows = ap (λ t. row_text default_writer (names_of fields) ++ t) (records_same rows)

-- ---- no byte order mark

no_mark : (b : ℕ) (text : List ℕ) → b < 128 → strip_bom (b ∷ text) ≡ b ∷ text
unfolding strip_bom
no_mark b [] small = refl
no_mark b (c ∷ []) small = refl
no_mark b (c ∷ d ∷ rest) small = rw (ne_eqb b 239 (λ e. omega (arith, small, e))) refl

-- a text that begins with a small byte
record Begins (text : List ℕ) : Type 0 where
  first : ℕ
  rest : List ℕ
  small : first < 128
  is : text ≡ first ∷ rest

begins_more : (text more : List ℕ) → Begins text → Begins (text ++ more)
begins_more text more b = record { first = b.first; rest = b.rest ++ more; small = b.small; is = ap (λ t. t ++ more) b.is }

mark_none : (text : List ℕ) → Begins text → strip_bom text ≡ text
mark_none text b = ap strip_bom b.is ∙ no_mark b.first b.rest b.small ∙ sym b.is

field_begins : (b : ℕ) (bytes : List ℕ) → b < 128 → Begins (field_text default_writer (b ∷ bytes))
field_begins b bytes small = elim (cases_Bool (needs_quotes default_writer (b ∷ bytes))) [
  | inl needs ↦ rw needs (record { first = 34; rest = _; small = omega arith; is = refl })
  | inr plain ↦ rw plain (record { first = b; rest = bytes; small = small; is = refl })
]

name_small : (b : ℕ) → is_name_byte b ≡ true → b < 128
name_small b is = grind (arith, nat_tests, is)

record_begins : (name : List ℕ) (names : List (List ℕ)) → is_column_name name ≡ true → Begins (row_text default_writer (name ∷ names))
record_begins [] names is = absurd cc
record_begins (b ∷ bytes) names is =
    let all : list_all is_name_byte (b ∷ bytes) ≡ true = (both (nat_lt 0 (length (b ∷ bytes)) && nat_le (length (b ∷ bytes)) 128) (list_all is_name_byte (b ∷ bytes)) is).1 in
    let own : is_name_byte b ≡ true = (both (is_name_byte b) (list_all is_name_byte bytes) all).0 in
    begins_more (row_body default_writer ((b ∷ bytes) ∷ names)) _ (begins_more (field_text default_writer (b ∷ bytes)) (fields_text default_writer names) (field_begins b bytes (name_small b own)))

-- ---- the header

name_all : (name : List ℕ) → is_column_name name ≡ true → list_all is_name_byte name ≡ true
name_all name is = (both (nat_lt 0 (length name) && nat_le (length name) 128) (list_all is_name_byte name) is).1

name_utf8 : (name : List ℕ) → is_column_name name ≡ true → is_utf8 name ≡ true
name_utf8 name is = is_utf8-from_IsUtf8 name (IsUtf8-from_ascii name (IsAscii-from_all name (λ k d lt. name_small (get_or name k d) (AllPass-from_list_all is_name_byte name (name_all name is) k d lt))))

left_no : (a b : Bool) → (a || b) ≡ false → a ≡ false
left_no true b e = absurd cc
left_no false b e = refl

right_no : (a b : Bool) → (a || b) ≡ false → b ≡ false
right_no true b e = absurd cc
right_no false b e = e

none_of : (a b : Bool) → a ≡ false → b ≡ false → (a || b) ≡ false
none_of a b p q = (λ i. p i || q i)

and_no : (a : Bool) → (a && false) ≡ false
and_no true = refl
and_no false = refl

flipped : (a b : List ℕ) → bytes_eq a b ≡ false → bytes_eq b a ≡ false
flipped a b other = elim (cases_Bool (bytes_eq b a)) [
  | inl equal ↦
      let same : bytes_eq a b ≡ true = (bytes_eq-Decides a b).1 (sym ((bytes_eq-Decides b a).0 equal)) in
      let clash : true ≡ false = sym same ∙ other in
      absurd cc
  | inr own ↦ own
]

-- a name is not among these, asked either way
turned : (names : List (List ℕ)) (name : List ℕ) → among_fields names name ≡ false → is_among name names ≡ false
turned [] name other = refl
turned (n ∷ names) name other =
    none_of (bytes_eq name n) (is_among name names) (flipped n name (left_no (bytes_eq n name) (among_fields names name) other)) (turned names name (right_no (bytes_eq n name) (among_fields names name) other))

-- the next name is none of those before it
next_free : (before : List (List ℕ)) (name : List ℕ) (names : List (List ℕ)) → no_repeat before (name ∷ names) ≡ true → (is_among name before ≡ false) × (no_repeat (before ++ name ∷ []) names ≡ true)
next_free before name names e =
    let parts = both (not (among_fields before name)) (no_repeat (before ++ name ∷ []) names) e in
    (turned before name (not_so (among_fields before name) parts.0), parts.1)

take_front : (before rest : List (List ℕ)) → take (length before) (before ++ rest) ≡ before
take_front [] rest = refl
take_front (x ∷ before) rest = ap (λ l. x ∷ l) (take_front before rest)

name_read : (fields : List Field) (before : List (List ℕ)) (name : List ℕ) → is_utf8 name ≡ true → is_among name before ≡ false → schema_name fields before name ≡ Ok name
name_read fields before name utf8 free =
    ap (λ b. if not b then Err NotUtf8 else if is_among name (names_in fields) && is_among name before then Err DuplicateHeader else Ok name) utf8
    ∙ ap (λ b. if is_among name (names_in fields) && b then Err DuplicateHeader else Ok name) free
    ∙ ap (λ b. if b then Err DuplicateHeader else Ok name) (and_no (is_among name (names_in fields)))

header_read : (fields : List Field) (before rest : List (List ℕ)) → All (λ name. is_column_name name ≡ true) rest → no_repeat before rest ≡ true
    → all_or_first (map (name_at (schema_name fields) (before ++ rest)) (enumerate_from (1 + length before) rest)) ≡ Ok rest
header_read fields before [] named apart = refl
header_read fields before (name ∷ names) named apart =
    let free = next_free before name names apart in
    let at : 1 + length before - 1 ≡ length before = omega arith in
    let earlier : take (1 + length before - 1) (before ++ name ∷ names) ≡ before = ap (λ n. take n (before ++ name ∷ names)) at ∙ take_front before (name ∷ names) in
    let first : name_at (schema_name fields) (before ++ name ∷ names) (1 + length before, name) ≡ Ok name =
    ap (λ e. placed 0 (1 + length before) (schema_name fields e name)) earlier
    ∙ ap (placed 0 (1 + length before)) (name_read fields before name (name_utf8 name (All-head (λ n. is_column_name n ≡ true) name names named)) free.0) in
    let count : 1 + length (before ++ name ∷ []) ≡ 1 + length before + 1 = omega (arith, length-append before (name ∷ [])) in
    let rest : all_or_first (map (name_at (schema_name fields) (before ++ name ∷ names)) (enumerate_from (1 + length before + 1) names)) ≡ Ok names =
    subst (λ h. all_or_first (map (name_at (schema_name fields) h) (enumerate_from (1 + length before + 1) names)) ≡ Ok names) (append_assoc before (name ∷ []) names)
    (subst (λ n. all_or_first (map (name_at (schema_name fields) ((before ++ name ∷ []) ++ names)) (enumerate_from n names)) ≡ Ok names) count
    (header_read fields (before ++ name ∷ []) names (All-tail (λ n. is_column_name n ≡ true) name names named) free.1)) in
    (λ i. joined (first i) (rest i))

-- ---- a row

position_here : (name : List ℕ) (before more : List (List ℕ)) (i : ℕ) → is_among name before ≡ false → position_from (bytes_eq name) i (before ++ name ∷ more) ≡ Some (i + length before)
position_here name [] more i free =
    ap (λ b. cond b (Some i) (position_from (bytes_eq name) (i + 1) more)) ((bytes_eq-Decides name name).1 refl) ∙ ap Some (omega arith)
position_here name (x ∷ before) more i free =
    ap (λ b. cond b (Some i) (position_from (bytes_eq name) (i + 1) (before ++ name ∷ more))) (left_no (bytes_eq name x) (is_among name before) free)
    ∙ position_here name before more (i + 1) (right_no (bytes_eq name x) (is_among name before) free) ∙ ap Some (omega arith)

value_read : (n : ℕ) (f : Field) (before more : List Field) (done vs : List Value) (v : Value) → length done ≡ length before → is_among f.name (names_in before) ≡ false → cell_value f (text_of v) ≡ Ok v
    → value_at n (map text_of (done ++ v ∷ vs)) f (place_of (names_in (before ++ f ∷ more)) f) ≡ Ok v
value_read n f before more done vs v same free read =
    let cells : List (List ℕ) = map text_of (done ++ v ∷ vs) in
    let place : place_of (names_in (before ++ f ∷ more)) f ≡ Some (1 + length before) =
    ap (λ h. place_of h f) (map-append (λ (g : Field). g.name) before (f ∷ more)) ∙ position_here f.name (names_in before) (names_in more) 1 free ∙ ap (λ k. Some (1 + k)) (length-map before (λ (g : Field). g.name)) in
    let at : length (map text_of done) ≡ 1 + length before - 1 = omega (arith, length-map done text_of, same) in
    let cell : slice_index_or cells (1 + length before - 1) [] ≡ text_of v =
    ap (λ cs. slice_index_or cs (1 + length before - 1) []) (map-append text_of done (v ∷ vs)) ∙ get_or_at (map text_of done) (text_of v) (map text_of vs) [] (1 + length before - 1) at in
    ap (value_at n cells f) place ∙ ap (λ bytes. placed n (1 + length before) (cell_value f bytes)) cell ∙ ap (placed n (1 + length before)) read

values_read : (n : ℕ) (before rest : List Field) (done row : List Value) → length done ≡ length before → no_repeat (names_in before) (names_in rest) ≡ true → is_row rest row ≡ true → All IsUnicode row → AllZip IsKept rest row
    → all_or_first (map (λ field. value_at n (map text_of (done ++ row)) field (place_of (names_in (before ++ rest)) field)) rest) ≡ Ok row
values_read n before [] done [] same apart fit unicode kept = refl
values_read n before [] done (v ∷ vs) same apart fit unicode kept = absurd cc
values_read n before (f ∷ fs) done [] same apart fit unicode kept = absurd cc
values_read n before (f ∷ fs) done (v ∷ vs) same apart fit unicode kept =
    let free = next_free (names_in before) f.name (names_in fs) apart in
    let fits_so = both (fits f.kind v) (is_row fs vs) fit in
    let first = value_read n f before fs done vs v same free.0 (cell_read f v fits_so.0 (All-head IsUnicode v vs unicode) kept.0) in
    let apart_so : no_repeat (names_in (before ++ f ∷ [])) (names_in fs) ≡ true = subst (λ names. no_repeat names (names_in fs) ≡ true) (sym (map-append (λ (g : Field). g.name) before (f ∷ []))) free.1 in
    let same_so : length (done ++ v ∷ []) ≡ length (before ++ f ∷ []) = omega (arith, length-append done (v ∷ []), length-append before (f ∷ []), same) in
    let rest : all_or_first (map (λ field. value_at n (map text_of (done ++ v ∷ vs)) field (place_of (names_in (before ++ f ∷ fs)) field)) fs) ≡ Ok vs =
    subst (λ l. all_or_first (map (λ field. value_at n (map text_of (done ++ v ∷ vs)) field (place_of (names_in l) field)) fs) ≡ Ok vs) (append_assoc before (f ∷ []) fs)
    (subst (λ l. all_or_first (map (λ field. value_at n (map text_of l) field (place_of (names_in ((before ++ f ∷ []) ++ fs)) field)) fs) ≡ Ok vs) (append_assoc done (v ∷ []) vs)
    (values_read n (before ++ f ∷ []) fs (done ++ v ∷ []) vs same_so apart_so fits_so.1 (All-tail IsUnicode v vs unicode) kept.1)) in
    (λ i. joined (first i) (rest i))

row_width : (fields : List Field) (row : List Value) → is_row fields row ≡ true → length row ≡ length fields
row_width [] [] fit = refl
row_width [] (v ∷ vs) fit = absurd cc
row_width (f ∷ fs) [] fit = absurd cc
row_width (f ∷ fs) (v ∷ vs) fit = ap suc (row_width fs vs (both (fits f.kind v) (is_row fs vs) fit).1)

row_read : (fields : List Field) (k : ℕ) (row : List Value) → k ≤ most_rows (length fields) → no_repeat [] (names_in fields) ≡ true → is_row fields row ≡ true → All IsUnicode row → AllZip IsKept fields row
    → row_at csv_limits fields (names_in fields) (k, map text_of row) ≡ Ok row
row_read fields k row le apart fit unicode kept =
    let cells : List (List ℕ) = map text_of row in
    let header : List (List ℕ) = names_in fields in
    let wide : length cells ≡ length header = length-map row text_of ∙ row_width fields row fit ∙ sym (length-map fields (λ (g : Field). g.name)) in
    ap (λ b. if b then Err (TooManyRows (most_rows (length fields))) else if not (length cells == length header) then Err (At WrongLength k 0) else values_of fields header k cells) (le-ltb (most_rows (length fields)) k le)
    ∙ ap (λ b. if not b then Err (At WrongLength k 0) else values_of fields header k cells) (eq-eqb (length cells) (length header) wide)
    ∙ values_read k [] fields [] row refl apart fit unicode kept

rows_read : (fields : List Field) (k : ℕ) (rows : List (List Value)) → k + length rows ≤ most_rows (length fields) + 1 → no_repeat [] (names_in fields) ≡ true → All (IsRow fields) rows → All (λ row. All IsUnicode row) rows → AreKept fields rows
    → all_or_first (map (row_at csv_limits fields (names_in fields)) (enumerate_from k (map (map text_of) rows))) ≡ Ok rows
rows_read fields k [] le apart fit unicode kept = refl
rows_read fields k (row ∷ rows) le apart fit unicode kept =
    let first = row_read fields k row (omega (arith, le)) apart (All-head (IsRow fields) row rows fit) (All-head (λ r. All IsUnicode r) row rows unicode) (All-head (AllZip IsKept fields) row rows kept) in
    let rest = rows_read fields (k + 1) rows (omega (arith, le)) apart (All-tail (IsRow fields) row rows fit) (All-tail (λ r. All IsUnicode r) row rows unicode) (All-tail (AllZip IsKept fields) row rows kept) in
    (λ i. joined (first i) (rest i))

-- ---- the whole

read_one : (cells : List (List ℕ)) → 0 < length cells → read_back cells ≡ cells
read_one [] some = absurd (omega (arith, some))
read_one (x ∷ rest) some = refl

read_each : (fields : List Field) (rows : List (List Value)) → 0 < length fields → All (IsRow fields) rows → map read_back (map (map text_of) rows) ≡ map (map text_of) rows
read_each fields [] some fit = refl
read_each fields (row ∷ rows) some fit =
    let wide : length row ≡ length fields = row_width fields row (All-head (IsRow fields) row rows fit) in
    let own : read_back (map text_of row) ≡ map text_of row = read_one (map text_of row) (omega (arith, length-map row text_of, wide, some)) in
    let rest = read_each fields rows some (All-tail (IsRow fields) row rows fit) in
    (λ i. own i ∷ rest i)

named_all : (fields : List Field) → list_all is_valid_field fields ≡ true → All (λ name. is_column_name name ≡ true) (names_in fields)
named_all [] valid = All-nil (λ name. is_column_name name ≡ true)
named_all (f ∷ fs) valid =
    let parts = both (is_valid_field f) (list_all is_valid_field fs) valid in
    All-cons (λ name. is_column_name name ≡ true) f.name (names_in fs) (both (is_column_name f.name) (not (is_text_metric f.role f.kind)) (both (is_column_name f.name && not (is_text_metric f.role f.kind)) (default_fits f.kind f.default) parts.0).0).0 (named_all fs parts.1)

text_begins : (fields : List Field) (rows : List (List Value)) → 0 < length fields → list_all is_valid_field fields ≡ true → Begins (rows_text fields rows)
text_begins [] rows some valid = absurd (omega (arith, some))
text_begins (f ∷ fs) rows some valid =
    begins_more (row_text default_writer (names_of (f ∷ fs))) (records_text rows)
    (record_begins f.name (names_of fs) (All-head (λ name. is_column_name name ≡ true) f.name (names_in fs) (named_all (f ∷ fs) valid)))

records_are : (fields : List Field) (rows : List (List Value)) → 0 < length fields → list_all is_valid_field fields ≡ true → All (IsRow fields) rows → records_of (rows_text fields rows) ≡ names_in fields ∷ map (map text_of) rows
records_are fields rows some valid fit =
    let R : List (List (List ℕ)) = names_of fields ∷ map (map text_of) rows in
    let text : strip_bom (rows_text fields rows) ≡ csv_rows R = mark_none (rows_text fields rows) (text_begins fields rows some valid) ∙ text_same fields rows in
    let names : read_back (names_of fields) ≡ names_of fields = read_one (names_of fields) (omega (arith, length-map fields (λ (g : Field). g.name), some)) in
    let each = read_each fields rows some fit in
    ap (λ t. records_from default_config (length t + 1) st.StartRecord t) text ∙ records_all R (length (csv_rows R) + 1) (omega (arith, rows_long R)) ∙ (λ i. names i ∷ each i)

pub reads_back : ReadsBack
unfolding rows_in
reads_back schema rows valid are unicode kept =
    let fields : List Field = schema.fields in
    ap (rows_in csv_limits fields) (records_are fields rows valid.some valid.fields are.each)
    ∙ ap (λ h. under h (λ _. rows_of csv_limits fields (names_in fields) (map (map text_of) rows))) (header_read fields [] (names_in fields) (named_all fields valid.fields) valid.apart)
    ∙ rows_read fields 1 rows (omega (arith, are.at_most)) valid.apart are.each unicode kept
