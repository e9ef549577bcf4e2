-- The rows of columns that were read, and the rows that the bytes of a file spell.
use Rattle.std.proofs.Common.{◌≡◌, ◌∙◌, ◌<◌, ◌≤◌, ◌+◌, ◌&&◌, ℕ, zero, suc, Bool, true, false, cond, All, List, [], ◌∷◌, length, map, get_or, replicate, slice_get, Option, Some, None, IfSome, refl, sym, ap, subst, arith}
use Rattle.std.specs.Prelude.{pos, option_map}
use Rattle.std.specs.List.{AllZip, find, range_with_len}
use Rattle.std.specs.Option.{option_map_or}
use Rattle.std.proofs.lemmas.List.{get_or-map, get_or_default, length-map, same_lists}
use Rattle.std.proofs.lemmas.List.Elements.{All-cons, All-get_or, All-head, All-nil, All-replicate, All-tail}
use Rattle.std.proofs.lemmas.List.FromFn.{get_or-map-range_with_len, length-range_with_len}
use Rattle.std.proofs.lemmas.Option.{get_or_from_slice_get, slice_get-get_or, slice_get-map}
use Rattle.outside.specs.Files.{Files, bytes_of}
use Rattle.values.specs.declared.value.Value.{Value}
use Rattle.values.specs.declared.value.Value.TheVariants.{Whole}
use Rattle.values.specs.Columns.{Counts, Listed, ListedColumns, fronted, row_of, rows_in_columns, rows_of}
use Rattle.data_types.specs.declared.kind.FieldKind.TheVariants.{Long}
use Rattle.values.specs.Kinds.{fits}
use Rattle.values.proofs.RowLemmas.{length-rows, row-at}
use Rattle.value_ids.specs.Coding.{AreBelow, values_at}
use Rattle.value_ids.specs.Dictionary.{Distinct, Fits, IsDictionary, IsUnicode}
use Rattle.bit_column.specs.Column.{ids_between, width_of}
use Rattle.bit_column.specs.Sections.{Readable}
use Rattle.table_schema.specs.declared.field.Field.{Field}
use Rattle.table_schema.specs.declared.table.Table.{Table}
use Rattle.table_schema.specs.ValidTable.{AreRows, IsRow, is_row, most_rows}
use Rattle.segment_file.specs.declared.part.Part.{Part}
use Rattle.segment_file.specs.declared.part.Part.TheVariants as parts
use Rattle.segment_file.specs.declared.section.Section.{Section}
use Rattle.segment_file.specs.Columns.{kind_at, kind_or}
use Rattle.segment_file.specs.Front.{Extent, Front, extents_of}
use Rattle.segment_file.specs.Parts.{columns_of, is_same}
use Rattle.segment_file.specs.Reading.{count_at}
use Rattle.segment_file.specs.Rules.{HasFront, IsSpelled, KeepsAll, dictionary_in, heads_in, section_bytes}
use Rattle.segment_file.specs.Spelled.{HasIds, column_said, forward_in, ids_said, part_in, rows_said, values_said}
use Rattle.segment_file.proofs.RuleLaws.{fronts_one}
use Rattle.segment_file.proofs.Tails.{zip_at}
use Rattle.segment_head.specs.Heads.{IsHead, Seen, bytes_in, place_in, placed}
use Rattle.segment_check.specs.Reading.{AreColumns, AreOfFields, HasIdsOf, IsColumn, IsFileHead, IsSomeHead, forward_of, no_column}
use Rattle.segment_check.specs.declared.head.FileHead.{FileHead}

abbrev pub no_value : Value
no_value = Whole (pos 0)

-- ---- rows of a table

both_true : (a b : Bool) → a ≡ true → b ≡ true → (a && b) ≡ true
both_true a b p q = (λ i. p i && q i)

-- what holds of each value in front, and of each row, holds of the rows with these
fronted_all : (P : Value → Type 0) (Q R : List Value → Type 0) → ((v : Value) (row : List Value) → P v → Q row → R (v ∷ row)) → (values : List Value) (rows : List (List Value)) → All P values → All Q rows → All R (fronted values rows)
fronted_all P Q R join [] rows ps qs = All-nil R
fronted_all P Q R join (v ∷ vs) [] ps qs = All-nil R
fronted_all P Q R join (v ∷ vs) (row ∷ rows) ps qs =
    All-cons R (v ∷ row) (fronted vs rows) (join v row (All-head P v vs ps) (All-head Q row rows qs)) (fronted_all P Q R join vs rows (All-tail P v vs ps) (All-tail Q row rows qs))

pub rows_fit : (fields : List Field) (columns : List Listed) (count : ℕ) → length columns ≡ length fields → ((k : ℕ) (f : Field) → slice_get fields k ≡ Some f → All (Fits f.kind) (get_or columns k no_column).values)
    → All (IsRow fields) (rows_in_columns count columns)
rows_fit [] [] count wide each = All-replicate (IsRow []) count [] refl
rows_fit [] (c ∷ cs) count wide each = absurd (omega (arith, wide))
rows_fit (f ∷ fs) [] count wide each = absurd (omega (arith, wide))
rows_fit (f ∷ fs) (c ∷ cs) count wide each =
    fronted_all (Fits f.kind) (IsRow fs) (IsRow (f ∷ fs)) (λ v row a b. both_true (fits f.kind v) (is_row fs row) a b) c.values (rows_in_columns count cs) (each 0 f refl)
    (rows_fit fs cs count (omega (arith, wide)) (λ k g e. each (suc k) g e))

pub rows_unicode : (columns : List Listed) (count : ℕ) → ((k : ℕ) → k < length columns → All IsUnicode (get_or columns k no_column).values) → All (λ row. All IsUnicode row) (rows_in_columns count columns)
rows_unicode [] count each = All-replicate (λ row. All IsUnicode row) count [] (All-nil IsUnicode)
rows_unicode (c ∷ cs) count each =
    fronted_all IsUnicode (λ row. All IsUnicode row) (λ row. All IsUnicode row) (λ v row a b. All-cons IsUnicode v row a b) c.values (rows_in_columns count cs) (each 0 (omega arith))
    (rows_unicode cs count (λ k lt. each (suc k) (omega (arith, lt))))

pub values_all : (P : Value → Type 0) (values : List Value) (ids : List ℕ) → All P values → AreBelow (length values) ids → All P (values_at values ids)
values_all P values [] ps below = All-nil P
values_all P values (id ∷ ids) ps below =
    All-cons P (get_or values id no_value) (values_at values ids) (All-get_or P values id no_value (All-head (λ i. i < length values) id ids below) ps)
    (values_all P values ids ps (All-tail (λ i. i < length values) id ids below))

-- ---- the dictionaries of a head

-- the dictionary of a column of a head, which was loaded
pub record OwnDictionary (table : Table) (head : Seen) (column : ℕ) (d : Distinct) : Type 0 where
  pub at : slice_get head.dictionaries column ≡ Some (Some d)
  pub stands : IsDictionary d
  pub kind_is : d.kind ≡ kind_at table column

pub zip_many : {B : Type 0} (R : ℕ → B → Type 0) (a n : ℕ) (ys : List B) → AllZip R (range_with_len a n) ys → length ys ≡ n
zip_many R a zero [] all = refl
zip_many R a zero (y ∷ ys) all = absurd all
zip_many R a (suc n) [] all = absurd all
zip_many R a (suc n) (y ∷ ys) all = ap suc (zip_many R (a + 1) n ys all.1)

abbrev pub no_distinct : Distinct
no_distinct = record { kind = Long; values = [] }

abbrev pub dictionary_of_head : (table : Table) (name file bytes : List ℕ) (head : Seen) → IsHead table name file bytes head → ℕ → Distinct
dictionary_of_head table name file bytes head is column = get_or is.dictionaries column no_distinct

pub own_dictionary : (table : Table) (name file bytes : List ℕ) (head : Seen) (column : ℕ) (is : IsHead table name file bytes head) → column < length table.schema.fields
    → OwnDictionary table head column (dictionary_of_head table name file bytes head is column)
own_dictionary table name file bytes head column is lt =
    let n : ℕ = length table.schema.fields in
    let R : ℕ → Distinct → Type 0 = λ c d. IsSpelled (kind_at table c) is.front.rows (dictionary_in (heads_in table name is.front bytes) c) d in
    let all : AllZip R (range_with_len 0 n) is.dictionaries = is.keeps.heads.spelled in
    let many : length is.dictionaries ≡ n = zip_many R 0 n is.dictionaries all in
    let plain : 0 + column ≡ column = omega arith in
    let d : Distinct = get_or is.dictionaries column no_distinct in
    let spelled : R column d = subst (λ k. R k d) plain (zip_at R 0 n column is.dictionaries no_distinct all lt) in
    record {
      at = ap (λ l. slice_get l column) is.dictionaries_are ∙ slice_get-map Some is.dictionaries column ∙ ap (option_map Some) (slice_get-get_or is.dictionaries column no_distinct (omega (arith, many, lt)));
      stands = spelled.stands;
      kind_is = spelled.kind_is;
    }

-- ---- columns that were read are those of rows of the table

pub field_kind : (table : Table) (k : ℕ) (f : Field) → slice_get table.schema.fields k ≡ Some f → kind_at table k ≡ f.kind
field_kind table k f e = ap kind_or e

pub field_at : (table : Table) (k : ℕ) (f : Field) → k < length table.schema.fields → f ≡ get_or table.schema.fields k f → kind_at table k ≡ f.kind
field_at table k f lt is = field_kind table k f (slice_get-get_or table.schema.fields k f lt ∙ ap Some (sym is))

pub get_within : (fields : List Field) (k : ℕ) (f : Field) → slice_get fields k ≡ Some f → k < length fields
get_within [] k f e = absurd cc
get_within (g ∷ gs) zero f e = omega arith
get_within (g ∷ gs) (suc k) f e = let rest = get_within gs k f e in omega (arith, rest)

pub of_fields : (table : Table) (name : List ℕ) (read : FileHead) (held : Option Files) (t : ListedColumns) → IsSomeHead table name read → All (Counts t.count) t.columns → t.count ≡ read.head.rows
    → AreColumns held read.head (length table.schema.fields) t.columns → AreOfFields table t
of_fields table name read held t some counts count columns =
    let is = some.is.head_is in
    let n : ℕ = length table.schema.fields in
    let limit = is.keeps.front_is.at_most in
    let many = columns.many in
    let own : (k : ℕ) → k < n → OwnDictionary table read.head k (dictionary_of_head table name some.file some.bytes read.head is k) = λ k lt. own_dictionary table name some.file some.bytes read.head k is lt in
    let column : (k : ℕ) (lt : k < n) → IsColumn held read.head k (dictionary_of_head table name some.file some.bytes read.head is k) (get_or t.columns k no_column).values = λ k lt. columns.each k (dictionary_of_head table name some.file some.bytes read.head is k) lt (own k lt).at in
    record {
      width = many;
      counts = counts;
      rows = record {
        each = rows_fit table.schema.fields t.columns t.count many
            (λ k f e.
            let lt : k < n = get_within table.schema.fields k f e in
            let d : Distinct = dictionary_of_head table name some.file some.bytes read.head is k in
            subst (λ kind. All (Fits kind) (get_or t.columns k no_column).values) ((own k lt).kind_is ∙ field_kind table k f e)
            (subst (All (Fits d.kind)) (sym (column k lt).values_are) (values_all (Fits d.kind) d.values (column k lt).ids (own k lt).stands.fit (column k lt).below)));
        at_most = omega (arith, limit, length-rows t.count t.columns counts, count, is.rows_are);
      };
      unicode = rows_unicode t.columns t.count
          (λ k lt.
          let within : k < n = omega (arith, lt, many) in
          let d : Distinct = dictionary_of_head table name some.file some.bytes read.head is k in
          subst (All IsUnicode) (sym (column k within).values_are) (values_all IsUnicode d.values (column k within).ids (own k within).stands.unicode (column k within).below));
    }

-- ---- where files are told, they are those that the bytes spell

-- the bytes of a section by its place are those of its part
pub bytes_of_part : (files : Files) (file : List ℕ) (extents : List Extent) (part : Part) → bytes_in files (place_in (map (placed file) extents) part) ≡ part_in (bytes_of (Some files) file) extents part
bytes_of_part files file [] part = refl
bytes_of_part files file (e ∷ es) part = go (is_same e.part part) (bytes_of_part files file es part)
  where
    go : (b : Bool) → bytes_in files (place_in (map (placed file) es) part) ≡ part_in (bytes_of (Some files) file) es part
        → bytes_in files (option_map (λ s. s.place) (cond b (Some (placed file e)) (find (λ s. is_same s.part part) (map (placed file) es)))) ≡ option_map_or (section_bytes (bytes_of (Some files) file)) (cond b (Some e) (find (λ extent. is_same extent.part part) es)) []
    go true later = refl
    go false later = later

module _ (table : Table) (name file : List ℕ) (files : Files) (read : FileHead) (is : IsFileHead table name file (bytes_of (Some files) file) read) where
  abbrev B : List ℕ
  B = bytes_of (Some files) file

  abbrev head : Seen
  head = read.head

  abbrev ds : List Distinct
  ds = is.head_is.dictionaries

  pub same-front : is.head_is.front ≡ read.front
  same-front = fronts_one table name B read.front is.head_is.front is.front_is is.head_is.keeps.front_is

  pub keeps : KeepsAll table name B read.front ds
  keeps = subst (λ (f : Front). KeepsAll table name B f ds) same-front is.head_is.keeps

  rows-count : head.rows ≡ read.front.rows
  rows-count = is.head_is.rows_are ∙ ap (λ (f : Front). f.rows) same-front

  forward-is : (c : ℕ) → forward_of files head c ≡ forward_in table name B read.front c
  forward-is c =
      ap (λ (s : List Section). bytes_in files (place_in s (parts.Forward c))) (is.head_is.sections_are ∙ ap (λ (f : Front). map (placed file) (extents_of table name f)) same-front)
      ∙ bytes_of_part files file (extents_of table name read.front) (parts.Forward c)

  many : length ds ≡ length table.schema.fields
  many = zip_many (λ c d. IsSpelled (kind_at table c) read.front.rows (dictionary_in (heads_in table name read.front B) c) d) 0 (length table.schema.fields) ds keeps.heads.spelled

  pub own : ℕ → Distinct
  own c = get_or ds c no_distinct

  values-are : (c : ℕ) → c < length table.schema.fields → values_said ds c ≡ (get_or ds c no_distinct).values
  values-are c lt = get_or-map (λ d. d.values) ds c no_distinct [] (omega (arith, many, lt))

  pub own-at : (c : ℕ) → c < length table.schema.fields → slice_get head.dictionaries c ≡ Some (Some (get_or ds c no_distinct))
  own-at c lt = (own_dictionary table name file B head c is.head_is lt).at

  -- the forward index of a column has its ids where the bytes have them
  pub ids-there : (c : ℕ) → c < length table.schema.fields → HasIdsOf files head c (length (get_or ds c no_distinct).values) → HasIds table name B read.front ds c
  ids-there c lt has =
      subst (λ (vs : List Value). Readable (width_of (length vs)) (length vs) 0 read.front.rows (forward_in table name B read.front c)) (sym (values-are c lt))
      (subst (λ (n : ℕ). Readable (width_of (length (get_or ds c no_distinct).values)) (length (get_or ds c no_distinct).values) 0 n (forward_in table name B read.front c)) rows-count
      (subst (λ (b : List ℕ). Readable (width_of (length (get_or ds c no_distinct).values)) (length (get_or ds c no_distinct).values) 0 head.rows b) (forward-is c) has))

  pub ids-back : (c : ℕ) → c < length table.schema.fields → HasIds table name B read.front ds c → HasIdsOf files head c (length (get_or ds c no_distinct).values)
  ids-back c lt has =
      subst (λ (b : List ℕ). Readable (width_of (length (get_or ds c no_distinct).values)) (length (get_or ds c no_distinct).values) 0 head.rows b) (sym (forward-is c))
      (subst (λ (n : ℕ). Readable (width_of (length (get_or ds c no_distinct).values)) (length (get_or ds c no_distinct).values) 0 n (forward_in table name B read.front c)) (sym rows-count)
      (subst (λ (vs : List Value). Readable (width_of (length vs)) (length vs) 0 read.front.rows (forward_in table name B read.front c)) (values-are c lt) has))

  module _ (t : ListedColumns) (counts : All (Counts t.count) t.columns) (count : t.count ≡ read.head.rows) (columns : AreColumns (Some files) read.head (length table.schema.fields) t.columns) where
    column : (c : ℕ) → c < length table.schema.fields → IsColumn (Some files) head c (get_or ds c no_distinct) (get_or t.columns c no_column).values
    column c lt = columns.each c (get_or ds c no_distinct) lt (own-at c lt)

    column-there : (c : ℕ) → c < length table.schema.fields → (get_or t.columns c no_column).values ≡ column_said table name B read.front ds c
    column-there c lt =
        (column c lt).values_are
        ∙ (λ i. values_at (sym (values-are c lt) i) ((column c lt).told.1 i))
        ∙ (λ i. values_at (values_said ds c) (ids_between (width_of (length (sym (values-are c lt) i))) 0 (rows-count i) (forward-is c i)))

    row-there : (at : ℕ) → row_of t.columns at ≡ map (λ c. get_or (column_said table name B read.front ds c) at no_value) (columns_of table)
    row-there at =
        let n : ℕ = length table.schema.fields in
        let f : Listed → Value = λ c. get_or c.values at no_value in
        let g : ℕ → Value = λ c. get_or (column_said table name B read.front ds c) at no_value in
        let wide : length (map f t.columns) ≡ n = length-map t.columns f ∙ columns.many in
        let long : length (map g (columns_of table)) ≡ n = length-map (columns_of table) g ∙ length-range_with_len 0 n in
        same_lists (map f t.columns) (map g (columns_of table)) (wide ∙ sym long)
        (λ k d lt.
        let within : k < n = omega (arith, lt, wide) in
        let plain : 0 + k ≡ k = omega arith in
        get_or-map f t.columns k no_column d (omega (arith, within, columns.many)) ∙ ap (λ (vs : List Value). get_or vs at no_value) (column-there k within)
        ∙ sym (get_or-map-range_with_len g 0 n k k d within plain))

    pub rows-there : rows_of t ≡ rows_said table name B read.front ds
    rows-there =
        let n : ℕ = read.front.rows in
        let own-rows : ℕ → List Value = λ row. map (λ c. get_or (column_said table name B read.front ds c) row no_value) (columns_of table) in
        let many-rows : length (rows_of t) ≡ t.count = length-rows t.count t.columns counts in
        let same : t.count ≡ n = count ∙ rows-count in
        let long : length (map own-rows (range_with_len 0 n)) ≡ n = length-map (range_with_len 0 n) own-rows ∙ length-range_with_len 0 n in
        same_lists (rows_of t) (map own-rows (range_with_len 0 n)) (many-rows ∙ same ∙ sym long)
        (λ k d lt.
        let within : k < t.count = omega (arith, lt, many-rows) in
        let below : k < n = omega (arith, within, same) in
        let plain : 0 + k ≡ k = omega arith in
        get_or_from_slice_get (rows_of t) k (row_of t.columns k) d (row-at t.count k t.columns within counts) ∙ row-there k ∙ sym (get_or-map-range_with_len own-rows 0 n k k d below plain))
