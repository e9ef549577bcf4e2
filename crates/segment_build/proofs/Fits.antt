-- The values of each column of a table fit the kind of its field.
use Rattle.std.proofs.Common.{◌≡◌, ◌≤◌, ◌<◌, ◌∙◌, ◌∷◌, [], ◌&&◌, Bool, true, false, ℕ, suc, zero, List, length, get_or, sym, subst, arith, refl}
use Rattle.std.proofs.lemmas.List.Elements.{All-head, All-tail, All-cons, All-nil}
use Rattle.std.specs.List.{All}
use Rattle.values.specs.declared.value.Value.{Value}
use Rattle.values.specs.Columns.{Counts, Listed, ListedColumns, fronted, rows_in_columns, rows_of}
use Rattle.values.specs.Kinds.{fits}
use Rattle.values.proofs.RowLemmas.{length-rows}
use Rattle.table_schema.specs.declared.field.Field.{Field}
use Rattle.table_schema.specs.ValidTable.{IsRow, is_row, most_rows}
use Rattle.value_ids.specs.Dictionary.{Fits}
use Rattle.segment_build.specs.Fitting.{AreColumns, ColumnsFit, FitsKind}

pub both_first : (a b : Bool) → (a && b) ≡ true → a ≡ true
both_first true b e = refl
both_first false b e = absurd cc

pub both_second : (a b : Bool) → (a && b) ≡ true → b ≡ true
both_second true b e = e
both_second false b e = absurd cc

-- the first column of rows
first_fits : (field : Field) (fields : List Field) (values : List Value) (rows : List (List Value)) → length rows ≡ length values
    → All (IsRow (field ∷ fields)) (fronted values rows) → All (Fits field.kind) values
first_fits field fields [] rows e all = All-nil (Fits field.kind)
first_fits field fields (v ∷ vs) [] e all = absurd (omega (arith, e))
first_fits field fields (v ∷ vs) (r ∷ rs) e all =
    let P = IsRow (field ∷ fields) in
    All-cons (Fits field.kind) v vs
    (both_first (fits field.kind v) (is_row fields r) (All-head P (v ∷ r) (fronted vs rs) all))
    (first_fits field fields vs rs (omega (arith, e)) (All-tail P (v ∷ r) (fronted vs rs) all))

-- the other columns
rest_fit : (field : Field) (fields : List Field) (values : List Value) (rows : List (List Value)) → length rows ≡ length values
    → All (IsRow (field ∷ fields)) (fronted values rows) → All (IsRow fields) rows
rest_fit field fields [] [] e all = All-nil (IsRow fields)
rest_fit field fields [] (r ∷ rs) e all = absurd (omega (arith, e))
rest_fit field fields (v ∷ vs) [] e all = absurd (omega (arith, e))
rest_fit field fields (v ∷ vs) (r ∷ rs) e all =
    let P = IsRow (field ∷ fields) in
    All-cons (IsRow fields) r rs
    (both_second (fits field.kind v) (is_row fields r) (All-head P (v ∷ r) (fronted vs rs) all))
    (rest_fit field fields vs rs (omega (arith, e)) (All-tail P (v ∷ r) (fronted vs rs) all))

column_fits : (count : ℕ) (fields : List Field) (columns : List Listed) (at : ℕ) (df : Field) (dc : Listed) → All (Counts count) columns → length columns ≡ length fields
    → All (IsRow fields) (rows_in_columns count columns) → at < length fields → All (Fits (get_or fields at df).kind) (get_or columns at dc).values
column_fits count [] columns at df dc counts width all lt = absurd (omega (arith, lt))
column_fits count (f ∷ fs) [] at df dc counts width all lt = absurd (omega (arith, width))
column_fits count (f ∷ fs) (c ∷ cs) zero df dc counts width all lt =
    first_fits f fs c.values (rows_in_columns count cs) (length-rows count cs (All-tail (Counts count) c cs counts) ∙ sym (All-head (Counts count) c cs counts)) all
column_fits count (f ∷ fs) (c ∷ cs) (suc at) df dc counts width all lt =
    let rest = All-tail (Counts count) c cs counts in
    column_fits count fs cs at df dc rest (omega (arith, width))
    (rest_fit f fs c.values (rows_in_columns count cs) (length-rows count cs rest ∙ sym (All-head (Counts count) c cs counts)) all) (omega (arith, lt))

counted_at : (count : ℕ) (columns : List Listed) (at : ℕ) (d : Listed) → All (Counts count) columns → at < length columns → length (get_or columns at d).values ≡ count
counted_at count [] at d counts lt = absurd (omega (arith, lt))
counted_at count (c ∷ cs) zero d counts lt = All-head (Counts count) c cs counts
counted_at count (c ∷ cs) (suc at) d counts lt = counted_at count cs at d (All-tail (Counts count) c cs counts) (omega (arith, lt))

pub rows_few : (t : ListedColumns) (fields : List Field) → All (Counts t.count) t.columns → length (rows_of t) ≤ most_rows (length fields) → t.count ≤ most_rows (length fields)
rows_few t fields counts at_most = subst (λ n. n ≤ most_rows (length fields)) (length-rows t.count t.columns counts) at_most

-- a dictionary can be made of each column
pub column_fit : (fields : List Field) (t : ListedColumns) (at : ℕ) (df : Field) (dc : Listed) → AreColumns fields t → at < length fields → FitsKind (get_or fields at df).kind (get_or t.columns at dc)
column_fit fields t at df dc are lt =
    let below : at < length t.columns = omega (arith, lt, are.width) in
    let number : length (get_or t.columns at dc).values ≡ t.count = counted_at t.count t.columns at dc are.counts below in
    let at_most : t.count ≤ most_rows (length fields) = rows_few t fields are.counts are.rows.at_most in
    record {
      at_most = omega (arith, number, at_most);
      fit = column_fits t.count fields t.columns at df dc are.counts are.width are.rows.each lt;
    }

pub columns_fit : ColumnsFit
columns_fit fields t at field column are lt field_is column_is =
    subst (λ (c : Listed). FitsKind field.kind c) (sym column_is)
    (subst (λ (f : Field). FitsKind f.kind (get_or t.columns at column)) (sym field_is) (column_fit fields t at field column are lt))
