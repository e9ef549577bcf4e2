-- The rows of one key, and the places of rows that pass.
use Rattle.std.proofs.Common.{◌≡◌, ◌∙◌, ◌<◌, ◌≤◌, ◌+◌, ◌-◌, ◌++◌, ◌∷◌, [], ℕ, Bool, Option, Some, None, MatchOption, List, length, get_or, take, slice_get, ap, sym, subst, arith, pos}
use Rattle.std.specs.Map.{lookup}
use Rattle.std.proofs.lemmas.List.{get_or-map, length-map, map-append, take_more}
use Rattle.std.proofs.lemmas.Option.{get_or_from_slice_get}
use Rattle.values.specs.declared.value.Value.{Value}
use Rattle.values.specs.declared.value.Value.TheVariants.{Whole}
use Rattle.values.specs.Columns.{Listed, row_of}
use Rattle.value_ids.specs.Coding.{AreBelow}
use Rattle.table_schema.specs.declared.query.Agg.{Agg}
use Rattle.group_table.specs.Groups.{key_of}
use Rattle.group_table.specs.Kept.{key_eq}
use Rattle.group_table.specs.Pooled.{IsKeyAt, PooledTable}
use Rattle.scan_engine.specs.Places.{IsRun, rows_at}
use Rattle.coded_columns.specs.declared.coded.SegmentColumns.{SegmentColumns}
use Rattle.coded_columns.specs.declared.keyed_rows.KeyedRows.{KeyedRows}
use Rattle.table_schema.specs.Conditions.{cell}
use Rattle.coded_columns.specs.declared.coded.Coded.{Coded}
use Rattle.coded_columns.specs.IdColumns.{HasIds}
use Rattle.coded_columns.specs.Coded.{IsOfField, table_of}
use Rattle.coded_columns.specs.Keyed.{HoldsKeys}
use Rattle.coded_columns.specs.Slots.{in_slot}
use Rattle.coded_columns.proofs.KeyedSteps.{in_slot-none}
use Rattle.coded_columns.proofs.SlotLemmas.{in_slot-all, in_slot-map}
use Rattle.coded_scan.specs.declared.filtered_rows.FilteredRows.{FilteredRows}
use Rattle.coded_scan.specs.Passed.{passed}
use Rattle.coded_scan.specs.RowFilters.{all_let, passing}
use Rattle.coded_scan.proofs.AddSteps.{passing-below, passing-few}
use Rattle.coded_scan.proofs.RowFilterLemmas.{passing-both}

-- the places of one block more
pub passed-more : (holds : ℕ → Bool) (from n : ℕ) → passing holds 0 from ++ passing holds from n ≡ passing holds 0 (from + n)
passed-more holds from n =
    let none : 0 + from ≡ from = omega arith in
    ap (λ f. passing holds 0 from ++ passing holds f n) (sym none) ∙ sym (passing-both holds 0 from n)

-- the places that pass are those of rows
pub passed-below : (rows : FilteredRows) → AreBelow rows.segment.now.count (passed rows)
passed-below rows = passing-below (λ at. all_let at rows.row_filters.now) 0 rows.segment.now.count rows.segment.now.count (omega arith)

pub passed-few : (rows : FilteredRows) → length (passed rows) ≤ rows.segment.now.count
passed-few rows = passing-few (λ at. all_let at rows.row_filters.now) 0 rows.segment.now.count

-- the key by one group column more
pub key-next : (columns : List ℕ) (at : ℕ) (row : List Value) → at < length columns → key_of (take (at + 1) columns) row ≡ key_of (take at columns) row ++ cell row (get_or columns at 0) ∷ []
key-next columns at row lt = ap (λ (l : List ℕ). key_of l row) (take_more columns at 0 lt) ∙ map-append (cell row) (take at columns) (get_or columns at 0 ∷ [])

-- the id of a row has a value
pub id-known : (count : ℕ) (column : Coded) (row id : ℕ) → HasIds count column → row < count → id ≡ get_or column.ids.now row 0 → id < length column.dictionary.now.values
id-known count column row id has lt is = omega (arith, is, has.below row 0 (omega (arith, lt, has.count)))

-- which is that of the row
pub value-is : (segment : SegmentColumns) (field : ℕ) (column : Coded) (row id : ℕ) (value : Value) → IsOfField segment field column → row < segment.count → id ≡ get_or column.ids.now row 0
    → slice_get column.dictionary.now.values id ≡ Some value → value ≡ cell (row_of (table_of segment).columns row) field
value-is segment field column row id value of lt is got =
    let values : List Value = column.dictionary.now.values in
    sym (of.each row lt ∙ ap (λ i. get_or values i (Whole (pos 0))) (sym is) ∙ get_or_from_slice_get values id value (Whole (pos 0)) got)

-- a place that a key is found at is that of an equal key
pub found-key : (known : Option ℕ) (table : PooledTable) (key own : List Value) → key ≡ own
    → MatchOption known (lookup (key_eq key) table.slots ≡ None) (IsKeyAt table key) → MatchOption known (key ≡ own) (IsKeyAt table own)
found-key None table key own is found = is
found-key (Some at) table key own is found = subst (λ (k : List Value). IsKeyAt table k at) is found

module _ (segment : SegmentColumns) (groups : List ℕ) (aggs : List Agg) (keys places : List ℕ) (rows : KeyedRows) (h : HoldsKeys segment groups aggs keys places rows) where
  abbrev pub columns : List Listed
  columns = (table_of segment).columns

  -- a key that has no first row has none
  pub key-none : (k : ℕ) → k < length rows.firsts.items → get_or rows.firsts.items k 0 ≡ 0 → in_slot k keys (rows_at columns places) ≡ []
  key-none k lt e = in_slot-none keys k (rows_at columns places) ((h.firsts k lt).none e)

  -- the rows of a key have the values of its first row
  pub key-run : (k : ℕ) (values : List Value) → k < length rows.firsts.items → 0 < get_or rows.firsts.items k 0 → values ≡ key_of groups (row_of columns (get_or rows.firsts.items k 0 - 1)) → IsRun groups values (in_slot k keys (rows_at columns places))
  key-run k values lt some is =
      let first : ℕ = get_or rows.firsts.items k 0 - 1 in
      let many : length (rows_at columns places) ≡ length places = length-map places (row_of columns) in
      record {
        width = ap length is ∙ length-map groups (λ (g : ℕ). get_or (row_of columns first) g (Whole (pos 0)));
        each = in_slot-all (λ row. key_of groups row ≡ values) k keys (rows_at columns places) (row_of columns 0)
            (λ j j_lt e.
            let j_in : j < length places = omega (arith, j_lt, many) in
            ap (key_of groups) (get_or-map (row_of columns) places j 0 (row_of columns 0) j_in)
            ∙ (h.firsts k lt).same some j j_in e ∙ sym is);
        some =
            let has = (h.firsts k lt).has some in
            omega (arith, has, ap length (in_slot-map (row_of columns) k keys places), length-map (in_slot k keys places) (row_of columns));
      }

  pub as-many : length keys ≡ length (rows_at columns places)
  as-many = h.count ∙ sym (length-map places (row_of columns))

  pub keys-below : (k : ℕ) → k < length (rows_at columns places) → get_or keys k 0 < length rows.firsts.items
  keys-below k lt = h.below k (omega (arith, lt, as-many))
