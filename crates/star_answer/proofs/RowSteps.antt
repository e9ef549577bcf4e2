-- The rows of a segment as a star-tree has them, and a head that tells of them.
use Rattle.std.proofs.Common.{◌≡◌, ◌∙◌, ◌<◌, ◌^◌, ◌||◌, ◌==◌, ℕ, zero, suc, Bool, true, false, All, List, [], ◌∷◌, length, map, get_or, Option, Some, None, refl, sym, ap, subst, arith, eq-eqb, ltb-true}
use Rattle.std.specs.Prelude.{pos, negsuc, slice_get, if◌then◌else◌}
use Rattle.std.specs.List.{list_all}
use Rattle.std.specs.Option.{option_map_or}
use Rattle.std.proofs.lemmas.Bool.{false≢true}
use Rattle.std.proofs.lemmas.Int.{ints}
use Rattle.std.proofs.lemmas.List.{get_or-map, length-map}
use Rattle.std.proofs.lemmas.List.Elements.{All-head, All-tail}
use Rattle.std.proofs.lemmas.List.Folds.{list_any_at}
use Rattle.values.specs.declared.value.Value.{Value}
use Rattle.values.specs.declared.value.Value.TheVariants.{Whole, Text}
use Rattle.values.specs.Kinds.{fits}
use Rattle.values.specs.Order.{value_eq}
use Rattle.values.specs.Order.Laws.{value_eq-equiv}
use Rattle.values.specs.Tests.{is_member}
use Rattle.values.proofs.Bounds.{same_value}
use Rattle.agg_laws.specs.Numbers.{AreWhole, IsWhole}
use Rattle.agg_laws.specs.Tree.{star}
use Rattle.value_ids.specs.Dictionary.{distinct}
use Rattle.value_ids.proofs.DistinctLemmas.{distinct_members}
use Rattle.table_schema.specs.declared.field.Field.{Field}
use Rattle.table_schema.specs.declared.query.Agg.{Agg}
use Rattle.table_schema.specs.declared.settings.TreeSetting.{TreeSetting}
use Rattle.table_schema.specs.declared.table.Table.{Table}
use Rattle.table_schema.specs.Columns as columns
use Rattle.table_schema.specs.ValidTable.{IsRow, is_row}
use Rattle.group_table.specs.Groups as groups
use Rattle.segment_head.specs.Heads.{IsLoaded, Seen}
use Rattle.segment_file.specs.Image.{place_of, values_in}
use Rattle.segment_head.specs.Laws.{HeadTellsTrees}
use Rattle.segment_file.specs.Ordered.{value_in}
use Rattle.segment_file.specs.Trees.{id_in, number_for, number_of, tree_row, written}
use Rattle.segment_file.proofs.Tails.{unmapped}
use Rattle.segment_file.proofs.WholeNumbers.{pair_whole}
use Rattle.segment_file.proofs.ImageRows.{and_first, and_second, members_all, not_true}
use Rattle.segment_plan.specs.Laws.{TellsOf}
use Rattle.segment_plan.specs.Matched as head_values
use Rattle.segment_plan.specs.Matched.{passes, values_of}
use Rattle.star_reader.specs.declared.asked.GroupColumn.{GroupColumn}
use Rattle.star_answer.specs.Served.{AreProjected, IsProjected}
use Rattle.segment_reads.specs.Docs.{field_of, row_values}
use Rattle.star_answer.specs.OfRows.{AsksOfRows, ColumnsOfRows, NodesOfRows, RowsAreProjected}
use Rattle.star_answer.specs.Tasks.{split_values, value_at}

-- ---- ids and values

-- the number of a member leads back to it
place_found : (w : Value) (ws : List Value) (v : Value) (same : Bool) → value_eq w v ≡ same
    → (value_eq v w ≡ true → same ≡ true) → is_member (w ∷ ws) v ≡ true
    → (is_member ws v ≡ true → slice_get ws (place_of ws v) ≡ Some v)
    → slice_get (w ∷ ws) (if same then 0 else suc (place_of ws v)) ≡ Some v
place_found w ws v true e turn is rest = ap Some (same_value w v e)
place_found w ws v false e turn is rest =
    let other : value_eq v w ≡ false = not_true (value_eq v w) (λ x. false≢true (turn x)) in
    rest (subst (λ b. (b || is_member ws v) ≡ true) other is)

place_at : (vs : List Value) (v : Value) → is_member vs v ≡ true
    → slice_get vs (place_of vs v) ≡ Some v
place_at [] v is = absurd (false≢true is)
place_at (w ∷ ws) v is = place_found w ws v (value_eq w v) refl
    (λ e. sym (value_eq-equiv.symm v w) ∙ e) is (place_at ws v)

abbrev IsPlaced : List (List Value) → List Value → Type 0
IsPlaced os row = (c : ℕ) → slice_get (distinct (values_in c os)) (id_in os row c)
    ≡ Some (value_in c row)

all_placed : (os : List (List Value)) → All (IsPlaced os) os
all_placed os = λ k d lt c.
    (let vs : List Value = values_in c os in
    let P : Value → Type 0 = λ v. slice_get (distinct vs) (place_of (distinct vs) v) ≡ Some v in
    unmapped P (value_in c) os
    (members_all P vs (distinct vs) (λ v is. distinct_members v vs ∙ is) (place_at (distinct vs)))
    k d lt)

-- ---- numbers

same_number : (v : Value) → number_of v ≡ groups.number_of v
same_number (Whole z) = refl
same_number (Text t) = refl

one_number : (row : List Value) (column : Option ℕ)
    → option_map_or (λ c. number_of (value_in c row)) column (pos 0)
    ≡ option_map_or (λ c. groups.number_of (value_in c row)) column (pos 0)
one_number row None = refl
one_number row (Some c) = same_number (value_in c row)

same_numbers : (row : List Value) (pairs : List Agg)
    → map (number_for row) pairs ≡ map (λ pair. groups.number_for pair row) pairs
same_numbers row [] = refl
same_numbers row (p ∷ pairs) = λ i. one_number row p.column i ∷ same_numbers row pairs i

numbers_whole : (fields : List Field) (row : List Value) (pairs : List Agg)
    → is_row fields row ≡ true → AreWhole (map (number_for row) pairs)
numbers_whole fields row [] is = tt
numbers_whole fields row (p ∷ pairs) is =
    (pair_whole fields row p.column is, numbers_whole fields row pairs is)

-- ---- rows

row_projected : (fields : List Field) (os : List (List Value)) (tree : TreeSetting)
    (row : List Value) → IsRow fields row → IsPlaced os row
    → IsProjected tree.split tree.pairs (row_values os tree.split) row (tree_row os tree row)
row_projected fields os tree row is placed = record {
  as_many = length-map tree.split (id_in os row);
  ids = λ d lt. ap (slice_get (row_values os tree.split d))
      (get_or-map (id_in os row) tree.split d 0 star lt) ∙ placed (field_of tree.split d);
  numbers = same_numbers row tree.pairs;
  whole = numbers_whole fields row tree.pairs is;
}

all_projected : (fields : List Field) (os : List (List Value)) (tree : TreeSetting)
    (rows : List (List Value)) → All (IsRow fields) rows → All (IsPlaced os) rows
    → AreProjected tree.split tree.pairs (row_values os tree.split) rows
    (map (tree_row os tree) rows)
all_projected fields os tree [] each placed = tt
all_projected fields os tree (r ∷ rs) each placed = (
  row_projected fields os tree r (All-head (IsRow fields) r rs each)
      (All-head (IsPlaced os) r rs placed),
  all_projected fields os tree rs (All-tail (IsRow fields) r rs each)
      (All-tail (IsPlaced os) r rs placed),
)

pub rows_projected : RowsAreProjected
rows_projected fields rows tree each = all_projected fields rows tree rows each (all_placed rows)

-- ---- a head that tells of rows

loaded_values : (table : Table) (rows : List (List Value)) (head : Seen) (column : ℕ)
    → TellsOf table rows head → IsLoaded head column
    → head_values.values_in head column ≡ distinct (values_in column rows)
loaded_values table rows head column tells loaded =
    ap values_of loaded.1 ∙ ap (λ x. x.values) (tells.dictionaries_are column loaded.0 loaded.1)

pub asks_of_rows : AsksOfRows
asks_of_rows query table rows head split t tells loaded asks = record {
  filtered = asks.filtered;
  tested = asks.tested;
  passing = λ d id lt below is.
      (let on = sym (asks.tested d lt) ∙ is in
      let same : split_values head split d ≡ row_values rows split d =
      loaded_values table rows head (field_of split d) tells (loaded (field_of split d) on) in
      subst (λ vs. t.passes d id
      ≡ list_all (passes (field_of split d) (value_at vs id)) query.conjuncts) same
      (asks.passing d id lt (subst (λ vs. id < length vs) (sym same) below) is));
  grouped = asks.grouped;
}

pub columns_of_rows : ColumnsOfRows
columns_of_rows named split table rows head found tells loaded are = record {
  groups_are = are.groups_are;
  dims = are.dims;
  values_are = λ k d lt.
      (let f : GroupColumn → ℕ = λ c. field_of split c.dim in
      let column : ℕ = f (get_or found k d) in
      let many : k < length (map f found) = omega (arith, lt, length-map found f) in
      let own : columns.is_member (map f found) column ≡ true =
      list_any_at (λ m. m == column) (map f found) k 0 many
      (eq-eqb (get_or (map f found) k 0) column (get_or-map f found k d 0 lt)) in
      let among : columns.is_member named column ≡ true =
      subst (λ xs. columns.is_member xs column ≡ true) are.groups_are own in
      are.values_are k d lt ∙ loaded_values table rows head column tells (loaded column among));
}

pub nodes_of_rows : HeadTellsTrees → NodesOfRows
unfolding written
nodes_of_rows tells table name file rows whole head t tree said valid named can is part at loaded =
    (tells table name file rows whole head t tree said valid named can is part at loaded).nodes_are
