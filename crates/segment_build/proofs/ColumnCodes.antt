-- The ids of the columns of a table, and their sections.
use Rattle.std.proofs.Common.{◌≡◌, ◌<◌, ◌≤◌, ◌+◌, ◌∙◌, Bool, true, false, ℕ, List, length, get_or, sym, ap, subst, arith}
use Rattle.values.specs.declared.value.Value.{Value}
use Rattle.values.specs.Columns.{ListedColumns, rows_of}
use Rattle.table_schema.specs.ValidTable.{IsValidTable}
use Rattle.table_schema.specs.declared.field.Field.{Field}
use Rattle.table_schema.specs.declared.table.Table.{Table}
use Rattle.value_ids.specs.Dictionary.{Distinct, most_values}
use Rattle.segment_file.specs.Image.{count_of}
use Rattle.segment_file.specs.Ordered.{ordered}
use Rattle.segment_build.specs.Fitting.{AreColumns}
use Rattle.segment_build.specs.declared.indexes.Indexes.{Indexes}
use Rattle.segment_build.specs.declared.coding.RowOrder.{RowOrder}
use Rattle.segment_build.specs.Arranging.{IsCoded, Orders}
use Rattle.segment_build.specs.Sections.{Made, made_of, with_column}
use Rattle.segment_build.proofs.Arranged.{sorted_up}
use Rattle.segment_build.proofs.ColumnLemmas.{made_more}
use Rattle.segment_build.proofs.Stable.{ids_below, ids_count, ordered_count}
use Rattle.table_schema.specs.NeedIds.{is_the_number}
use Rattle.value_ids.specs.Coding.{AreBelow}
use Rattle.std.specs.List.Sorted.{IsNonDecreasing}

-- the rows of a table in their order
abbrev pub in_rows : Table → ListedColumns → List (List Value)
in_rows table t = ordered table.settings.sorted (rows_of t)

pub rows_most : (fields : List Field) (t : ListedColumns) → AreColumns fields t → length (rows_of t) ≤ most_values
rows_most fields t are =
    let at_most = are.rows.at_most in
    omega (arith, at_most)

-- ---- the ids of one more column, and its sections

pub coded_few : (table : Table) (t : ListedColumns) (at : ℕ) (d : Distinct) (ids : List ℕ) → AreColumns table.schema.fields t → IsCoded table t at d ids → length ids ≤ 1048576
coded_few table t at d ids are coded =
    omega (arith, ap length coded.ids_is, ids_count (in_rows table t) at, ordered_count table.settings.sorted (rows_of t), rows_most table.schema.fields t are)

pub coded_below : (table : Table) (t : ListedColumns) (at : ℕ) (d : Distinct) (ids : List ℕ) → IsCoded table t at d ids → AreBelow (length d.values) ids
coded_below table t at d ids coded =
    subst (λ (x : Distinct). AreBelow (length x.values) ids) (sym coded.distinct_is) (subst (AreBelow (count_of (in_rows table t) at)) (sym coded.ids_is) (ids_below (in_rows table t) at))

pub coded_up : (table : Table) (t : ListedColumns) (at : ℕ) (o : RowOrder) (d : Distinct) (ids : List ℕ) (is : Bool) → Orders table.settings.sorted (rows_of t) o → IsCoded table t at d ids
    → is ≡ is_the_number at table.settings.sorted → is ≡ true → IsNonDecreasing ids
coded_up table t at o d ids is orders coded number holds = subst IsNonDecreasing (sym coded.ids_is) (sorted_up table.settings.sorted (rows_of t) o at orders (sym number ∙ holds))

pub coded_more : (table : Table) (t : ListedColumns) (at : ℕ) (d : Distinct) (ids : List ℕ) (indexes : Indexes) (made new : Made) → IsValidTable table → at < length table.schema.fields → IsCoded table t at d ids
    → indexes.sorted ≡ is_the_number at table.settings.sorted → indexes.inverted ≡ get_or table.settings.inverted at false
    → indexes.ranged ≡ get_or table.settings.ranged at false → made ≡ made_of table (in_rows table t) at → new ≡ with_column d ids indexes made → new ≡ made_of table (in_rows table t) (at + 1)
coded_more table t at d ids indexes made new valid lt coded is_sorted is_inverted is_ranged so_far more =
    more ∙ (λ i. with_column (coded.distinct_is i) (coded.ids_is i) indexes (so_far i))
    ∙ made_more table (in_rows table t) at indexes (omega (arith, lt, valid.settings.each_inverted)) (omega (arith, lt, valid.settings.each_ranged)) is_sorted is_inverted is_ranged
