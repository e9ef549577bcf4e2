-- The file of the sections of columns is the image of their rows.
use Rattle.std.proofs.Common.{◌≡◌, ◌<◌, ◌≤◌, ◌^◌, ◌∙◌, ◌∷◌, ◌++◌, [], true, false, ℕ, List, Option, Some, length, map, get_or, sym, subst, arith}
use Rattle.std.specs.List.{All, concat}
use Rattle.values.specs.declared.value.Value.{Value}
use Rattle.values.specs.Columns.{Counts, Listed, ListedColumns, rows_of}
use Rattle.values.proofs.RowLemmas.{length-rows}
use Rattle.table_schema.specs.ValidTable.{AreRows, IsRow, IsValidTable}
use Rattle.table_schema.specs.declared.field.Field.{Field}
use Rattle.table_schema.specs.declared.table.Table.{Table}
use Rattle.value_ids.specs.Dictionary.{distinct, most_values}
use Rattle.segment_file.specs.Bounds.{IsShort}
use Rattle.segment_file.specs.Front.{Front, file_end, front_bytes}
use Rattle.segment_file.specs.Image.{front_of, image, sections_of_rows, values_in}
use Rattle.segment_file.specs.Names.{IsSegmentName}
use Rattle.segment_file.specs.Ordered.{ordered, value_in}
use Rattle.segment_build.specs.Fitting.{AreColumns, FitsKind}
use Rattle.segment_build.proofs.ColumnLemmas.{column_values}
use Rattle.segment_build.proofs.SectionLemmas.{made_all}
use Rattle.segment_build.proofs.Stable.{ordered_count, same_distinct}
use Rattle.std.proofs.lemmas.List.{length-map}
use Rattle.std.proofs.lemmas.Bool.{ltb-true}
use Rattle.table_schema.specs.ValidSettings.{IsValidTree, is_known_number}
use Rattle.segment_build.proofs.Fits.{column_fit, rows_few}
use Rattle.segment_build.proofs.Sizes.{IsModest, IsSmall, file_short, made_small, nodes_small, short_values, stars_small}
use Rattle.segment_build.specs.Growing.{TreesFit, nodes_grown, stars_grown}
use Rattle.segment_file.proofs.ImageRows.{ordered_all}
use Rattle.segment_file.proofs.TreeRows.{TreeSections, tree_sections}
use Rattle.segment_file.specs.Trees.{TreeFits}
use Rattle.table_schema.specs.declared.settings.TreeSetting.{TreeSetting}
use Rattle.segment_build.proofs.ColumnCodes.{in_rows, rows_most}

no_column : Listed
no_column = record { are_texts = false; values = [] }

-- the values of a column of a table are few and short
modest_at : (fields : List Field) (t : ListedColumns) (at : ℕ) (field : Field) → AreColumns fields t → at < length fields → IsModest (rows_of t) at
modest_at fields t at field are lt =
    let column : Listed = get_or t.columns at no_column in
    let below : at < length t.columns = omega (arith, lt, are.width) in
    let values : values_in at (rows_of t) ≡ column.values = column_values t.count t.columns at no_column are.counts below in
    let fits : FitsKind (get_or fields at field).kind column = column_fit fields t at field no_column are lt in
    record {
      at_most = subst (λ (vs : List Value). length vs ≤ most_values) (sym values) fits.at_most;
      short = subst (λ (vs : List Value). All IsShort (distinct vs)) (sym values) (short_values (get_or fields at field).kind column.values fits.fit);
    }

modest : (fields : List Field) (t : ListedColumns) (at : ℕ) → AreColumns fields t → at < length fields → IsModest (rows_of t) at
modest [] t at are lt = absurd (omega (arith, lt))
modest (f ∷ fs) t at are lt = modest_at (f ∷ fs) t at f are lt

-- rows in their order have the values of the rows as they came
still_modest : (sorted : Option ℕ) (rows : List (List Value)) (at : ℕ) → IsModest rows at → IsModest (ordered sorted rows) at
still_modest sorted rows at modest = record {
  at_most = omega (arith, length-map (ordered sorted rows) (value_in at), length-map rows (value_in at), ordered_count sorted rows, modest.at_most);
  short = subst (All IsShort) (sym (same_distinct at sorted rows)) modest.short;
}

-- they are rows of the table
rows_each : (table : Table) (t : ListedColumns) → AreColumns table.schema.fields t → All (IsRow table.schema.fields) (in_rows table t)
rows_each table t are = ordered_all (IsRow table.schema.fields) table.settings.sorted (rows_of t) are.rows.each

pub rows_limit : (table : Table) (t : ListedColumns) → AreColumns table.schema.fields t → length (in_rows table t) ≤ 1048576
rows_limit table t are = omega (arith, ordered_count table.settings.sorted (rows_of t), rows_most table.schema.fields t are)

sections_small : (table : Table) (t : ListedColumns) → IsValidTable table → AreColumns table.schema.fields t → TreesFit table (rows_of t) → All IsSmall (sections_of_rows table (in_rows table t))
sections_small table t valid are fits =
    let sorted : Option ℕ = table.settings.sorted in
    let fields : List Field = table.schema.fields in
    let trees = table.settings.trees in
    let limit = rows_limit table t are in
    let each = rows_each table t are in
    subst (All IsSmall) (made_all table (in_rows table t) valid)
    (made_small table (in_rows table t) (length fields) (nodes_grown (in_rows table t) trees) (stars_grown (in_rows table t) trees) valid.schema.at_most (omega (arith, ordered_count sorted (rows_of t), rows_most fields t are))
    (λ c below. still_modest sorted (rows_of t) c (modest fields t c are below))
    (nodes_small fields (in_rows table t) trees valid.settings.trees_valid limit each fits)
    (stars_small fields (in_rows table t) trees valid.settings.trees_valid limit each fits))

-- the sections of a tree over them
pub tree_made : (table : Table) (t : ListedColumns) (tree : TreeSetting) → AreColumns table.schema.fields t → IsValidTree table.schema.fields tree → TreeFits (in_rows table t) tree → TreeSections (in_rows table t) tree
tree_made table t tree are valid fits = tree_sections table.schema.fields (in_rows table t) tree valid (rows_limit table t are) (rows_each table t are) fits

-- what the front says of these columns
front_is : (table : Table) (t : ListedColumns) (rows : ℕ) (sections : List (List ℕ)) → All (Counts t.count) t.columns → rows ≡ t.count → sections ≡ sections_of_rows table (in_rows table t)
    → ◌≡◌ {A = Front} (record { format = 1; rows = rows; sizes = map length sections }) (front_of 1 table (in_rows table t))
front_is table t rows sections counts number are =
    let count : rows ≡ length (in_rows table t) = number ∙ sym (length-rows t.count t.columns counts) ∙ sym (ordered_count table.settings.sorted (rows_of t)) in
    (λ i. record { format = 1; rows = count i; sizes = map length (are i) })

pub built_short : (table : Table) (name : List ℕ) (t : ListedColumns) (rows : ℕ) (sections : List (List ℕ)) → IsValidTable table → IsSegmentName name → AreColumns table.schema.fields t
    → TreesFit table (rows_of t) → rows ≡ t.count → sections ≡ sections_of_rows table (in_rows table t) → file_end table name (record { format = 1; rows = rows; sizes = map length sections }) < 2 ^ 64
built_short table name t rows sections valid named columns fits number are =
    subst (λ (f : Front). file_end table name f < 2 ^ 64) (sym (front_is table t rows sections columns.counts number are))
    (file_short table name (in_rows table t) valid named (sections_small table t valid columns fits))

pub built_image : (table : Table) (name : List ℕ) (t : ListedColumns) (rows : ℕ) (sections : List (List ℕ)) (file : List ℕ) → All (Counts t.count) t.columns
    → rows ≡ t.count → sections ≡ sections_of_rows table (in_rows table t)
    → file ≡ front_bytes table name (record { format = 1; rows = rows; sizes = map length sections }) ++ concat sections → file ≡ image 1 table name (rows_of t)
built_image table name t rows sections file counts number are is =
    is ∙ (λ i. front_bytes table name (front_is table t rows sections counts number are i) ++ concat (are i))

-- no table has more rows than 32 bits count
pub rows_fit : (table : Table) (t : ListedColumns) (rows : ℕ) → All (Counts t.count) t.columns → AreRows table.schema.fields (rows_of t) → rows ≡ t.count → rows < 2 ^ 32
rows_fit table t rows counts are number =
    let at_most = rows_few t table.schema.fields counts are.at_most in
    omega (arith, at_most, number)

-- ---- the sorted column

pub known_below : (table : Table) (m : ℕ) → IsValidTable table → table.settings.sorted ≡ Some m → m < length table.schema.fields
known_below table m valid is = ltb-true m (length table.schema.fields) (subst (λ (o : Option ℕ). is_known_number table.schema.fields o ≡ true) is valid.settings.sorted_known)
