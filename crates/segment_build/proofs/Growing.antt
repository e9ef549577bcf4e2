-- The rows of a segment as documents of its trees, by the columns of their ids and numbers.
use Rattle.std.proofs.Common.{◌≡◌, ◌∙◌, ◌<◌, ◌≤◌, ◌+◌, ℕ, zero, suc, ℤ, List, [], ◌∷◌, ◌++◌, length, map, get_or, take, replicate, Option, Some, None, Bool, true, false, refl, sym, ap, subst, arith}
use Rattle.std.specs.Prelude.{pos, slice_get}
use Rattle.std.specs.List.{All, list_all}
use Rattle.std.proofs.lemmas.Bool.{false≢true, ltb-true}
use Rattle.std.specs.Option.{option_map_or}
use Rattle.std.proofs.lemmas.List.{get_or-map, length-map, map-append, take_all, take_more}
use Rattle.std.proofs.lemmas.List.Elements.{All-head, All-map, All-nil, All-cons, All-push, All-tail}
use Rattle.std.proofs.lemmas.Simd.{map-map}
use Rattle.values.specs.declared.value.Value.{Value}
use Rattle.values.specs.Columns.{Listed, ListedColumns, rows_of}
use Rattle.values.proofs.RowLemmas.{length-rows}
use Rattle.agg_laws.specs.declared.aggregate_kind.AggKind.{AggKind}
use Rattle.agg_laws.specs.declared.aggregate_kind.AggKind.TheVariants as kinds
use Rattle.state_columns.specs.Docs.{Doc, projected}
use Rattle.table_schema.specs.declared.field.Field.{Field}
use Rattle.table_schema.specs.declared.query.Agg.{Agg}
use Rattle.table_schema.specs.declared.settings.TreeSetting.{TreeSetting}
use Rattle.table_schema.specs.Roles.{is_numeric}
use Rattle.table_schema.specs.ValidSettings.{is_number_of, pair_fits}
use Rattle.segment_file.proofs.ImageRows.{and_first, and_second}
use Rattle.value_ids.specs.Dictionary.{distinct}
use Rattle.star_rows.specs.Columns as records
use Rattle.segment_file.specs.Columns.{ids_of, place_of, values_in}
use Rattle.segment_file.specs.Ordered.{value_in}
use Rattle.segment_file.specs.Trees.{TreeFits, documents, id_in, number_for, number_of, tree_row}
use Rattle.segment_build.specs.Fitting.{AreColumns}
use Rattle.segment_build.specs.Numbers.{IsKnown, numbers_for}
use Rattle.segment_build.proofs.ColumnLemmas.{column_values}
use Rattle.segment_build.proofs.Stable.{ids_count}

-- ---- rows by columns

module _ (os : List (List Value)) (n : ℕ) (lt : n < length os) where
  id_at : (c : ℕ) → get_or (ids_of os c) n 0 ≡ id_in os (get_or os n []) c
  id_at c =
      let place : Value → ℕ = place_of (distinct (values_in c os)) in
      get_or-map place (values_in c os) n (value_in c []) 0 (omega (arith, lt, length-map os (value_in c))) ∙ ap place (get_or-map (value_in c) os n [] (value_in c []) lt)

  ids_at : (split : List ℕ) → records.row_at 0 n (map (ids_of os) split) ≡ map (id_in os (get_or os n [])) split
  ids_at [] = refl
  ids_at (c ∷ split) = (λ i. id_at c i ∷ ids_at split i)

  numbers_at : (pairs : List Agg) → records.row_at (pos 0) n (map (λ p. map (λ row. number_for row p) os) pairs) ≡ map (number_for (get_or os n [])) pairs
  numbers_at [] = refl
  numbers_at (p ∷ pairs) = (λ i. get_or-map (λ row. number_for row p) os n [] (pos 0) lt i ∷ numbers_at pairs i)

rows_made : (os : List (List Value)) (tree : TreeSetting) (n : ℕ) → n ≤ length os → records.rows_of n (map (ids_of os) tree.split) (map (λ p. map (λ row. number_for row p) os) tree.pairs) ≡ map (tree_row os tree) (take n os)
rows_made os tree zero le = refl
rows_made os tree (suc n) le =
    let lt : n < length os = omega (arith, le) in
    let next : suc n ≡ n + 1 = omega arith in
    let row : List Value = get_or os n [] in
    let one : take (suc n) os ≡ take n os ++ row ∷ [] = ap (λ k. take k os) next ∙ take_more os n [] lt in
    (λ i. rows_made os tree n (omega (arith, le)) i ++ ((ids_at os n lt tree.split i, numbers_at os n lt tree.pairs i) ∷ []))
    ∙ sym (map-append (tree_row os tree) (take n os) (row ∷ []))
    ∙ ap (map (tree_row os tree)) (sym one)

count_split : (os : List (List Value)) (split : List ℕ) → 0 < length split → records.row_count (map (ids_of os) split) ≡ length os
count_split os [] some = absurd (omega (arith, some))
count_split os (c ∷ split) some = ids_count os c

-- columns of the ids and of the numbers of rows are these rows
pub docs_made : (os : List (List Value)) (tree : TreeSetting) (dims : List (List ℕ)) (metrics : List (List ℤ)) (docs : List Doc) → 0 < length tree.split → dims ≡ map (ids_of os) tree.split → metrics ≡ map (λ p. map (λ row. number_for row p) os) tree.pairs
    → docs ≡ projected tree.shape.kinds (records.rows_of (records.row_count dims) dims metrics) → docs ≡ documents os tree
docs_made os tree dims metrics docs some dims_are metrics_are is =
    is
    ∙ (λ i. projected tree.shape.kinds (records.rows_of (records.row_count (dims_are i)) (dims_are i) (metrics_are i)))
    ∙ ap (λ n. projected tree.shape.kinds (records.rows_of n (map (ids_of os) tree.split) (map (λ p. map (λ row. number_for row p) os) tree.pairs))) (count_split os tree.split some)
    ∙ ap (projected tree.shape.kinds) (rows_made os tree (length os) (omega arith) ∙ ap (map (tree_row os tree)) (take_all (length os) os (omega arith)))

pub dims_count : (os : List (List Value)) (split : List ℕ) (dims : List (List ℕ)) → 0 < length split → dims ≡ map (ids_of os) split → records.row_count dims ≡ length os
dims_count os split dims some are = ap records.row_count are ∙ count_split os split some

pub dims_long : (os : List (List Value)) (split : List ℕ) (dims : List (List ℕ)) → 0 < length split → dims ≡ map (ids_of os) split → All (λ c. length c ≡ records.row_count dims) dims
dims_long os split dims some are =
    let n : ℕ = records.row_count dims in
    subst (All (λ c. length c ≡ n)) (sym are) (All-map (λ (c : List ℕ). length c ≡ n) (ids_of os) split (λ k d lt. ids_count os (get_or split k d) ∙ sym (dims_count os split dims some are)))

pub metrics_long : (os : List (List Value)) (pairs : List Agg) (metrics : List (List ℤ)) (n : ℕ) → n ≡ length os → metrics ≡ map (λ p. map (λ row. number_for row p) os) pairs → All (λ c. length c ≡ n) metrics
metrics_long os pairs metrics n count are =
    let f : Agg → List ℤ = λ p. map (λ row. number_for row p) os in
    subst (All (λ c. length c ≡ n)) (sym are) (All-map (λ (c : List ℤ). length c ≡ n) f pairs (λ k d lt. length-map os (λ row. number_for row (get_or pairs k d)) ∙ sym count))

-- ---- the numbers of a column

map_same : {X : Type 0} (x : ℤ) (xs : List X) → map (λ y. x) xs ≡ replicate (length xs) x
map_same x [] = refl
map_same x (y ∷ ys) = ap (λ zs. x ∷ zs) (map_same x ys)

column_numbers : (fields : List Field) (t : ListedColumns) (column : Option ℕ) → AreColumns fields t → IsKnown (length t.columns) column
    → numbers_for t column ≡ map (λ row. option_map_or (λ c. number_of (value_in c row)) column (pos 0)) (rows_of t)
column_numbers fields t None are known =
    let count : t.count ≡ length (rows_of t) = sym (length-rows t.count t.columns are.counts) in
    ap (λ n. replicate n (pos 0)) count ∙ sym (map_same (pos 0) (rows_of t))
column_numbers fields t (Some c) are known =
    let none : Listed = record { are_texts = false; values = [] } in
    let rows : List (List Value) = rows_of t in
    let values : values_in c rows ≡ (get_or t.columns c none).values = column_values t.count t.columns c none are.counts known in
    sym (sym (map-map number_of (value_in c) rows) ∙ ap (map number_of) values)

pub pair_columns : (fields : List Field) (t : ListedColumns) (pairs : List Agg) → AreColumns fields t → All (λ p. IsKnown (length t.columns) p.column) pairs
    → map (λ p. numbers_for t p.column) pairs ≡ map (λ p. map (λ row. number_for row p) (rows_of t)) pairs
pair_columns fields t [] are known = refl
pair_columns fields t (p ∷ pairs) are known =
    let K : Agg → Type 0 = λ q. IsKnown (length t.columns) q.column in
    let here = column_numbers fields t p.column are (All-head K p pairs known) in
    let more = pair_columns fields t pairs are (All-tail K p pairs known) in
    (λ i. here i ∷ more i)

-- ---- the columns of pairs

numeric_within : (fields : List Field) (c : ℕ) → is_numeric (slice_get fields c) ≡ true → c < length fields
numeric_within [] c is = absurd (false≢true is)
numeric_within (f ∷ fs) zero is = omega arith
numeric_within (f ∷ fs) (suc c) is = omega (arith, numeric_within fs c is)

pair_known : (fields : List Field) (n : ℕ) (k : AggKind) (column : Option ℕ) → n ≡ length fields → pair_fits fields k column ≡ true → IsKnown n column
pair_known fields n k None count fit = tt
pair_known fields n kinds.Count (Some c) count fit = absurd (false≢true fit)
pair_known fields n kinds.Sum (Some c) count fit = omega (arith, numeric_within fields c fit, count)
pair_known fields n kinds.Least (Some c) count fit = omega (arith, numeric_within fields c fit, count)
pair_known fields n kinds.Greatest (Some c) count fit = omega (arith, numeric_within fields c fit, count)
pair_known fields n kinds.Average (Some c) count fit = omega (arith, numeric_within fields c fit, count)

pub pairs_known : (fields : List Field) (n : ℕ) (pairs : List Agg) → n ≡ length fields → list_all (λ p. pair_fits fields p.kind p.column) pairs ≡ true → All (λ p. IsKnown n p.column) pairs
pairs_known fields n [] count fit = All-nil (λ (p : Agg). IsKnown n p.column)
pairs_known fields n (p ∷ pairs) count fit =
    let F : Agg → Bool = λ q. pair_fits fields q.kind q.column in
    All-cons (λ (q : Agg). IsKnown n q.column) p pairs (pair_known fields n p.kind p.column count (and_first (F p) (list_all F pairs) fit)) (pairs_known fields n pairs count (and_second (F p) (list_all F pairs) fit))

-- ---- the columns of split dimensions

pub split_within : (fields : List Field) (n : ℕ) (split : List ℕ) → n ≡ length fields → list_all (is_number_of fields) split ≡ true → All (λ c. c < n) split
split_within fields n [] count known = All-nil (λ c. c < n)
split_within fields n (c ∷ split) count known =
    let own = ltb-true c (length fields) (and_first (is_number_of fields c) (list_all (is_number_of fields) split) known) in
    All-cons (λ d. d < n) c split (omega (arith, own, count)) (split_within fields n split count (and_second (is_number_of fields c) (list_all (is_number_of fields) split) known))

-- ---- one more tree

pub fits_more : (os : List (List Value)) (trees : List TreeSetting) (i : ℕ) (tree : TreeSetting) → i < length trees → tree ≡ get_or trees i tree → All (TreeFits os) (take i trees) → TreeFits os tree → All (TreeFits os) (take (i + 1) trees)
fits_more os trees i tree lt at so_far one =
    subst (All (TreeFits os)) (sym (take_more trees i tree lt)) (All-push (TreeFits os) (take i trees) (get_or trees i tree) so_far (subst (TreeFits os) at one))

pub grown_more : (f : TreeSetting → List ℕ) (trees : List TreeSetting) (i : ℕ) (tree : TreeSetting) (old new : List (List ℕ)) (section : List ℕ) → i < length trees → tree ≡ get_or trees i tree → section ≡ f tree → old ≡ map f (take i trees) → new ≡ old ++ section ∷ [] → new ≡ map f (take (i + 1) trees)
grown_more f trees i tree old new section lt at one so_far more =
    more
    ∙ (λ j. so_far j ++ (one ∙ ap f at) j ∷ [])
    ∙ sym (map-append f (take i trees) (get_or trees i tree ∷ []))
    ∙ ap (map f) (sym (take_more trees i tree lt))
