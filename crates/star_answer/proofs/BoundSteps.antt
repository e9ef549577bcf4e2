-- The bound on what a query reads of a tree of rows, by the values of each split dimension.
use Rattle.std.proofs.Common.{◌≡◌, ◌∙◌, ◌<◌, ◌≤◌, ◌+◌, ◌*◌, ◌==◌, ◌&&◌, ◌||◌, ℕ, zero, suc, Bool, true, false, List, [], ◌∷◌, cond, length, map, get_or, Option, Some, None, refl, sym, ap, subst, arith}
use Rattle.std.specs.Prelude.{pos, slice_get}
use Rattle.std.specs.List.{AllByRecursion, filter, list_all, list_any}
use Rattle.std.proofs.lemmas.Bool.{false≢true, ltb-true, or_parts}
use Rattle.std.proofs.lemmas.List.{get_or-map, length-map}
use Rattle.std.proofs.lemmas.List.Folds.{list_all_at, list_any_at}
use Rattle.std.proofs.lemmas.List.FromFn.{get_or-range_with_len, length-range_with_len}
use Rattle.std.proofs.lemmas.Option.{slice_get-get_or}
use Rattle.values.specs.declared.value.Value.{Value}
use Rattle.values.specs.declared.value.Value.TheVariants.{Whole}
use Rattle.agg_laws.specs.declared.tree_shape.TreeShape.{TreeShape}
use Rattle.state_columns.specs.Docs.{Doc, HaveIds}
use Rattle.state_columns.proofs.DocLemmas.{rows_join}
use Rattle.star_tree.specs.Picks as asks
use Rattle.star_tree.specs.Picks.{picks, read_of}
use Rattle.star_tree.specs.Reads as reads
use Rattle.star_tree.specs.Reads.{bound}
use Rattle.agg_laws.specs.Rows.{merged_rows}
use Rattle.agg_laws.specs.Tree.{HaveNoStar, ids_at, skips, tree_of}
use Rattle.table_schema.specs.declared.field.Field.{Field}
use Rattle.table_schema.specs.declared.query.BoundQuery.{BoundQuery}
use Rattle.table_schema.specs.declared.settings.TreeSetting.{TreeSetting}
use Rattle.table_schema.specs.declared.table.Table.{Table}
use Rattle.table_schema.specs.Columns.{is_member}
use Rattle.table_schema.specs.ValidSettings.{IsValidTree, is_number_of}
use Rattle.value_ids.specs.Dictionary.{Distinct, distinct}
use Rattle.segment_file.specs.Columns.{dictionary_of, values_in}
use Rattle.segment_head.specs.Heads.{Seen}
use Rattle.segment_file.specs.Parts.{columns_of}
use Rattle.segment_file.specs.Trees.{documents}
use Rattle.segment_file.proofs.ImageRows.{some_values}
use Rattle.segment_file.proofs.TreeRows.{count_rows, tree_no_star}
use Rattle.segment_plan.specs.declared.plans.SegmentPlan.{SegmentPlan}
use Rattle.segment_plan.specs.declared.plans.SegmentPlan.TheVariants.{Pruned, Empty, StarTree}
use Rattle.segment_plan.specs.Factors.{factor, factors_from, is_whole}
use Rattle.segment_plan.specs.Matched.{is_filtered, matched, passes, values_of}
use Rattle.segment_plan.specs.Matched as head_values
use Rattle.segment_plan.specs.Plan.{is_emptied, leaves_none, scan_of, tree_or}
use Rattle.segment_plan.specs.Planned.{factors_over, plan_over, told_head}
use Rattle.segment_plan.specs.Pruning.{is_pruned}
use Rattle.eligibility.specs.Rule.{picked}
use Rattle.star_answer.specs.DocLaws.{DocsAreBounded, DocsAreFew}
use Rattle.segment_reads.specs.Docs.{docs_in, docs_of, product, task_over, field_of}
use Rattle.star_answer.proofs.DocSteps.{tree_ids}
use Rattle.star_answer.proofs.FewDocs.{few_read}
use Rattle.star_answer.proofs.RowIds.{ids_are}
use Rattle.star_answer.proofs.SamePicks.{some_there}

-- ---- items that pass, and images that do

filter_images : {X : Type 0} (q : X → Bool) (f : ℕ → X) (ns : List ℕ)
    → length (filter (λ n. q (f n)) ns) ≡ length (filter q (map f ns))
filter_images q f [] = refl
filter_images q f (n ∷ ns) = by (q (f n)) (filter_images q f ns)
  where
    by : (b : Bool) → length (filter (λ m. q (f m)) ns) ≡ length (filter q (map f ns))
        → length (cond b (n ∷ filter (λ m. q (f m)) ns) (filter (λ m. q (f m)) ns))
        ≡ length (cond b (f n ∷ filter q (map f ns)) (filter q (map f ns)))
    by true more = ap suc more
    by false more = more

-- ---- the head that is told of rows has the distinct values of each column

told_values : (table : Table) (rows : List (List Value)) (column : ℕ)
    → column < length table.schema.fields
    → head_values.values_in (told_head table rows) column ≡ distinct (values_in column rows)
told_values table rows column lt =
    let made : ℕ → Distinct = dictionary_of table rows in
    let columns : List ℕ = columns_of table in
    let many = length-range_with_len 0 (length table.schema.fields) in
    let all : List Distinct = map made columns in
    let within : column < length all = omega (arith, lt, many, length-map columns made) in
    let slots : List (Option Distinct) = map Some all in
    let plain : 0 + column ≡ column = omega arith in
    ap values_of
    (slice_get-get_or slots column None (omega (arith, within, length-map all Some))
    ∙ ap Some (get_or-map Some all column (made 0) None within
    ∙ ap Some (get_or-map made columns column 0 (made 0) (omega (arith, lt, many))
    ∙ ap made (get_or-range_with_len 0 (length table.schema.fields) column 0 lt ∙ plain))))

known_at : (fields : List Field) (split : List ℕ) (d : ℕ) → d < length split
    → list_all (is_number_of fields) split ≡ true → field_of split d < length fields
known_at fields split d lt all =
    ltb-true (field_of split d) (length fields) (by (is_number_of fields (field_of split d)) refl)
  where
    by : (b : Bool) → is_number_of fields (field_of split d) ≡ b → b ≡ true
    by true is = refl
    by false is = absurd (false≢true
        (sym (list_all_at (is_number_of fields) split d 0 lt is) ∙ all))

-- a column that has a property is among all columns
some_column : (p : ℕ → Bool) (table : Table) (column : ℕ) → column < length table.schema.fields
    → p column ≡ true → list_any p (columns_of table) ≡ true
some_column p table column lt is =
    let n = length table.schema.fields in
    let plain : 0 + column ≡ column = omega arith in
    list_any_at p (columns_of table) column 0 (omega (arith, lt, length-range_with_len 0 n))
    (ap p (get_or-range_with_len 0 n column 0 lt ∙ plain) ∙ is)

-- ---- factors

module _ (query : BoundQuery) (table : Table) (rows : List (List Value)) (tree : TreeSetting)
    (valid : IsValidTree table.schema.fields tree) where
  abbrev seen : Seen
  seen = told_head table rows

  abbrev task : asks.Task
  task = task_over query rows tree.split

  abbrev docs : List Doc
  docs = documents rows tree

  abbrev own : ℕ → ℕ
  own d = reads.factor merged_rows task tree.shape docs d

  abbrev planned : ℕ → ℕ
  planned d = factor query seen (skips tree.shape d) (field_of tree.split d)

  -- a factor of the tree's documents is that of the values
  factor_same : (d : ℕ) → d < length tree.split → own d ≡ planned d
  factor_same d lt =
      let c = field_of tree.split d in
      let vs : List Value = distinct (values_in c rows) in
      let at : ℕ → Value = λ id. get_or vs id (Whole (pos 0)) in
      let ids : List ℕ = ids_at merged_rows d docs in
      let q : Value → Bool = λ v. list_all (passes c v) query.conjuncts in
      let those : map at ids ≡ vs = ids_are rows tree d lt in
      let told : vs ≡ head_values.values_in seen c = sym (told_values table rows c
      (known_at table.schema.fields tree.split d lt valid.split_known)) in
      let pass : length (filter (λ id. q (at id)) ids)
      ≡ matched query.conjuncts c (head_values.values_in seen c) =
      filter_images q at ids ∙ ap (λ ws. length (filter q ws)) (those ∙ told) in
      let many : length ids ≡ length (head_values.values_in seen c) =
      sym (length-map ids at) ∙ ap length (those ∙ told) in
      λ i. cond (is_filtered query.conjuncts c) (pass i)
      (cond (is_member query.groups c || skips tree.shape d) (many i) 1)

  -- the product of the factors from a level on
  factors_same : (level : ℕ) (split : List ℕ)
      → ((i : ℕ) → i < length split
      → own (level + i) ≡ factor query seen (skips tree.shape (level + i)) (get_or split i 0))
      → reads.factors_from merged_rows task tree.shape docs (length split) level
      ≡ product (factors_from query seen tree.shape level split)
  factors_same level [] each = refl
  factors_same level (c ∷ split) each =
      let here : level + 0 ≡ level = omega arith in
      let next : suc level ≡ level + 1 = omega arith in
      let first : own level ≡ factor query seen (skips tree.shape level) c =
      subst (λ n. own n ≡ factor query seen (skips tree.shape n) c) here (each 0 (omega arith)) in
      let rest = factors_same (level + 1) split (λ i lt.
      (let on : level + suc i ≡ level + 1 + i = omega arith in
      subst (λ n. own n ≡ factor query seen (skips tree.shape n) (get_or split i 0)) on
      (each (suc i) (omega (arith, lt))))) in
      (λ i. first i * reads.factors_from merged_rows task tree.shape docs (length split) (next i))
      ∙ ap (λ n. factor query seen (skips tree.shape level) c * n) rest

  product_same : reads.factors_from merged_rows task tree.shape docs (length tree.split) 0
      ≡ product (factors_over query table rows tree)
  product_same = factors_same 0 tree.split (λ i lt.
      (let plain : i ≡ 0 + i = omega arith in
      subst (λ n. own n ≡ factor query seen (skips tree.shape n) (get_or tree.split i 0)) plain
      (factor_same i lt)))

  -- where there are rows, and each column is left with a value, no factor is 0
  factor_some : 0 < length rows → is_emptied query.conjuncts table seen ≡ false → (d : ℕ)
      → d < length tree.split → 1 ≤ own d
  factor_some some left d lt =
      subst (λ n. 1 ≤ n) (sym (factor_same d lt))
      (by (is_filtered query.conjuncts c) refl (is_whole query (skips tree.shape d) c))
    where
      c : ℕ
      c = field_of tree.split d

      known : c < length table.schema.fields
      known = known_at table.schema.fields tree.split d lt valid.split_known

      there : (b : Bool) → leaves_none query.conjuncts seen c ≡ b → b ≡ false
      there false is = refl
      there true is = absurd (false≢true (sym left
          ∙ some_column (leaves_none query.conjuncts seen) table c known is))

      met : is_filtered query.conjuncts c ≡ true
          → 1 ≤ matched query.conjuncts c (head_values.values_in seen c)
      met on =
          let n = matched query.conjuncts c (head_values.values_in seen c) in
          some_there n (sym (ap (λ b. b && n == 0) on)
          ∙ there (leaves_none query.conjuncts seen c) refl)

      by : (f : Bool) → is_filtered query.conjuncts c ≡ f → (w : Bool)
          → 1 ≤ cond f (matched query.conjuncts c (head_values.values_in seen c))
          (cond w (length (head_values.values_in seen c)) 1)
      by true on w = met on
      by false off true =
          let same = ap length (told_values table rows c known) in
          omega (arith, same, some_values rows c some)
      by false off false = omega arith

-- ---- the plan

-- where the plan is a tree, there are rows, and each column is left with a value
planned_so : (p e : Bool) (rest : SegmentPlan) (t : ℕ)
    → cond p Pruned (cond e Empty rest) ≡ StarTree t → (p ≡ false) × (e ≡ false)
planned_so true e rest t is = absurd cc
planned_so false true rest t is = absurd cc
planned_so false false rest t is = (refl, refl)

tree_planned : (query : BoundQuery) (table : Table) (rows : List (List Value)) (t : ℕ)
    → plan_over query table rows ≡ StarTree t
    → (0 < length rows) × (is_emptied query.conjuncts table (told_head table rows) ≡ false)
tree_planned query table rows t is =
    let seen = told_head table rows in
    let parts = planned_so (is_pruned query seen) (is_emptied query.conjuncts table seen)
    (tree_or (scan_of query table seen) (picked query table.settings.trees)) t is in
    let none = or_parts (length rows == 0) _ parts.0 in
    (some_there (length rows) none.0, parts.1)

valid_at : (P : TreeSetting → Type 0) (trees : List TreeSetting) (k : ℕ) (tree : TreeSetting)
    → AllByRecursion P trees → slice_get trees k ≡ Some tree → P tree
valid_at P [] k tree all at = absurd cc
valid_at P (t ∷ ts) zero tree all at = let same : t ≡ tree = cc in subst P same all.0
valid_at P (t ∷ ts) (suc k) tree all at = valid_at P ts k tree all.1 at

-- what a tree of documents reads is bounded
abbrev pub ReadsAreBounded : Type 0
ReadsAreBounded = (t : asks.Task) (shape : TreeShape) (k : ℕ) (docs : List Doc)
    → HaveIds k docs → HaveNoStar k docs → 1 ≤ shape.leaf
    → ((d : ℕ) → d < k → 1 ≤ reads.factor merged_rows t shape docs d)
    → read_of (picks merged_rows t k (tree_of merged_rows shape k docs))
    ≤ bound merged_rows t shape docs k

pub docs_bounded : ReadsAreBounded → DocsAreBounded
unfolding docs_of
docs_bounded most query table rows t tree valid at_most plan at =
    let fields = table.schema.fields in
    let fine : IsValidTree fields tree =
    valid_at (IsValidTree fields) table.settings.trees t tree valid.settings.trees_valid at in
    let parts = tree_planned query table rows t plan in
    let dims = fine.has_dims in
    let task = task_over query rows tree.split in
    let docs : List Doc = documents rows tree in
    let k = tree.shape.dims in
    let leaf : 1 ≤ tree.shape.leaf = fine.has_leaf in
    let own = most task tree.shape k docs (tree_ids fields rows tree fine)
    (tree_no_star fields rows tree fine at_most) leaf
    (λ d lt. factor_some query table rows tree fine parts.0 parts.1 d (omega (arith, lt, dims))) in
    let factors : reads.factors_from merged_rows task tree.shape docs k 0
    ≡ product (factors_over query table rows tree) =
    ap (λ n. reads.factors_from merged_rows task tree.shape docs n 0) dims
    ∙ product_same query table rows tree fine in
    let most_docs = tree.shape.leaf * product (factors_over query table rows tree) in
    subst (λ o. docs_in query rows o ≤ most_docs) (sym at)
    (subst (λ n. docs_of query rows tree ≤ tree.shape.leaf * n) factors own)

-- ---- no more than there are rows

pub docs_few : DocsAreFew
unfolding docs_of
docs_few query table rows t valid at_most = by (slice_get table.settings.trees t) refl
  where
    by : (o : Option TreeSetting) → slice_get table.settings.trees t ≡ o
        → docs_in query rows o ≤ length rows
    by None at = omega arith
    by (Some tree) at =
        let fields = table.schema.fields in
        let fine : IsValidTree fields tree =
        valid_at (IsValidTree fields) table.settings.trees t tree valid.settings.trees_valid at in
        let size = count_rows rows tree rows in
        let own = few_read merged_rows rows_join (task_over query rows tree.split) tree.shape.dims
        tree.shape (documents rows tree) (tree_ids fields rows tree fine)
        (tree_no_star fields rows tree fine at_most) in
        omega (arith, own, size)
