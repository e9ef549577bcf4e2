-- A head that tells of rows has their plan, and what is written of it.
use Rattle.std.proofs.Common.{◌≡◌, ◌∙◌, ◌<◌, ◌+◌, ◌||◌, ◌==◌, ◌++◌, inl, inr, ℕ, zero, suc, true, List, [], ◌∷◌, length, map, Option, Some, None, IfSome, if◌then◌else◌, refl, sym, ap, subst, arith}
use Rattle.std.specs.List.{AllByRecursion, list_all, list_any, range_with_len, slice_get}
use Rattle.std.proofs.lemmas.Bool.{and_parts, eqb-true, false≢true, ltb-true, or_cases}
use Rattle.values.specs.declared.value.Value.{Value}
use Rattle.table_schema.specs.declared.field.Field.{Field}
use Rattle.table_schema.specs.declared.query.BoundQuery.{BoundQuery}
use Rattle.table_schema.specs.declared.query.Conjunct.{Conjunct}
use Rattle.table_schema.specs.declared.query.Conjunct.TheVariants.{One, Many}
use Rattle.table_schema.specs.declared.settings.TreeSetting.{TreeSetting}
use Rattle.table_schema.specs.declared.table.Table.{Table}
use Rattle.table_schema.specs.ValidQuery.{IsValidQuery, conjunct_known}
use Rattle.table_schema.specs.ValidSettings.{IsValidTree, is_number_of}
use Rattle.table_schema.specs.ValidTable.{IsValidTable}
use Rattle.segment_head.specs.Heads.{IsLoaded, Seen}
use Rattle.segment_file.specs.Image.{dictionary_of}
use Rattle.segment_plan.specs.declared.plans.SegmentPlan.{SegmentPlan}
use Rattle.segment_plan.specs.declared.plans.SegmentPlan.TheVariants.{Pruned, Empty, StarTree, Scan}
use Rattle.segment_plan.specs.Explained.{IsDetailed, explained_over, factors_text, plan_text, plan_word, tree_text}
use Rattle.segment_plan.specs.Factors.{AreWholeLoaded}
use Rattle.segment_plan.specs.Laws.{ExplainedIsOver, FactorsAreOver, PlanIsOver, TellsOf}
use Rattle.segment_plan.specs.Matched.{AreLoaded, is_filtered, is_on}
use Rattle.segment_plan.specs.Plan.{is_emptied, plan_of, scan_of, tree_or}
use Rattle.segment_plan.specs.Planned.{told_head}
use Rattle.segment_plan.specs.Pruning.{is_excluded, is_pruned}
use Rattle.eligibility.specs.Rule.{picked}
use Rattle.segment_plan.proofs.Images.{dictionary_at}
use Rattle.segment_plan.proofs.OneFactors.{one_factors}
use Rattle.segment_plan.proofs.OnePlan.{one_plan}

-- ---- the columns that a query names alone are fields of its table

on_known : (fields : List Field) (column : ℕ) (c : Conjunct) → is_on column c ≡ true → conjunct_known fields c ≡ true → is_number_of fields column ≡ true
on_known fields column (One named test) on known = subst (λ k. is_number_of fields k ≡ true) (eqb-true named column on) known
on_known fields column (Many wide) on known = absurd (false≢true on)

filtered_known : (fields : List Field) (column : ℕ) (conjuncts : List Conjunct) → is_filtered conjuncts column ≡ true → list_all (conjunct_known fields) conjuncts ≡ true → is_number_of fields column ≡ true
filtered_known fields column [] on known = absurd (false≢true on)
filtered_known fields column (c ∷ cs) on known =
    let parts = and_parts (conjunct_known fields c) (list_all (conjunct_known fields) cs) known in
    elim (or_cases (is_on column c) (is_filtered cs column) on) as (λ _. is_number_of fields column ≡ true) [ inl here ↦ on_known fields column c here parts.0 | inr there ↦ filtered_known fields column cs there parts.1 ]

listed_known : (fields : List Field) (columns : List ℕ) (k column : ℕ) → slice_get columns k ≡ Some column → list_all (is_number_of fields) columns ≡ true → is_number_of fields column ≡ true
listed_known fields [] k column at known = absurd cc
listed_known fields (c ∷ cs) zero column at known =
    let same : c ≡ column = cc in
    subst (λ n. is_number_of fields n ≡ true) same (and_parts (is_number_of fields c) (list_all (is_number_of fields) cs) known).0
listed_known fields (c ∷ cs) (suc k) column at known = listed_known fields cs k column at (and_parts (is_number_of fields c) (list_all (is_number_of fields) cs) known).1

-- ---- a head that is told of rows

slot_of : (table : Table) (rows : List (List Value)) (from count k : ℕ) → k < count → slice_get (map Some (map (dictionary_of table rows) (range_with_len from count))) k ≡ Some (Some (dictionary_of table rows (from + k)))
slot_of table rows from zero k lt = absurd (omega (arith, lt))
slot_of table rows from (suc count) zero lt =
    let same : from ≡ from + 0 = omega arith in
    ap (λ n. Some (Some (dictionary_of table rows n))) same
slot_of table rows from (suc count) (suc k) lt =
    let same : from + 1 + k ≡ from + suc k = omega arith in
    slot_of table rows (from + 1) count k (omega (arith, lt)) ∙ ap (λ n. Some (Some (dictionary_of table rows n))) same

module _ (table : Table) (rows : List (List Value)) where
  told_tells : TellsOf table rows (told_head table rows)
  told_tells = record { rows_are = refl; bounds_are = refl; dictionaries_are = dictionary_at table rows }

  told_loaded : (column : ℕ) → is_number_of table.schema.fields column ≡ true → IsLoaded (told_head table rows) column
  told_loaded column known =
      let lt : column < length table.schema.fields = ltb-true column (length table.schema.fields) known in
      let plain : 0 + column ≡ column = omega arith in
      (dictionary_of table rows column, slot_of table rows 0 (length table.schema.fields) column lt ∙ ap (λ n. Some (Some (dictionary_of table rows n))) plain)

  told_all : (query : BoundQuery) → IsValidQuery table query → AreLoaded query.conjuncts (told_head table rows)
  told_all query valid = λ column on. told_loaded column (filtered_known table.schema.fields column query.conjuncts on valid.conjuncts_known)

  told_whole : (query : BoundQuery) (tree : TreeSetting) → IsValidTree table.schema.fields tree → AreWholeLoaded query (told_head table rows) tree
  told_whole query tree valid = λ level column at whole. told_loaded column (listed_known table.schema.fields tree.split level column at valid.split_known)

-- ---- the plan and the factors

pub plan_is_over : PlanIsOver
plan_is_over query table rows head valid tells (inl pruned) =
    let many : head.rows ≡ length rows = tells.rows_are in
    let same : is_pruned query head ≡ is_pruned query (told_head table rows) = (λ i. many i == 0 || list_any (is_excluded (tells.bounds_are i)) query.conjuncts) in
    let rest : Seen → SegmentPlan = (λ h. if is_emptied query.conjuncts table h then Empty else tree_or (scan_of query table h) (picked query table.settings.trees)) in
    ap (λ b. if b then Pruned else rest head) pruned ∙ ap (λ b. if b then Pruned else rest (told_head table rows)) (sym pruned ∙ same)
plan_is_over query table rows head valid tells (inr loaded) = one_plan query table rows head (told_head table rows) tells (told_tells table rows) loaded (told_all table rows query valid)

pub factors_are_over : FactorsAreOver
factors_are_over query table rows tree head valid tree_valid tells loaded whole =
    one_factors query table rows tree head (told_head table rows) tells (told_tells table rows) loaded (told_all table rows query valid) whole (told_whole table rows query tree tree_valid)

-- ---- what is written

one_valid : (P : TreeSetting → Type 0) (trees : List TreeSetting) (k : ℕ) (tree : TreeSetting) → AllByRecursion P trees → slice_get trees k ≡ Some tree → P tree
one_valid P [] k tree all at = absurd cc
one_valid P (t ∷ ts) zero tree all at = let same : t ≡ tree = cc in subst P same all.0
one_valid P (t ∷ ts) (suc k) tree all at = one_valid P ts k tree all.1 at

module _ (query : BoundQuery) (table : Table) (rows : List (List Value)) (head : Seen) (valid : IsValidTable table) (query_valid : IsValidQuery table query) (tells : TellsOf table rows head) where
  tree_same : (k : ℕ) (o : Option TreeSetting) → slice_get table.settings.trees k ≡ o → AreLoaded query.conjuncts head → IfSome o (AreWholeLoaded query head) → tree_text query head o ≡ tree_text query (told_head table rows) o
  tree_same k None at loaded whole = refl
  tree_same k (Some tree) at loaded whole =
      ap (factors_text tree.shape.leaf)
      (factors_are_over query table rows tree head query_valid (one_valid (IsValidTree table.schema.fields) table.settings.trees k tree valid.settings.trees_valid at) tells loaded whole)

  text_same : (plan : SegmentPlan) → IsDetailed query table head plan → plan_text query table head plan ≡ plan_text query table (told_head table rows) plan
  text_same Pruned detailed = refl
  text_same Empty detailed = refl
  text_same (StarTree tree) detailed = ap (λ d. plan_word (StarTree tree) ++ (44 ∷ d)) (tree_same tree (slice_get table.settings.trees tree) refl detailed.1 detailed.2)
  text_same (Scan plan) detailed = refl

pub explained_is_over : ExplainedIsOver
unfolding explained_over
explained_is_over query table rows head valid query_valid tells known detailed =
    text_same query table rows head valid query_valid tells (plan_of query table head) detailed
    ∙ ap (plan_text query table (told_head table rows)) (plan_is_over query table rows head query_valid tells known)
