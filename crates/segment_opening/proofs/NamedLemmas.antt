-- The columns that a query names are fields of its table.
use Rattle.std.proofs.Common.{◌≡◌, ◌∙◌, ◌<◌, ◌+◌, ◌==◌, ◌||◌, ◌&&◌, ◌∷◌, [], ℕ, zero, suc, Bool, true, false, Option, Some, None, IfSome, List, map, get_or, slice_get, length, refl, sym, ap, subst, arith}
use Rattle.std.specs.List.{flat_map, list_all, list_any}
use Rattle.std.specs.Option.{option_map_or}
use Rattle.std.proofs.lemmas.Bool.{eq-eqb, eqb-true, false≢true, ltb-true}
use Rattle.std.proofs.lemmas.List.Folds.{list_all-append}
use Rattle.agg_laws.specs.declared.tree_shape.TreeShape.{TreeShape}
use Rattle.agg_laws.specs.Tree.{skips}
use Rattle.values.specs.Tests.{any_true}
use Rattle.table_schema.specs.declared.field.Field.{Field}
use Rattle.table_schema.specs.declared.query.Agg.{Agg}
use Rattle.table_schema.specs.declared.query.BoundQuery.{BoundQuery}
use Rattle.table_schema.specs.declared.query.Conjunct.{Conjunct}
use Rattle.table_schema.specs.declared.query.Conjunct.TheVariants.{One, Many}
use Rattle.table_schema.specs.declared.query.Wide.{Wide}
use Rattle.table_schema.specs.declared.query.Wide.TheOpen.{Wide-F}
use Rattle.table_schema.specs.declared.query.Wide.TheFolds.{fold-roll-Wide, ind-Wide, map-Wide}
use Rattle.table_schema.specs.declared.query.Wide.TheViews.{roll-Wide}
use Rattle.table_schema.specs.declared.settings.TreeSetting.{TreeSetting}
use Rattle.table_schema.specs.declared.table.Table.{Table}
use Rattle.table_schema.specs.Columns.{is_member}
use Rattle.table_schema.specs.ValidQuery.{IsValidQuery, conjunct_known, fields_of, fields_step}
use Rattle.table_schema.specs.ValidSettings.{IsValidTree, is_known_number, is_number_of}
use Rattle.table_schema.specs.ValidTable.{IsValidTable}
use Rattle.segment_head.specs.Heads.{IsLoaded, Seen}
use Rattle.segment_file.proofs.TreeChecks.{valid_at}
use Rattle.segment_plan.specs.Factors.{AreWholeLoaded, is_whole}
use Rattle.segment_plan.specs.Matched.{AreLoaded, is_filtered, is_on}
use Rattle.segment_plan.specs.Named.{AreGroupsLoaded, AreNamedLoaded, agg_names, conjunct_names, is_in, names_step, query_names, wide_names}
use Rattle.segment_opening.specs.Wanted.{AreFactorsLoaded, is_detailed, is_keyed, is_wanted, is_whole_from, tree_at}
use Rattle.segment_head.proofs.SectionLemmas.{first_true, rest_true}

either : (a b : Bool) (P : Type 0) → a || b ≡ true → (a ≡ true → P) → (b ≡ true → P) → P
either true b P is here there = here refl
either false b P is here there = there is

-- where some element passes one test and all pass another, one passes both
some_passes : {X : Type 0} (p q : X → Bool) (P : Type 0) → ((x : X) → p x ≡ true → q x ≡ true → P) → (xs : List X) → list_any p xs ≡ true → list_all q xs ≡ true → P
some_passes p q P f [] any all = absurd (false≢true any)
some_passes p q P f (x ∷ xs) any all =
    either (p x) (list_any p xs) P any
    (λ here. f x here (first_true (q x) (list_all q xs) all))
    (λ there. some_passes p q P f xs there (rest_true (q x) (list_all q xs) all))

module _ (fields : List Field) (column : ℕ) where
  abbrev IsField : Type 0
  IsField = is_number_of fields column ≡ true

  same_field : (other : ℕ) → other == column ≡ true → is_number_of fields other ≡ true → IsField
  same_field other is known = subst (λ c. is_number_of fields c ≡ true) (eqb-true other column is) known

  abbrev IsWithin : Wide → Type 0
  IsWithin wide = wide_names column wide ≡ true → list_all (is_number_of fields) (fields_of wide) ≡ true → IsField

  inner_within : (inner : List ((wide : Wide) × IsWithin wide)) → any_true (map (wide_names column) (map (λ e. e.0) inner)) ≡ true
      → list_all (is_number_of fields) (flat_map (λ fs. fs) (map fields_of (map (λ e. e.0) inner))) ≡ true → IsField
  inner_within [] any all = absurd (false≢true any)
  inner_within (w ∷ ws) any all =
      let rest : List ℕ = flat_map (λ fs. fs) (map fields_of (map (λ e. e.0) ws)) in
      let both : list_all (is_number_of fields) (fields_of w.0) && list_all (is_number_of fields) rest ≡ true = sym (list_all-append (is_number_of fields) (fields_of w.0) rest) ∙ all in
      either (wide_names column w.0) (any_true (map (wide_names column) (map (λ e. e.0) ws))) IsField any
      (λ here. w.1 here (first_true (list_all (is_number_of fields) (fields_of w.0)) (list_all (is_number_of fields) rest) both))
      (λ there. inner_within ws there (rest_true (list_all (is_number_of fields) (fields_of w.0)) (list_all (is_number_of fields) rest) both))

  step_within : (y : Wide-F ((wide : Wide) × IsWithin wide)) → names_step column (map-Wide Wide Bool (wide_names column) (map-Wide ((wide : Wide) × IsWithin wide) Wide (λ e. e.0) y)) ≡ true
      → list_all (is_number_of fields) (fields_step (map-Wide Wide (List ℕ) fields_of (map-Wide ((wide : Wide) × IsWithin wide) Wide (λ e. e.0) y))) ≡ true → IsField
  step_within (Wide-F.Leaf other test) any all = same_field other any (first_true (is_number_of fields other) true all)
  step_within (Wide-F.All inner) any all = inner_within inner any all
  step_within (Wide-F.Any inner) any all = inner_within inner any all

  wide_within : (wide : Wide) → IsWithin wide
  wide_within = ind-Wide IsWithin (λ x y is.
      subst (λ layer. IsWithin (roll-Wide layer)) is (λ any all.
      let z = map-Wide ((wide : Wide) × IsWithin wide) Wide (λ e. e.0) y in
      step_within y
      (sym (fold-roll-Wide Bool (names_step column) z) ∙ any)
      (subst (λ fs. list_all (is_number_of fields) fs ≡ true) (fold-roll-Wide (List ℕ) fields_step z) all)))

  conjunct_within : (c : Conjunct) → conjunct_names column c ≡ true → conjunct_known fields c ≡ true → IsField
  conjunct_within (One other test) is known = same_field other is known
  conjunct_within (Many wide) is known = wide_within wide is known

  by_column : (o : Option ℕ) → option_map_or (λ other. other == column) o false ≡ true → is_known_number fields o ≡ true → IsField
  by_column None is known = absurd (false≢true is)
  by_column (Some other) is known = same_field other is known

  agg_within : (agg : Agg) → agg_names column agg ≡ true → is_known_number fields agg.column ≡ true → IsField
  agg_within agg is known = by_column agg.column is known

-- a column that a query of a table names is one of the table's
pub named_within : (table : Table) (query : BoundQuery) (column : ℕ) → IsValidQuery table query → query_names query column ≡ true → column < length table.schema.fields
named_within table query column valid is =
    let fields = table.schema.fields in
    let field : is_number_of fields column ≡ true =
    either (list_any (conjunct_names column) query.conjuncts || is_in query.groups column) (list_any (agg_names column) query.aggs) (is_number_of fields column ≡ true) is
    (λ there. either (list_any (conjunct_names column) query.conjuncts) (is_in query.groups column) (is_number_of fields column ≡ true) there
    (λ here. some_passes (conjunct_names column) (conjunct_known fields) (is_number_of fields column ≡ true) (conjunct_within fields column) query.conjuncts here valid.conjuncts_known)
    (λ here. some_passes (λ other. other == column) (is_number_of fields) (is_number_of fields column ≡ true) (same_field fields column) query.groups here valid.groups_known))
    (λ here. some_passes (agg_names column) (λ a. is_known_number fields a.column) (is_number_of fields column ≡ true) (agg_within fields column) query.aggs here valid.aggs_known) in
    ltb-true column (length fields) field

-- ---- conjuncts on one column name it

on_names : (column : ℕ) (c : Conjunct) → is_on column c ≡ true → conjunct_names column c ≡ true
on_names column (One other test) is = is
on_names column (Many wide) is = absurd (false≢true is)

left_true : (a b : Bool) → a ≡ true → a || b ≡ true
left_true a b e = ap (λ c. c || b) e

right_true : (a b : Bool) → b ≡ true → a || b ≡ true
right_true true b e = refl
right_true false b e = e

some_more : {X : Type 0} (p q : X → Bool) → ((x : X) → p x ≡ true → q x ≡ true) → (xs : List X) → list_any p xs ≡ true → list_any q xs ≡ true
some_more p q f [] any = any
some_more p q f (x ∷ xs) any =
    either (p x) (list_any p xs) (q x || list_any q xs ≡ true) any
    (λ here. left_true (q x) (list_any q xs) (f x here))
    (λ there. right_true (q x) (list_any q xs) (some_more p q f xs there))

pub filtered_names : (query : BoundQuery) (column : ℕ) → is_filtered query.conjuncts column ≡ true → query_names query column ≡ true
filtered_names query column is =
    left_true (list_any (conjunct_names column) query.conjuncts || is_in query.groups column) (list_any (agg_names column) query.aggs)
    (left_true (list_any (conjunct_names column) query.conjuncts) (is_in query.groups column) (some_more (is_on column) (conjunct_names column) (on_names column) query.conjuncts is))

-- a group column is one that the query names
pub grouped_names : (query : BoundQuery) (column : ℕ) → is_member query.groups column ≡ true → query_names query column ≡ true
grouped_names query column is =
    left_true (list_any (conjunct_names column) query.conjuncts || is_in query.groups column) (list_any (agg_names column) query.aggs)
    (right_true (list_any (conjunct_names column) query.conjuncts) (is_in query.groups column) is)

-- a star-tree of a valid table is one
tree_valid : (table : Table) → IsValidTable table → (tree : Option ℕ) (setting : TreeSetting) → tree_at table tree ≡ Some setting → IsValidTree table.schema.fields setting
tree_valid table valid None setting is = absurd cc
tree_valid table valid (Some n) setting is = valid_at table.schema.fields table.settings.trees n setting valid.settings.trees_valid is

-- ---- the columns that are marked

-- the dictionaries of the columns of a table that are marked were loaded
abbrev pub AreMarkedLoaded : Table → List Bool → Seen → Type 0
AreMarkedLoaded table marks head = (column : ℕ) → column < length table.schema.fields → get_or marks column false ≡ true → IsLoaded head column

module _ (table : Table) (query : BoundQuery) (valid : IsValidQuery table query) (head : Seen) (marks : List Bool) where
  -- for an answer
  module _ (by_tree : Bool) (each : (column : ℕ) → column < length table.schema.fields → get_or marks column false ≡ is_wanted query by_tree column) (loaded : AreMarkedLoaded table marks head) where
    wanted : (column : ℕ) → query_names query column ≡ true → is_wanted query by_tree column ≡ true → IsLoaded head column
    wanted column names is = let lt = named_within table query column valid names in loaded column lt (each column lt ∙ is)

    keyed_or_named : (column : ℕ) (b : Bool) → is_keyed query column ≡ true → query_names query column ≡ true → is_wanted query b column ≡ true
    keyed_or_named column true keyed names = keyed
    keyed_or_named column false keyed names = names

    pub filtered_wanted : AreLoaded query.conjuncts head
    filtered_wanted = λ column on.
        let names = filtered_names query column on in
        wanted column names (keyed_or_named column by_tree (left_true (is_filtered query.conjuncts column) (is_member query.groups column) on) names)

    pub grouped_wanted : AreGroupsLoaded query.groups head
    grouped_wanted = λ column on.
        let names = grouped_names query column on in
        wanted column names (keyed_or_named column by_tree (right_true (is_filtered query.conjuncts column) (is_member query.groups column) on) names)

    pub named_wanted : by_tree ≡ false → AreNamedLoaded query head
    named_wanted is = λ column names. wanted column names (ap (λ b. is_wanted query b column) is ∙ names)

  -- for a plan and what is said of it
  module _ (tree : Option ℕ) (each : (column : ℕ) → column < length table.schema.fields → get_or marks column false ≡ is_detailed query (tree_at table tree) column) (loaded : AreMarkedLoaded table marks head) where
    on_detailed : (o : Option TreeSetting) (column : ℕ) → is_filtered query.conjuncts column ≡ true → is_detailed query o column ≡ true
    on_detailed None column on = on
    on_detailed (Some setting) column on = left_true (is_filtered query.conjuncts column) (is_whole_from query setting.shape 0 setting.split column) on

    pub filtered_detailed : AreLoaded query.conjuncts head
    filtered_detailed = λ column on.
        let lt = named_within table query column valid (filtered_names query column on) in
        loaded column lt (each column lt ∙ on_detailed (tree_at table tree) column on)

    whole_at : (shape : TreeShape) (split : List ℕ) (start level column : ℕ) → slice_get split level ≡ Some column → is_whole query (skips shape (start + level)) column ≡ true → is_whole_from query shape start split column ≡ true
    whole_at shape [] start level column at whole = absurd cc
    whole_at shape (dimension ∷ split) start zero column at whole =
        let same : dimension ≡ column = cc in
        let plain : start + 0 ≡ start = omega arith in
        let here : is_whole query (skips shape start) dimension ≡ true = (λ i. is_whole query (skips shape (sym plain i)) (same i)) ∙ whole in
        left_true (dimension == column && is_whole query (skips shape start) dimension) (is_whole_from query shape (start + 1) split column) ((λ i. eq-eqb dimension column same i && here i))
    whole_at shape (dimension ∷ split) start (suc level) column at whole =
        let plain : start + 1 + level ≡ start + suc level = omega arith in
        right_true (dimension == column && is_whole query (skips shape start) dimension) (is_whole_from query shape (start + 1) split column)
        (whole_at shape split (start + 1) level column at (ap (λ n. is_whole query (skips shape n) column) plain ∙ whole))

    known_at : (fields : List Field) (split : List ℕ) (level column : ℕ) → list_all (is_number_of fields) split ≡ true → slice_get split level ≡ Some column → is_number_of fields column ≡ true
    known_at fields [] level column all at = absurd cc
    known_at fields (dimension ∷ split) zero column all at =
        let same : dimension ≡ column = cc in
        subst (λ d. is_number_of fields d ≡ true) same (first_true (is_number_of fields dimension) (list_all (is_number_of fields) split) all)
    known_at fields (dimension ∷ split) (suc level) column all at =
        known_at fields split level column (rest_true (is_number_of fields dimension) (list_all (is_number_of fields) split) all) at

    factors_by : IsValidTable table → (o : Option TreeSetting) → tree_at table tree ≡ o → IfSome o (AreWholeLoaded query head)
    factors_by table_valid None is = tt
    factors_by table_valid (Some setting) is = λ level column at whole.
        let ok = tree_valid table table_valid tree setting is in
        let plain : 0 + level ≡ level = omega arith in
        let lt : column < length table.schema.fields = ltb-true column (length table.schema.fields) (known_at table.schema.fields setting.split level column ok.split_known at) in
        loaded column lt (each column lt ∙ ap (λ o. is_detailed query o column) is ∙ right_true (is_filtered query.conjuncts column) (is_whole_from query setting.shape 0 setting.split column)
        (whole_at setting.shape setting.split 0 level column at (ap (λ n. is_whole query (skips setting.shape n) column) plain ∙ whole)))

    pub factors_detailed : IsValidTable table → AreFactorsLoaded query table tree head
    factors_detailed table_valid = factors_by table_valid (tree_at table tree) refl
