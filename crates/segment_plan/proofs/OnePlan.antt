-- The rows of a segment give it one plan, whatever else of it is loaded.
use Rattle.std.proofs.Common.{◌≡◌, ◌∙◌, ◌==◌, ◌&&◌, ◌||◌, ℕ, Bool, true, false, List, [], ◌∷◌, map, if◌then◌else◌, refl, sym, ap, eq-eqb}
use Rattle.std.specs.List.{list_any, slice_get}
use Rattle.values.specs.declared.value.Value.{Value}
use Rattle.table_schema.specs.declared.query.Conjunct.{Conjunct}
use Rattle.table_schema.specs.declared.query.Conjunct.TheVariants.{One, Many}
use Rattle.table_schema.specs.declared.settings.Settings.{Settings}
use Rattle.table_schema.specs.declared.table.Table.{Table}
use Rattle.table_schema.specs.NeedIds.{is_set}
use Rattle.value_ids.specs.Dictionary.{distinct}
use Rattle.value_ids.specs.Ids.{matching}
use Rattle.eligibility.specs.Rule.{picked}
use Rattle.segment_head.specs.Heads.{Seen}
use Rattle.segment_file.specs.Image as image
use Rattle.segment_file.specs.Parts.{columns_of}
use Rattle.segment_plan.specs.declared.plans.IndexChoice.TheVariants.{Unindexed, Sorted, Inverted, Range}
use Rattle.segment_plan.specs.declared.plans.SegmentPlan.TheVariants.{Pruned, Empty, Scan}
use Rattle.segment_plan.specs.Choices.{are_consecutive, choice_of, is_sorted_on}
use Rattle.segment_plan.specs.Laws.{OnePlan, TellsOf}
use Rattle.segment_plan.specs.Matched.{AreLoaded, is_filtered, is_on, matched, values_in, values_of}
use Rattle.segment_plan.specs.Plan.{is_emptied, leaves_none, tree_or}
use Rattle.segment_plan.specs.Pruning.{is_excluded, is_pruned}

-- the values of a column are the same in two heads
abbrev AreSame : Seen → Seen → ℕ → Type 0
AreSame a b column = values_in a column ≡ values_in b column

loaded_values : (conjuncts : List Conjunct) (table : Table) (rows : List (List Value)) (head : Seen) → TellsOf table rows head → AreLoaded conjuncts head → (column : ℕ) → is_filtered conjuncts column ≡ true
    → values_in head column ≡ distinct (image.values_in column rows)
loaded_values conjuncts table rows head tells loaded column on =
    let d = loaded column on in
    ap values_of d.1 ∙ ap (λ x. x.values) (tells.dictionaries_are column d.0 d.1)

-- ---- a choice

or_true : (b : Bool) → b || true ≡ true
or_true true = refl
or_true false = refl

choice_same : (settings : Settings) (a b : Seen) (conjunct : Conjunct) → ((column : ℕ) → is_on column conjunct ≡ true → AreSame a b column) → choice_of settings a conjunct ≡ choice_of settings b conjunct
choice_same settings a b (Many condition) same = refl
choice_same settings a b (One column condition) same =
    ap (λ values. if is_sorted_on settings.sorted column then Sorted else (
    if is_set (slice_get settings.inverted column) then Inverted else (
    if is_set (slice_get settings.ranged column) && are_consecutive (matching condition values) then Range else Unindexed)))
    (same column (eq-eqb column column refl))

choices_same : (settings : Settings) (a b : Seen) (conjuncts : List Conjunct) → ((column : ℕ) → is_filtered conjuncts column ≡ true → AreSame a b column) → map (choice_of settings a) conjuncts ≡ map (choice_of settings b) conjuncts
choices_same settings a b [] same = refl
choices_same settings a b (conjunct ∷ conjuncts) same =
    let first = choice_same settings a b conjunct (λ column on. same column (ap (λ x. x || is_filtered conjuncts column) on)) in
    let others = choices_same settings a b conjuncts (λ column on. same column (ap (λ x. is_on column conjunct || x) on ∙ or_true (is_on column conjunct))) in
    (λ i. first i ∷ others i)

-- ---- the plan

leaves_same : (conjuncts : List Conjunct) (a b : Seen) → ((column : ℕ) → is_filtered conjuncts column ≡ true → AreSame a b column) → (column : ℕ) → leaves_none conjuncts a column ≡ leaves_none conjuncts b column
leaves_same conjuncts a b same column = go (is_filtered conjuncts column) refl
  where
    go : (f : Bool) → is_filtered conjuncts column ≡ f → f && matched conjuncts column (values_in a column) == 0 ≡ f && matched conjuncts column (values_in b column) == 0
    go false is = refl
    go true is = ap (λ values. matched conjuncts column values == 0) (same column is)

pub one_plan : OnePlan
one_plan query table rows a b tells_a tells_b loaded_a loaded_b =
    let same : (column : ℕ) → is_filtered query.conjuncts column ≡ true → AreSame a b column = (λ column on. loaded_values query.conjuncts table rows a tells_a loaded_a column on ∙ sym (loaded_values query.conjuncts table rows b tells_b loaded_b column on)) in
    let many : a.rows ≡ b.rows = tells_a.rows_are ∙ sym tells_b.rows_are in
    let bounds : a.bounds ≡ b.bounds = tells_a.bounds_are ∙ sym tells_b.bounds_are in
    let pruned : is_pruned query a ≡ is_pruned query b = (λ i. many i == 0 || list_any (is_excluded (bounds i)) query.conjuncts) in
    let emptied : is_emptied query.conjuncts table a ≡ is_emptied query.conjuncts table b = (λ i. list_any (λ column. leaves_same query.conjuncts a b same column i) (columns_of table)) in
    let chosen = choices_same table.settings a b query.conjuncts same in
    (λ i. if pruned i then Pruned else (if emptied i then Empty else tree_or (Scan (record { choices = chosen i })) (picked query table.settings.trees)))
