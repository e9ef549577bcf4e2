-- How the segment of generated rows is planned for the two queries: by its star-tree, and by a scan in which no index is.
use Rattle.std.proofs.Common.{◌≡◌, ◌∙◌, ◌+◌, ◌*◌, ◌<◌, ◌&&◌, ◌||◌, ◌==◌, ◌++◌, ℕ, zero, suc, Bool, true, false, List, [], ◌∷◌, length, map, Option, Some, refl, sym, ap, subst, arith}
use Rattle.std.specs.Prelude.{if◌then◌else◌, filter, pos, slice_get}
use Rattle.std.specs.List.{AllByRecursion, range_with_len}
use Rattle.std.proofs.lemmas.Bool.{eqb-true, false≢true}
use Rattle.std.proofs.lemmas.List.{length-append}
use Rattle.bit_column.specs.Column.{bytes_for, width_of}
use Rattle.bit_column.proofs.Spelling.{length-spelled}
use Rattle.values.specs.Tests.{holds, holds_step}
use Rattle.values.specs.declared.test.CompareOp.TheVariants.{Less}
use Rattle.values.specs.declared.test.Test.TheFolds.{fold-roll-Test}
use Rattle.values.specs.declared.test.Test.TheOpen.{Test-F}
use Rattle.values.specs.declared.test.Test.TheVariants as test
use Rattle.values.specs.declared.value.Value.{Value}
use Rattle.values.specs.declared.value.Value.TheVariants.{Whole}
use Rattle.value_ids.specs.Dictionary.{Distinct}
use Rattle.table_schema.specs.Conditions.{all_hold}
use Rattle.table_schema.specs.NeedIds.{is_set}
use Rattle.table_schema.specs.declared.query.BoundQuery.{BoundQuery}
use Rattle.table_schema.specs.declared.query.Conjunct.{Conjunct}
use Rattle.table_schema.specs.declared.query.Conjunct.TheVariants.{One}
use Rattle.table_schema.specs.declared.table.Table.{Table}
use Rattle.segment_file.specs.Image.{count_of, dictionary_of, section_of}
use Rattle.segment_file.specs.declared.part.Part.TheVariants.{Forward}
use Rattle.segment_head.specs.Heads.{IsLoaded}
use Rattle.eligibility.specs.Rule.{picked}
use Rattle.segment_plan.specs.Choices.{choice_of, is_sorted_on}
use Rattle.segment_plan.specs.Laws.{EmptyHasNone, NoneHolds, PrunedHasNone, TellsOf}
use Rattle.segment_plan.specs.Matched.{AreLoaded, is_filtered}
use Rattle.segment_plan.specs.Named.{query_names}
use Rattle.segment_plan.specs.Plan.{is_emptied, scan_of, tree_or}
use Rattle.segment_plan.specs.Planned.{plan_over, told_head}
use Rattle.segment_plan.specs.Pruning.{is_pruned}
use Rattle.segment_plan.specs.RowsLeft.{indexed, rows_left}
use Rattle.segment_plan.specs.declared.plans.IndexChoice.{IndexChoice}
use Rattle.segment_plan.specs.declared.plans.IndexChoice.TheVariants.{Unindexed}
use Rattle.segment_plan.specs.declared.plans.ScanPlan.{ScanPlan}
use Rattle.segment_plan.specs.declared.plans.SegmentPlan.{SegmentPlan}
use Rattle.segment_plan.specs.declared.plans.SegmentPlan.TheVariants.{Empty, Pruned, Scan}
use Rattle.segment_reads.specs.Looked.{docs_by, docs_over}
use Rattle.command_model.specs.Generated.{generated_row, generated_rows, scan_query, tree_query}
use Rattle.pinot_run.specs.ScriptReads.{plan_docs}
use Rattle.pinot_run.proofs.GeneratedTable.{four_fields, none_inverted, none_ranged, none_sorted, own, own_filter, own_query, scan_filter, scan_picks, tree_picks}

-- ---- the rows

pub rows_count : (n : ℕ) → length (generated_rows n) ≡ n
rows_count zero = refl
rows_count (suc n) = let sum = length-append (generated_rows n) (generated_row n ∷ []) in let before = rows_count n in omega (arith, sum, before)

front_all : (P : List Value → Type 0) (xs ys : List (List Value)) → AllByRecursion P (xs ++ ys) → AllByRecursion P xs
front_all P [] ys all = tt
front_all P (x ∷ xs) ys all = (all.0, front_all P xs ys all.1)

-- the first of them
first_row : (P : List Value → Type 0) (n : ℕ) → AllByRecursion P (generated_rows (suc n)) → P (generated_row 0)
first_row P zero all = all.0
first_row P (suc n) all = first_row P n (front_all P (generated_rows (suc n)) (generated_row (suc n) ∷ []) all)

-- it satisfies the filter
first_holds : all_hold (generated_row 0) own_filter ≡ true
first_holds =
    let bound : Value = Whole (pos 10) in
    let one : holds (Whole (pos 0)) (test.Compare Less bound) ≡ true = ap (holds (Whole (pos 0))) (sym (test.rolls-Compare Less bound)) ∙ fold-roll-Test Bool (holds_step (Whole (pos 0))) (Test-F.Compare Less bound) in
    ap (λ b. b && true) one

none_none : (conjuncts : List Conjunct) (n : ℕ) → conjuncts ≡ own_filter → NoneHolds conjuncts (generated_rows (suc n)) → ⊥
none_none conjuncts n are none =
    let first : all_hold (generated_row 0) conjuncts ≡ false = first_row (λ row. all_hold row conjuncts ≡ false) n none in
    false≢true (sym first ∙ ap (all_hold (generated_row 0)) are ∙ first_holds)

-- ---- the head that is told of them

made_at : (table : Table) (rows : List (List Value)) (from count k : ℕ) (d : Distinct) → slice_get (map Some (map (dictionary_of table rows) (range_with_len from count))) k ≡ Some (Some d) → d ≡ dictionary_of table rows (from + k)
made_at table rows from zero k d at = absurd cc
made_at table rows from (suc count) zero d at =
    let same : from ≡ from + 0 = omega arith in
    let own_at : dictionary_of table rows from ≡ d = cc in
    sym own_at ∙ ap (dictionary_of table rows) same
made_at table rows from (suc count) (suc k) d at =
    let same : from + 1 + k ≡ from + suc k = omega arith in
    made_at table rows (from + 1) count k d at ∙ ap (dictionary_of table rows) same

slot_of : (table : Table) (rows : List (List Value)) (from count k : ℕ) → k < count → slice_get (map Some (map (dictionary_of table rows) (range_with_len from count))) k ≡ Some (Some (dictionary_of table rows (from + k)))
slot_of table rows from zero k lt = absurd (omega (arith, lt))
slot_of table rows from (suc count) zero lt =
    let same : from ≡ from + 0 = omega arith in
    ap (λ n. Some (Some (dictionary_of table rows n))) same
slot_of table rows from (suc count) (suc k) lt =
    let same : from + 1 + k ≡ from + suc k = omega arith in
    slot_of table rows (from + 1) count k (omega (arith, lt)) ∙ ap (λ n. Some (Some (dictionary_of table rows n))) same

told_tells : (rows : List (List Value)) → TellsOf own rows (told_head own rows)
told_tells rows = record {
  rows_are = refl;
  bounds_are = refl;
  dictionaries_are = λ column d at. let plain : 0 + column ≡ column = omega arith in made_at own rows 0 (length own.schema.fields) column d at ∙ ap (dictionary_of own rows) plain;
}

told_loaded : (rows : List (List Value)) (conjuncts : List Conjunct) → conjuncts ≡ own_filter → AreLoaded conjuncts (told_head own rows)
told_loaded rows conjuncts are column on = by (2 == column) refl
  where
    by : (b : Bool) → (2 == column) ≡ b → IsLoaded (told_head own rows) column
    by true is =
        let same : 2 ≡ column = eqb-true 2 column is in
        let plain : 0 + column ≡ column = omega arith in
        (dictionary_of own rows column, slot_of own rows 0 (length own.schema.fields) column (let many = four_fields in omega (arith, same, many)) ∙ ap (λ n. Some (Some (dictionary_of own rows n))) plain)
    by false is =
        let off : is_filtered own_filter column ≡ false = ap (λ b. b || false) is in
        absurd (false≢true (sym off ∙ ap (λ cs. is_filtered cs column) (sym are) ∙ on))

-- ---- the plans

-- a plan is one of these, by whether there are rows that may satisfy the filter
by_plan : (P : SegmentPlan → Type 0) (query : BoundQuery) (table : Table) (rows : List (List Value)) → (is_pruned query (told_head table rows) ≡ true → P Pruned) → (is_emptied query.conjuncts table (told_head table rows) ≡ true → P Empty)
    → P (tree_or (scan_of query table (told_head table rows)) (picked query table.settings.trees)) → P (plan_over query table rows)
by_plan P query table rows pruned empty other = go (is_pruned query (told_head table rows)) (is_emptied query.conjuncts table (told_head table rows)) pruned empty
  where
    go : (a b : Bool) → (a ≡ true → P Pruned) → (b ≡ true → P Empty) → P (if a then Pruned else if b then Empty else tree_or (scan_of query table (told_head table rows)) (picked query table.settings.trees))
    go true b p e = p refl
    go false true p e = e refl
    go false false p e = other

-- the second query reads no star-tree
pub scan_docs : (rows : List (List Value)) → plan_docs own rows 0 (own_query scan_query) (plan_over (own_query scan_query) own rows) ≡ 0
scan_docs rows =
    by_plan (λ plan. plan_docs own rows 0 (own_query scan_query) plan ≡ 0) (own_query scan_query) own rows (λ is. refl) (λ is. refl)
    (ap (λ t. plan_docs own rows 0 (own_query scan_query) (tree_or (scan_of (own_query scan_query) own (told_head own rows)) t)) scan_picks)

-- the documents that are looked at for the first are those of its star-tree
pub tree_docs : (rows : List (List Value)) → docs_over (own_query tree_query) own rows ≡ plan_docs own rows 0 (own_query tree_query) (plan_over (own_query tree_query) own rows)
tree_docs rows =
    by_plan (λ plan. docs_by (own_query tree_query) own rows plan ≡ plan_docs own rows 0 (own_query tree_query) plan) (own_query tree_query) own rows (λ is. refl) (λ is. refl)
    (let P : Option ℕ → Type 0 = λ t. docs_by (own_query tree_query) own rows (tree_or (scan_of (own_query tree_query) own (told_head own rows)) t) ≡ plan_docs own rows 0 (own_query tree_query) (tree_or (scan_of (own_query tree_query) own (told_head own rows)) t) in
    subst P (sym tree_picks) refl)

-- no index has the rows of the filter
own_choice : (rows : List (List Value)) → choice_of own.settings (told_head own rows) (One 2 (test.Compare Less (Whole (pos 10)))) ≡ Unindexed
own_choice rows =
    unindexed (is_sorted_on own.settings.sorted 2) (is_set (slice_get own.settings.inverted 2)) (is_set (slice_get own.settings.ranged 2)) _ _ _ _ (ap (λ s. is_sorted_on s 2) none_sorted) none_inverted none_ranged
  where
    unindexed : (a b c d : Bool) (x y z : IndexChoice) → a ≡ false → b ≡ false → c ≡ false → (if a then x else if b then y else if c && d then z else Unindexed) ≡ Unindexed
    unindexed true b c d x y z is_a is_b is_c = absurd cc
    unindexed false true c d x y z is_a is_b is_c = absurd cc
    unindexed false false true d x y z is_a is_b is_c = absurd cc
    unindexed false false false d x y z is_a is_b is_c = refl

own_choices : (rows : List (List Value)) → map (choice_of own.settings (told_head own rows)) (own_query scan_query).conjuncts ≡ Unindexed ∷ []
own_choices rows = ap (map (choice_of own.settings (told_head own rows))) scan_filter ∙ ap (λ c. c ∷ []) (own_choice rows)

abbrev pub own_scan : ScanPlan
own_scan = record { choices = Unindexed ∷ [] }

-- where there are rows the second query scans them
pub scan_plan : PrunedHasNone → EmptyHasNone → (n : ℕ) → plan_over (own_query scan_query) own (generated_rows (suc n)) ≡ Scan own_scan
scan_plan pruned empty n =
    let rows : List (List Value) = generated_rows (suc n) in
    let query : BoundQuery = own_query scan_query in
    by_plan (λ plan. plan ≡ Scan own_scan) query own rows (λ is. absurd (none_none query.conjuncts n scan_filter (pruned query own rows (told_head own rows) (told_tells rows) is)))
    (λ is. absurd (none_none query.conjuncts n scan_filter (empty query.conjuncts own rows (told_head own rows) (told_tells rows) (told_loaded rows query.conjuncts scan_filter) is)))
    (ap (tree_or (scan_of query own (told_head own rows))) scan_picks ∙ ap (λ cs. Scan (record { choices = cs })) (own_choices rows))

-- no conjunct of it is indexed, and it names column c
pub none_indexed : indexed own_scan.choices (own_query scan_query).conjuncts ≡ []
none_indexed = ap (indexed own_scan.choices) scan_filter

pub names_c : query_names (own_query scan_query) 2 ≡ true
names_c = ap (λ cs. query_names (record (own_query scan_query) { conjuncts = cs }) 2) scan_filter

kept_all : (rows : List (List Value)) → filter (λ row. true) rows ≡ rows
kept_all [] = refl
kept_all (row ∷ rows) = ap (λ l. row ∷ l) (kept_all rows)

-- so it looks at all rows
pub scan_looks : PrunedHasNone → EmptyHasNone → (n : ℕ) → docs_over (own_query scan_query) own (generated_rows n) ≡ n
scan_looks pruned empty zero = refl
scan_looks pruned empty (suc n) =
    ap (docs_by (own_query scan_query) own (generated_rows (suc n))) (scan_plan pruned empty n)
    ∙ ap (λ cs. length (rows_left (record (own_query scan_query) { conjuncts = cs }) own_scan.choices (generated_rows (suc n)))) scan_filter
    ∙ ap length (kept_all (generated_rows (suc n))) ∙ rows_count (suc n)

-- of no rows there is no forward index
pub no_forward : (table : Table) → length (section_of table [] (Forward 2)) ≡ 0
no_forward table =
    let none : 0 * width_of (count_of [] 2) ≡ 0 = omega arith in
    length-spelled (width_of (count_of [] 2)) [] ∙ ap bytes_for none
