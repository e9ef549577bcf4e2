-- What a query asks of the split dimensions, conjunct by conjunct and dimension by dimension.
use Rattle.std.proofs.Common.{◌≡◌, ◌∙◌, ◌<◌, ◌+◌, ℕ, Bool, true, false, not, ◌&&◌, ◌||◌, ◌==◌, List, [], ◌∷◌, ◌++◌, length, take, get_or, Option, Some, None, refl, sym, ap, subst, arith, inl, inr, length-append}
use Rattle.std.specs.Prelude.{pos, ◌⊎◌, slice_get}
use Rattle.std.proofs.lemmas.Bool.{cases_lt}
use Rattle.std.proofs.lemmas.List.{get_or_append_left, get_or_push}
use Rattle.std.proofs.lemmas.List.Folds.{list_all_more, list_any_more, list_any_at}
use Rattle.std.proofs.lemmas.Option.{slice_get-get_or}
use Rattle.values.specs.declared.value.Value.{Value}
use Rattle.values.specs.declared.value.Value.TheVariants.{Whole}
use Rattle.values.specs.declared.test.Test.{Test}
use Rattle.values.specs.Tests.{holds}
use Rattle.table_schema.specs.declared.query.BoundQuery.{BoundQuery}
use Rattle.table_schema.specs.declared.query.Conjunct.{Conjunct}
use Rattle.table_schema.specs.declared.query.Conjunct.TheVariants.{One}
use Rattle.table_schema.specs.declared.settings.TreeSetting.{TreeSetting}
use Rattle.table_schema.specs.Columns.{is_member}
use Rattle.value_ids.specs.Ids.{AreThose, has_id, satisfies}
use Rattle.segment_head.specs.Heads.{IsLoaded, Seen}
use Rattle.segment_plan.specs.Matched.{AreLoaded, is_on, passes, values_in}
use Rattle.eligibility.specs.Rule.{Serves}
use Rattle.star_walk.specs.Walking.{is_among, some_ids, task_of}
use Rattle.star_answer.specs.Served.{AsksFor}
use Rattle.segment_reads.specs.Docs.{field_of}
use Rattle.star_answer.specs.Tasks.{AreGrouped, AreMatched, AreTested, Intersects, split_values, value_at}

-- ---- one conjunct more

-- no conjunct
pub matched_none : (column : ℕ) (values : List Value) → AreMatched [] column values None
matched_none column values = record { some = refl; each = λ id below. refl }

pub matched_more : (conjuncts : List Conjunct) (i column : ℕ) (values : List Value)
    (old new : Option (List ℕ)) (conjunct : Conjunct) → i < length conjuncts
    → conjunct ≡ get_or conjuncts i conjunct → AreMatched (take i conjuncts) column values old
    → Intersects column values conjunct old new → AreMatched (take (i + 1) conjuncts) column values new
matched_more conjuncts i column values old new conjunct lt at so_far meets = record {
  some = meets.some ∙ (λ j. so_far.some j || is_on column (at j))
      ∙ sym (list_any_more (is_on column) conjuncts i conjunct lt);
  each = λ id below. meets.each id below
      ∙ (λ j. so_far.each id below j && passes column (value_at values id) (at j))
      ∙ sym (list_all_more (passes column (value_at values id)) conjuncts i conjunct lt);
}

-- the dictionary is loaded where the conjunct names the column
pub loaded_at : (conjuncts : List Conjunct) (head : Seen) (i column : ℕ) (conjunct : Conjunct)
    → i < length conjuncts → conjunct ≡ get_or conjuncts i conjunct → AreLoaded conjuncts head
    → is_on column conjunct ≡ true → IsLoaded head column
loaded_at conjuncts head i column conjunct lt at loaded is =
    loaded column (list_any_at (is_on column) conjuncts i conjunct lt (ap (is_on column) (sym at) ∙ is))

or_no : (b : Bool) → (b || false) ≡ b
or_no true = refl
or_no false = refl

and_yes : (b : Bool) → (b && true) ≡ b
and_yes true = refl
and_yes false = refl

or_yes : (b : Bool) → true ≡ (b || true)
or_yes true = refl
or_yes false = refl

-- a conjunct on another column changes nothing
pub meets_other : (column named : ℕ) (values : List Value) (condition : Test)
    (old : Option (List ℕ)) → (named == column) ≡ false
    → Intersects column values (One named condition) old old
meets_other column named values condition old apart = record {
  some = sym (ap (λ b. some_ids old || b) apart ∙ or_no (some_ids old));
  each = λ id below. sym (ap (λ b. is_among old id && (not b || holds (value_at values id) condition))
      apart ∙ and_yes (is_among old id));
}

pub meets_many : (column : ℕ) (values : List Value) (conjunct : Conjunct) (old : Option (List ℕ))
    → is_on column conjunct ≡ false
    → ((value : Value) → passes column value conjunct ≡ true)
    → Intersects column values conjunct old old
meets_many column values conjunct old apart all = record {
  some = sym (ap (λ b. some_ids old || b) apart ∙ or_no (some_ids old));
  each = λ id below. sym (ap (λ b. is_among old id && b) (all (value_at values id))
      ∙ and_yes (is_among old id));
}

-- one on it leaves the ids that are in both sets
pub intersects_on : (column named : ℕ) (values : List Value) (condition : Test)
    (old : Option (List ℕ)) (ids new : List ℕ) → (named == column) ≡ true
    → ((id : ℕ) → has_id ids id ≡ satisfies condition (slice_get values id))
    → AreThose (λ id. is_among old id && has_id ids id) new
    → Intersects column values (One named condition) old (Some new)
intersects_on column named values condition old ids new same matching those = record {
  some = or_yes (some_ids old) ∙ sym (ap (λ b. some_ids old || b) same);
  each = λ id below. those id
      ∙ ap (λ b. is_among old id && b) (matching id
      ∙ ap (satisfies condition) (slice_get-get_or values id (Whole (pos 0)) below))
      ∙ sym (ap (λ b. is_among old id && (not b || holds (value_at values id) condition)) same);
}

-- ---- one dimension more

push_each : {X : Type 0} (P : ℕ → X → Type 0) (none : X) (xs : List X) (x : X) (n : ℕ)
    → length xs ≡ n → ((d : ℕ) → d < n → P d (get_or xs d none)) → P n x
    → (d : ℕ) → d < n + 1 → P d (get_or (xs ++ x ∷ []) d none)
push_each P none xs x n many each last d lt =
    elim (cases d n lt) [
      | inl before ↦ subst (P d) (sym (get_or_append_left xs (x ∷ []) none d
          (omega (arith, before, many)))) (each d before)
      | inr here ↦ subst (λ m. P m (get_or (xs ++ x ∷ []) m none)) (sym here)
          (subst (P n) (sym (get_or_push xs x none n many)) last)
    ]
  where
    cases : (d n : ℕ) → d < n + 1 → (d < n) ⊎ (d ≡ n)
    cases d n lt = elim (cases_lt d n) [
      | inl before ↦ inl before
      | inr past ↦ inr (omega (arith, past, lt))
    ]

more_many : {X : Type 0} (xs new : List X) (x : X) (n : ℕ) → length xs ≡ n → new ≡ xs ++ x ∷ []
    → length new ≡ n + 1
more_many xs new x n many is = omega (arith, ap length is, length-append xs (x ∷ []), many)

pub tested_more : (conjuncts : List Conjunct) (split : List ℕ) (head : Seen) (n column : ℕ)
    (old new : List (Option (List ℕ))) (ids : Option (List ℕ)) → column ≡ field_of split n
    → new ≡ old ++ ids ∷ [] → AreTested conjuncts split head n old
    → AreMatched conjuncts column (values_in head column) ids
    → AreTested conjuncts split head (n + 1) new
tested_more conjuncts split head n column old new ids at is so_far met = record {
  many = more_many old new ids n so_far.many is;
  each = subst (λ xs. (d : ℕ) → d < n + 1 → AreMatched conjuncts (field_of split d)
      (split_values head split d) (get_or xs d None)) (sym is)
      (push_each (λ d x. AreMatched conjuncts (field_of split d) (split_values head split d) x) None
      old ids n so_far.many so_far.each
      (subst (λ c. AreMatched conjuncts c (values_in head c) ids) at met));
}

pub grouped_more : (groups split : List ℕ) (n column : ℕ) (old new : List Bool) (b : Bool)
    → column ≡ field_of split n → new ≡ old ++ b ∷ [] → AreGrouped groups split n old
    → b ≡ is_member groups column → AreGrouped groups split (n + 1) new
grouped_more groups split n column old new b at is so_far here = record {
  many = more_many old new b n so_far.many is;
  each = subst (λ xs. (d : ℕ) → d < n + 1
      → get_or xs d false ≡ is_member groups (field_of split d)) (sym is)
      (push_each (λ d x. x ≡ is_member groups (field_of split d)) false old b n so_far.many
      so_far.each (here ∙ ap (is_member groups) at));
}

-- ---- the task

pub asks_for : (query : BoundQuery) (tree : TreeSetting) (head : Seen)
    (matched : List (Option (List ℕ))) (grouped : List Bool)
    → Serves tree query
    → AreTested query.conjuncts tree.split head (length tree.split) matched
    → AreGrouped query.groups tree.split (length tree.split) grouped
    → AsksFor query tree.split (split_values head tree.split) (task_of matched grouped)
asks_for query tree head matched grouped serves tested grouped_so = record {
  filtered = serves.filtered;
  tested = λ d lt. (tested.each d lt).some;
  passing = λ d id lt below is. (tested.each d lt).each id below;
  grouped = grouped_so.each;
}
