-- A row satisfies the filter of a query just where its ids pass the tests of their dimensions.
use Rattle.std.proofs.Common.{◌≡◌, ◌∙◌, ℕ, zero, suc, ◌+◌, ◌<◌, ◌≤◌, Bool, true, false, cond, not, ◌==◌, ◌⊎◌, inl, inr, List, [], ◌∷◌, length, pos, refl, sym, ap, subst, arith, ℤ}
use Rattle.std.specs.List.{AllByRecursion, list_all, list_any}
use Rattle.std.proofs.lemmas.Bool.{and_from, and_parts, cases_Bool, eq-eqb, eqb-true, or_cases, or_left, or_right, both_ways}
use Rattle.std.proofs.lemmas.Option.{get_or_from_slice_get, slice_get_within}
use Rattle.std.proofs.lemmas.List.{get_or_default}
use Rattle.values.specs.declared.value.Value.{Value}
use Rattle.values.specs.declared.value.Value.TheVariants.{Whole}
use Rattle.values.specs.Tests.{holds}
use Rattle.agg_laws.specs.Tree.{dim}
use Rattle.star_tree.specs.Picks as asks
use Rattle.star_tree.specs.Picks.{holds_from}
use Rattle.table_schema.specs.declared.query.Agg.{Agg}
use Rattle.table_schema.specs.declared.query.BoundQuery.{BoundQuery}
use Rattle.table_schema.specs.declared.query.Conjunct.{Conjunct}
use Rattle.table_schema.specs.declared.query.Conjunct.TheVariants.{One, Many}
use Rattle.table_schema.specs.Conditions.{all_hold, cell, conjunct_holds}
use Rattle.eligibility.specs.Rule.{IsFiltered}
use Rattle.segment_plan.specs.Matched.{is_filtered, is_on, passes}
use Rattle.star_answer.specs.Served.{AsksFor, IsProjected}
use Rattle.segment_reads.specs.Docs.{field_of}

-- two tests are the same where each holds with the other
pub same_test : (a b : Bool) → (a ≡ true → b ≡ true) → (b ≡ true → a ≡ true) → a ≡ b
same_test true b f g = sym (f refl)
same_test false true f g = g refl
same_test false false f g = refl

-- ---- one conjunct

-- a row that satisfies it has a value that passes in each column
conjunct_passes : (row : List Value) (column : ℕ) (c : Conjunct) → conjunct_holds row c ≡ true
    → passes column (cell row column) c ≡ true
conjunct_passes row column (One named condition) h =
    elim (cases_Bool (named == column)) [
      | inl same ↦ or_right (not (named == column)) (holds (cell row column) condition)
          (subst (λ n. holds (cell row n) condition ≡ true) (eqb-true named column same) h)
      | inr other ↦ or_left (not (named == column)) (holds (cell row column) condition)
          (ap not other)
    ]
conjunct_passes row column (Many wide) h = refl

all_pass : (row : List Value) (column : ℕ) (cs : List Conjunct)
    → list_all (conjunct_holds row) cs ≡ true → list_all (passes column (cell row column)) cs ≡ true
all_pass row column [] h = refl
all_pass row column (c ∷ cs) h =
    let both = and_parts (conjunct_holds row c) (list_all (conjunct_holds row) cs) h in
    and_from (passes column (cell row column) c) (list_all (passes column (cell row column)) cs)
    (conjunct_passes row column c both.0) (all_pass row column cs both.1)

-- a value that passes in the column that it names satisfies it
passes_conjunct : (row : List Value) (column : ℕ) (c : Conjunct) → is_on column c ≡ true
    → passes column (cell row column) c ≡ true → conjunct_holds row c ≡ true
passes_conjunct row column (One named condition) on h =
    let same : named ≡ column = eqb-true named column on in
    let own : holds (cell row column) condition ≡ true =
    elim (or_cases (not (named == column)) (holds (cell row column) condition) h) [
      | inl differs ↦ absurd (both_ways (not (named == column)) (ap not on) differs)
      | inr own ↦ own
    ] in
    subst (λ n. holds (cell row n) condition ≡ true) (sym same) own
passes_conjunct row column (Many wide) on h = cc

module _ (row : List Value) (split : List ℕ) (all : List Conjunct)
    (each : (d : ℕ) → d < length split → is_filtered all (field_of split d) ≡ true
    → list_all (passes (field_of split d) (cell row (field_of split d))) all ≡ true) where
  head_holds : (c : Conjunct) (cs : List Conjunct) → IsFiltered split c
      → ((column : ℕ) → list_any (is_on column) (c ∷ cs) ≡ true → is_filtered all column ≡ true)
      → ((column : ℕ) (v : Value) → list_all (passes column v) all ≡ true
      → list_all (passes column v) (c ∷ cs) ≡ true) → conjunct_holds row c ≡ true
  head_holds c cs filtered more less =
      let d = filtered.among.0 in
      let lt : d < length split = filtered.among.1 in
      let field : field_of split d ≡ filtered.column = get_or_default split d 0 filtered.column lt
      ∙ filtered.among.2 in
      let on : is_on (field_of split d) c ≡ true =
      subst (λ (k : Conjunct). is_on (field_of split d) k ≡ true) (sym filtered.names)
      (eq-eqb filtered.column (field_of split d) (sym field)) in
      let passed = less (field_of split d) (cell row (field_of split d)) (each d lt
      (more (field_of split d) (or_left (is_on (field_of split d) c)
      (list_any (is_on (field_of split d)) cs) on))) in
      passes_conjunct row (field_of split d) c on
      (and_parts (passes (field_of split d) (cell row (field_of split d)) c)
      (list_all (passes (field_of split d) (cell row (field_of split d))) cs) passed).0

  all_held : (cs : List Conjunct) → AllByRecursion (IsFiltered split) cs
      → ((column : ℕ) → list_any (is_on column) cs ≡ true → is_filtered all column ≡ true)
      → ((column : ℕ) (v : Value) → list_all (passes column v) all ≡ true
      → list_all (passes column v) cs ≡ true) → list_all (conjunct_holds row) cs ≡ true
  all_held [] filtered more less = refl
  all_held (c ∷ cs) filtered more less =
      and_from (conjunct_holds row c) (list_all (conjunct_holds row) cs)
      (head_holds c cs filtered.0 more less)
      (all_held cs filtered.1
      (λ column any. more column (or_right (is_on column c) (list_any (is_on column) cs) any))
      (λ column v passed. (and_parts (passes column v c) (list_all (passes column v) cs)
      (less column v passed)).1))

-- ---- all dimensions

-- the tests hold where each dimension's does, and else not
holds_all : (t : asks.Task) (more d : ℕ) (x : List ℕ)
    → ((i : ℕ) → d ≤ i → i < d + more → t.filtered i ≡ true → t.passes i (dim i x) ≡ true)
    → holds_from t more d x ≡ true
holds_all t zero d x each = refl
holds_all t (suc more) d x each =
    and_from (cond (t.filtered d) (t.passes d (dim d x)) true) (holds_from t more (suc d) x)
    (own (t.filtered d) (each d (omega arith) (omega arith)))
    (holds_all t more (suc d) x (λ i ge lt. each i (omega (arith, ge)) (omega (arith, lt))))
  where
    own : (b : Bool) → (b ≡ true → t.passes d (dim d x) ≡ true)
        → cond b (t.passes d (dim d x)) true ≡ true
    own true h = h refl
    own false h = refl

holds_each : (t : asks.Task) (more d : ℕ) (x : List ℕ) → holds_from t more d x ≡ true
    → (i : ℕ) → d ≤ i → i < d + more → t.filtered i ≡ true → t.passes i (dim i x) ≡ true
holds_each t zero d x h i ge lt tested = absurd (omega (arith, ge, lt))
holds_each t (suc more) d x h i ge lt tested =
    let both = and_parts (cond (t.filtered d) (t.passes d (dim d x)) true)
    (holds_from t more (suc d) x) h in
    elim (first_or_later d i ge) [
      | inl same ↦ subst (λ n. t.filtered n ≡ true → t.passes n (dim n x) ≡ true) same
          (own (t.filtered d) both.0) tested
      | inr later ↦ holds_each t more (suc d) x both.1 i later (omega (arith, lt)) tested
    ]
  where
    first_or_later : (d i : ℕ) → d ≤ i → (d ≡ i) ⊎ (suc d ≤ i)
    first_or_later d i ge = elim (cases_Bool (d == i)) [
      | inl same ↦ inl (eqb-true d i same)
      | inr other ↦ inr (let ne : d ≡ i → ⊥ = λ e. both_ways (d == i) other (eq-eqb d i e) in
          omega (arith, ge, ne))
    ]

    own : (b : Bool) → cond b (t.passes d (dim d x)) true ≡ true → b ≡ true
        → t.passes d (dim d x) ≡ true
    own true h is = h
    own false h is = cc

module _ (query : BoundQuery) (split : List ℕ) (pairs : List Agg) (values : ℕ → List Value)
    (t : asks.Task) (asks_for : AsksFor query split values t) (row : List Value)
    (entry : List ℕ × List ℤ) (projected : IsProjected split pairs values row entry) where
  -- an id passes where its value does
  id_passes : (d : ℕ) → d < length split → t.filtered d ≡ true → t.passes d (dim d entry.0)
      ≡ list_all (passes (field_of split d) (cell row (field_of split d))) query.conjuncts
  id_passes d lt tested =
      let id = dim d entry.0 in
      let there = slice_get_within (values d) id (cell row (field_of split d))
      (projected.ids d lt) in
      asks_for.passing d id lt there tested
      ∙ ap (λ (v : Value). list_all (passes (field_of split d) v) query.conjuncts)
      (get_or_from_slice_get (values d) id (cell row (field_of split d)) (Whole (pos 0))
      (projected.ids d lt))

  -- the row satisfies the filter just where its ids pass
  pub holds_same : holds_from t (length split) 0 entry.0 ≡ all_hold row query.conjuncts
  holds_same = same_test (holds_from t (length split) 0 entry.0) (all_hold row query.conjuncts)
      (λ h. all_held row split query.conjuncts
      (λ d lt tested. sym (id_passes d lt (asks_for.tested d lt ∙ tested))
      ∙ holds_each t (length split) 0 entry.0 h d (omega arith) (omega (arith, lt))
      (asks_for.tested d lt ∙ tested))
      query.conjuncts asks_for.filtered (λ column any. any) (λ column v passed. passed))
      (λ h. holds_all t (length split) 0 entry.0 (λ i ge lt tested.
      id_passes i (omega (arith, lt)) tested
      ∙ all_pass row (field_of split i) query.conjuncts h))
