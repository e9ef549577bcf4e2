-- HAVING of a bound query fits: each value has the type of its group column, and each aggregate is one of the query.
use Rattle.std.proofs.Common.{◌≡◌, ℕ, ℤ, zero, suc, ◌<◌, ◌==◌, nat_lt, Bool, true, List, [], ◌∷◌, length, map, flat_map, Option, Some, None, Ok, is_some, option_and_then, refl, sym, ap, ◌∙◌, subst, arith, rules, tests}
use Rattle.std.specs.List.{list_any, position_or_len, slice_get}
use Rattle.std.proofs.lemmas.Bool.{eqb-true}
use Rattle.std.proofs.lemmas.Option.{none-some}
use Rattle.std.proofs.lemmas.List.Folds.{flat_map-map}
use Rattle.values.specs.declared.value.Value.{Value}
use Rattle.values.specs.declared.test.CompareOp.{CompareOp}
use Rattle.values.specs.Tests.{all_true}
use Rattle.table_schema.specs.declared.field.Field.{Field}
use Rattle.table_schema.specs.declared.table.Table.{Table}
use Rattle.table_schema.specs.declared.query.Agg.{Agg}
use Rattle.table_schema.specs.declared.query.Having.{Having}
use Rattle.table_schema.specs.declared.query.Having.TheVariants as asked
use Rattle.table_schema.specs.declared.query.Having.TheOpen.{Having-F}
use Rattle.table_schema.specs.declared.query.Having.TheFolds.{fold-roll-Having}
use Rattle.table_schema.specs.Aggs.{same_agg}
use Rattle.table_schema.specs.ValidQuery.{is_typed, kind_at, each_test, having_places, having_fits, if_asked}
use Rattle.table_schema.specs.ValidQuery as valid
use Rattle.table_schema.specs.Firsts.{first_in}
use Rattle.table_schema.proofs.AggLaws.{agg_is}
use Rattle.table_schema.proofs.FirstLaws.{first_none, rest_none}
use Rattle.query_tokens.specs.declared.tree.NameAt.{NameAt}
use Rattle.query_tokens.specs.declared.tree.LiteralAt.{LiteralAt}
use Rattle.query_tokens.specs.declared.tree.Term.{Term}
use Rattle.query_tokens.specs.declared.tree.Term.TheVariants as term
use Rattle.query_tokens.specs.declared.tree.HavingCond.{HavingCond}
use Rattle.query_tokens.specs.declared.tree.HavingCond.TheOpen.{HavingCond-F}
use Rattle.query_tokens.specs.declared.tree.HavingCond.TheFolds.{fold-roll-HavingCond, ind-HavingCond, map-HavingCond}
use Rattle.query_tokens.specs.declared.tree.HavingCond.TheViews.{roll-HavingCond}
use Rattle.query_tokens.specs.declared.tree.Query.{Query}
use Rattle.query_bind.specs.declared.fault.BindReason.TheVariants.{TypeMismatch}
use Rattle.query_bind.specs.Written.{field_number}
use Rattle.query_bind.specs.GroupTests.{GroupTest, tests_step, tests_of, having_tests, having_finding}
use Rattle.query_bind.specs.Names.{column_finding, kind_of, term_finding, group_test_finding, where_finding, table_finding, names_finding}
use Rattle.query_bind.specs.Grouped.{term_grouped, test_grouped}
use Rattle.query_bind.specs.Terms.{meaning_of, agg_of, tested_at, column_at, columns_from, aggs_from, terms_of}
use Rattle.query_bind.specs.Bound.{Bound, Spelled, item_of, whole_in, test_of, having_of, asked_of, bound_of, bound, query_finding}
use Rattle.query_bind.specs.Bound as bounds
use Rattle.query_bind.proofs.Truth.{and_of}
use Rattle.query_bind.proofs.HavingLemmas.{Each, each_front, each_back, tests_pass}
use Rattle.query_bind.proofs.FitLemmas.{passes_by, kind_is}
use Rattle.query_bind.proofs.FirstLemmas.{columns_grow}
use Rattle.query_bind.proofs.PlaceLemmas.{answered, Has, HasAll, HasColumn, has_all, stands, term_column, passes}
use Rattle.query_bind.proofs.SpelledLemmas.{spelled_groups}

pub within : {A : Type 0} (xs : List A) (n : ℕ) (x : A) → slice_get xs n ≡ Some x → n < length xs
within [] n x e = absurd (none-some x e)
within (y ∷ ys) zero x e = omega arith
within (y ∷ ys) (suc n) x e = omega (arith, within ys n x e)

is_within : {A : Type 0} (xs : List A) (n : ℕ) (x : A) → slice_get xs n ≡ Some x → nat_lt n (length xs) ≡ true
is_within xs n x e = let lt : n < length xs = within xs n x e in search (rules, tests)

module _ (column : ℕ → Value → Bool) (agg : ℕ → Bool) where
  abbrev all_tests : Having → Bool
  all_tests = each_test column agg

  all-Group : (place : ℕ) (op : CompareOp) (v : Value) → all_tests (asked.Group place op v) ≡ column place v
  all-Group place op v = ap all_tests (sym (asked.rolls-Group place op v)) ∙ fold-roll-Having Bool (valid.having_step column agg) (Having-F.Group place op v)

  all-Agg : (place : ℕ) (op : CompareOp) (n : ℤ) → all_tests (asked.Agg place op n) ≡ agg place
  all-Agg place op n = ap all_tests (sym (asked.rolls-Agg place op n)) ∙ fold-roll-Having Bool (valid.having_step column agg) (Having-F.Agg place op n)

  all-Not : (h : Having) → all_tests (asked.Not h) ≡ all_tests h
  all-Not h = ap all_tests (sym (asked.rolls-Not h)) ∙ fold-roll-Having Bool (valid.having_step column agg) (Having-F.Not h)

  all-All : (hs : List Having) → all_tests (asked.All hs) ≡ all_true (map all_tests hs)
  all-All hs = ap all_tests (sym (asked.rolls-All hs)) ∙ fold-roll-Having Bool (valid.having_step column agg) (Having-F.All hs)

  all-Any : (hs : List Having) → all_tests (asked.Any hs) ≡ all_true (map all_tests hs)
  all-Any hs = ap all_tests (sym (asked.rolls-Any hs)) ∙ fold-roll-Having Bool (valid.having_step column agg) (Having-F.Any hs)

  module _ (fields : List Field) (groups : List ℕ) (aggs : List Agg) where
    -- a test in its place passes, whatever its sign
    abbrev pub Stands : GroupTest → Type 0
    Stands t = (op : CompareOp) → all_tests (test_of (item_of groups aggs (meaning_of fields t.tested)) op t.literal.value) ≡ true

    abbrev placed : HavingCond → Having
    placed = having_of fields groups aggs

    abbrev Stand : HavingCond → Type 0
    Stand h = Each Stands (tests_of h) → all_tests (placed h) ≡ true

    inner_stand : (inner : List ((h : HavingCond) × Stand h)) → Each Stands (flat_map tests_of (map (λ e. e.0) inner)) → all_true (map all_tests (map placed (map (λ e. e.0) inner))) ≡ true
    inner_stand [] each = refl
    inner_stand (h ∷ hs) each = and_of (all_tests (placed h.0)) _ (h.1 (each_front Stands (tests_of h.0) _ each)) (inner_stand hs (each_back Stands (tests_of h.0) _ each))

    layer_stands : (y : HavingCond-F ((h : HavingCond) × Stand h))
        → Each Stands (tests_step (map-HavingCond HavingCond (List GroupTest) tests_of (map-HavingCond ((h : HavingCond) × Stand h) HavingCond (λ e. e.0) y)))
        → all_tests (bounds.having_step fields groups aggs (map-HavingCond HavingCond Having placed (map-HavingCond ((h : HavingCond) × Stand h) HavingCond (λ e. e.0) y))) ≡ true
    layer_stands (HavingCond-F.Compare t op l) each = each.0 op
    layer_stands (HavingCond-F.Not inner) each = all-Not (placed inner.0) ∙ inner.1 each
    layer_stands (HavingCond-F.All inner) each = all-All (map placed (map (λ e. e.0) inner)) ∙ inner_stand inner (subst (Each Stands) (flat_map-map (λ tests. tests) tests_of (map (λ e. e.0) inner)) each)
    layer_stands (HavingCond-F.Any inner) each = all-Any (map placed (map (λ e. e.0) inner)) ∙ inner_stand inner (subst (Each Stands) (flat_map-map (λ tests. tests) tests_of (map (λ e. e.0) inner)) each)

    pub condition_stands : (h : HavingCond) → Stand h
    condition_stands = ind-HavingCond Stand (λ x y is. subst (λ layer. Stand (roll-HavingCond layer)) is (λ each.
        let z = map-HavingCond ((h : HavingCond) × Stand h) HavingCond (λ p. p.0) y in
        ap all_tests (fold-roll-HavingCond Having (bounds.having_step fields groups aggs) z)
        ∙ layer_stands y (subst (Each Stands) (fold-roll-HavingCond (List GroupTest) tests_step z) each)))

-- ---- tests that are in order

abbrev is_place : {A : Type 0} → List A → ℕ → Bool
is_place xs place = nat_lt place (length xs)

abbrev is_value : List Field → List ℕ → ℕ → Value → Bool
is_value fields groups place value = is_typed (option_and_then (kind_at fields) (slice_get groups place)) value

module _ (fields : List Field) (groups : List ℕ) (aggs : List Agg) where
  pub column_at_place : (c : ℕ) → list_any (λ g. g == c) groups ≡ true → slice_get groups (position_or_len (λ g. g == c) groups) ≡ Some c
  column_at_place c column = stands (λ g. g == c) groups c (λ y e. eqb-true y c e) column

  pub agg_at_place : (a : Agg) → list_any (same_agg a) aggs ≡ true → slice_get aggs (position_or_len (same_agg a) aggs) ≡ Some a
  agg_at_place a has = stands (same_agg a) aggs a (λ y e. sym (agg_is a y e)) has

  -- a test of a group column or of an aggregate of the query has a place
  placed_by : (t : Term) (l : LiteralAt) → HasColumn groups (meaning_of fields t) → Has aggs (meaning_of fields t)
      → Stands (λ place value. is_place groups place) (is_place aggs) fields groups aggs (record { tested = t; literal = l })
  placed_by (term.Column n) l column has op =
      let c = field_number fields n in
      all-Group (λ place value. is_place groups place) (is_place aggs) (position_or_len (λ g. g == c) groups) op l.value
      ∙ is_within groups (position_or_len (λ g. g == c) groups) c (column_at_place c column)
  placed_by (term.Call call) l column has op =
      let a = agg_of fields call.func call.argument in
      all-Agg (λ place value. is_place groups place) (is_place aggs) (position_or_len (same_agg a) aggs) op (whole_in l.value)
      ∙ is_within aggs (position_or_len (same_agg a) aggs) a (agg_at_place a has)

  -- and its value, where its names and types are in order, has the type of its column
  typed_by : (t : Term) (l : LiteralAt) → group_test_finding fields (record { tested = t; literal = l }) ≡ None → HasColumn groups (meaning_of fields t)
      → Stands (is_value fields groups) (λ place. true) fields groups aggs (record { tested = t; literal = l })
  typed_by (term.Column n) l none column op =
      let c = field_number fields n in
      all-Group (is_value fields groups) (λ place. true) (position_or_len (λ g. g == c) groups) op l.value
      ∙ ap (λ o. is_typed (option_and_then (kind_at fields) o) l.value) (column_at_place c column)
      ∙ ap (λ k. is_typed k l.value) (sym (kind_is fields n _ none)) ∙ passes_by fields (is_typed (kind_of fields n) l.value) TypeMismatch l.offset
      (rest_none (column_finding fields n) _ none)
  typed_by (term.Call call) l none column op =
      all-Agg (is_value fields groups) (λ place. true) (position_or_len (same_agg (agg_of fields call.func call.argument)) aggs) op (whole_in l.value)

-- ---- the query

some_columns : (fields : List Field) (names : List NameAt) → 0 < length names → 0 < length (columns_from [] (map (column_at fields) names))
some_columns fields [] some = absurd (omega (arith, some))
some_columns fields (n ∷ ns) some = omega (arith, columns_grow (field_number fields n ∷ []) (map (column_at fields) ns))

module _ (fields : List Field) (names : List NameAt) (b : Bound) (columns : b.groups ≡ columns_from [] (map (column_at fields) names)) where
  all_placed : (ts : List GroupTest) → Each (λ t. test_grouped names t ≡ None) ts → HasAll b.aggs (map (tested_at fields) ts)
      → Each (Stands (λ place value. is_place b.groups place) (is_place b.aggs) fields b.groups b.aggs) ts
  all_placed [] grouped has = tt
  all_placed (t ∷ ts) grouped has = (
    placed_by fields b.groups b.aggs t.tested t.literal (term_column fields names b columns t.tested grouped.0) has.0,
    all_placed ts grouped.1 has.1,
  )

  all_typed : (ts : List GroupTest) → Each (λ t. group_test_finding fields t ≡ None) ts → Each (λ t. test_grouped names t ≡ None) ts
      → Each (Stands (is_value fields b.groups) (λ place. true) fields b.groups b.aggs) ts
  all_typed [] typed grouped = tt
  all_typed (t ∷ ts) typed grouped = (
    typed_by fields b.groups b.aggs t.tested t.literal typed.0 (term_column fields names b columns t.tested grouped.0),
    all_typed ts typed.1 grouped.1,
  )

  places_by : (o : Option HavingCond) → having_finding (test_grouped names) o ≡ None → HasAll b.aggs (map (tested_at fields) (having_tests o))
      → if_asked (having_places b.groups b.aggs) (asked_of fields b.groups b.aggs o) ≡ true
  places_by None grouped has = refl
  places_by (Some h) grouped has = condition_stands (λ place value. is_place b.groups place) (is_place b.aggs) fields b.groups b.aggs h
      (all_placed (tests_of h) (tests_pass (test_grouped names) h grouped) has)

  types_by : (o : Option HavingCond) → having_finding (group_test_finding fields) o ≡ None → having_finding (test_grouped names) o ≡ None
      → if_asked (having_fits fields b.groups) (asked_of fields b.groups b.aggs o) ≡ true
  types_by None typed grouped = refl
  types_by (Some h) typed grouped = condition_stands (is_value fields b.groups) (λ place. true) fields b.groups b.aggs h
      (all_typed (tests_of h) (tests_pass (group_test_finding fields) h typed) (tests_pass (test_grouped names) h grouped))

  grouped_by : (o : Option HavingCond) → (is_some o ≡ true → 0 < length b.groups) → if_asked (λ having. nat_lt 0 (length b.groups)) (asked_of fields b.groups b.aggs o) ≡ true
  grouped_by None some = refl
  grouped_by (Some h) some = let lt : 0 < length b.groups = some refl in search (rules, tests)

module _ (table : Table) (any_table : Bool) (q : Query) (b : Bound) (is : bound table any_table q ≡ Ok b) where
  abbrev fields : List Field
  fields = table.schema.fields

  own : (query_finding table any_table q ≡ None) × (bound_of fields q ≡ b)
  own = answered (query_finding table any_table q) (bound_of fields q) b is

  pub typed : having_finding (group_test_finding fields) q.having ≡ None
  typed =
      let names = first_none (names_finding fields q) _ (rest_none (table_finding table any_table q) _ own.0) in
      let after_items = rest_none (first_in (λ i. term_finding fields i.term) q.items) _ names in
      let after_where = rest_none (where_finding fields q.condition) _ after_items in
      first_none (having_finding (group_test_finding fields) q.having) _ (rest_none (first_in (column_finding fields) q.groups) _ after_where)

  pub grouped : having_finding (test_grouped q.groups) q.having ≡ None
  grouped = first_none (having_finding (test_grouped q.groups) q.having) _ (rest_none (first_in (λ i. term_grouped q.groups i.term) q.items) _ (passes table any_table q b is))

  module _ (spelled : Spelled q) where
    pub asked_places : if_asked (having_places b.groups b.aggs) b.having ≡ true
    asked_places = subst (λ x. if_asked (having_places x.groups x.aggs) x.having ≡ true) own.1
        (places_by fields q.groups (bound_of fields q) refl q.having grouped
        (has_all (aggs_from [] (terms_of fields q).items) (terms_of fields q).having (map (λ k. k.term) (terms_of fields q).keys)))

    pub asked_types : if_asked (having_fits fields b.groups) b.having ≡ true
    asked_types = subst (λ x. if_asked (having_fits fields x.groups) x.having ≡ true) own.1 (types_by fields q.groups (bound_of fields q) refl q.having typed grouped)

    pub asked_groups : if_asked (λ having. nat_lt 0 (length b.groups)) b.having ≡ true
    asked_groups = subst (λ x. if_asked (λ having. nat_lt 0 (length x.groups)) x.having ≡ true) own.1
        (grouped_by fields q.groups (bound_of fields q) refl q.having (λ e. some_columns fields q.groups (spelled_groups _ q spelled.2 e)))
