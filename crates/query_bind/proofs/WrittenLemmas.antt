-- A bound HAVING asks of a group what is written.
use Rattle.std.proofs.Common.{◌≡◌, ℕ, ℤ, ◌==◌, Bool, true, List, [], ◌∷◌, map, flat_map, Option, Some, None, Ok, option_map, refl, sym, ap, ◌∙◌, subst}
use Rattle.std.specs.List.{position_or_len}
use Rattle.std.proofs.lemmas.Bool.{false≢true}
use Rattle.std.proofs.lemmas.List.Folds.{flat_map-map}
use Rattle.data_types.specs.declared.kind.FieldKind.TheVariants as kind
use Rattle.values.specs.declared.value.Value.{Value}
use Rattle.values.specs.declared.value.Value.TheVariants as value
use Rattle.values.specs.declared.test.CompareOp.{CompareOp}
use Rattle.table_schema.specs.declared.field.Field.{Field}
use Rattle.table_schema.specs.declared.table.Table.{Table}
use Rattle.table_schema.specs.declared.query.Item.TheVariants as item
use Rattle.table_schema.specs.declared.query.Having.{Having}
use Rattle.table_schema.specs.declared.query.Having.TheVariants as asked
use Rattle.table_schema.specs.declared.query.Having.TheOpen.{Having-F}
use Rattle.table_schema.specs.declared.query.Having.TheFolds.{fold-roll-Having}
use Rattle.table_schema.specs.Aggs.{same_agg}
use Rattle.table_schema.specs.ValidQuery.{is_typed}
use Rattle.table_schema.proofs.FirstLaws.{rest_none}
use Rattle.query_tokens.specs.declared.tree.NameAt.{NameAt}
use Rattle.query_tokens.specs.declared.tree.LiteralAt.{LiteralAt}
use Rattle.query_tokens.specs.declared.tree.Term.{Term}
use Rattle.query_tokens.specs.declared.tree.Term.TheVariants as term
use Rattle.query_tokens.specs.declared.tree.HavingCond.{HavingCond}
use Rattle.query_tokens.specs.declared.tree.HavingCond.TheOpen.{HavingCond-F}
use Rattle.query_tokens.specs.declared.tree.HavingCond.TheFolds.{fold-roll-HavingCond, ind-HavingCond, map-HavingCond}
use Rattle.query_tokens.specs.declared.tree.HavingCond.TheViews.{roll-HavingCond}
use Rattle.query_tokens.specs.declared.tree.Query.{Query}
use Rattle.query_bind.specs.declared.fault.BindReason.TheVariants.{TypeMismatch}
use Rattle.query_bind.specs.declared.terms.Meaning.TheVariants as meaning
use Rattle.query_bind.specs.Written.{field_number}
use Rattle.query_bind.specs.GroupTests.{GroupTest, tests_step, tests_of, having_tests, having_finding}
use Rattle.query_bind.specs.Names.{argument_finding, group_test_finding}
use Rattle.query_bind.specs.Grouped.{test_grouped}
use Rattle.query_bind.specs.Terms.{meaning_of, agg_of, tested_at, column_at, columns_from, aggs_from, terms_of}
use Rattle.query_bind.specs.Bound.{Bound, item_of, whole_in, test_of, having_of, asked_of, bound_of, bound, query_finding}
use Rattle.query_bind.specs.Bound as bounds
use Rattle.query_bind.specs.Places.{at_place, Asks, Test, Not, All, Any, each_of, written_step, asks_written, placed_step, asks_at, HavingAsksWritten}
use Rattle.query_bind.proofs.HavingLemmas.{Each, each_front, each_back, tests_pass}
use Rattle.query_bind.proofs.FitLemmas.{passes_by}
use Rattle.query_bind.proofs.AskedLemmas.{column_at_place, agg_at_place, typed, grouped}
use Rattle.query_bind.proofs.PlaceLemmas.{answered, Has, HasAll, HasColumn, has_all, term_column}

-- ---- each form of a bound condition

module _ (b : Bound) where
  at-Group : (place : ℕ) (op : CompareOp) (v : Value) → asks_at b (asked.Group place op v) ≡ Test (at_place b (item.Group place)) op v
  at-Group place op v = ap (asks_at b) (sym (asked.rolls-Group place op v)) ∙ fold-roll-Having Asks (placed_step b) (Having-F.Group place op v)

  at-Agg : (place : ℕ) (op : CompareOp) (n : ℤ) → asks_at b (asked.Agg place op n) ≡ Test (at_place b (item.Agg place)) op (value.Whole n)
  at-Agg place op n = ap (asks_at b) (sym (asked.rolls-Agg place op n)) ∙ fold-roll-Having Asks (placed_step b) (Having-F.Agg place op n)

  at-Not : (h : Having) → asks_at b (asked.Not h) ≡ Not (asks_at b h)
  at-Not h = ap (asks_at b) (sym (asked.rolls-Not h)) ∙ fold-roll-Having Asks (placed_step b) (Having-F.Not h)

  at-All : (hs : List Having) → asks_at b (asked.All hs) ≡ All (each_of (map (asks_at b) hs))
  at-All hs = ap (asks_at b) (sym (asked.rolls-All hs)) ∙ fold-roll-Having Asks (placed_step b) (Having-F.All hs)

  at-Any : (hs : List Having) → asks_at b (asked.Any hs) ≡ Any (each_of (map (asks_at b) hs))
  at-Any hs = ap (asks_at b) (sym (asked.rolls-Any hs)) ∙ fold-roll-Having Asks (placed_step b) (Having-F.Any hs)

-- ---- a condition whose tests are as they are written

module _ (fields : List Field) (b : Bound) where
  -- a test in its place asks what is written, whatever its sign
  abbrev Stands : GroupTest → Type 0
  Stands t = (op : CompareOp) → asks_at b (test_of (item_of b.groups b.aggs (meaning_of fields t.tested)) op t.literal.value)
      ≡ Test (Some (meaning_of fields t.tested)) op t.literal.value

  abbrev placed : HavingCond → Having
  placed = having_of fields b.groups b.aggs

  abbrev as_written : HavingCond → Asks
  as_written = asks_written fields

  abbrev Stand : HavingCond → Type 0
  Stand h = Each Stands (tests_of h) → asks_at b (placed h) ≡ as_written h

  inner_stand : (inner : List ((h : HavingCond) × Stand h)) → Each Stands (flat_map tests_of (map (λ e. e.0) inner))
      → map (asks_at b) (map placed (map (λ e. e.0) inner)) ≡ map as_written (map (λ e. e.0) inner)
  inner_stand [] each = refl
  inner_stand (h ∷ hs) each =
      ap (λ a. a ∷ map (asks_at b) (map placed (map (λ e. e.0) hs))) (h.1 (each_front Stands (tests_of h.0) _ each))
      ∙ ap (λ more. as_written h.0 ∷ more) (inner_stand hs (each_back Stands (tests_of h.0) _ each))

  layer_stands : (y : HavingCond-F ((h : HavingCond) × Stand h))
      → Each Stands (tests_step (map-HavingCond HavingCond (List GroupTest) tests_of (map-HavingCond ((h : HavingCond) × Stand h) HavingCond (λ e. e.0) y)))
      → asks_at b (bounds.having_step fields b.groups b.aggs (map-HavingCond HavingCond Having placed (map-HavingCond ((h : HavingCond) × Stand h) HavingCond (λ e. e.0) y)))
      ≡ written_step fields (map-HavingCond HavingCond Asks as_written (map-HavingCond ((h : HavingCond) × Stand h) HavingCond (λ e. e.0) y))
  layer_stands (HavingCond-F.Compare t op l) each = each.0 op
  layer_stands (HavingCond-F.Not inner) each = at-Not b (placed inner.0) ∙ ap Not (inner.1 each)
  layer_stands (HavingCond-F.All inner) each = at-All b (map placed (map (λ e. e.0) inner))
      ∙ ap (λ more. All (each_of more)) (inner_stand inner (subst (Each Stands) (flat_map-map (λ tests. tests) tests_of (map (λ e. e.0) inner)) each))
  layer_stands (HavingCond-F.Any inner) each = at-Any b (map placed (map (λ e. e.0) inner))
      ∙ ap (λ more. Any (each_of more)) (inner_stand inner (subst (Each Stands) (flat_map-map (λ tests. tests) tests_of (map (λ e. e.0) inner)) each))

  condition_stands : (h : HavingCond) → Stand h
  condition_stands = ind-HavingCond Stand (λ x y is. subst (λ layer. Stand (roll-HavingCond layer)) is (λ each.
      let z = map-HavingCond ((h : HavingCond) × Stand h) HavingCond (λ p. p.0) y in
      ap (asks_at b) (fold-roll-HavingCond Having (bounds.having_step fields b.groups b.aggs) z)
      ∙ layer_stands y (subst (Each Stands) (fold-roll-HavingCond (List GroupTest) tests_step z) each)
      ∙ sym (fold-roll-HavingCond Asks (written_step fields) z)))

-- ---- tests that are in order

-- a number is the literal of a call
whole_by : (v : Value) → is_typed (Some kind.Long) v ≡ true → value.Whole (whole_in v) ≡ v
whole_by (value.Whole z) e = refl
whole_by (value.Text t) e = absurd (false≢true e)

module _ (fields : List Field) (b : Bound) where
  stands_by : (t : Term) (l : LiteralAt) → group_test_finding fields (record { tested = t; literal = l }) ≡ None
      → HasColumn b.groups (meaning_of fields t) → Has b.aggs (meaning_of fields t) → Stands fields b (record { tested = t; literal = l })
  stands_by (term.Column n) l none column has op =
      let c = field_number fields n in
      at-Group b (position_or_len (λ g. g == c) b.groups) op l.value
      ∙ ap (λ o. Test (option_map meaning.Column o) op l.value) (column_at_place fields b.groups b.aggs c column)
  stands_by (term.Call call) l none column has op =
      let a = agg_of fields call.func call.argument in
      let number = whole_by l.value (passes_by fields (is_typed (Some kind.Long) l.value) TypeMismatch l.offset (rest_none (argument_finding fields call.func call.argument) _ none)) in
      at-Agg b (position_or_len (same_agg a) b.aggs) op (whole_in l.value)
      ∙ ap (λ o. Test (option_map meaning.Agg o) op (value.Whole (whole_in l.value))) (agg_at_place fields b.groups b.aggs a has)
      ∙ ap (Test (Some (meaning.Agg a)) op) number

module _ (fields : List Field) (names : List NameAt) (b : Bound) (columns : b.groups ≡ columns_from [] (map (column_at fields) names)) where
  all_stand : (ts : List GroupTest) → Each (λ t. group_test_finding fields t ≡ None) ts → Each (λ t. test_grouped names t ≡ None) ts
      → HasAll b.aggs (map (tested_at fields) ts) → Each (Stands fields b) ts
  all_stand [] types groups has = tt
  all_stand (t ∷ ts) types groups has = (
    stands_by fields b t.tested t.literal types.0 (term_column fields names b columns t.tested groups.0) has.0,
    all_stand ts types.1 groups.1 has.1,
  )

  asks_by : (o : Option HavingCond) → having_finding (group_test_finding fields) o ≡ None → having_finding (test_grouped names) o ≡ None
      → HasAll b.aggs (map (tested_at fields) (having_tests o))
      → option_map (asks_at b) (asked_of fields b.groups b.aggs o) ≡ option_map (asks_written fields) o
  asks_by None types groups has = refl
  asks_by (Some h) types groups has = ap Some (condition_stands fields b h
      (all_stand (tests_of h) (tests_pass (group_test_finding fields) h types) (tests_pass (test_grouped names) h groups) has))

-- ---- the law

module _ (table : Table) (any_table : Bool) (q : Query) (b : Bound) (is : bound table any_table q ≡ Ok b) where
  abbrev fields : List Field
  fields = table.schema.fields

  own : (query_finding table any_table q ≡ None) × (bound_of fields q ≡ b)
  own = answered (query_finding table any_table q) (bound_of fields q) b is

  asks : option_map (asks_at b) b.having ≡ option_map (asks_written fields) q.having
  asks = subst (λ x. option_map (asks_at x) x.having ≡ option_map (asks_written fields) q.having) own.1
      (asks_by fields q.groups (bound_of fields q) refl q.having (typed table any_table q b is) (grouped table any_table q b is)
      (has_all (aggs_from [] (terms_of fields q).items) (terms_of fields q).having (map (λ k. k.term) (terms_of fields q).keys)))

pub having_holds : HavingAsksWritten
having_holds = λ table any_table q b is. asks table any_table q b is
