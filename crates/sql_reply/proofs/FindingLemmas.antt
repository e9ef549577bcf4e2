-- The checks of a query never end for want of memory.
use Rattle.std.proofs.Common.{◌≡◌, ℕ, ◌+◌, Bool, true, false, ◌||◌, List, [], ◌∷◌, length, map, Option, Some, None, Err, nat_lt, nat_le, sym, subst}
use Rattle.table_schema.specs.declared.field.Field.{Field}
use Rattle.table_schema.specs.declared.query.Agg.{Agg}
use Rattle.table_schema.specs.declared.table.Table.{Table}
use Rattle.table_schema.specs.Firsts.{or_else, first_of, first_in}
use Rattle.query_tokens.specs.declared.tree.NameAt.{NameAt}
use Rattle.query_tokens.specs.declared.tree.LiteralAt.{LiteralAt}
use Rattle.query_tokens.specs.declared.tree.Func.{Func}
use Rattle.query_tokens.specs.declared.tree.Argument.{Argument}
use Rattle.query_tokens.specs.declared.tree.Argument.TheVariants as argument
use Rattle.query_tokens.specs.declared.tree.Term.{Term}
use Rattle.query_tokens.specs.declared.tree.Term.TheVariants as term
use Rattle.query_tokens.specs.declared.tree.Cond.{Cond}
use Rattle.query_tokens.specs.declared.tree.Cond.TheOpen.{Cond-F}
use Rattle.query_tokens.specs.declared.tree.Cond.TheFolds.{fold-roll-Cond, ind-Cond, map-Cond}
use Rattle.query_tokens.specs.declared.tree.Cond.TheViews.{roll-Cond}
use Rattle.query_tokens.specs.declared.tree.HavingCond.{HavingCond}
use Rattle.query_tokens.specs.declared.tree.HavingCond.TheOpen.{HavingCond-F}
use Rattle.query_tokens.specs.declared.tree.HavingCond.TheFolds.{fold-roll-HavingCond, ind-HavingCond, map-HavingCond}
use Rattle.query_tokens.specs.declared.tree.HavingCond.TheViews.{roll-HavingCond}
use Rattle.query_tokens.specs.declared.tree.Query.{Query}
use Rattle.query_bind.specs.declared.fault.BindReason.{BindReason}
use Rattle.query_bind.specs.declared.fault.BindReason.TheVariants.{NotNumeric}
use Rattle.query_bind.specs.declared.fault.BindFault.{BindFault}
use Rattle.query_bind.specs.declared.fault.BindFault.TheVariants.{At, NoMemory}
use Rattle.query_bind.specs.declared.terms.TermAt.{TermAt}
use Rattle.query_bind.specs.declared.terms.KeyAt.{KeyAt}
use Rattle.query_bind.specs.declared.terms.ColumnAt.{ColumnAt}
use Rattle.query_bind.specs.declared.terms.Terms.{Terms}
use Rattle.query_bind.specs.Faults.{Finding, fault_if, fault_unless}
use Rattle.query_bind.specs.GroupTests.{GroupTest, having_step, first_test, having_finding}
use Rattle.query_bind.specs.Names as names
use Rattle.query_bind.specs.Grouped as grouped
use Rattle.query_bind.specs.Limits.{aggs_finding, groups_finding, keys_finding, limits_finding}
use Rattle.query_bind.specs.Terms.{aggs_from, aggs_before_keys, terms_of, with_agg, with_column}
use Rattle.query_bind.specs.Bound.{answer, bound, bound_of, query_finding}

-- a fault with its place
abbrev Placed : BindFault → Type 0
Placed (At reason place) = Unit {0}
Placed NoMemory = ⊥

abbrev Finds : Finding → Type 0
Finds None = Unit {0}
Finds (Some fault) = Placed fault

unless_finds : (passes : Bool) (reason : BindReason) (place : ℕ) → Finds (fault_unless passes reason place)
unless_finds true reason place = tt
unless_finds false reason place = tt

if_finds : (fails : Bool) (reason : BindReason) (place : ℕ) → Finds (fault_if fails reason place)
if_finds true reason place = tt
if_finds false reason place = tt

else_finds : (first later : Finding) → Finds first → Finds later → Finds (or_else first later)
else_finds None later here there = there
else_finds (Some fault) later here there = here

in_finds : {A : Type 0} (check : A → Finding) → ((a : A) → Finds (check a)) → (xs : List A) → Finds (first_in check xs)
in_finds check each [] = tt
in_finds check each (x ∷ xs) = else_finds (check x) _ (each x) (in_finds check each xs)

-- ---- names and types

column_finds : (fields : List Field) (n : NameAt) → Finds (names.column_finding fields n)
column_finds fields n = unless_finds _ _ _

argument_finds : (fields : List Field) (f : Func) (a : Argument) → Finds (names.argument_finding fields f a)
argument_finds fields f argument.Star = tt
argument_finds fields f (argument.Column n) = else_finds (names.column_finding fields n) _ (column_finds fields n) (else_finds (fault_unless (names.takes f (names.kind_of fields n)) NotNumeric n.offset) _ (unless_finds _ _ _) tt)

term_finds : (fields : List Field) (t : Term) → Finds (names.term_finding fields t)
term_finds fields (term.Column n) = column_finds fields n
term_finds fields (term.Call c) = argument_finds fields c.func c.argument

test_finds : (fields : List Field) (n : NameAt) (ls : List LiteralAt) → Finds (names.test_finding fields n ls)
test_finds fields n ls = else_finds (names.column_finding fields n) _ (column_finds fields n) (in_finds (names.literal_finding (names.kind_of fields n)) (λ l. unless_finds _ _ _) ls)

group_test_finds : (fields : List Field) (t : GroupTest) → Finds (names.group_test_finding fields t)
group_test_finds fields t = else_finds (names.term_finding fields t.tested) _ (term_finds fields t.tested) (unless_finds _ _ _)

-- any check of the tests of HAVING
module _ (check : GroupTest → Finding) (each : (t : GroupTest) → Finds (check t)) where
  abbrev IsTold : HavingCond → Type 0
  IsTold h = Finds (first_test check h)

  inner_told : (inner : List ((h : HavingCond) × IsTold h)) → Finds (first_of (map (first_test check) (map (λ e. e.0) inner)))
  inner_told [] = tt
  inner_told (h ∷ hs) = else_finds (first_test check h.0) _ h.1 (inner_told hs)

  layer_told : (y : HavingCond-F ((h : HavingCond) × IsTold h)) → Finds (having_step check (map-HavingCond HavingCond Finding (first_test check) (map-HavingCond ((h : HavingCond) × IsTold h) HavingCond (λ e. e.0) y)))
  layer_told (HavingCond-F.Compare t op l) = each (record { tested = t; literal = l })
  layer_told (HavingCond-F.Not inner) = inner.1
  layer_told (HavingCond-F.All inner) = inner_told inner
  layer_told (HavingCond-F.Any inner) = inner_told inner

  first_test_finds : (h : HavingCond) → IsTold h
  first_test_finds = ind-HavingCond IsTold (λ x y is. subst (λ layer. IsTold (roll-HavingCond layer)) is (
      let z = map-HavingCond ((h : HavingCond) × IsTold h) HavingCond (λ p. p.0) y in
      subst Finds (sym (fold-roll-HavingCond Finding (having_step check) z)) (layer_told y)))

  having_finds : (o : Option HavingCond) → Finds (having_finding check o)
  having_finds None = tt
  having_finds (Some h) = first_test_finds h

module _ (fields : List Field) where
  abbrev IsPlaced : Cond → Type 0
  IsPlaced c = Finds (names.condition_finding fields c)

  inner_finds : (inner : List ((c : Cond) × IsPlaced c)) → Finds (first_of (map (names.condition_finding fields) (map (λ e. e.0) inner)))
  inner_finds [] = tt
  inner_finds (c ∷ cs) = else_finds (names.condition_finding fields c.0) _ c.1 (inner_finds cs)

  layer_finds : (y : Cond-F ((c : Cond) × IsPlaced c)) → Finds (names.condition_step fields (map-Cond Cond Finding (names.condition_finding fields) (map-Cond ((c : Cond) × IsPlaced c) Cond (λ e. e.0) y)))
  layer_finds (Cond-F.Compare n op l) = test_finds fields n (l ∷ [])
  layer_finds (Cond-F.OneOf n ls m) = test_finds fields n ls
  layer_finds (Cond-F.Between n low high m) = test_finds fields n (low ∷ high ∷ [])
  layer_finds (Cond-F.Not inner) = inner.1
  layer_finds (Cond-F.All inner) = inner_finds inner
  layer_finds (Cond-F.Any inner) = inner_finds inner

  condition_finds : (c : Cond) → IsPlaced c
  condition_finds = ind-Cond IsPlaced (λ x y is. subst (λ layer. IsPlaced (roll-Cond layer)) is (
      let z = map-Cond ((c : Cond) × IsPlaced c) Cond (λ p. p.0) y in
      subst Finds (sym (fold-roll-Cond Finding (names.condition_step fields) z)) (layer_finds y)))

  where_finds : (o : Option Cond) → Finds (names.where_finding fields o)
  where_finds None = tt
  where_finds (Some c) = condition_finds c

  names_finds : (q : Query) → Finds (names.names_finding fields q)
  names_finds q =
      else_finds (first_in (λ i. names.term_finding fields i.term) q.items) _ (in_finds _ (λ i. term_finds fields i.term) q.items)
      (else_finds (names.where_finding fields q.condition) _ (where_finds q.condition)
      (else_finds (first_in (names.column_finding fields) q.groups) _ (in_finds _ (column_finds fields) q.groups)
      (else_finds (having_finding (names.group_test_finding fields) q.having) _ (having_finds (names.group_test_finding fields) (group_test_finds fields) q.having)
      (else_finds (first_in (λ k. names.term_finding fields (names.term_of q.items k.term)) q.order) _ (in_finds _ (λ k. term_finds fields (names.term_of q.items k.term)) q.order) tt))))

-- ---- groups and limits

term_grouped_finds : (groups : List NameAt) (t : Term) → Finds (grouped.term_grouped groups t)
term_grouped_finds groups (term.Column n) = unless_finds _ _ _
term_grouped_finds groups (term.Call c) = tt

grouped_finds : (q : Query) → Finds (grouped.grouped_finding q)
grouped_finds q =
    else_finds (first_in (λ i. grouped.term_grouped q.groups i.term) q.items) _ (in_finds _ (λ i. term_grouped_finds q.groups i.term) q.items)
    (else_finds (having_finding (grouped.test_grouped q.groups) q.having) _ (having_finds (grouped.test_grouped q.groups) (λ t. term_grouped_finds q.groups t.tested) q.having)
    (else_finds (first_in (λ k. grouped.term_grouped q.groups (names.term_of q.items k.term)) q.order) _ (in_finds _ (λ k. term_grouped_finds q.groups (names.term_of q.items k.term)) q.order) tt))

aggs_finds : (kept : List Agg) (ts : List TermAt) → Finds (aggs_finding kept ts)
aggs_finds kept [] = tt
aggs_finds kept (t ∷ ts) = else_finds _ _ (if_finds (nat_lt 16 (length (with_agg kept t.meaning))) _ _) (aggs_finds (with_agg kept t.meaning) ts)

groups_finds : (kept : List ℕ) (ns : List ColumnAt) → Finds (groups_finding kept ns)
groups_finds kept [] = tt
groups_finds kept (n ∷ ns) = else_finds _ _ (if_finds (nat_lt 8 (length (with_column kept n.column))) _ _) (groups_finds (with_column kept n.column) ns)

keys_finds : (others : ℕ) (kept : List Agg) (ks : List KeyAt) → Finds (keys_finding others kept ks)
keys_finds others kept [] = tt
keys_finds others kept (k ∷ ks) = else_finds _ _ (if_finds (nat_le 16 others || nat_lt 16 (length (with_agg kept k.term.meaning))) _ _) (keys_finds (others + 1) (with_agg kept k.term.meaning) ks)

limits_finds : (terms : Terms) → Finds (limits_finding terms)
limits_finds terms =
    else_finds (aggs_finding [] terms.items) _ (aggs_finds [] terms.items)
    (else_finds (groups_finding [] terms.groups) _ (groups_finds [] terms.groups)
    (else_finds (aggs_finding (aggs_from [] terms.items) terms.having) _ (aggs_finds (aggs_from [] terms.items) terms.having)
    (else_finds (keys_finding 0 (aggs_before_keys terms) terms.keys) _ (keys_finds 0 (aggs_before_keys terms) terms.keys) tt)))

query_finds : (table : Table) (any_table : Bool) (q : Query) → Finds (query_finding table any_table q)
query_finds table any_table q =
    else_finds (names.table_finding table any_table q) _ (unless_finds _ _ _)
    (else_finds (names.names_finding table.schema.fields q) _ (names_finds table.schema.fields q)
    (else_finds (grouped.aggregate_finding q) _ (unless_finds _ _ _)
    (else_finds (grouped.grouped_finding q) _ (grouped_finds q)
    (else_finds (limits_finding (terms_of table.schema.fields q)) _ (limits_finds (terms_of table.schema.fields q)) tt))))

answer_told : {A : Type 0} (finding : Finding) (value : A) → Finds finding → answer finding value ≡ Err NoMemory → ⊥
answer_told None value finds e = absurd cc
answer_told (Some (At reason place)) value finds e = absurd cc
answer_told (Some NoMemory) value finds e = finds

-- a query is one over the table, or it has a fault with its place
pub bound_told : (table : Table) (any_table : Bool) (q : Query) → bound table any_table q ≡ Err NoMemory → ⊥
bound_told table any_table q e = answer_told (query_finding table any_table q) (bound_of table.schema.fields q) (query_finds table any_table q) e
