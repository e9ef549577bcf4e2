-- What holds of each aggregate of a query whose names and types are in order.
use Rattle.std.proofs.Common.{◌≡◌, Bool, true, false, ◌&&◌, List, [], ◌∷◌, ◌++◌, cond, map, Option, Some, None, refl, ◌∙◌}
use Rattle.std.specs.List.{list_any, list_all}
use Rattle.std.proofs.lemmas.List.Folds.{list_all-append}
use Rattle.table_schema.specs.declared.field.Field.{Field}
use Rattle.query_tokens.specs.declared.tree.Term.{Term}
use Rattle.query_tokens.specs.declared.tree.QueryItem.{QueryItem}
use Rattle.query_tokens.specs.declared.tree.QueryKey.{QueryKey}
use Rattle.query_tokens.specs.declared.tree.Query.{Query}
use Rattle.query_bind.specs.declared.terms.Meaning.{Meaning}
use Rattle.query_bind.specs.declared.terms.Meaning.TheVariants as meaning
use Rattle.query_bind.specs.declared.terms.TermAt.{TermAt}
use Rattle.query_bind.specs.GroupTests.{GroupTest, having_tests, having_finding}
use Rattle.query_bind.specs.Names.{term_of, column_finding, term_finding, group_test_finding, where_finding, names_finding}
use Rattle.query_bind.specs.Terms.{meaning_of, term_at, tested_at, key_at, terms_of, with_new, with_agg, aggs_from, aggs_before_keys, aggs_of}
use Rattle.query_tokens.specs.declared.tree.HavingCond.{HavingCond}
use Rattle.query_bind.proofs.HavingLemmas.{Each, tests_pass}
use Rattle.query_bind.proofs.Truth.{and_of, both}
use Rattle.table_schema.specs.declared.query.Agg.{Agg}
use Rattle.table_schema.specs.Firsts.{first_in}
use Rattle.table_schema.specs.Aggs.{same_agg}
use Rattle.table_schema.proofs.FirstLaws.{first_none, rest_none}

-- ---- lists without repeats

all_new_by : {A : Type 0} (p : A → Bool) (kept : List A) (x : A) (b : Bool) → list_all p kept ≡ true → p x ≡ true → list_all p (cond b kept (kept ++ x ∷ [])) ≡ true
all_new_by p kept x true all own = all
all_new_by p kept x false all own = list_all-append p kept (x ∷ []) ∙ and_of (list_all p kept) (p x && true) all (and_of (p x) true own refl)

pub all_new : {A : Type 0} (same : A → A → Bool) (p : A → Bool) (kept : List A) (x : A) → list_all p kept ≡ true → p x ≡ true → list_all p (with_new same kept x) ≡ true
all_new same p kept x all own = all_new_by p kept x (list_any (same x) kept) all own

-- the aggregate that a meaning may be passes
abbrev pub meaning_is : (Agg → Bool) → Meaning → Bool
meaning_is p (meaning.Column c) = true
meaning_is p (meaning.Agg a) = p a

module _ (p : Agg → Bool) where
  agg_kept : (kept : List Agg) (m : Meaning) → list_all p kept ≡ true → meaning_is p m ≡ true → list_all p (with_agg kept m) ≡ true
  agg_kept kept (meaning.Column c) all own = all
  agg_kept kept (meaning.Agg a) all own = all_new same_agg p kept a all own

  aggs_kept : (kept : List Agg) (ts : List TermAt) → list_all p kept ≡ true → list_all (λ t. meaning_is p t.meaning) ts ≡ true → list_all p (aggs_from kept ts) ≡ true
  aggs_kept kept [] all own = all
  aggs_kept kept (t ∷ ts) all own =
      let parts = both (meaning_is p t.meaning) (list_all (λ t. meaning_is p t.meaning) ts) own in
      aggs_kept (with_agg kept t.meaning) ts (agg_kept kept t.meaning all parts.0) parts.1

-- ---- the terms of a query

-- `good` is what is known of the terms as they are written
module _ (fields : List Field) (p : Agg → Bool) (good : Term → Bool) (each : (t : Term) → term_finding fields t ≡ None → good t ≡ true → meaning_is p (meaning_of fields t) ≡ true) where
  items_are : (items : List QueryItem) → first_in (λ i. term_finding fields i.term) items ≡ None → list_all (λ i. good i.term) items ≡ true
      → list_all (λ t. meaning_is p t.meaning) (map (λ i. term_at fields i.term) items) ≡ true
  items_are [] passes own = refl
  items_are (i ∷ is) passes own =
      let parts = both (good i.term) (list_all (λ i. good i.term) is) own in
      and_of (meaning_is p (meaning_of fields i.term)) _ (each i.term (first_none (term_finding fields i.term) _ passes) parts.0)
      (items_are is (rest_none (term_finding fields i.term) _ passes) parts.1)

  tests_are : (ts : List GroupTest) → Each (λ t. group_test_finding fields t ≡ None) ts → list_all (λ t. good t.tested) ts ≡ true
      → list_all (λ t. meaning_is p t.meaning) (map (tested_at fields) ts) ≡ true
  tests_are [] passes own = refl
  tests_are (t ∷ ts) passes own =
      let parts = both (good t.tested) (list_all (λ t. good t.tested) ts) own in
      and_of (meaning_is p (meaning_of fields t.tested)) _ (each t.tested (first_none (term_finding fields t.tested) _ passes.0) parts.0) (tests_are ts passes.1 parts.1)

  having_is : (o : Option HavingCond) → having_finding (group_test_finding fields) o ≡ None → list_all (λ t. good t.tested) (having_tests o) ≡ true
      → list_all (λ t. meaning_is p t.meaning) (map (tested_at fields) (having_tests o)) ≡ true
  having_is None passes own = refl
  having_is (Some h) passes own = tests_are (having_tests (Some h)) (tests_pass (group_test_finding fields) h passes) own

  keys_are : (items : List QueryItem) (ks : List QueryKey) → first_in (λ k. term_finding fields (term_of items k.term)) ks ≡ None → list_all (λ k. good (term_of items k.term)) ks ≡ true
      → list_all (λ t. meaning_is p t.meaning) (map (λ k. k.term) (map (key_at fields items) ks)) ≡ true
  keys_are items [] passes own = refl
  keys_are items (k ∷ ks) passes own =
      let t = term_of items k.term in
      let parts = both (good t) (list_all (λ k. good (term_of items k.term)) ks) own in
      and_of (meaning_is p (meaning_of fields t)) _ (each t (first_none (term_finding fields t) _ passes) parts.0)
      (keys_are items ks (rest_none (term_finding fields t) _ passes) parts.1)

  pub aggs_are : (q : Query) → names_finding fields q ≡ None → list_all (λ i. good i.term) q.items ≡ true → list_all (λ t. good t.tested) (having_tests q.having) ≡ true → list_all (λ k. good (term_of q.items k.term)) q.order ≡ true
      → list_all p (aggs_of (terms_of fields q)) ≡ true
  aggs_are q names items having order =
      let checked = first_none (first_in (λ i. term_finding fields i.term) q.items) _ names in
      let after_items = rest_none (first_in (λ i. term_finding fields i.term) q.items) _ names in
      let after_where = rest_none (where_finding fields q.condition) _ after_items in
      let after_groups = rest_none (first_in (column_finding fields) q.groups) _ after_where in
      let asked = first_none (having_finding (group_test_finding fields) q.having) _ after_groups in
      let after_having = rest_none (having_finding (group_test_finding fields) q.having) _ after_groups in
      let keys = first_none (first_in (λ k. term_finding fields (term_of q.items k.term)) q.order) _ after_having in
      aggs_kept p (aggs_before_keys (terms_of fields q)) (map (λ k. k.term) (terms_of fields q).keys)
      (aggs_kept p (aggs_from [] (terms_of fields q).items) (terms_of fields q).having (aggs_kept p [] (terms_of fields q).items refl (items_are q.items checked items)) (having_is q.having asked having)) (keys_are q.items q.order keys order)
