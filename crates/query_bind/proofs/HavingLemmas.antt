-- The tests of HAVING, by the form of the condition.
use Rattle.std.proofs.Common.{◌≡◌, List, [], ◌∷◌, ◌++◌, map, flat_map, None, refl, sym, ap, ◌∙◌, subst}
use Rattle.std.proofs.lemmas.List.{map-append}
use Rattle.std.proofs.lemmas.List.Folds.{flat_map-map}
use Rattle.table_schema.specs.declared.field.Field.{Field}
use Rattle.values.specs.declared.test.CompareOp.{CompareOp}
use Rattle.query_tokens.specs.declared.tree.LiteralAt.{LiteralAt}
use Rattle.query_tokens.specs.declared.tree.Term.{Term}
use Rattle.query_tokens.specs.declared.tree.HavingCond.{HavingCond}
use Rattle.query_tokens.specs.declared.tree.HavingCond.TheVariants as having
use Rattle.query_tokens.specs.declared.tree.HavingCond.TheVariants.{rolls-Compare, rolls-Not, rolls-All, rolls-Any}
use Rattle.query_tokens.specs.declared.tree.HavingCond.TheOpen.{HavingCond-F}
use Rattle.query_tokens.specs.declared.tree.HavingCond.TheFolds.{fold-roll-HavingCond, ind-HavingCond, map-HavingCond}
use Rattle.query_tokens.specs.declared.tree.HavingCond.TheViews.{roll-HavingCond}
use Rattle.query_bind.specs.Faults.{Finding}
use Rattle.query_bind.specs.GroupTests.{GroupTest, tests_step, tests_of, having_step, first_test}
use Rattle.query_bind.specs.Terms.{tested_at, tested_in}
use Rattle.table_schema.specs.Firsts.{first_of}
use Rattle.table_schema.proofs.FirstLaws.{first_none, rest_none}

pub tests_of-Compare : (tested : Term) (op : CompareOp) (literal : LiteralAt) → tests_of (having.Compare tested op literal) ≡ record { tested = tested; literal = literal } ∷ []
tests_of-Compare tested op literal = ap tests_of (sym (rolls-Compare tested op literal)) ∙ fold-roll-HavingCond (List GroupTest) tests_step (HavingCond-F.Compare tested op literal)

pub tests_of-Not : (h : HavingCond) → tests_of (having.Not h) ≡ tests_of h
tests_of-Not h = ap tests_of (sym (rolls-Not h)) ∙ fold-roll-HavingCond (List GroupTest) tests_step (HavingCond-F.Not h)

pub tests_of-All : (hs : List HavingCond) → tests_of (having.All hs) ≡ flat_map tests_of hs
tests_of-All hs = ap tests_of (sym (rolls-All hs)) ∙ fold-roll-HavingCond (List GroupTest) tests_step (HavingCond-F.All hs) ∙ flat_map-map (λ tests. tests) tests_of hs

pub tests_of-Any : (hs : List HavingCond) → tests_of (having.Any hs) ≡ flat_map tests_of hs
tests_of-Any hs = ap tests_of (sym (rolls-Any hs)) ∙ fold-roll-HavingCond (List GroupTest) tests_step (HavingCond-F.Any hs) ∙ flat_map-map (λ tests. tests) tests_of hs

map_flat : {A B C : Type 0} (f : B → C) (g : A → List B) (xs : List A) → flat_map (λ x. map f (g x)) xs ≡ map f (flat_map g xs)
map_flat f g [] = refl
map_flat f g (x ∷ xs) = ap (λ ys. map f (g x) ++ ys) (map_flat f g xs) ∙ sym (map-append f (g x) (flat_map g xs))

module _ (fields : List Field) (h : HavingCond) (inner hs : List HavingCond) where
  pub here_All : h ≡ having.All inner → hs ≡ inner → flat_map (tested_in fields) hs ≡ tested_in fields h
  here_All is same = ap (flat_map (tested_in fields)) same ∙ map_flat (tested_at fields) tests_of inner
      ∙ ap (map (tested_at fields)) (sym (tests_of-All inner)) ∙ ap (tested_in fields) (sym is)

  pub here_Any : h ≡ having.Any inner → hs ≡ inner → flat_map (tested_in fields) hs ≡ tested_in fields h
  here_Any is same = ap (flat_map (tested_in fields)) same ∙ map_flat (tested_at fields) tests_of inner
      ∙ ap (map (tested_at fields)) (sym (tests_of-Any inner)) ∙ ap (tested_in fields) (sym is)

-- ---- what holds of each test

abbrev pub Each : {A : Type 0} → (A → Type 0) → List A → Type 0
Each P [] = Unit {0}
Each P (x ∷ xs) = P x × Each P xs

pub each_joined : {A : Type 0} (P : A → Type 0) (xs ys : List A) → Each P xs → Each P ys → Each P (xs ++ ys)
each_joined P [] ys own later = later
each_joined P (x ∷ xs) ys own later = (own.0, each_joined P xs ys own.1 later)

pub each_front : {A : Type 0} (P : A → Type 0) (xs ys : List A) → Each P (xs ++ ys) → Each P xs
each_front P [] ys all = tt
each_front P (x ∷ xs) ys all = (all.0, each_front P xs ys all.1)

pub each_back : {A : Type 0} (P : A → Type 0) (xs ys : List A) → Each P (xs ++ ys) → Each P ys
each_back P [] ys all = all
each_back P (x ∷ xs) ys all = each_back P xs ys all.1

-- where a check finds nothing, it finds nothing in each test
module _ (check : GroupTest → Finding) where
  abbrev Finds : HavingCond → Type 0
  Finds h = first_test check h ≡ None → Each (λ t. check t ≡ None) (tests_of h)

  inner_finds : (inner : List ((h : HavingCond) × Finds h)) → first_of (map (first_test check) (map (λ e. e.0) inner)) ≡ None
      → Each (λ t. check t ≡ None) (flat_map tests_of (map (λ e. e.0) inner))
  inner_finds [] none = tt
  inner_finds (h ∷ hs) none = each_joined (λ t. check t ≡ None) (tests_of h.0) _ (h.1 (first_none (first_test check h.0) _ none)) (inner_finds hs (rest_none (first_test check h.0) _ none))

  layer_finds : (y : HavingCond-F ((h : HavingCond) × Finds h))
      → having_step check (map-HavingCond HavingCond Finding (first_test check) (map-HavingCond ((h : HavingCond) × Finds h) HavingCond (λ e. e.0) y)) ≡ None
      → Each (λ t. check t ≡ None) (tests_step (map-HavingCond HavingCond (List GroupTest) tests_of (map-HavingCond ((h : HavingCond) × Finds h) HavingCond (λ e. e.0) y)))
  layer_finds (HavingCond-F.Compare tested op literal) none = (none, tt)
  layer_finds (HavingCond-F.Not inner) none = inner.1 none
  layer_finds (HavingCond-F.All inner) none = subst (Each (λ t. check t ≡ None)) (sym (flat_map-map (λ tests. tests) tests_of (map (λ e. e.0) inner))) (inner_finds inner none)
  layer_finds (HavingCond-F.Any inner) none = subst (Each (λ t. check t ≡ None)) (sym (flat_map-map (λ tests. tests) tests_of (map (λ e. e.0) inner))) (inner_finds inner none)

  pub tests_pass : (h : HavingCond) → Finds h
  tests_pass = ind-HavingCond Finds (λ x y is. subst (λ layer. Finds (roll-HavingCond layer)) is (λ none.
      let z = map-HavingCond ((h : HavingCond) × Finds h) HavingCond (λ p. p.0) y in
      subst (Each (λ t. check t ≡ None)) (sym (fold-roll-HavingCond (List GroupTest) tests_step z)) (layer_finds y (sym (fold-roll-HavingCond Finding (having_step check) z) ∙ none))))
