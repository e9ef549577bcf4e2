-- The conjuncts that are served, and the others.
use Rattle.std.proofs.Common.{◌≡◌, ◌∙◌, ◌&&◌, ◌||◌, ◌∷◌, [], ℕ, zero, suc, Bool, true, false, List, drop, not, slice_get, Some, refl, ap}
use Rattle.std.specs.Prelude.{if◌then◌else◌}
use Rattle.std.specs.List.{list_any}
use Rattle.table_schema.specs.declared.query.Conjunct.{Conjunct}
use Rattle.segment_plan.specs.declared.plans.IndexChoice.{IndexChoice}
use Rattle.table_schema.specs.declared.query.BoundQuery.{BoundQuery}
use Rattle.segment_plan.specs.Named.{agg_names, conjunct_names, is_in, query_names}
use Rattle.segment_plan.specs.Served.{choice_at, is_served, rest_of, unserved}
use Rattle.segment_scan.proofs.AgreementLemmas.{or_left, or_right}

-- one of some, of which the first is left out or not
one_any : (p : Conjunct → Bool) (b : Bool) (y : Conjunct) (rest : List Conjunct) → list_any p (if b then rest else y ∷ rest) ≡ ((not b && p y) || list_any p rest)
one_any p true y rest = refl
one_any p false y rest = refl

plain_drop : (p : Conjunct → Bool) (conjuncts : List Conjunct) (i : ℕ) (x : Conjunct) → slice_get conjuncts i ≡ Some x → list_any p (drop i conjuncts) ≡ (p x || list_any p (drop (suc i) conjuncts))
plain_drop p [] i x at = absurd cc
plain_drop p (y ∷ ys) zero x at = let same : y ≡ x = cc in ap (λ z. p z || list_any p ys) same
plain_drop p (y ∷ ys) (suc i) x at = plain_drop p ys i x at

-- one of the conjuncts from one place on that are not served
pub unserved_drop : (p : Conjunct → Bool) (choices : List IndexChoice) (conjuncts : List Conjunct) (i : ℕ) (x : Conjunct) → slice_get conjuncts i ≡ Some x
    → list_any p (unserved (drop i choices) (drop i conjuncts)) ≡ ((not (is_served (choice_at choices i) x) && p x) || list_any p (unserved (drop (suc i) choices) (drop (suc i) conjuncts)))
unserved_drop p choices [] i x at = absurd cc
unserved_drop p [] (y ∷ ys) zero x at = let same : y ≡ x = cc in ap (λ z. p z || list_any p ys) same
unserved_drop p [] (y ∷ ys) (suc i) x at = plain_drop p ys i x at
unserved_drop p (c ∷ cs) (y ∷ ys) zero x at =
    let same : y ≡ x = cc in
    one_any p (is_served c y) y (unserved cs ys) ∙ ap (λ z. (not (is_served c z) && p z) || list_any p (unserved cs ys)) same
unserved_drop p (c ∷ cs) (y ∷ ys) (suc i) x at = unserved_drop p cs ys i x at

-- a conjunct that is not served is one of the query
any_unserved : (p : Conjunct → Bool) (choices : List IndexChoice) (conjuncts : List Conjunct) → list_any p (unserved choices conjuncts) ≡ true → list_any p conjuncts ≡ true
any_unserved p [] conjuncts is = is
any_unserved p (c ∷ cs) [] is = is
any_unserved p (c ∷ cs) (y ∷ ys) is = one_of (is_served c y) is (any_unserved p cs ys)
  where
    one_of : (b : Bool) → list_any p (if b then unserved cs ys else y ∷ unserved cs ys) ≡ true → (list_any p (unserved cs ys) ≡ true → list_any p ys ≡ true) → list_any p (y ∷ ys) ≡ true
    one_of true is later = or_right (p y) (list_any p ys) (later is)
    one_of false is later = either (p y) (list_any p (unserved cs ys)) is (λ first. or_left (p y) (list_any p ys) first) (λ more. or_right (p y) (list_any p ys) (later more))
      where
        either : {P : Type 0} (a b : Bool) → a || b ≡ true → (a ≡ true → P) → (b ≡ true → P) → P
        either true b is first more = first refl
        either false b is first more = more is

-- a column that the query that is left names is one that the query names
pub unserved_names : (query : BoundQuery) (choices : List IndexChoice) (column : ℕ) → query_names (rest_of query choices) column ≡ true → query_names query column ≡ true
unserved_names query choices column is = by (list_any (conjunct_names column) (unserved choices query.conjuncts)) refl is
  where
    by : (b : Bool) → list_any (conjunct_names column) (unserved choices query.conjuncts) ≡ b → ((b || is_in query.groups column) || list_any (agg_names column) query.aggs) ≡ true → query_names query column ≡ true
    by true own is =
        or_left (list_any (conjunct_names column) query.conjuncts || is_in query.groups column) (list_any (agg_names column) query.aggs)
        (or_left (list_any (conjunct_names column) query.conjuncts) (is_in query.groups column) (any_unserved (conjunct_names column) choices query.conjuncts own))
    by false own is = more (list_any (conjunct_names column) query.conjuncts) (is_in query.groups column) (list_any (agg_names column) query.aggs) is
      where
        more : (a b c : Bool) → (b || c) ≡ true → ((a || b) || c) ≡ true
        more true b c is = refl
        more false b c is = is
