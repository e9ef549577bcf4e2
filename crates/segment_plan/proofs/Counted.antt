-- How many values satisfy the conjuncts on a column, by the ids of those that satisfy each of them.
use Rattle.std.proofs.Common.{◌≡◌, ◌∙◌, ◌≤◌, ◌+◌, ℕ, zero, suc, Bool, true, false, not, ◌&&◌, ◌||◌, ◌==◌, cond, List, [], ◌∷◌, ◌++◌, length, map, take, drop, get_or, Some, refl, sym, ap, subst, arith}
use Rattle.std.proofs.lemmas.List.Filters.{length-filter_more}
use Rattle.std.specs.List.{filter, list_all, slice_get}
use Rattle.values.specs.declared.value.Value.{Value}
use Rattle.values.specs.declared.test.Test.{Test}
use Rattle.values.specs.Tests.{holds}
use Rattle.table_schema.specs.declared.query.Conjunct.{Conjunct}
use Rattle.table_schema.specs.declared.query.Conjunct.TheVariants.{One, Many}
use Rattle.value_ids.specs.Ids.{has_id, matching, matching_from, satisfies}
use Rattle.value_ids.proofs.IdLemmas.{each_matching}
use Rattle.segment_plan.specs.Matched.{conditions_on, is_in_all, matched, passes}

-- ---- a count is no more than its items

one_more_few : (b : Bool) (n i : ℕ) → n ≤ i → n + cond b 1 0 ≤ i + 1
one_more_few true n i le = omega (arith, le)
one_more_few false n i le = omega (arith, le)

pub count_few : (p : ℕ → Bool) (ids : List ℕ) (i : ℕ) → i ≤ length ids → length (filter p (take i ids)) ≤ i
count_few p ids zero le = omega arith
count_few p ids (suc i) le =
    let more : i + 1 ≡ suc i = omega arith in
    subst (λ n. length (filter p (take n ids)) ≤ n) more
    (subst (λ n. n ≤ i + 1) (sym (length-filter_more p ids i 0 (omega (arith, le))))
    (one_more_few (p (get_or ids i 0)) (length (filter p (take i ids))) i (count_few p ids i (omega (arith, le)))))

-- ---- the conjuncts on a column, and their conditions

passes_are : (column : ℕ) (value : Value) (conjuncts : List Conjunct) → list_all (passes column value) conjuncts ≡ list_all (holds value) (conditions_on column conjuncts)
passes_are column value [] = refl
passes_are column value (One named condition ∷ conjuncts) =
    elim (named == column) as (λ b. (not b || holds value condition) && list_all (passes column value) conjuncts ≡ list_all (holds value) (cond b (condition ∷ []) [] ++ conditions_on column conjuncts)) [
      | true ↦ ap (λ b. holds value condition && b) (passes_are column value conjuncts)
      | false ↦ passes_are column value conjuncts
    ]
passes_are column value (Many condition ∷ conjuncts) = passes_are column value conjuncts

matched_by : (conjuncts : List Conjunct) (column : ℕ) (values : List Value) → matched conjuncts column values ≡ length (filter (λ value. list_all (holds value) (conditions_on column conjuncts)) values)
matched_by conjuncts column values = (λ i. length (filter (λ value. passes_are column value conjuncts i) values))

-- ---- without conditions all are counted

all_kept : (values : List Value) → length (filter (λ value. true) values) ≡ length values
all_kept [] = refl
all_kept (value ∷ values) = ap (λ n. suc n) (all_kept values)

pub none_named : (conjuncts : List Conjunct) (column : ℕ) (values : List Value) → length (map (λ condition. matching condition values) (conditions_on column conjuncts)) ≡ 0 → length values ≡ matched conjuncts column values
none_named conjuncts column values none = sym (matched_by conjuncts column values ∙ unnamed (conditions_on column conjuncts) none)
  where
    unnamed : (conditions : List Test) → length (map (λ condition. matching condition values) conditions) ≡ 0 → length (filter (λ value. list_all (holds value) conditions) values) ≡ length values
    unnamed [] e = all_kept values
    unnamed (condition ∷ conditions) e = absurd (omega arith)

-- ---- ids of values that satisfy a condition

both_longer : (b : Bool) (id : ℕ) (ids : List ℕ) (value : Value) (values : List Value) → length ids ≡ length values → length (cond b (id ∷ ids) ids) ≡ length (cond b (value ∷ values) values)
both_longer true id ids value values e = ap (λ n. suc n) e
both_longer false id ids value values e = e

counted : (first : ℕ) (condition : Test) (values : List Value) (P : ℕ → Bool) (Q : Value → Bool) → ((k : ℕ) (value : Value) → slice_get values k ≡ Some value → P (first + k) ≡ Q value)
    → length (filter P (matching_from first condition values)) ≡ length (filter (λ value. holds value condition && Q value) values)
counted first condition [] P Q same = refl
counted first condition (value ∷ values) P Q same =
    let rest : List ℕ = matching_from (first + 1) condition values in
    let kept : List Value = filter (λ v. holds v condition && Q v) values in
    let ih : length (filter P rest) ≡ length kept = counted (first + 1) condition values P Q (λ k v at. let n : first + suc k ≡ first + 1 + k = omega arith in subst (λ m. P m ≡ Q v) n (same (suc k) v at)) in
    let here : P first ≡ Q value = (let n : first + 0 ≡ first = omega arith in subst (λ m. P m ≡ Q value) n (same 0 value refl)) in
    elim (holds value condition) as (λ b. length (filter P (cond b (first ∷ rest) rest)) ≡ length (cond (b && Q value) (value ∷ kept) kept)) [
      | true ↦ ap (λ b. length (cond b (first ∷ filter P rest) (filter P rest))) here ∙ both_longer (Q value) first (filter P rest) value kept ih
      | false ↦ ih
    ]

in_all : (values : List Value) (id : ℕ) (value : Value) → slice_get values id ≡ Some value → (conditions : List Test)
    → is_in_all (map (λ condition. matching condition values) conditions) id ≡ list_all (holds value) conditions
in_all values id value at [] = refl
in_all values id value at (condition ∷ conditions) =
    let one : has_id (matching condition values) id ≡ holds value condition = each_matching values condition (matching condition values) refl id ∙ ap (satisfies condition) at in
    (λ i. one i && in_all values id value at conditions i)

shared : (values : List Value) (condition : Test) (conditions : List Test)
    → length (filter (is_in_all (map (λ c. matching c values) conditions)) (matching condition values)) ≡ length (filter (λ value. list_all (holds value) (condition ∷ conditions)) values)
shared values condition conditions =
    counted 0 condition values (is_in_all (map (λ c. matching c values) conditions)) (λ value. list_all (holds value) conditions)
    (λ k value at. let n : k ≡ 0 + k = omega arith in subst (λ m. is_in_all (map (λ c. matching c values) conditions) m ≡ list_all (holds value) conditions) n (in_all values k value at conditions))

-- ids in the first set and in each other one are those of the values that satisfy all
pub matched_shared : (conjuncts : List Conjunct) (column : ℕ) (values : List Value) (sets : List (List ℕ)) → sets ≡ map (λ condition. matching condition values) (conditions_on column conjuncts) → 1 ≤ length sets
    → length (filter (is_in_all (drop 1 sets)) (get_or sets 0 [])) ≡ matched conjuncts column values
matched_shared conjuncts column values sets are some = go sets (conditions_on column conjuncts) are some ∙ sym (matched_by conjuncts column values)
  where
    go : (sets : List (List ℕ)) (conditions : List Test) → sets ≡ map (λ c. matching c values) conditions → 1 ≤ length sets
        → length (filter (is_in_all (drop 1 sets)) (get_or sets 0 [])) ≡ length (filter (λ value. list_all (holds value) conditions) values)
    go [] conditions e some = absurd (omega (arith, some))
    go (first ∷ others) [] e some = absurd cc
    go (first ∷ others) (condition ∷ conditions) e some =
        let head : first ≡ matching condition values = cc in
        let tail : others ≡ map (λ c. matching c values) conditions = cc in
        (λ i. length (filter (is_in_all (tail i)) (head i))) ∙ shared values condition conditions
