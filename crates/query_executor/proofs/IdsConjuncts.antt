-- Conjuncts that say the same of the values in some dictionaries and of those in others.
use Rattle.std.proofs.Common.{◌≡◌, ◌∙◌, ◌<◌, ◌+◌, ◌==◌, ◌||◌, ◌&&◌, ℕ, zero, suc, pos, Bool, true, false, cond, Option, Some, List, [], ◌∷◌, length, map, get_or, slice_get, refl, sym, ap, subst, eq-eqb, arith}
use Rattle.std.specs.List.{AllZip, list_any, range_with_len}
use Rattle.std.proofs.lemmas.Bool.{or_left, or_right}
use Rattle.values.specs.declared.value.Value.{Value}
use Rattle.values.specs.declared.value.Value.TheVariants.{Whole}
use Rattle.values.specs.declared.test.Test.{Test}
use Rattle.values.specs.Tests.{holds}
use Rattle.value_ids.specs.Dictionary.{Distinct}
use Rattle.value_ids.specs.Ids.{has_id, matching, satisfies}
use Rattle.value_ids.proofs.IdLemmas.{each_matching}
use Rattle.table_schema.specs.Conditions.{all_hold, cell, conjunct_holds}
use Rattle.table_schema.specs.NeedIds.{is_set}
use Rattle.table_schema.specs.declared.query.BoundQuery.{BoundQuery}
use Rattle.table_schema.specs.declared.query.Conjunct.{Conjunct}
use Rattle.table_schema.specs.declared.query.Conjunct.TheVariants.{Many, One}
use Rattle.table_schema.specs.declared.table.Table.{Table}
use Rattle.segment_head.specs.Heads.{Seen}
use Rattle.segment_plan.specs.Choices.{are_consecutive, choice_of, is_sorted_on}
use Rattle.segment_plan.specs.Named.{agg_names, conjunct_names, is_in, names_in, query_names}
use Rattle.segment_plan.specs.RowsLeft.{Chosen, indexed, is_indexed}
use Rattle.segment_plan.specs.Served.{is_served, rest_of, unserved}
use Rattle.segment_plan.specs.declared.plans.IndexChoice.{IndexChoice}
use Rattle.segment_plan.specs.declared.plans.IndexChoice.TheVariants.{Unindexed, Sorted, Inverted, Range}
use Rattle.segment_scan.proofs.ImageLemmas.{item_there}
use Rattle.segment_opening.specs.Found.{HaveOneIds, SaysAlike, keeping, values_from}
use Rattle.query_executor.specs.Alike.{AreAlike}

-- ---- as many items that stand to one another so

pub zip_at : {X Y : Type 0} (R : X → Y → Type 0) (xs : List X) (ys : List Y) → AllZip R xs ys → (k : ℕ) (y : Y) → slice_get ys k ≡ Some y → (x : X) × (slice_get xs k ≡ Some x) × R x y
zip_at R [] [] all k y at = absurd cc
zip_at R [] (z ∷ ys) all k y at = absurd all
zip_at R (x ∷ xs) [] all k y at = absurd all
zip_at R (x ∷ xs) (z ∷ ys) all zero y at = let same : z ≡ y = cc in (x, refl, subst (R x) same all.0)
zip_at R (x ∷ xs) (z ∷ ys) all (suc k) y at = zip_at R xs ys all.1 k y at

pub zip_to : {X Y : Type 0} (R : X → Y → Type 0) (xs : List X) (ys : List Y) → AllZip R xs ys → (k : ℕ) (x : X) → slice_get xs k ≡ Some x → (y : Y) × (slice_get ys k ≡ Some y) × R x y
zip_to R [] [] all k x at = absurd cc
zip_to R [] (y ∷ ys) all k x at = absurd all
zip_to R (z ∷ xs) [] all k x at = absurd all
zip_to R (z ∷ xs) (y ∷ ys) all zero x at = let same : z ≡ x = cc in (y, refl, subst (λ w. R w y) same all.0)
zip_to R (z ∷ xs) (y ∷ ys) all (suc k) x at = zip_to R xs ys all.1 k x at

pub zip_long : {X Y : Type 0} (R : X → Y → Type 0) (xs : List X) (ys : List Y) → AllZip R xs ys → length ys ≡ length xs
zip_long R [] [] all = refl
zip_long R [] (y ∷ ys) all = absurd all
zip_long R (x ∷ xs) [] all = absurd all
zip_long R (x ∷ xs) (y ∷ ys) all = ap (λ n. suc n) (zip_long R xs ys all.1)

-- ---- the choice of a conjunct

-- by what indexes the column has, and by whether the ids follow one another
abbrev pub choice_by : Bool → Bool → Bool → Bool → IndexChoice
choice_by sorted inverted ranged follow = cond sorted Sorted (cond inverted Inverted (cond (ranged && follow) Range Unindexed))

module _ (full given : List (Option Distinct)) where
  abbrev Says : Conjunct → Conjunct → Type 0
  Says = SaysAlike full given

  -- ---- names

  pub names_same : (x y : Conjunct) → Says x y → (c : ℕ) → conjunct_names c y ≡ conjunct_names c x
  names_same (One column test) (One named asked) says c = ap (λ k. k == c) says.0
  names_same (Many wide) (Many asked) says c = says.0 c
  names_same (One column test) (Many asked) says c = absurd says
  names_same (Many wide) (One named asked) says c = absurd says

  pub all_names : (xs ys : List Conjunct) → AllZip Says xs ys → (c : ℕ) → list_any (conjunct_names c) ys ≡ list_any (conjunct_names c) xs
  all_names [] [] all c = refl
  all_names [] (y ∷ ys) all c = absurd all
  all_names (x ∷ xs) [] all c = absurd all
  all_names (x ∷ xs) (y ∷ ys) all c = let here = names_same x y all.0 c in let more = all_names xs ys all.1 c in (λ i. here i || more i)

  -- ---- choices

  pub choice_same : (table : Table) (head : Seen) (x y : Conjunct) → Says x y → choice_of table.settings (keeping given head) y ≡ choice_of table.settings (keeping full head) x
  choice_same table head (One column test) (One named asked) says =
      ap (λ k. choice_of table.settings (keeping given head) (One k asked)) says.0
      ∙ (λ i. choice_by (is_sorted_on table.settings.sorted column) (is_set (slice_get table.settings.inverted column)) (is_set (slice_get table.settings.ranged column)) (are_consecutive (says.1 i)))
  choice_same table head (Many wide) (Many asked) says = refl
  choice_same table head (One column test) (Many asked) says = absurd says
  choice_same table head (Many wide) (One named asked) says = absurd says

  pub all_choices : (table : Table) (head : Seen) (xs ys : List Conjunct) → AllZip Says xs ys → map (choice_of table.settings (keeping given head)) ys ≡ map (choice_of table.settings (keeping full head)) xs
  all_choices table head [] [] all = refl
  all_choices table head [] (y ∷ ys) all = absurd all
  all_choices table head (x ∷ xs) [] all = absurd all
  all_choices table head (x ∷ xs) (y ∷ ys) all = let here = choice_same table head x y all.0 in let more = all_choices table head xs ys all.1 in (λ i. here i ∷ more i)

  -- ---- conjuncts that are served, and the others

  served_same : (c : IndexChoice) (x y : Conjunct) → Says x y → is_served c y ≡ is_served c x
  served_same Unindexed (One column test) (One named asked) says = refl
  served_same Sorted (One column test) (One named asked) says = refl
  served_same Inverted (One column test) (One named asked) says = refl
  served_same Range (One column test) (One named asked) says = refl
  served_same Unindexed (Many wide) (Many asked) says = refl
  served_same Sorted (Many wide) (Many asked) says = refl
  served_same Inverted (Many wide) (Many asked) says = refl
  served_same Range (Many wide) (Many asked) says = refl
  served_same c (One column test) (Many asked) says = absurd says
  served_same c (Many wide) (One named asked) says = absurd says

  pub all_unserved : (cs : List IndexChoice) (xs ys : List Conjunct) → AllZip Says xs ys → AllZip Says (unserved cs xs) (unserved cs ys)
  all_unserved [] xs ys all = all
  all_unserved (c ∷ cs) [] [] all = tt
  all_unserved (c ∷ cs) [] (y ∷ ys) all = absurd all
  all_unserved (c ∷ cs) (x ∷ xs) [] all = absurd all
  all_unserved (c ∷ cs) (x ∷ xs) (y ∷ ys) all = go (all_unserved cs xs ys all.1) (is_served c x) (is_served c y) (served_same c x y all.0)
    where
      go : AllZip Says (unserved cs xs) (unserved cs ys) → (a b : Bool) → b ≡ a → AllZip Says (cond a (unserved cs xs) (x ∷ unserved cs xs)) (cond b (unserved cs ys) (y ∷ unserved cs ys))
      go later true true e = later
      go later true false e = absurd cc
      go later false true e = absurd cc
      go later false false e = (all.0, later)

  pub indexed_same : (c : IndexChoice) (x y : Conjunct) → Says x y → is_indexed c y ≡ is_indexed c x
  indexed_same Unindexed (One column test) (One named asked) says = refl
  indexed_same Sorted (One column test) (One named asked) says = refl
  indexed_same Inverted (One column test) (One named asked) says = refl
  indexed_same Range (One column test) (One named asked) says = refl
  indexed_same Unindexed (Many wide) (Many asked) says = refl
  indexed_same Sorted (Many wide) (Many asked) says = refl
  indexed_same Inverted (Many wide) (Many asked) says = refl
  indexed_same Range (Many wide) (Many asked) says = refl
  indexed_same c (One column test) (Many asked) says = absurd says
  indexed_same c (Many wide) (One named asked) says = absurd says

  pub indexed_long : (cs : List IndexChoice) (xs ys : List Conjunct) → AllZip Says xs ys → length (indexed cs ys) ≡ length (indexed cs xs)
  indexed_long [] xs ys all = refl
  indexed_long (c ∷ cs) [] [] all = refl
  indexed_long (c ∷ cs) [] (y ∷ ys) all = absurd all
  indexed_long (c ∷ cs) (x ∷ xs) [] all = absurd all
  indexed_long (c ∷ cs) (x ∷ xs) (y ∷ ys) all = go (indexed_long cs xs ys all.1) (is_indexed c x) (is_indexed c y) (indexed_same c x y all.0)
    where
      go : length (indexed cs ys) ≡ length (indexed cs xs) → (a b : Bool) → b ≡ a → length (cond b (record { choice = c; conjunct = y } ∷ indexed cs ys) (indexed cs ys)) ≡ length (cond a (record { choice = c; conjunct = x } ∷ indexed cs xs) (indexed cs xs))
      go later true true e = ap (λ n. suc n) later
      go later true false e = absurd cc
      go later false true e = absurd cc
      go later false false e = later

  -- ---- rows of the same ids

  module _ (counts : (c : ℕ) → length (values_from given c) ≡ length (values_from full c)) where
    holds_same : (column : ℕ) (test asked : Test) → matching asked (values_from given column) ≡ matching test (values_from full column) → (id : ℕ) → id < length (values_from full column)
        → holds (get_or (values_from given column) id (Whole (pos 0))) asked ≡ holds (get_or (values_from full column) id (Whole (pos 0))) test
    holds_same column test asked same id lt =
        let few = counts column in
        let below : id < length (values_from given column) = omega (arith, lt, few) in
        sym (ap (satisfies asked) (item_there (Whole (pos 0)) (values_from given column) id below))
        ∙ sym (each_matching (values_from given column) asked (matching asked (values_from given column)) refl id)
        ∙ ap (λ l. has_id l id) same
        ∙ each_matching (values_from full column) test (matching test (values_from full column)) refl id
        ∙ ap (satisfies test) (item_there (Whole (pos 0)) (values_from full column) id lt)

    conjunct_same : (x y : Conjunct) → Says x y → (row other : List Value) → HaveOneIds full given (λ c. conjunct_names c x) row other → conjunct_holds other y ≡ conjunct_holds row x
    conjunct_same (One column test) (One named asked) says row other one =
        let o = one column (eq-eqb column column refl) in
        ap (λ k. holds (cell other k) asked) says.0 ∙ ap (λ v. holds v asked) o.other_is ∙ holds_same column test asked says.1 o.id o.below ∙ ap (λ v. holds v test) (sym o.value_is)
    conjunct_same (Many wide) (Many asked) says row other one = says.1 row other one
    conjunct_same (One column test) (Many asked) says row other one = absurd says
    conjunct_same (Many wide) (One named asked) says row other one = absurd says

    pub all_same : (xs ys : List Conjunct) → AllZip Says xs ys → (row other : List Value) → HaveOneIds full given (λ c. list_any (conjunct_names c) xs) row other → all_hold other ys ≡ all_hold row xs
    all_same [] [] all row other one = refl
    all_same [] (y ∷ ys) all row other one = absurd all
    all_same (x ∷ xs) [] all row other one = absurd all
    all_same (x ∷ xs) (y ∷ ys) all row other one =
        let here = conjunct_same x y all.0 row other (λ c named. one c (or_left (conjunct_names c x) (list_any (conjunct_names c) xs) named)) in
        let more = all_same xs ys all.1 row other (λ c named. one c (or_right (conjunct_names c x) (list_any (conjunct_names c) xs) named)) in
        (λ i. here i && more i)

-- ---- queries

module _ (query asked : BoundQuery) (full given : List (Option Distinct)) (a : AreAlike query asked full given) where
  pub query_names_same : (c : ℕ) → query_names asked c ≡ query_names query c
  query_names_same c =
      let named = all_names full given query.conjuncts asked.conjuncts a.says c in
      (λ i. named i || is_in (a.groups_same i) c || list_any (agg_names c) (a.aggs_same i))

  pub marks_same : (table : Table) → names_in asked table ≡ names_in query table
  marks_same table = (λ i. map (λ c. query_names_same c i) (range_with_len 0 (length table.schema.fields)))

  -- the queries that are left are alike
  pub rest_alike : (cs : List IndexChoice) → AreAlike (rest_of query cs) (rest_of asked cs) full given
  rest_alike cs = record {
    counts_same = a.counts_same;
    values_same = a.values_same;
    says = all_unserved full given cs query.conjuncts asked.conjuncts a.says;
    groups_same = a.groups_same;
    aggs_same = a.aggs_same;
  }
