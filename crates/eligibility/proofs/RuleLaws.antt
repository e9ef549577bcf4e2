-- The rule by which a tree may answer a query, in other words.
use Rattle.std.proofs.Common.{◌≡◌, ◌↔◌, ◌==◌, ℕ, Bool, true, false, ◌&&◌, List, [], ◌∷◌, refl, sym, ap, ◌∙◌, subst}
use Rattle.std.specs.List.{AllByRecursion, Contains, list_all, list_any}
use Rattle.std.specs.Cmp.{IsEquivalence}
use Rattle.std.proofs.lemmas.Bool.{eqb-true, eq-eqb}
use Rattle.std.proofs.lemmas.Map.Views.{Contains-from_any, list_any-from_Contains}
use Rattle.values.specs.declared.test.Test.{Test}
use Rattle.table_schema.specs.declared.query.Agg.{Agg}
use Rattle.table_schema.specs.declared.query.BoundQuery.{BoundQuery}
use Rattle.table_schema.specs.declared.query.Conjunct.{Conjunct}
use Rattle.table_schema.specs.declared.query.Conjunct.TheVariants.{One, Many}
use Rattle.table_schema.specs.declared.settings.TreeSetting.{TreeSetting}
use Rattle.table_schema.specs.Aggs.{same_agg}
use Rattle.table_schema.specs.Columns.{is_member}
use Rattle.table_schema.proofs.AggLaws.{own_agg, agg_is}
use Rattle.eligibility.specs.Rule.{is_eligible, is_filtered_by, is_kept, IsFiltered, Serves}

not_true : {A : Type 0} → false ≡ true → A
not_true e = cc

both : (a b : Bool) → (a && b) ≡ true → (a ≡ true) × (b ≡ true)
both true b e = (refl, e)
both false b e = not_true e

join : (a b : Bool) → a ≡ true → b ≡ true → (a && b) ≡ true
join a b e f = subst (λ x. (x && b) ≡ true) (sym e) f

-- ---- all of a list

all_so : {A : Type 0} (p : A → Bool) (P : A → Type 0) → ((a : A) → p a ≡ true → P a) → (xs : List A) → list_all p xs ≡ true → AllByRecursion P xs
all_so p P so [] e = tt
all_so p P so (x ∷ xs) e = let parts = both (p x) (list_all p xs) e in (so x parts.0, all_so p P so xs parts.1)

all_back : {A : Type 0} (p : A → Bool) (P : A → Type 0) → ((a : A) → P a → p a ≡ true) → (xs : List A) → AllByRecursion P xs → list_all p xs ≡ true
all_back p P back [] h = refl
all_back p P back (x ∷ xs) (h, hs) = join (p x) (list_all p xs) (back x h) (all_back p P back xs hs)

-- ---- members

module _ {A : Type 0} (same : A → A → Bool) (own : (a : A) → same a a ≡ true) (is : (a b : A) → same a b ≡ true → a ≡ b) where
  flips_by : (x y : A) (b c : Bool) → same x y ≡ b → same y x ≡ c → same x y ≡ same y x
  flips_by x y true c e f = subst (λ z. same x z ≡ same z x) (is x y e) refl
  flips_by x y false true e f = sym (subst (λ z. same y z ≡ same z y) (is y x f) refl)
  flips_by x y false false e f = e ∙ sym f

  abbrev backwards : A → A → Bool
  backwards q x = same x q

  equality : IsEquivalence backwards
  equality = record {
    refl = own;
    symm = λ x y. flips_by y x (same y x) (same x y) refl refl;
    congr = λ x y z e. ap (λ w. same z w) (sym (is y x e));
  }

  member_so : (xs : List A) (q : A) → list_any (λ x. same x q) xs ≡ true → Contains xs q
  member_so xs q e = Contains-from_any {eq = backwards} (λ x y h. sym (is y x h)) q xs e

  member_back : (xs : List A) (q : A) → Contains xs q → list_any (λ x. same x q) xs ≡ true
  member_back xs q h = list_any-from_Contains {eq = backwards} equality q xs h

abbrev same_number : ℕ → ℕ → Bool
same_number m n = m == n

column_so : (ns : List ℕ) (n : ℕ) → is_member ns n ≡ true → Contains ns n
column_so = member_so same_number (λ a. eq-eqb a a refl) (λ a b e. eqb-true a b e)

column_back : (ns : List ℕ) (n : ℕ) → Contains ns n → is_member ns n ≡ true
column_back = member_back same_number (λ a. eq-eqb a a refl) (λ a b e. eqb-true a b e)

-- ---- the four conditions

filtered_so : (split : List ℕ) (c : Conjunct) → is_filtered_by split c ≡ true → IsFiltered split c
filtered_so split (One column condition) e = record { column = column; condition = condition; names = refl; among = column_so split column e }
filtered_so split (Many condition) e = not_true e

filtered_back : (split : List ℕ) (c : Conjunct) → IsFiltered split c → is_filtered_by split c ≡ true
filtered_back split c is = subst (λ d. is_filtered_by split d ≡ true) (sym is.names) (column_back split is.column is.among)

pub serves_so : (query : BoundQuery) (tree : TreeSetting) → is_eligible query tree ≡ true → Serves tree query
serves_so query tree e =
    let filters = list_all (is_filtered_by tree.split) query.conjuncts in
    let groups = list_all (is_member tree.split) query.groups in
    let keeps = list_all (is_kept tree.pairs) query.aggs in
    let c = both (query.use_tree && filters && groups) keeps e in
    let b = both (query.use_tree && filters) groups c.0 in
    let a = both query.use_tree filters b.0 in
    record {
      wanted = a.0;
      filtered = all_so (is_filtered_by tree.split) (IsFiltered tree.split) (filtered_so tree.split) query.conjuncts a.1;
      grouped = all_so (is_member tree.split) (Contains tree.split) (column_so tree.split) query.groups b.1;
      kept = all_so (is_kept tree.pairs) (Contains tree.pairs) (member_so same_agg own_agg agg_is tree.pairs) query.aggs c.1;
    }

pub serves_back : (query : BoundQuery) (tree : TreeSetting) → Serves tree query → is_eligible query tree ≡ true
serves_back query tree s =
    let filters = list_all (is_filtered_by tree.split) query.conjuncts in
    let groups = list_all (is_member tree.split) query.groups in
    let keeps = list_all (is_kept tree.pairs) query.aggs in
    join (query.use_tree && filters && groups) keeps
    (join (query.use_tree && filters) groups
    (join query.use_tree filters s.wanted (all_back (is_filtered_by tree.split) (IsFiltered tree.split) (filtered_back tree.split) query.conjuncts s.filtered))
    (all_back (is_member tree.split) (Contains tree.split) (column_back tree.split) query.groups s.grouped))
    (all_back (is_kept tree.pairs) (Contains tree.pairs) (member_back same_agg own_agg agg_is tree.pairs) query.aggs s.kept)
