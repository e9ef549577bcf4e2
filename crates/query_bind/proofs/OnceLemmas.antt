-- Lists without repeats.
use Rattle.std.proofs.Common.{◌≡◌, ℕ, ◌==◌, nat_eq, Bool, true, false, ◌||◌, cond, List, [], ◌∷◌, ◌++◌, refl, sym, ap, ◌∙◌, subst}
use Rattle.std.specs.List.{list_any, IsDistinct}
use Rattle.std.specs.Cmp.{IsEquivalence, nat_eq_equiv}
use Rattle.std.proofs.lemmas.List.Folds.{list_any-append}
use Rattle.std.proofs.lemmas.Map.Keys.{IsDistinct-push}
use Rattle.std.proofs.lemmas.Bool.{eqb-true, eq-eqb}
use Rattle.query_bind.specs.declared.terms.Meaning.{Meaning}
use Rattle.query_bind.specs.declared.terms.Meaning.TheVariants as meaning
use Rattle.query_bind.specs.declared.terms.TermAt.{TermAt}
use Rattle.query_bind.specs.declared.terms.ColumnAt.{ColumnAt}
use Rattle.query_bind.specs.Terms.{with_new, with_column, columns_from, with_agg, aggs_from}
use Rattle.query_bind.specs.Once.{GroupsStandOnce, GroupsAreNamed, AggsStandOnce, is_agg, AggsAreWritten}
use Rattle.table_schema.proofs.AggLaws.{own_agg, agg_is}
use Rattle.table_schema.specs.declared.query.Agg.{Agg}
use Rattle.table_schema.specs.Aggs.{same_agg}

or_false : (a : Bool) → (a || false) ≡ a
or_false true = refl
or_false false = refl

or_assoc : (a b c : Bool) → ((a || b) || c) ≡ (a || (b || c))
or_assoc true b c = refl
or_assoc false b c = refl

-- a test that holds of equal values alone is an equality
module _ {A : Type 0} (same : A → A → Bool) (own : (a : A) → same a a ≡ true) (is : (a b : A) → same a b ≡ true → a ≡ b) where
  flips_by : (x y : A) (b c : Bool) → same x y ≡ b → same y x ≡ c → same x y ≡ same y x
  flips_by x y true c e f = subst (λ z. same x z ≡ same z x) (is x y e) refl
  flips_by x y false true e f = sym (subst (λ z. same y z ≡ same z y) (is y x f) refl)
  flips_by x y false false e f = e ∙ sym f

  equality : IsEquivalence same
  equality = record {
    refl = own;
    symm = λ x y. flips_by x y (same x y) (same y x) refl refl;
    congr = λ x y z e. ap (λ w. same w z) (is x y e);
  }

any_same : {A : Type 0} (p q : A → Bool) (xs : List A) → ((x : A) → p x ≡ q x) → list_any p xs ≡ list_any q xs
any_same p q [] same = refl
any_same p q (x ∷ xs) same = ap (λ b. b || list_any p xs) (same x) ∙ ap (λ b. q x || b) (any_same p q xs same)

-- ---- one more, unless it is there

once_by : {A : Type 0} (eq : A → A → Bool) (equal : IsEquivalence eq) (kept : List A) (x : A) (b : Bool) → list_any (eq x) kept ≡ b → IsDistinct eq kept → IsDistinct eq (cond b kept (kept ++ x ∷ []))
once_by eq equal kept x true e once = once
once_by eq equal kept x false e once = IsDistinct-push equal kept x once e

module _ {A : Type 0} (same : A → A → Bool) (equal : IsEquivalence same) (c : A) where
  there : (kept : List A) (x : A) (b : Bool) → same c x ≡ b → list_any (same x) kept ≡ true → list_any (same c) kept ≡ (list_any (same c) kept || b)
  there kept x false e has = sym (or_false (list_any (same c) kept))
  there kept x true e has =
      let all : list_any (same c) kept ≡ true = any_same (same c) (same x) kept (λ y. equal.congr c x y e) ∙ has in
      all ∙ sym (ap (λ b. b || true) all)

  member_by : (kept : List A) (x : A) (b : Bool) → list_any (same x) kept ≡ b → list_any (same c) (cond b kept (kept ++ x ∷ [])) ≡ (list_any (same c) kept || same c x)
  member_by kept x true e = there kept x (same c x) refl e
  member_by kept x false e = list_any-append (same c) kept (x ∷ []) ∙ ap (λ b. list_any (same c) kept || b) (or_false (same c x))

  member : (kept : List A) (x : A) → list_any (same c) (with_new same kept x) ≡ (list_any (same c) kept || same c x)
  member kept x = member_by kept x (list_any (same x) kept) refl

-- ---- columns

abbrev same_number : ℕ → ℕ → Bool
same_number a b = b == a

numbers_equal : IsEquivalence same_number
numbers_equal = equality same_number (λ a. eq-eqb a a refl) (λ a b e. sym (eqb-true b a e))

columns_once : (kept : List ℕ) (ns : List ColumnAt) → IsDistinct nat_eq kept → IsDistinct nat_eq (columns_from kept ns)
columns_once kept [] once = once
columns_once kept (n ∷ ns) once = columns_once (with_column kept n.column) ns
    (once_by nat_eq nat_eq_equiv kept n.column (list_any (λ g. g == n.column) kept) (any_same (nat_eq n.column) (λ g. g == n.column) kept (λ g. nat_eq_equiv.symm n.column g)) once)

columns_named : (c : ℕ) (kept : List ℕ) (ns : List ColumnAt) → list_any (λ g. g == c) (columns_from kept ns) ≡ (list_any (λ g. g == c) kept || list_any (λ n. n.column == c) ns)
columns_named c kept [] = sym (or_false (list_any (λ g. g == c) kept))
columns_named c kept (n ∷ ns) =
    columns_named c (with_column kept n.column) ns
    ∙ ap (λ b. b || list_any (λ n. n.column == c) ns) (member same_number numbers_equal c kept n.column)
    ∙ or_assoc (list_any (λ g. g == c) kept) (n.column == c) (list_any (λ n. n.column == c) ns)

-- ---- aggregates

aggs_equal : IsEquivalence same_agg
aggs_equal = equality same_agg own_agg agg_is

agg_once : (kept : List Agg) (m : Meaning) → IsDistinct same_agg kept → IsDistinct same_agg (with_agg kept m)
agg_once kept (meaning.Column c) once = once
agg_once kept (meaning.Agg a) once = once_by same_agg aggs_equal kept a (list_any (same_agg a) kept) refl once

pub aggs_once : (kept : List Agg) (ts : List TermAt) → IsDistinct same_agg kept → IsDistinct same_agg (aggs_from kept ts)
aggs_once kept [] once = once
aggs_once kept (t ∷ ts) once = aggs_once (with_agg kept t.meaning) ts (agg_once kept t.meaning once)

agg_member : (a : Agg) (kept : List Agg) (m : Meaning) → list_any (same_agg a) (with_agg kept m) ≡ (list_any (same_agg a) kept || is_agg a m)
agg_member a kept (meaning.Column c) = sym (or_false (list_any (same_agg a) kept))
agg_member a kept (meaning.Agg b) = member same_agg aggs_equal a kept b

aggs_written : (a : Agg) (kept : List Agg) (ts : List TermAt) → list_any (same_agg a) (aggs_from kept ts) ≡ (list_any (same_agg a) kept || list_any (λ t. is_agg a t.meaning) ts)
aggs_written a kept [] = sym (or_false (list_any (same_agg a) kept))
aggs_written a kept (t ∷ ts) =
    aggs_written a (with_agg kept t.meaning) ts
    ∙ ap (λ b. b || list_any (λ t. is_agg a t.meaning) ts) (agg_member a kept t.meaning)
    ∙ or_assoc (list_any (same_agg a) kept) (is_agg a t.meaning) (list_any (λ t. is_agg a t.meaning) ts)

-- ---- the laws

none_twice : {A : Type 0} (eq : A → A → Bool) → IsDistinct eq []
unfolding IsDistinct
none_twice eq = tt

pub groups_once : GroupsStandOnce
groups_once = λ ns. columns_once [] ns (none_twice nat_eq)

pub groups_named : GroupsAreNamed
groups_named = λ ns c. columns_named c [] ns

pub all_aggs_once : AggsStandOnce
all_aggs_once = λ ts. aggs_once [] ts (none_twice same_agg)

pub all_aggs_written : AggsAreWritten
all_aggs_written = λ ts a. aggs_written a [] ts
