-- A row satisfies the normal form of a condition exactly where it satisfies the condition.
use Rattle.std.proofs.Common.{◌≡◌, ◌==◌, ℕ, Bool, true, false, not, ◌&&◌, ◌||◌, List, [], ◌∷◌, ◌++◌, map, flat_map, Option, Some, None, if◌then◌else◌, refl, sym, ap, ◌∙◌, subst, unwrap_or, Result, Ok, Err, IfOk}
use Rattle.std.specs.List.{list_all}
use Rattle.std.specs.declared.cmp.Ordering.{Ordering}
use Rattle.std.specs.declared.cmp.Ordering.TheVariants as order
use Rattle.std.proofs.lemmas.Bool.{false≢true, eqb-true, eq-eqb}
use Rattle.std.proofs.lemmas.Option.{none-some}
use Rattle.std.proofs.lemmas.List.{map-append}
use Rattle.std.proofs.lemmas.List.Folds.{list_all-append}
use Rattle.values.specs.declared.value.Value.{Value}
use Rattle.values.specs.declared.test.CompareOp.{CompareOp}
use Rattle.values.specs.declared.test.CompareOp.TheVariants.{Equal, Unequal, Less, AtMost, More, AtLeast}
use Rattle.values.specs.declared.test.Test.{Test}
use Rattle.values.specs.declared.test.Test.TheVariants as test
use Rattle.values.specs.declared.test.Test.TheOpen.{Test-F}
use Rattle.values.specs.declared.test.Test.TheFolds.{fold-roll-Test}
use Rattle.values.specs.Order.{value_order}
use Rattle.values.specs.Tests as tests
use Rattle.values.specs.Tests.{op_holds, negated_if, is_member, is_between, all_true, any_true, holds_step}
use Rattle.table_schema.specs.declared.query.Conjunct.{Conjunct}
use Rattle.table_schema.specs.declared.query.Wide.{Wide}
use Rattle.table_schema.specs.declared.query.Wide.TheVariants as wide
use Rattle.table_schema.specs.declared.query.Wide.TheOpen.{Wide-F}
use Rattle.table_schema.specs.declared.query.Wide.TheFolds.{fold-roll-Wide, ind-Wide, map-Wide}
use Rattle.table_schema.specs.declared.query.Wide.TheViews.{out-Wide, roll-Wide, roll-out-Wide}
use Rattle.table_schema.specs.Conditions.{cell, wide_step, wide_holds, conjunct_holds}
use Rattle.query_bind.specs.Written.{Written, Compare, OneOf, Between, Not, All, Any, Members, no_members, member, holds, each_holds, some_holds}
use Rattle.query_bind.specs.Conjuncts.{opposite, opposite_if, members_of_all, members_of_any, conjoined, disjoined, all_of, any_of, normal, normals, only_field, test_step, test_of, conjunct_by, conjunct, where_conjuncts, KeepRows}
use Rattle.table_schema.specs.ValidQuery.{fields_step, fields_of}

-- ---- truth

and_true : (b : Bool) → b && true ≡ b
and_true true = refl
and_true false = refl

or_false : (b : Bool) → b || false ≡ b
or_false true = refl
or_false false = refl

and_left : (a b : Bool) → a && b ≡ true → a ≡ true
and_left true b e = refl
and_left false b e = absurd (false≢true e)

and_right : (a b : Bool) → a && b ≡ true → b ≡ true
and_right true b e = e
and_right false b e = absurd (false≢true e)

all_true-append : (bs cs : List Bool) → all_true (bs ++ cs) ≡ (all_true bs && all_true cs)
all_true-append [] cs = refl
all_true-append (true ∷ bs) cs = all_true-append bs cs
all_true-append (false ∷ bs) cs = refl

any_true-append : (bs cs : List Bool) → any_true (bs ++ cs) ≡ (any_true bs || any_true cs)
any_true-append [] cs = refl
any_true-append (true ∷ bs) cs = refl
any_true-append (false ∷ bs) cs = any_true-append bs cs

not_not : (n b : Bool) → negated_if (not n) b ≡ negated_if n (not b)
not_not true true = refl
not_not true false = refl
not_not false b = refl

negated_twice : (n m b : Bool) → negated_if (negated_if n m) b ≡ negated_if n (negated_if m b)
negated_twice false m b = refl
negated_twice true false b = refl
negated_twice true true true = refl
negated_twice true true false = refl

opposite_holds : (op : CompareOp) (o : Ordering) → op_holds (opposite op) o ≡ not (op_holds op o)
opposite_holds Equal order.Less = refl
opposite_holds Equal order.Equal = refl
opposite_holds Equal order.Greater = refl
opposite_holds Unequal order.Less = refl
opposite_holds Unequal order.Equal = refl
opposite_holds Unequal order.Greater = refl
opposite_holds Less order.Less = refl
opposite_holds Less order.Equal = refl
opposite_holds Less order.Greater = refl
opposite_holds AtMost order.Less = refl
opposite_holds AtMost order.Equal = refl
opposite_holds AtMost order.Greater = refl
opposite_holds More order.Less = refl
opposite_holds More order.Equal = refl
opposite_holds More order.Greater = refl
opposite_holds AtLeast order.Less = refl
opposite_holds AtLeast order.Equal = refl
opposite_holds AtLeast order.Greater = refl

opposite_if_holds : (n : Bool) (op : CompareOp) (o : Ordering) → op_holds (opposite_if n op) o ≡ negated_if n (op_holds op o)
opposite_if_holds true op o = opposite_holds op o
opposite_if_holds false op o = refl

-- ---- one test

value_holds-Compare : (v : Value) (op : CompareOp) (bound : Value) → tests.holds v (test.Compare op bound) ≡ op_holds op (value_order v bound)
value_holds-Compare v op bound = ap (tests.holds v) (sym (test.rolls-Compare op bound)) ∙ fold-roll-Test Bool (holds_step v) (Test-F.Compare op bound)

value_holds-OneOf : (v : Value) (values : List Value) (n : Bool) → tests.holds v (test.OneOf values n) ≡ negated_if n (is_member values v)
value_holds-OneOf v values n = ap (tests.holds v) (sym (test.rolls-OneOf values n)) ∙ fold-roll-Test Bool (holds_step v) (Test-F.OneOf values n)

value_holds-Between : (v low high : Value) (n : Bool) → tests.holds v (test.Between low high n) ≡ negated_if n (is_between low v high)
value_holds-Between v low high n = ap (tests.holds v) (sym (test.rolls-Between low high n)) ∙ fold-roll-Test Bool (holds_step v) (Test-F.Between low high n)

value_holds-All : (v : Value) (ts : List Test) → tests.holds v (test.All ts) ≡ all_true (map (tests.holds v) ts)
value_holds-All v ts = ap (tests.holds v) (sym (test.rolls-All ts)) ∙ fold-roll-Test Bool (holds_step v) (Test-F.All ts)

value_holds-Any : (v : Value) (ts : List Test) → tests.holds v (test.Any ts) ≡ any_true (map (tests.holds v) ts)
value_holds-Any v ts = ap (tests.holds v) (sym (test.rolls-Any ts)) ∙ fold-roll-Test Bool (holds_step v) (Test-F.Any ts)

module _ (row : List Value) where
  -- ---- conditions that are joined

  wide_holds-Leaf : (field : ℕ) (t : Test) → wide_holds row (wide.Leaf field t) ≡ tests.holds (cell row field) t
  wide_holds-Leaf field t = ap (wide_holds row) (sym (wide.rolls-Leaf field t)) ∙ fold-roll-Wide Bool (wide_step row) (Wide-F.Leaf field t)

  wide_holds-All : (ws : List Wide) → wide_holds row (wide.All ws) ≡ all_true (map (wide_holds row) ws)
  wide_holds-All ws = ap (wide_holds row) (sym (wide.rolls-All ws)) ∙ fold-roll-Wide Bool (wide_step row) (Wide-F.All ws)

  wide_holds-Any : (ws : List Wide) → wide_holds row (wide.Any ws) ≡ any_true (map (wide_holds row) ws)
  wide_holds-Any ws = ap (wide_holds row) (sym (wide.rolls-Any ws)) ∙ fold-roll-Wide Bool (wide_step row) (Wide-F.Any ws)

  -- ---- flattening keeps what holds

  rolled_all : (layer : Wide-F Wide) → all_true (map (wide_holds row) (members_of_all layer (roll-Wide layer))) ≡ wide_holds row (roll-Wide layer)
  rolled_all (Wide-F.Leaf field t) = and_true (wide_holds row (roll-Wide (Wide-F.Leaf field t)))
  rolled_all (Wide-F.All ws) = sym (fold-roll-Wide Bool (wide_step row) (Wide-F.All ws))
  rolled_all (Wide-F.Any ws) = and_true (wide_holds row (roll-Wide (Wide-F.Any ws)))

  rolled_any : (layer : Wide-F Wide) → any_true (map (wide_holds row) (members_of_any layer (roll-Wide layer))) ≡ wide_holds row (roll-Wide layer)
  rolled_any (Wide-F.Leaf field t) = or_false (wide_holds row (roll-Wide (Wide-F.Leaf field t)))
  rolled_any (Wide-F.All ws) = or_false (wide_holds row (roll-Wide (Wide-F.All ws)))
  rolled_any (Wide-F.Any ws) = sym (fold-roll-Wide Bool (wide_step row) (Wide-F.Any ws))

  conjoined_hold : (w : Wide) → all_true (map (wide_holds row) (conjoined w)) ≡ wide_holds row w
  conjoined_hold w = subst (λ v. all_true (map (wide_holds row) (members_of_all (out-Wide w) v)) ≡ wide_holds row v) (roll-out-Wide w) (rolled_all (out-Wide w))

  disjoined_hold : (w : Wide) → any_true (map (wide_holds row) (disjoined w)) ≡ wide_holds row w
  disjoined_hold w = subst (λ v. any_true (map (wide_holds row) (members_of_any (out-Wide w) v)) ≡ wide_holds row v) (roll-out-Wide w) (rolled_any (out-Wide w))

  all_flat : (ws : List Wide) → all_true (map (wide_holds row) (flat_map conjoined ws)) ≡ all_true (map (wide_holds row) ws)
  all_flat [] = refl
  all_flat (w ∷ ws) = ap all_true (map-append (wide_holds row) (conjoined w) (flat_map conjoined ws))
      ∙ all_true-append (map (wide_holds row) (conjoined w)) (map (wide_holds row) (flat_map conjoined ws))
      ∙ ap (λ b. b && all_true (map (wide_holds row) (flat_map conjoined ws))) (conjoined_hold w)
      ∙ ap (λ b. wide_holds row w && b) (all_flat ws)

  any_flat : (ws : List Wide) → any_true (map (wide_holds row) (flat_map disjoined ws)) ≡ any_true (map (wide_holds row) ws)
  any_flat [] = refl
  any_flat (w ∷ ws) = ap any_true (map-append (wide_holds row) (disjoined w) (flat_map disjoined ws))
      ∙ any_true-append (map (wide_holds row) (disjoined w)) (map (wide_holds row) (flat_map disjoined ws))
      ∙ ap (λ b. b || any_true (map (wide_holds row) (flat_map disjoined ws))) (disjoined_hold w)
      ∙ ap (λ b. wide_holds row w || b) (any_flat ws)

  all_of_holds : (ws : List Wide) → wide_holds row (all_of ws) ≡ all_true (map (wide_holds row) ws)
  all_of_holds ws = wide_holds-All (flat_map conjoined ws) ∙ all_flat ws

  any_of_holds : (ws : List Wide) → wide_holds row (any_of ws) ≡ any_true (map (wide_holds row) ws)
  any_of_holds ws = wide_holds-Any (flat_map disjoined ws) ∙ any_flat ws

  -- ---- NOT pushed in

  -- what holds of all members, or of all their negations; and of some
  abbrev of_all : Bool → Members → Bool
  of_all n ws = if n then not (some_holds row ws) else each_holds row ws

  abbrev of_some : Bool → Members → Bool
  of_some n ws = if n then not (each_holds row ws) else some_holds row ws

  abbrev AllOf : Bool → Members → Type 0
  AllOf n ws = all_true (map (wide_holds row) (normals n ws)) ≡ of_all n ws

  abbrev SomeOf : Bool → Members → Type 0
  SomeOf n ws = any_true (map (wide_holds row) (normals n ws)) ≡ of_some n ws

  join_all : (n : Bool) (ws : Members) → AllOf n ws → SomeOf n ws → wide_holds row (normal n (All ws)) ≡ negated_if n (each_holds row ws)
  join_all true ws a s = any_of_holds (normals true ws) ∙ s
  join_all false ws a s = all_of_holds (normals false ws) ∙ a

  join_any : (n : Bool) (ws : Members) → AllOf n ws → SomeOf n ws → wide_holds row (normal n (Any ws)) ≡ negated_if n (some_holds row ws)
  join_any true ws a s = all_of_holds (normals true ws) ∙ a
  join_any false ws a s = any_of_holds (normals false ws) ∙ s

  none_all : (n : Bool) → AllOf n no_members
  none_all true = refl
  none_all false = refl

  none_some : (n : Bool) → SomeOf n no_members
  none_some true = refl
  none_some false = refl

  and_or : (a b : Bool) → (not a && not b) ≡ not (a || b)
  and_or true b = refl
  and_or false b = refl

  or_and : (a b : Bool) → (not a || not b) ≡ not (a && b)
  or_and true b = refl
  or_and false b = refl

  more_all : (n : Bool) (w : Written) (ws : Members) → wide_holds row (normal n w) ≡ negated_if n (holds row w) → AllOf n ws → AllOf n (member w ws)
  more_all true w ws e a = ap (λ b. b && all_true (map (wide_holds row) (normals true ws))) e ∙ ap (λ b. not (holds row w) && b) a ∙ and_or (holds row w) (some_holds row ws)
  more_all false w ws e a = ap (λ b. b && all_true (map (wide_holds row) (normals false ws))) e ∙ ap (λ b. holds row w && b) a

  more_some : (n : Bool) (w : Written) (ws : Members) → wide_holds row (normal n w) ≡ negated_if n (holds row w) → SomeOf n ws → SomeOf n (member w ws)
  more_some true w ws e s = ap (λ b. b || any_true (map (wide_holds row) (normals true ws))) e ∙ ap (λ b. not (holds row w) || b) s ∙ or_and (holds row w) (each_holds row ws)
  more_some false w ws e s = ap (λ b. b || any_true (map (wide_holds row) (normals false ws))) e ∙ ap (λ b. holds row w || b) s

  mutual
    normal_holds : (n : Bool) (w : Written) → wide_holds row (normal n w) ≡ negated_if n (holds row w)
    normal_holds n (Compare field op bound) = wide_holds-Leaf field (test.Compare (opposite_if n op) bound)
        ∙ value_holds-Compare (cell row field) (opposite_if n op) bound ∙ opposite_if_holds n op (value_order (cell row field) bound)
    normal_holds n (OneOf field values m) = wide_holds-Leaf field (test.OneOf values (negated_if n m))
        ∙ value_holds-OneOf (cell row field) values (negated_if n m) ∙ negated_twice n m (is_member values (cell row field))
    normal_holds n (Between field low high m) = wide_holds-Leaf field (test.Between low high (negated_if n m))
        ∙ value_holds-Between (cell row field) low high (negated_if n m) ∙ negated_twice n m (is_between low (cell row field) high)
    normal_holds n (Not w) = normal_holds (not n) w ∙ not_not n (holds row w)
    normal_holds n (All ws) = join_all n ws (all_normals n ws) (some_normals n ws)
    normal_holds n (Any ws) = join_any n ws (all_normals n ws) (some_normals n ws)

    all_normals : (n : Bool) (ws : Members) → AllOf n ws
    all_normals n no_members = none_all n
    all_normals n (member w ws) = more_all n w ws (normal_holds n w) (all_normals n ws)

    some_normals : (n : Bool) (ws : Members) → SomeOf n ws
    some_normals n no_members = none_some n
    some_normals n (member w ws) = more_some n w ws (normal_holds n w) (some_normals n ws)

  -- ---- conjuncts

  module _ (field : ℕ) where
    abbrev named : List ℕ → Bool
    named fields = list_all (λ other. other == field) fields

    -- where no other field is named, the test of its value says the same
    abbrev IsTest : Wide → Type 0
    IsTest w = named (fields_of w) ≡ true → tests.holds (cell row field) (test_of w) ≡ wide_holds row w

    named_here : (w : Wide) (ws : List Wide) → named (flat_map (λ fields. fields) (map fields_of (w ∷ ws))) ≡ true → named (fields_of w) ≡ true
    named_here w ws e = and_left (named (fields_of w)) (named (flat_map (λ fields. fields) (map fields_of ws)))
        (sym (list_all-append (λ other. other == field) (fields_of w) (flat_map (λ fields. fields) (map fields_of ws))) ∙ e)

    named_following : (w : Wide) (ws : List Wide) → named (flat_map (λ fields. fields) (map fields_of (w ∷ ws))) ≡ true → named (flat_map (λ fields. fields) (map fields_of ws)) ≡ true
    named_following w ws e = and_right (named (fields_of w)) (named (flat_map (λ fields. fields) (map fields_of ws)))
        (sym (list_all-append (λ other. other == field) (fields_of w) (flat_map (λ fields. fields) (map fields_of ws))) ∙ e)

    all_tests : (inner : List ((w : Wide) × IsTest w)) → named (flat_map (λ fields. fields) (map fields_of (map (λ e. e.0) inner))) ≡ true
        → all_true (map (tests.holds (cell row field)) (map test_of (map (λ e. e.0) inner))) ≡ all_true (map (wide_holds row) (map (λ e. e.0) inner))
    all_tests [] e = refl
    all_tests (w ∷ ws) e =
        ap (λ b. b && all_true (map (tests.holds (cell row field)) (map test_of (map (λ e. e.0) ws)))) (w.1 (named_here w.0 (map (λ e. e.0) ws) e))
        ∙ ap (λ b. wide_holds row w.0 && b) (all_tests ws (named_following w.0 (map (λ e. e.0) ws) e))

    any_tests : (inner : List ((w : Wide) × IsTest w)) → named (flat_map (λ fields. fields) (map fields_of (map (λ e. e.0) inner))) ≡ true
        → any_true (map (tests.holds (cell row field)) (map test_of (map (λ e. e.0) inner))) ≡ any_true (map (wide_holds row) (map (λ e. e.0) inner))
    any_tests [] e = refl
    any_tests (w ∷ ws) e =
        ap (λ b. b || any_true (map (tests.holds (cell row field)) (map test_of (map (λ e. e.0) ws)))) (w.1 (named_here w.0 (map (λ e. e.0) ws) e))
        ∙ ap (λ b. wide_holds row w.0 || b) (any_tests ws (named_following w.0 (map (λ e. e.0) ws) e))

    test_layer : (y : Wide-F ((w : Wide) × IsTest w)) → named (fields_step (map-Wide Wide (List ℕ) fields_of (map-Wide ((w : Wide) × IsTest w) Wide (λ e. e.0) y))) ≡ true
        → tests.holds (cell row field) (test_step (map-Wide Wide Test test_of (map-Wide ((w : Wide) × IsTest w) Wide (λ e. e.0) y)))
        ≡ wide_step row (map-Wide Wide Bool (wide_holds row) (map-Wide ((w : Wide) × IsTest w) Wide (λ e. e.0) y))
    test_layer (Wide-F.Leaf own t) e = ap (λ f. tests.holds (cell row f) t) (sym (eqb-true own field (and_left (own == field) true e)))
    test_layer (Wide-F.All inner) e = value_holds-All (cell row field) (map test_of (map (λ e. e.0) inner)) ∙ all_tests inner e
    test_layer (Wide-F.Any inner) e = value_holds-Any (cell row field) (map test_of (map (λ e. e.0) inner)) ∙ any_tests inner e

    test_holds : (w : Wide) → IsTest w
    test_holds = ind-Wide IsTest (λ x y is. subst (λ layer. IsTest (roll-Wide layer)) is (λ e.
        let z = map-Wide ((w : Wide) × IsTest w) Wide (λ p. p.0) y in
        ap (tests.holds (cell row field)) (fold-roll-Wide Test test_step z)
        ∙ test_layer y (ap named (sym (fold-roll-Wide (List ℕ) fields_step z)) ∙ e)
        ∙ sym (fold-roll-Wide Bool (wide_step row) z)))

    only_by : (x : ℕ) (xs : List ℕ) (b : Bool) → list_all (λ other. other == x) xs ≡ b → (if b then Some x else None) ≡ Some field → named (x ∷ xs) ≡ true
    only_by x xs false rest e = absurd (none-some field e)
    only_by x xs true rest e =
        let here : x ≡ field = ap (λ o. unwrap_or o field) e in
        subst (λ f. list_all (λ other. other == f) (x ∷ xs) ≡ true) here (ap (λ b. b && list_all (λ other. other == x) xs) (eq-eqb x x refl) ∙ rest)

    only_named : (fields : List ℕ) → only_field fields ≡ Some field → named fields ≡ true
    only_named [] e = absurd (none-some field e)
    only_named (x ∷ xs) e = only_by x xs (list_all (λ other. other == x) xs) refl e

  conjunct_by_holds : (w : Wide) (o : Option ℕ) → only_field (fields_of w) ≡ o → conjunct_holds row (conjunct_by w o) ≡ wide_holds row w
  conjunct_by_holds w None e = refl
  conjunct_by_holds w (Some field) e = test_holds field w (only_named field (fields_of w) e)

  conjuncts_hold : (ws : List Wide) → list_all (conjunct_holds row) (map conjunct ws) ≡ all_true (map (wide_holds row) ws)
  conjuncts_hold [] = refl
  conjuncts_hold (w ∷ ws) = ap (λ b. b && list_all (conjunct_holds row) (map conjunct ws)) (conjunct_by_holds w (only_field (fields_of w)) refl)
      ∙ ap (λ b. wide_holds row w && b) (conjuncts_hold ws)

keeps_rows : (w : Option Written) → KeepRows (where_conjuncts w) w
keeps_rows None row = refl
keeps_rows (Some w) row = conjuncts_hold row (conjoined (normal false w)) ∙ conjoined_hold row (normal false w) ∙ normal_holds row false w

pub kept : {E : Type 0} (r : Result (List Conjunct) E) (w : Option Written) → IfOk r (λ cs. cs ≡ where_conjuncts w) → IfOk r (λ cs. KeepRows cs w)
kept (Ok cs) w e = subst (λ ds. KeepRows ds w) (sym e) (keeps_rows w)
kept (Err fault) w e = tt
