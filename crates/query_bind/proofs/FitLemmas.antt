-- Values in tests have the type of their field.
use Rattle.std.proofs.Common.{◌≡◌, ◌==◌, ℕ, Bool, true, false, not, ◌&&◌, List, [], ◌∷◌, ◌++◌, map, flat_map, Option, Some, None, Ok, is_some, option_map, option_and_then, unwrap_or, if◌then◌else◌, refl, sym, ap, ◌∙◌, subst, eq-eqb}
use Rattle.std.specs.List.{list_all, slice_get}
use Rattle.std.proofs.lemmas.Bool.{eqb-true}
use Rattle.std.proofs.lemmas.Option.{none-some}
use Rattle.std.proofs.lemmas.List.{map-append}
use Rattle.std.proofs.lemmas.List.Folds.{list_all-append}
use Rattle.data_types.specs.declared.kind.FieldKind.{FieldKind}
use Rattle.values.specs.declared.value.Value.{Value}
use Rattle.values.specs.declared.test.CompareOp.{CompareOp}
use Rattle.values.specs.declared.test.Test.{Test}
use Rattle.values.specs.declared.test.Test.TheVariants as test
use Rattle.values.specs.declared.test.Test.TheOpen.{Test-F}
use Rattle.values.specs.declared.test.Test.TheFolds.{fold-roll-Test}
use Rattle.values.specs.Tests.{negated_if, all_true}
use Rattle.table_schema.specs.declared.field.Field.{Field}
use Rattle.table_schema.specs.declared.table.Table.{Table}
use Rattle.table_schema.specs.declared.query.Wide.{Wide}
use Rattle.table_schema.specs.declared.query.Wide.TheVariants as wide
use Rattle.table_schema.specs.declared.query.Wide.TheOpen.{Wide-F}
use Rattle.table_schema.specs.declared.query.Wide.TheFolds.{fold-roll-Wide, ind-Wide, map-Wide}
use Rattle.table_schema.specs.declared.query.Wide.TheViews.{out-Wide, roll-Wide, roll-out-Wide}
use Rattle.table_schema.specs.Columns.{number_of}
use Rattle.query_tokens.specs.declared.tree.NameAt.{NameAt}
use Rattle.query_tokens.specs.declared.tree.LiteralAt.{LiteralAt}
use Rattle.query_tokens.specs.declared.tree.Cond.{Cond}
use Rattle.query_tokens.specs.declared.tree.Cond.TheOpen.{Cond-F}
use Rattle.query_tokens.specs.declared.tree.Cond.TheFolds.{fold-roll-Cond, ind-Cond, map-Cond}
use Rattle.query_tokens.specs.declared.tree.Cond.TheViews.{roll-Cond}
use Rattle.query_tokens.specs.declared.tree.Query.{Query}
use Rattle.query_bind.specs.declared.fault.BindReason.{BindReason}
use Rattle.query_bind.specs.declared.fault.BindReason.TheVariants.{UnknownColumn, TypeMismatch}
use Rattle.query_bind.specs.declared.fault.BindFault.TheVariants.{At}
use Rattle.query_bind.specs.Faults.{Finding, fault_unless}
use Rattle.query_bind.specs.Written.{Written, Compare, OneOf, Between, Not, All, Any, Members, no_members, member, members_of, field_number, value_in, written, written_step, where_written}
use Rattle.query_bind.specs.Conjuncts.{opposite_if, members_of_all, members_of_any, conjoined, disjoined, all_of, any_of, normal, normals, only_field, test_step, test_of, conjunct_by, conjunct, where_conjuncts}
use Rattle.query_bind.specs.Names.{column_finding, kind_of, literal_finding, term_finding, condition_step, condition_finding, where_finding, table_finding, names_finding}
use Rattle.query_bind.specs.Bound.{Bound, bound_of, bound, query_finding}
use Rattle.query_bind.proofs.Truth.{and_of, both}
use Rattle.query_bind.proofs.PlaceLemmas.{answered}
use Rattle.table_schema.specs.Firsts.{or_else, first_of, first_in}
use Rattle.table_schema.specs.ValidQuery.{fields_step, fields_of, is_typed, kind_at, fits_step, test_fits, wide_step, wide_fits, conjunct_fits}
use Rattle.table_schema.proofs.FirstLaws.{first_none, rest_none}

-- ---- truth

and_true : (b : Bool) → b && true ≡ b
and_true true = refl
and_true false = refl

all_true-append : (bs cs : List Bool) → all_true (bs ++ cs) ≡ (all_true bs && all_true cs)
all_true-append [] cs = refl
all_true-append (true ∷ bs) cs = all_true-append bs cs
all_true-append (false ∷ bs) cs = refl

-- ---- one test

fits-Compare : (kind : Option FieldKind) (op : CompareOp) (v : Value) → test_fits kind (test.Compare op v) ≡ is_typed kind v
fits-Compare kind op v = ap (test_fits kind) (sym (test.rolls-Compare op v)) ∙ fold-roll-Test Bool (fits_step kind) (Test-F.Compare op v)

fits-OneOf : (kind : Option FieldKind) (vs : List Value) (n : Bool) → test_fits kind (test.OneOf vs n) ≡ list_all (is_typed kind) vs
fits-OneOf kind vs n = ap (test_fits kind) (sym (test.rolls-OneOf vs n)) ∙ fold-roll-Test Bool (fits_step kind) (Test-F.OneOf vs n)

fits-Between : (kind : Option FieldKind) (low high : Value) (n : Bool) → test_fits kind (test.Between low high n) ≡ (is_typed kind low && is_typed kind high)
fits-Between kind low high n = ap (test_fits kind) (sym (test.rolls-Between low high n)) ∙ fold-roll-Test Bool (fits_step kind) (Test-F.Between low high n)

fits-All : (kind : Option FieldKind) (ts : List Test) → test_fits kind (test.All ts) ≡ all_true (map (test_fits kind) ts)
fits-All kind ts = ap (test_fits kind) (sym (test.rolls-All ts)) ∙ fold-roll-Test Bool (fits_step kind) (Test-F.All ts)

fits-Any : (kind : Option FieldKind) (ts : List Test) → test_fits kind (test.Any ts) ≡ all_true (map (test_fits kind) ts)
fits-Any kind ts = ap (test_fits kind) (sym (test.rolls-Any ts)) ∙ fold-roll-Test Bool (fits_step kind) (Test-F.Any ts)

module _ (fields : List Field) where
  -- ---- conditions that are joined

  wide_fits-Leaf : (c : ℕ) (t : Test) → wide_fits fields (wide.Leaf c t) ≡ test_fits (kind_at fields c) t
  wide_fits-Leaf c t = ap (wide_fits fields) (sym (wide.rolls-Leaf c t)) ∙ fold-roll-Wide Bool (wide_step fields) (Wide-F.Leaf c t)

  wide_fits-All : (ws : List Wide) → wide_fits fields (wide.All ws) ≡ all_true (map (wide_fits fields) ws)
  wide_fits-All ws = ap (wide_fits fields) (sym (wide.rolls-All ws)) ∙ fold-roll-Wide Bool (wide_step fields) (Wide-F.All ws)

  wide_fits-Any : (ws : List Wide) → wide_fits fields (wide.Any ws) ≡ all_true (map (wide_fits fields) ws)
  wide_fits-Any ws = ap (wide_fits fields) (sym (wide.rolls-Any ws)) ∙ fold-roll-Wide Bool (wide_step fields) (Wide-F.Any ws)

  rolled_all : (layer : Wide-F Wide) → all_true (map (wide_fits fields) (members_of_all layer (roll-Wide layer))) ≡ wide_fits fields (roll-Wide layer)
  rolled_all (Wide-F.Leaf c t) = and_true (wide_fits fields (roll-Wide (Wide-F.Leaf c t)))
  rolled_all (Wide-F.All ws) = sym (fold-roll-Wide Bool (wide_step fields) (Wide-F.All ws))
  rolled_all (Wide-F.Any ws) = and_true (wide_fits fields (roll-Wide (Wide-F.Any ws)))

  rolled_any : (layer : Wide-F Wide) → all_true (map (wide_fits fields) (members_of_any layer (roll-Wide layer))) ≡ wide_fits fields (roll-Wide layer)
  rolled_any (Wide-F.Leaf c t) = and_true (wide_fits fields (roll-Wide (Wide-F.Leaf c t)))
  rolled_any (Wide-F.All ws) = and_true (wide_fits fields (roll-Wide (Wide-F.All ws)))
  rolled_any (Wide-F.Any ws) = sym (fold-roll-Wide Bool (wide_step fields) (Wide-F.Any ws))

  conjoined_fit : (w : Wide) → all_true (map (wide_fits fields) (conjoined w)) ≡ wide_fits fields w
  conjoined_fit w = subst (λ v. all_true (map (wide_fits fields) (members_of_all (out-Wide w) v)) ≡ wide_fits fields v) (roll-out-Wide w) (rolled_all (out-Wide w))

  disjoined_fit : (w : Wide) → all_true (map (wide_fits fields) (disjoined w)) ≡ wide_fits fields w
  disjoined_fit w = subst (λ v. all_true (map (wide_fits fields) (members_of_any (out-Wide w) v)) ≡ wide_fits fields v) (roll-out-Wide w) (rolled_any (out-Wide w))

  flat : (members : Wide → List Wide) → ((w : Wide) → all_true (map (wide_fits fields) (members w)) ≡ wide_fits fields w) → (ws : List Wide)
      → all_true (map (wide_fits fields) (flat_map members ws)) ≡ all_true (map (wide_fits fields) ws)
  flat members same [] = refl
  flat members same (w ∷ ws) = ap all_true (map-append (wide_fits fields) (members w) (flat_map members ws))
      ∙ all_true-append (map (wide_fits fields) (members w)) (map (wide_fits fields) (flat_map members ws))
      ∙ ap (λ b. b && all_true (map (wide_fits fields) (flat_map members ws))) (same w)
      ∙ ap (λ b. wide_fits fields w && b) (flat members same ws)

  all_of_fits : (ws : List Wide) → wide_fits fields (all_of ws) ≡ all_true (map (wide_fits fields) ws)
  all_of_fits ws = wide_fits-All (flat_map conjoined ws) ∙ flat conjoined conjoined_fit ws

  any_of_fits : (ws : List Wide) → wide_fits fields (any_of ws) ≡ all_true (map (wide_fits fields) ws)
  any_of_fits ws = wide_fits-Any (flat_map disjoined ws) ∙ flat disjoined disjoined_fit ws

  -- ---- the normal form

  abbrev mutual
    written_fits : Written → Bool
    written_fits (Compare c op v) = is_typed (kind_at fields c) v
    written_fits (OneOf c vs n) = list_all (is_typed (kind_at fields c)) vs
    written_fits (Between c low high n) = is_typed (kind_at fields c) low && is_typed (kind_at fields c) high
    written_fits (Not w) = written_fits w
    written_fits (All ws) = members_fit ws
    written_fits (Any ws) = members_fit ws

    members_fit : Members → Bool
    members_fit no_members = true
    members_fit (member w ws) = written_fits w && members_fit ws

  join_all : (n : Bool) (ws : Members) → all_true (map (wide_fits fields) (normals n ws)) ≡ members_fit ws → wide_fits fields (normal n (All ws)) ≡ members_fit ws
  join_all true ws e = any_of_fits (normals true ws) ∙ e
  join_all false ws e = all_of_fits (normals false ws) ∙ e

  join_any : (n : Bool) (ws : Members) → all_true (map (wide_fits fields) (normals n ws)) ≡ members_fit ws → wide_fits fields (normal n (Any ws)) ≡ members_fit ws
  join_any true ws e = all_of_fits (normals true ws) ∙ e
  join_any false ws e = any_of_fits (normals false ws) ∙ e

  mutual
    normal_fits : (n : Bool) (w : Written) → wide_fits fields (normal n w) ≡ written_fits w
    normal_fits n (Compare c op v) = wide_fits-Leaf c (test.Compare (opposite_if n op) v) ∙ fits-Compare (kind_at fields c) (opposite_if n op) v
    normal_fits n (OneOf c vs m) = wide_fits-Leaf c (test.OneOf vs (negated_if n m)) ∙ fits-OneOf (kind_at fields c) vs (negated_if n m)
    normal_fits n (Between c low high m) = wide_fits-Leaf c (test.Between low high (negated_if n m)) ∙ fits-Between (kind_at fields c) low high (negated_if n m)
    normal_fits n (Not w) = normal_fits (not n) w
    normal_fits n (All ws) = join_all n ws (normals_fit n ws)
    normal_fits n (Any ws) = join_any n ws (normals_fit n ws)

    normals_fit : (n : Bool) (ws : Members) → all_true (map (wide_fits fields) (normals n ws)) ≡ members_fit ws
    normals_fit n no_members = refl
    normals_fit n (member w ws) = ap (λ b. b && all_true (map (wide_fits fields) (normals n ws))) (normal_fits n w) ∙ ap (λ b. written_fits w && b) (normals_fit n ws)

  -- ---- conjuncts

  module _ (field : ℕ) where
    abbrev named : List ℕ → Bool
    named cs = list_all (λ other. other == field) cs

    abbrev kind : Option FieldKind
    kind = kind_at fields field

    -- where no other field is named, the test has values of its type alike
    abbrev IsTest : Wide → Type 0
    IsTest w = named (fields_of w) ≡ true → test_fits kind (test_of w) ≡ wide_fits fields w

    split : (w : Wide) (ws : List Wide) → named (flat_map (λ cs. cs) (map fields_of (w ∷ ws))) ≡ true
        → (named (fields_of w) ≡ true) × (named (flat_map (λ cs. cs) (map fields_of ws)) ≡ true)
    split w ws e = both (named (fields_of w)) (named (flat_map (λ cs. cs) (map fields_of ws)))
        (sym (list_all-append (λ other. other == field) (fields_of w) (flat_map (λ cs. cs) (map fields_of ws))) ∙ e)

    all_tests : (inner : List ((w : Wide) × IsTest w)) → named (flat_map (λ cs. cs) (map fields_of (map (λ e. e.0) inner))) ≡ true
        → all_true (map (test_fits kind) (map test_of (map (λ e. e.0) inner))) ≡ all_true (map (wide_fits fields) (map (λ e. e.0) inner))
    all_tests [] e = refl
    all_tests (w ∷ ws) e =
        let parts = split w.0 (map (λ e. e.0) ws) e in
        ap (λ b. b && all_true (map (test_fits kind) (map test_of (map (λ e. e.0) ws)))) (w.1 parts.0)
        ∙ ap (λ b. wide_fits fields w.0 && b) (all_tests ws parts.1)

    test_layer : (y : Wide-F ((w : Wide) × IsTest w)) → named (fields_step (map-Wide Wide (List ℕ) fields_of (map-Wide ((w : Wide) × IsTest w) Wide (λ e. e.0) y))) ≡ true
        → test_fits kind (test_step (map-Wide Wide Test test_of (map-Wide ((w : Wide) × IsTest w) Wide (λ e. e.0) y)))
        ≡ wide_step fields (map-Wide Wide Bool (wide_fits fields) (map-Wide ((w : Wide) × IsTest w) Wide (λ e. e.0) y))
    test_layer (Wide-F.Leaf own t) e = ap (λ f. test_fits (kind_at fields f) t) (sym (eqb-true own field (both (own == field) true e).0))
    test_layer (Wide-F.All inner) e = fits-All kind (map test_of (map (λ e. e.0) inner)) ∙ all_tests inner e
    test_layer (Wide-F.Any inner) e = fits-Any kind (map test_of (map (λ e. e.0) inner)) ∙ all_tests inner e

    one_test : (w : Wide) → IsTest w
    one_test = ind-Wide IsTest (λ x y is. subst (λ layer. IsTest (roll-Wide layer)) is (λ e.
        let z = map-Wide ((w : Wide) × IsTest w) Wide (λ p. p.0) y in
        ap (test_fits kind) (fold-roll-Wide Test test_step z)
        ∙ test_layer y (ap named (sym (fold-roll-Wide (List ℕ) fields_step z)) ∙ e)
        ∙ sym (fold-roll-Wide Bool (wide_step fields) z)))

    only_by : (x : ℕ) (xs : List ℕ) (b : Bool) → list_all (λ other. other == x) xs ≡ b → (if b then Some x else None) ≡ Some field → named (x ∷ xs) ≡ true
    only_by x xs false rest e = absurd (none-some field e)
    only_by x xs true rest e =
        let here : x ≡ field = ap (λ o. unwrap_or o field) e in
        subst (λ f. list_all (λ other. other == f) (x ∷ xs) ≡ true) here (ap (λ b. b && list_all (λ other. other == x) xs) (eq-eqb x x refl) ∙ rest)

    only_named : (cs : List ℕ) → only_field cs ≡ Some field → named cs ≡ true
    only_named [] e = absurd (none-some field e)
    only_named (x ∷ xs) e = only_by x xs (list_all (λ other. other == x) xs) refl e

  conjunct_by_fits : (w : Wide) (o : Option ℕ) → only_field (fields_of w) ≡ o → conjunct_fits fields (conjunct_by w o) ≡ wide_fits fields w
  conjunct_by_fits w None e = refl
  conjunct_by_fits w (Some field) e = one_test field w (only_named field (fields_of w) e)

  conjuncts_fit : (ws : List Wide) → list_all (conjunct_fits fields) (map conjunct ws) ≡ all_true (map (wide_fits fields) ws)
  conjuncts_fit [] = refl
  conjuncts_fit (w ∷ ws) = ap (λ b. b && list_all (conjunct_fits fields) (map conjunct ws)) (conjunct_by_fits w (only_field (fields_of w)) refl)
      ∙ ap (λ b. wide_fits fields w && b) (conjuncts_fit ws)

  same_fits : (w : Written) → list_all (conjunct_fits fields) (where_conjuncts (Some w)) ≡ written_fits w
  same_fits w = conjuncts_fit (conjoined (normal false w)) ∙ conjoined_fit (normal false w) ∙ normal_fits false w

  -- ---- a condition whose types are in order

  pub passes_by : (b : Bool) (reason : BindReason) (at : ℕ) → fault_unless b reason at ≡ None → b ≡ true
  passes_by true reason at passes = refl
  passes_by false reason at passes = absurd (none-some (At reason at) (sym passes))

  kind_by : (o : Option ℕ) (at : ℕ) → fault_unless (is_some o) UnknownColumn at ≡ None
      → option_map (λ f. f.kind) (option_and_then (slice_get fields) o) ≡ kind_at fields (unwrap_or o 0)
  kind_by None at passes = absurd (none-some (At UnknownColumn at) (sym passes))
  kind_by (Some m) at passes = refl

  pub kind_is : (n : NameAt) (rest : Finding) → or_else (column_finding fields n) rest ≡ None → kind_of fields n ≡ kind_at fields (field_number fields n)
  kind_is n rest passes = kind_by (number_of fields n.name) n.offset (first_none (column_finding fields n) rest passes)

  literals_fit : (k : Option FieldKind) (ls : List LiteralAt) → first_in (literal_finding k) ls ≡ None → list_all (is_typed k) (map value_in ls) ≡ true
  literals_fit k [] passes = refl
  literals_fit k (l ∷ ls) passes =
      and_of (is_typed k l.value) _ (passes_by (is_typed k l.value) TypeMismatch l.offset (first_none (literal_finding k l) _ passes)) (literals_fit k ls (rest_none (literal_finding k l) _ passes))

  test_in : (n : NameAt) (ls : List LiteralAt) → or_else (column_finding fields n) (first_in (literal_finding (kind_of fields n)) ls) ≡ None
      → list_all (is_typed (kind_at fields (field_number fields n))) (map value_in ls) ≡ true
  test_in n ls passes = subst (λ k. list_all (is_typed k) (map value_in ls) ≡ true) (kind_is n _ passes) (literals_fit (kind_of fields n) ls (rest_none (column_finding fields n) _ passes))

  abbrev IsFit : Cond → Type 0
  IsFit c = condition_finding fields c ≡ None → written_fits (written fields c) ≡ true

  inner_fit : (inner : List ((c : Cond) × IsFit c)) → first_of (map (condition_finding fields) (map (λ e. e.0) inner)) ≡ None
      → members_fit (members_of (map (written fields) (map (λ e. e.0) inner))) ≡ true
  inner_fit [] passes = refl
  inner_fit (c ∷ cs) passes =
      and_of (written_fits (written fields c.0)) _ (c.1 (first_none (condition_finding fields c.0) _ passes)) (inner_fit cs (rest_none (condition_finding fields c.0) _ passes))

  layer_fits : (y : Cond-F ((c : Cond) × IsFit c)) → condition_step fields (map-Cond Cond Finding (condition_finding fields) (map-Cond ((c : Cond) × IsFit c) Cond (λ e. e.0) y)) ≡ None
      → written_fits (written_step fields (map-Cond Cond Written (written fields) (map-Cond ((c : Cond) × IsFit c) Cond (λ e. e.0) y))) ≡ true
  layer_fits (Cond-F.Compare n op l) passes = (both (is_typed (kind_at fields (field_number fields n)) l.value) true (test_in n (l ∷ []) passes)).0
  layer_fits (Cond-F.OneOf n ls m) passes = test_in n ls passes
  layer_fits (Cond-F.Between n low high m) passes =
      let k = kind_at fields (field_number fields n) in
      let parts = both (is_typed k low.value) (is_typed k high.value && true) (test_in n (low ∷ high ∷ []) passes) in
      and_of (is_typed k low.value) (is_typed k high.value) parts.0 (both (is_typed k high.value) true parts.1).0
  layer_fits (Cond-F.Not inner) passes = inner.1 passes
  layer_fits (Cond-F.All inner) passes = inner_fit inner passes
  layer_fits (Cond-F.Any inner) passes = inner_fit inner passes

  condition_fits : (c : Cond) → IsFit c
  condition_fits = ind-Cond IsFit (λ x y is. subst (λ layer. IsFit (roll-Cond layer)) is (λ passes.
      let z = map-Cond ((c : Cond) × IsFit c) Cond (λ p. p.0) y in
      ap written_fits (fold-roll-Cond Written (written_step fields) z)
      ∙ layer_fits y (sym (fold-roll-Cond Finding (condition_step fields) z) ∙ passes)))

  where_fits : (o : Option Cond) → where_finding fields o ≡ None → list_all (conjunct_fits fields) (where_conjuncts (where_written fields o)) ≡ true
  where_fits None passes = refl
  where_fits (Some c) passes = same_fits (written fields c) ∙ condition_fits c passes

-- ---- the law

module _ (table : Table) (any_table : Bool) (q : Query) (b : Bound) (is : bound table any_table q ≡ Ok b) where
  abbrev fields : List Field
  fields = table.schema.fields

  own : (query_finding table any_table q ≡ None) × (bound_of fields q ≡ b)
  own = answered (query_finding table any_table q) (bound_of fields q) b is

  names : names_finding fields q ≡ None
  names = first_none (names_finding fields q) _ (rest_none (table_finding table any_table q) _ own.0)

  condition : where_finding fields q.condition ≡ None
  condition = first_none (where_finding fields q.condition) _ (rest_none (first_in (λ i. term_finding fields i.term) q.items) _ names)

  pub all_fit : list_all (conjunct_fits fields) (where_conjuncts b.condition) ≡ true
  all_fit = subst (λ x. list_all (conjunct_fits fields) (where_conjuncts x.condition) ≡ true) own.1 (where_fits fields q.condition condition)
