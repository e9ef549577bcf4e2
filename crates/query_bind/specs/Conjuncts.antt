-- The normal form of a written condition: conjuncts that all hold where it holds.
use Rattle.std.specs.Prelude.{◌≡◌, ℕ, Bool, false, not, ◌==◌, List, [], ◌∷◌, map, flat_map, Option, Some, None, if◌then◌else◌}
use Rattle.std.specs.List.{list_all}
use Rattle.values.specs.declared.value.Value.{Value}
use Rattle.values.specs.declared.test.CompareOp.{CompareOp}
use Rattle.values.specs.declared.test.CompareOp.TheVariants.{Equal, Unequal, Less, AtMost, More, AtLeast}
use Rattle.values.specs.declared.test.Test.{Test}
use Rattle.values.specs.declared.test.Test.TheVariants as test
use Rattle.values.specs.Tests.{negated_if}
use Rattle.table_schema.specs.declared.query.Conjunct.{Conjunct}
use Rattle.table_schema.specs.declared.query.Conjunct.TheVariants.{One, Many}
use Rattle.table_schema.specs.declared.query.Wide.{Wide}
use Rattle.table_schema.specs.declared.query.Wide.TheVariants as wide
use Rattle.table_schema.specs.declared.query.Wide.TheOpen.{Wide-F}
use Rattle.table_schema.specs.declared.query.Wide.TheFolds.{fold-Wide}
use Rattle.table_schema.specs.declared.query.Wide.TheViews.{out-Wide}
use Rattle.table_schema.specs.Conditions.{all_hold}
use Rattle.query_bind.specs.Written.{Written, Compare, OneOf, Between, Not, All, Any, Members, no_members, member, where_holds}
use Rattle.table_schema.specs.ValidQuery.{fields_of}

-- ---- NOT pushed in, and nested AND and OR flattened

-- the comparison that holds where this one does not
abbrev pub opposite : CompareOp → CompareOp
opposite Equal = Unequal
opposite Unequal = Equal
opposite Less = AtLeast
opposite AtMost = More
opposite More = AtMost
opposite AtLeast = Less

-- a comparison, turned round where it is negated
abbrev pub opposite_if : Bool → CompareOp → CompareOp
opposite_if negated op = if negated then opposite op else op

-- the members where the condition has the form of an AND, else the condition alone
abbrev pub members_of_all : Wide-F Wide → Wide → List Wide
members_of_all (Wide-F.All inner) w = inner
members_of_all _ w = w ∷ []

-- the members where the condition has the form of an OR, else the condition alone
abbrev pub members_of_any : Wide-F Wide → Wide → List Wide
members_of_any (Wide-F.Any inner) w = inner
members_of_any _ w = w ∷ []

-- the members of an AND; another condition alone
abbrev pub conjoined : Wide → List Wide
conjoined w = members_of_all (out-Wide w) w

-- the members of an OR; another condition alone
abbrev pub disjoined : Wide → List Wide
disjoined w = members_of_any (out-Wide w) w

-- one AND
abbrev pub all_of : List Wide → Wide
all_of ws = wide.All (flat_map conjoined ws)

-- one OR
abbrev pub any_of : List Wide → Wide
any_of ws = wide.Any (flat_map disjoined ws)

abbrev mutual
  -- a condition or, where `negated`, its negation
  pub normal : Bool → Written → Wide
  normal negated (Compare field op bound) = wide.Leaf field (test.Compare
      (opposite_if negated op) bound)
  normal negated (OneOf field values n) = wide.Leaf field (test.OneOf values (negated_if negated n))
  normal negated (Between field low high n) = wide.Leaf field
      (test.Between low high (negated_if negated n))
  normal negated (Not inner) = normal (not negated) inner
  normal negated (All inner) = if negated then any_of (normals negated inner) else all_of
      (normals negated inner)
  normal negated (Any inner) = if negated then all_of (normals negated inner) else any_of
      (normals negated inner)

  pub normals : Bool → Members → List Wide
  normals negated no_members = []
  normals negated (member w ws) = normal negated w ∷ normals negated ws

-- ---- conjuncts

-- the first field of a list, if there is one
abbrev pub first : List ℕ → Option ℕ
first [] = None
first (field ∷ fields) = Some field

-- the field that is named where no other one is
abbrev pub only_field : List ℕ → Option ℕ
only_field [] = None
only_field (field ∷ fields) = if list_all (λ other. other == field) fields then Some field else None

-- one condition, with the test of each inner one in its place
abbrev pub test_step : Wide-F Test → Test
test_step (Wide-F.Leaf field test) = test
test_step (Wide-F.All inner) = test.All inner
test_step (Wide-F.Any inner) = test.Any inner

-- the same condition on the value of one field
abbrev pub test_of : Wide → Test
test_of = fold-Wide Test test_step

-- a test of the field that is given, or else a condition on several
abbrev pub conjunct_by : Wide → Option ℕ → Conjunct
conjunct_by w None = Many w
conjunct_by w (Some field) = One field (test_of w)

-- a condition on one field as a test of its values, and any other as it is
abbrev pub conjunct : Wide → Conjunct
conjunct w = conjunct_by w (only_field (fields_of w))

-- the members of a top AND, else the one condition
abbrev pub conjuncts : Written → List Conjunct
conjuncts w = map conjunct (conjoined (normal false w))

-- no conjunct where there is no WHERE
abbrev pub where_conjuncts : Option Written → List Conjunct
where_conjuncts None = []
where_conjuncts (Some w) = conjuncts w

-- every row satisfies all these conjuncts exactly where it satisfies the written condition
abbrev pub KeepRows : List Conjunct → Option Written → Type 0
KeepRows cs w = (row : List Value) → all_hold row cs ≡ where_holds row w
