-- The tests of HAVING, in the order of the text.
use Rattle.std.specs.Prelude.{List, [], ◌∷◌, flat_map, Option, Some, None}
use Rattle.query_tokens.specs.declared.tree.LiteralAt.{LiteralAt}
use Rattle.query_tokens.specs.declared.tree.Term.{Term}
use Rattle.query_tokens.specs.declared.tree.HavingCond.{HavingCond}
use Rattle.query_tokens.specs.declared.tree.HavingCond.TheOpen.{HavingCond-F}
use Rattle.query_tokens.specs.declared.tree.HavingCond.TheFolds.{fold-HavingCond}
use Rattle.query_bind.specs.Faults.{Finding}
use Rattle.table_schema.specs.Firsts.{first_of}

-- a column or a call, and what it is compared with
pub record GroupTest : Type 0 where
  pub tested : Term
  pub literal : LiteralAt

-- ---- as a list

-- one condition, with the tests of each condition in it
abbrev pub tests_step : HavingCond-F (List GroupTest) → List GroupTest
tests_step (HavingCond-F.Compare tested op literal) = record {
  tested = tested;
  literal = literal;
} ∷ []
tests_step (HavingCond-F.Not inner) = inner
tests_step (HavingCond-F.All inner) = flat_map (λ tests. tests) inner
tests_step (HavingCond-F.Any inner) = flat_map (λ tests. tests) inner

-- the tests of a condition
abbrev pub tests_of : HavingCond → List GroupTest
tests_of = fold-HavingCond (List GroupTest) tests_step

-- those of a query; none where it has no HAVING
abbrev pub having_tests : Option HavingCond → List GroupTest
having_tests None = []
having_tests (Some having) = tests_of having

-- ---- the first fault

-- one condition, with what is found in each condition in it
abbrev pub having_step : (GroupTest → Finding) → HavingCond-F Finding → Finding
having_step check (HavingCond-F.Compare tested op literal) = check
    (record { tested = tested; literal = literal })
having_step check (HavingCond-F.Not inner) = inner
having_step check (HavingCond-F.All inner) = first_of inner
having_step check (HavingCond-F.Any inner) = first_of inner

-- the first fault that a check finds in the tests of a condition
abbrev pub first_test : (GroupTest → Finding) → HavingCond → Finding
first_test check = fold-HavingCond Finding (having_step check)

-- that of a query, if it has HAVING
abbrev pub having_finding : (GroupTest → Finding) → Option HavingCond → Finding
having_finding check None = None
having_finding check (Some having) = first_test check having
