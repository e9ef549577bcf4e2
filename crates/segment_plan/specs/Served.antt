-- The conjuncts of a query that are not tested row by row, since an index tells just their rows,
-- and the query that is left.
use Rattle.std.specs.Prelude.{ℕ, Bool, true, false, List, [], ◌∷◌, get_or, if◌then◌else◌}
use Rattle.table_schema.specs.declared.query.BoundQuery.{BoundQuery}
use Rattle.table_schema.specs.declared.query.Conjunct.{Conjunct}
use Rattle.table_schema.specs.declared.query.Conjunct.TheVariants.{One}
use Rattle.segment_plan.specs.declared.plans.IndexChoice.{IndexChoice}
use Rattle.segment_plan.specs.declared.plans.IndexChoice.TheVariants.{Unindexed, Sorted, Inverted}

-- a conjunct is served where an index tells just its rows; of those that a range index leaves some
-- are to be checked
abbrev pub is_served : IndexChoice → Conjunct → Bool
is_served Sorted (One column test) = true
is_served Inverted (One column test) = true
is_served choice conjunct = false

-- the choice of the conjunct at a place; without one its rows are looked at
abbrev pub choice_at : List IndexChoice → ℕ → IndexChoice
choice_at choices at = get_or choices at Unindexed

-- the conjuncts that are not served
abbrev pub unserved : List IndexChoice → List Conjunct → List Conjunct
unserved [] conjuncts = conjuncts
unserved (choice ∷ choices) [] = []
unserved (choice ∷ choices)
    (conjunct ∷ conjuncts) = if is_served choice conjunct then unserved choices conjuncts else
    conjunct ∷ unserved choices conjuncts

-- the query that is left for the rows that the indexes leave
abbrev pub rest_of : BoundQuery → List IndexChoice → BoundQuery
rest_of query choices = record query { conjuncts = unserved choices query.conjuncts }
