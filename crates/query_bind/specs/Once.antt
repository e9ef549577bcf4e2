-- Group columns and aggregates stand once: laws of the definition of their lists.
use Rattle.std.specs.Prelude.{◌≡◌, ℕ, ◌==◌, nat_eq, Bool, false, List, []}
use Rattle.std.specs.List.{list_any, IsDistinct}
use Rattle.query_bind.specs.declared.terms.Meaning.{Meaning}
use Rattle.query_bind.specs.declared.terms.Meaning.TheVariants as meaning
use Rattle.query_bind.specs.declared.terms.TermAt.{TermAt}
use Rattle.query_bind.specs.declared.terms.ColumnAt.{ColumnAt}
use Rattle.query_bind.specs.Terms.{columns_from, aggs_from}
use Rattle.table_schema.specs.declared.query.Agg.{Agg}
use Rattle.table_schema.specs.Aggs.{same_agg}

-- no group column is there twice
abbrev pub GroupsStandOnce : Type 0
GroupsStandOnce = (ns : List ColumnAt) → IsDistinct nat_eq (columns_from [] ns)

-- a column is a group column exactly where it is named
abbrev pub GroupsAreNamed : Type 0
GroupsAreNamed = (ns : List ColumnAt) (c : ℕ) → list_any (λ g. g == c) (columns_from [] ns)
    ≡ list_any (λ n. n.column == c) ns

-- no aggregate is there twice
abbrev pub AggsStandOnce : Type 0
AggsStandOnce = (ts : List TermAt) → IsDistinct same_agg (aggs_from [] ts)

-- the term is a call, with that function and column
abbrev pub is_agg : Agg → Meaning → Bool
is_agg a (meaning.Column c) = false
is_agg a (meaning.Agg b) = same_agg a b

-- an aggregate is one of the query exactly where it is written
abbrev pub AggsAreWritten : Type 0
AggsAreWritten = (ts : List TermAt) (a : Agg) → list_any (same_agg a) (aggs_from [] ts)
    ≡ list_any (λ t. is_agg a t.meaning) ts
