-- Where a query has too many of something: laws of the definition of its limits.
use Rattle.std.specs.Prelude.{◌≡◌, ◌⊎◌, ◌≤◌, ◌<◌, List, [], ◌∷◌, ◌++◌, length, map, Some, None}
use Rattle.query_bind.specs.declared.fault.BindReason.TheVariants.{TooMany}
use Rattle.query_bind.specs.declared.fault.BindFault.TheVariants.{At}
use Rattle.query_bind.specs.declared.terms.TermAt.{TermAt}
use Rattle.query_bind.specs.declared.terms.KeyAt.{KeyAt}
use Rattle.query_bind.specs.declared.terms.ColumnAt.{ColumnAt}
use Rattle.query_bind.specs.Terms.{columns_from, aggs_from}
use Rattle.query_bind.specs.Limits.{aggs_finding, groups_finding, keys_finding}
use Rattle.table_schema.specs.declared.query.Agg.{Agg}

-- ---- none of them is too many where all are few

-- at most 8 group columns have no fault
abbrev pub FewGroups : Type 0
FewGroups = (ns : List ColumnAt) → length (columns_from [] ns) ≤ 8 → groups_finding [] ns ≡ None

-- at most 16 aggregates have no fault
abbrev pub FewAggs : Type 0
FewAggs = (ts : List TermAt) → length (aggs_from [] ts) ≤ 16 → aggs_finding [] ts ≡ None

-- at most 16 keys, with at most 16 aggregates, have no fault
abbrev pub FewKeys : Type 0
FewKeys = (aggs : List Agg) (ks : List KeyAt) → length ks ≤ 16
    → length (aggs_from aggs (map (λ k. k.term) ks)) ≤ 16 → keys_finding 0 aggs ks ≡ None

-- ---- the first with which there are too many

-- the name that brings the ninth group column is the first fault
abbrev pub FirstGroup : Type 0
FirstGroup = (before : List ColumnAt) (n : ColumnAt) (after : List ColumnAt)
    → length (columns_from [] before) ≤ 8
    → 8 < length (columns_from [] (before ++ n ∷ []))
    → groups_finding [] (before ++ n ∷ after) ≡ Some (At TooMany n.offset)

-- the term that brings the seventeenth aggregate is the first fault
abbrev pub FirstAgg : Type 0
FirstAgg = (before : List TermAt) (t : TermAt) (after : List TermAt)
    → length (aggs_from [] before) ≤ 16
    → 16 < length (aggs_from [] (before ++ t ∷ []))
    → aggs_finding [] (before ++ t ∷ after) ≡ Some (At TooMany t.offset)

-- the key that is one too many, or brings an aggregate that is, is the first fault
abbrev pub FirstKey : Type 0
FirstKey = (aggs : List Agg) (before : List KeyAt) (k : KeyAt) (after : List KeyAt)
    → length before ≤ 16
    → length (aggs_from aggs (map (λ k. k.term) before)) ≤ 16
    → (16 ≤ length before) ⊎ (16 < length (aggs_from aggs (map (λ k. k.term) (before ++ k ∷ []))))
    → keys_finding 0 aggs (before ++ k ∷ after) ≡ Some (At TooMany k.term.offset)
