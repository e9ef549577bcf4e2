-- The rows that the picks of a tree cover, by what the query asks of their values.
use Rattle.std.specs.Prelude.{◌≡◌, ℕ, ◌<◌, ◌≤◌, ℤ, true, List, [], length, map, MatchBool, All, count_by, slice_get, slice_index_or, Some}
use Rattle.values.specs.declared.value.Value.{Value}
use Rattle.agg_laws.specs.declared.tree_shape.TreeShape.{TreeShape}
use Rattle.state_columns.specs.Docs.{Doc}
use Rattle.star_tree.specs.Picks as asks
use Rattle.agg_laws.specs.Tree.{dim, star}
use Rattle.table_schema.specs.declared.query.Agg.{Agg}
use Rattle.table_schema.specs.declared.query.BoundQuery.{BoundQuery}
use Rattle.table_schema.specs.Conditions.{all_hold, cell}
use Rattle.star_walk.specs.Covering.{counts, covers, stands_for}
use Rattle.star_walk.specs.Images.{shown}
use Rattle.star_walk.specs.Walking.{tree_picks}
use Rattle.star_answer.specs.Served.{AreProjected, AsksFor, flat_of}
use Rattle.segment_reads.specs.Docs.{field_of}

-- the picks of the walk of the tree of some entries, each as its level and its documents
abbrev pub shown_picks : asks.Task → TreeShape → List (List ℕ × List ℤ) → List (ℕ × List Doc)
shown_picks t shape entries =
    map (shown (flat_of shape entries).1) (tree_picks t shape.dims (flat_of shape entries).0)

-- a row that satisfies the filter is covered by exactly one pick, whose remaining tests its ids
-- pass; any other is covered by none, or by one whose remaining tests its ids fail
abbrev pub IsCoveredOnce : BoundQuery → asks.Task → ℕ → List (ℕ × List Doc) → List Value → List ℕ
    → Type 0
IsCoveredOnce query t k ps row ids =
    MatchBool (all_hold row query.conjuncts)
    ((count_by (covers ids) ps ≡ 1) × (count_by (counts t k ids) ps ≡ 1))
    ((count_by (covers ids) ps ≤ 1) × (count_by (counts t k ids) ps ≡ 0))

-- on each group column the documents that stand for a row have its own value
abbrev pub HaveValuesOf : asks.Task → List ℕ → (ℕ → List Value) → List Value → List ℕ → List Doc
    → Type 0
HaveValuesOf t split values row ids docs =
    All (λ e. stands_for e ids ≡ true → (d : ℕ) → d < length split → t.grouped d ≡ true
    → slice_get (values d) (dim d e.0) ≡ Some (cell row (field_of split d))) docs

-- what is said of each row and its entry, where a tree is of rows with these entries and a task
-- asks of ids what a query asks of their values
abbrev pub OfEachRow : (BoundQuery → asks.Task → TreeShape → List ℕ → (ℕ → List Value)
    → List (List ℕ × List ℤ) → List Value → List ℕ → Type 0) → Type 0
OfEachRow P = (query : BoundQuery) (shape : TreeShape) (split : List ℕ) (pairs : List Agg)
    (values : ℕ → List Value) (t : asks.Task) (rows : List (List Value))
    (entries : List (List ℕ × List ℤ)) → shape.dims ≡ length split
    → ((d : ℕ) → d < length split → length (values d) ≤ star) → AsksFor query split values t
    → AreProjected split pairs values rows entries → (at : ℕ) → at < length rows
    → P query t shape split values entries (slice_index_or rows at [])
    (slice_index_or entries at ([], [])).0

-- each row is covered as it is to be
abbrev pub RowsAreCovered : Type 0
RowsAreCovered = OfEachRow (λ query t shape split values entries row ids.
    IsCoveredOnce query t shape.dims (shown_picks t shape entries) row ids)

-- the documents of each pick have its values
abbrev pub RowsKeepValues : Type 0
RowsKeepValues = OfEachRow (λ query t shape split values entries row ids.
    All (λ p. HaveValuesOf t split values row ids p.1) (shown_picks t shape entries))
