-- A segment's rows beside its star-tree, and a query that the tree serves.
use Rattle.std.specs.Prelude.{◌≡◌, ℕ, ◌<◌, ◌≤◌, pos, ℤ, true, List, [], ◌∷◌, length, map, slice_get, slice_index_or, Some, None}
use Rattle.std.specs.List.{All, AllByRecursion, list_all}
use Rattle.outside.specs.Files.{Files}
use Rattle.values.specs.declared.value.Value.{Value}
use Rattle.values.specs.declared.value.Value.TheVariants.{Whole}
use Rattle.agg_laws.specs.declared.aggregate_kind.AggKind.TheVariants as kinds
use Rattle.agg_laws.specs.declared.states.AggState.{AggState}
use Rattle.agg_laws.specs.declared.tree_shape.TreeShape.{TreeShape}
use Rattle.agg_laws.specs.Numbers.{AreWhole}
use Rattle.agg_laws.specs.Rows.{merged_rows}
use Rattle.state_columns.specs.Docs.{projected}
use Rattle.agg_laws.specs.Tree.{dim, tree_of}
use Rattle.agg_laws.specs.Tree as trees
use Rattle.star_tree.specs.Flat.{Flat, flat}
use Rattle.state_columns.specs.Region.{range}
use Rattle.star_tree.specs.Picks as asks
use Rattle.table_schema.specs.declared.query.Agg.{Agg}
use Rattle.table_schema.specs.declared.query.BoundQuery.{BoundQuery}
use Rattle.table_schema.specs.Columns.{is_member}
use Rattle.table_schema.specs.Conditions.{cell}
use Rattle.group_table.specs.Groups.{number_for}
use Rattle.star_file.specs.Reading.{section, HasDocuments}
use Rattle.eligibility.specs.Rule.{IsFiltered}
use Rattle.segment_plan.specs.Matched.{is_filtered, passes}
use Rattle.star_reader.specs.declared.asked.Asked.{Asked}
use Rattle.star_reader.specs.declared.tree_part.TreePart.{TreePart}
use Rattle.segment_reads.specs.Docs.{field_of}

-- the pair of the tree that answers an aggregate of the query, by its number
abbrev pub pair_of : List Agg → ℕ → Agg
pair_of pairs i = slice_index_or pairs i (record { kind = kinds.Count; column = None })

-- a row as a document begins with it: an id for each split dimension, which stands for the row's
-- value, and the row's number for each pair, which has 64 bits
pub record IsProjected (split : List ℕ) (pairs : List Agg) (values : ℕ → List Value)
    (row : List Value) (entry : List ℕ × List ℤ) : Type 0 where
  pub as_many : length entry.0 ≡ length split
  pub ids : (d : ℕ) → d < length split
      → slice_get (values d) (dim d entry.0) ≡ Some (cell row (field_of split d))
  pub numbers : entry.1 ≡ map (λ pair. number_for pair row) pairs
  pub whole : AreWhole entry.1

-- each row is projected to the entry in its place
abbrev pub AreProjected : List ℕ → List Agg → (ℕ → List Value) → List (List Value)
    → List (List ℕ × List ℤ) → Type 0
AreProjected split pairs values [] [] = Unit {0}
AreProjected split pairs values [] (entry ∷ entries) = ⊥
AreProjected split pairs values (row ∷ rows) [] = ⊥
AreProjected split pairs values (row ∷ rows) (entry ∷ entries) =
    IsProjected split pairs values row entry × AreProjected split pairs values rows entries

-- the tree of some rows, written flat
abbrev pub flat_of : TreeShape → List (List ℕ × List ℤ) → Flat (List AggState)
flat_of shape entries = flat merged_rows (tree_of merged_rows shape shape.dims
    (projected shape.kinds entries))

-- the nodes are those of the tree, and the section has its documents
pub record IsTreeOf (tree : TreePart) (files : Files) (entries : List (List ℕ × List ℤ))
    : Type 0 where
  pub nodes_are : tree.nodes.now ≡ (flat_of tree.shape.now entries).0
  pub documents_are : (from to : ℕ) → from ≤ to
      → to ≤ length (flat_of tree.shape.now entries).1
      → HasDocuments tree.shape.now tree.counts.now from to (section files tree.documents.now)
      (range from to (flat_of tree.shape.now entries).1)

-- the query names split dimensions alone in its filter, one in each conjunct, and the task asks of
-- ids what it asks of their values
pub record AsksFor (query : BoundQuery) (split : List ℕ) (values : ℕ → List Value)
    (t : asks.Task) : Type 0 where
  pub filtered : AllByRecursion (IsFiltered split) query.conjuncts
  pub tested : (d : ℕ) → d < length split
      → t.filtered d ≡ is_filtered query.conjuncts (field_of split d)
  pub passing : (d id : ℕ) → d < length split → id < length (values d) → t.filtered d ≡ true
      → t.passes d id ≡ list_all (passes (field_of split d)
      (slice_index_or (values d) id (Whole (pos 0)))) query.conjuncts
  pub grouped : (d : ℕ) → d < length split
      → t.grouped d ≡ is_member query.groups (field_of split d)

-- the group columns and the aggregates are those of the query
pub record AreOfQuery (query : BoundQuery) (split : List ℕ) (pairs : List Agg)
    (values : ℕ → List Value) (asked : Asked) : Type 0 where
  pub groups : map (λ column. field_of split column.dim) asked.columns.now ≡ query.groups
  pub columns : All (λ column. column.values.now.values ≡ values column.dim) asked.columns.now
  pub aggs : map (pair_of pairs) asked.pairs.now ≡ query.aggs

-- the tree is that of the rows, and the query and what is asked for it go by its dimensions and
-- pairs
pub record IsServed (query : BoundQuery) (tree : TreePart) (t : asks.Task) (asked : Asked)
    (files : Files) (rows : List (List Value)) : Type 0 where
  pub split : List ℕ
  pub pairs : List Agg
  pub values : ℕ → List Value
  pub entries : List (List ℕ × List ℤ)
  pub dims : tree.shape.now.dims ≡ length split
  pub kinds : tree.shape.now.kinds ≡ map (λ pair. pair.kind) pairs
  pub projects : AreProjected split pairs values rows entries
  pub of_rows : IsTreeOf tree files entries
  pub asks_for : AsksFor query split values t
  pub no_star : (d : ℕ) → d < length split → length (values d) ≤ trees.star
  pub of_query : AreOfQuery query split pairs values asked
