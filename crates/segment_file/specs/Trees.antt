-- The star-trees of a segment: each is the flat tree of the segment's rows, by the ids of its split
-- dimensions and the numbers of its pairs.
use Rattle.std.specs.Prelude.{◌≤◌, ℕ, ℤ, pos, List, [], map, length, Option, Some, None}
use Rattle.std.specs.Option.{option_map_or}
use Rattle.values.specs.declared.value.Value.{Value}
use Rattle.values.specs.declared.value.Value.TheVariants.{Whole, Text}
use Rattle.agg_laws.specs.declared.states.AggState.{AggState}
use Rattle.state_columns.specs.Docs.{Doc, projected}
use Rattle.star_tree.specs.Flat.{Flat, flat, tree_bytes}
use Rattle.agg_laws.specs.Rows.{merged_rows}
use Rattle.agg_laws.specs.Tree.{Nodes, tree_of}
use Rattle.table_schema.specs.declared.query.Agg.{Agg}
use Rattle.table_schema.specs.declared.settings.TreeSetting.{TreeSetting}
use Rattle.value_ids.specs.Dictionary.{distinct}
use Rattle.star_file.specs.Bytes.{doc_bytes, nodes_section}
use Rattle.star_file.specs.Reading.{doc_width}
use Rattle.star_file.specs.Rules.{most_bytes}
use Rattle.segment_file.specs.Columns.{place_of, values_in}
use Rattle.segment_file.specs.Ordered.{value_in}

-- the number that a value is; a text counts as 0
abbrev pub number_of : Value → ℤ
number_of (Whole number) = number
number_of (Text text) = pos 0

-- the number of a row for a pair: that in its column, and any where rows are counted
abbrev pub number_for : List Value → Agg → ℤ
number_for row pair = option_map_or (λ column. number_of (value_in column row)) pair.column (pos 0)

-- the id of a row in a column
abbrev pub id_in : List (List Value) → List Value → ℕ → ℕ
id_in rows row column = place_of (distinct (values_in column rows)) (value_in column row)

-- a row as a tree has it: its ids in the split dimensions, and its numbers for the pairs
abbrev pub tree_row : List (List Value) → TreeSetting → List Value → List ℕ × List ℤ
tree_row rows tree row = (map (id_in rows row) tree.split, map (number_for row) tree.pairs)

-- the documents of the rows, one a row
abbrev pub documents : List (List Value) → TreeSetting → List Doc
documents rows tree = projected tree.shape.kinds (map (tree_row rows tree) rows)

-- the tree of the rows
abbrev pub nested : List (List Value) → TreeSetting → Nodes (List AggState)
nested rows tree = tree_of merged_rows tree.shape tree.shape.dims (documents rows tree)

-- the tree, written flat
unfoldable pub written : List (List Value) → TreeSetting → Flat (List AggState)
written rows tree = flat merged_rows (nested rows tree)

-- the section of its nodes, which begins with how many documents it has
abbrev pub nodes_of : List (List Value) → Option TreeSetting → List ℕ
nodes_of rows None = []
nodes_of rows (Some tree) = nodes_section (length (written rows tree).1) (written rows tree).0

-- the section of its documents
abbrev pub star_of : List (List Value) → Option TreeSetting → List ℕ
star_of rows None = []
star_of rows (Some tree) = doc_bytes (written rows tree).1

-- the most bytes that the nodes and documents of a tree may take
abbrev pub tree_limit : ℕ
tree_limit = most_bytes

-- the tree of the rows takes no more bytes than one may
pub record TreeFits (rows : List (List Value)) (tree : TreeSetting) : Type 0 where
  pub at_most : tree_bytes merged_rows (doc_width tree.shape) (nested rows tree) ≤ most_bytes
