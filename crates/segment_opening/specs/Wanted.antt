-- Of which columns of a segment the values are wanted for a query.
use Rattle.std.specs.Prelude.{ℕ, ◌+◌, Bool, false, ◌==◌, ◌&&◌, ◌||◌, List, [], ◌∷◌, Option, None, Some, IfSome, slice_get, if◌then◌else◌}
use Rattle.agg_laws.specs.declared.tree_shape.TreeShape.{TreeShape}
use Rattle.agg_laws.specs.Tree.{skips}
use Rattle.table_schema.specs.declared.query.BoundQuery.{BoundQuery}
use Rattle.table_schema.specs.declared.settings.TreeSetting.{TreeSetting}
use Rattle.table_schema.specs.declared.table.Table.{Table}
use Rattle.table_schema.specs.Columns.{is_member}
use Rattle.segment_head.specs.Heads.{Seen}
use Rattle.segment_plan.specs.Factors.{AreWholeLoaded, is_whole}
use Rattle.segment_plan.specs.Matched.{is_filtered}
use Rattle.segment_plan.specs.Named.{query_names}

-- ---- for an answer

-- a conjunct names the column alone, or the query groups by it
abbrev pub is_keyed : BoundQuery → ℕ → Bool
is_keyed query column = is_filtered query.conjuncts column || is_member query.groups column

-- where a star-tree answers, these columns; else each that the query names
abbrev pub is_wanted : BoundQuery → Bool → ℕ → Bool
is_wanted query by_tree column = if by_tree then is_keyed query column else query_names query column

-- ---- for what is said of a plan

-- a split dimension from this level on is the column, and all its values count for the bound
abbrev pub is_whole_from : BoundQuery → TreeShape → ℕ → List ℕ → ℕ → Bool
is_whole_from query shape level [] column = false
is_whole_from query shape level (dimension ∷ split) column =
    (dimension == column && is_whole query (skips shape level) dimension)
    || is_whole_from query shape (level + 1) split column

-- a conjunct names the column alone, or the bound on the documents of the tree that is picked, if
-- one is, wants all its values
abbrev pub is_detailed : BoundQuery → Option TreeSetting → ℕ → Bool
is_detailed query None column = is_filtered query.conjuncts column
is_detailed query (Some tree) column = is_filtered query.conjuncts column
    || is_whole_from query tree.shape 0 tree.split column

-- the tree of this number, if there is one
abbrev pub tree_at : Table → Option ℕ → Option TreeSetting
tree_at table None = None
tree_at table (Some n) = slice_get table.settings.trees n

-- the dictionaries that the bound of this tree is made of were loaded
abbrev pub AreFactorsLoaded : BoundQuery → Table → Option ℕ → Seen → Type 0
AreFactorsLoaded query table tree head = IfSome (tree_at table tree) (AreWholeLoaded query head)
