-- The rule by which a star-tree may answer a query.
use Rattle.std.specs.Prelude.{◌≡◌, ℕ, ◌+◌, Bool, true, false, ◌&&◌, List, [], ◌∷◌, Option, Some, None, if◌then◌else◌}
use Rattle.std.specs.List.{AllByRecursion, Contains, list_all, list_any}
use Rattle.values.specs.declared.test.Test.{Test}
use Rattle.table_schema.specs.declared.query.Agg.{Agg}
use Rattle.table_schema.specs.declared.query.BoundQuery.{BoundQuery}
use Rattle.table_schema.specs.declared.query.Conjunct.{Conjunct}
use Rattle.table_schema.specs.declared.query.Conjunct.TheVariants.{One, Many}
use Rattle.table_schema.specs.declared.settings.TreeSetting.{TreeSetting}
use Rattle.table_schema.specs.Aggs.{same_agg}
use Rattle.table_schema.specs.Columns.{is_member}

-- a conjunct names one column, and that is one of these
abbrev pub is_filtered_by : List ℕ → Conjunct → Bool
is_filtered_by split (One column condition) = is_member split column
is_filtered_by split (Many condition) = false

-- an aggregate is one of these pairs
abbrev pub is_kept : List Agg → Agg → Bool
is_kept pairs agg = list_any (λ pair. same_agg pair agg) pairs

-- a query that may use trees, and asks only for what the tree keeps
abbrev pub is_eligible : BoundQuery → TreeSetting → Bool
is_eligible query tree = query.use_tree
    && list_all (is_filtered_by tree.split) query.conjuncts
    && list_all (is_member tree.split) query.groups
    && list_all (is_kept tree.pairs) query.aggs

-- the number of the first eligible tree, where the first of these has that number
abbrev pub picked_from : BoundQuery → ℕ → List TreeSetting → Option ℕ
picked_from query number [] = None
picked_from query number (tree
    ∷ trees) = if is_eligible query tree then Some number else picked_from query (number + 1) trees

-- the number of the first eligible tree, if there is one
abbrev pub picked : BoundQuery → List TreeSetting → Option ℕ
picked query trees = picked_from query 0 trees

-- the rule in words: a conjunct names one column, which is a split dimension
pub record IsFiltered (split : List ℕ) (c : Conjunct) : Type 0 where
  pub column : ℕ
  pub condition : Test
  pub names : c ≡ One column condition
  pub among : Contains split column

-- the query may use trees, filters and groups by split dimensions alone, and asks for aggregates
-- that are pairs
pub record Serves (tree : TreeSetting) (query : BoundQuery) : Type 0 where
  pub wanted : query.use_tree ≡ true
  pub filtered : AllByRecursion (IsFiltered tree.split) query.conjuncts
  pub grouped : AllByRecursion (Contains tree.split) query.groups
  pub kept : AllByRecursion (Contains tree.pairs) query.aggs
