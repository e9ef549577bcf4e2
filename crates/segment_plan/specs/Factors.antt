-- How many values of each split dimension a query meets in a star-tree.
use Rattle.std.specs.Prelude.{◌≡◌, ℕ, ◌+◌, true, Bool, ◌||◌, List, [], ◌∷◌, length, Some, slice_get, if◌then◌else◌}
use Rattle.agg_laws.specs.declared.tree_shape.TreeShape.{TreeShape}
use Rattle.agg_laws.specs.Tree.{skips}
use Rattle.table_schema.specs.declared.query.BoundQuery.{BoundQuery}
use Rattle.table_schema.specs.declared.settings.TreeSetting.{TreeSetting}
use Rattle.table_schema.specs.Columns.{is_member}
use Rattle.segment_head.specs.Heads.{IsLoaded, Seen}
use Rattle.segment_plan.specs.Matched.{is_filtered, matched, values_in}

-- a dimension is grouped, or no star child is made for it
abbrev pub is_whole : BoundQuery → Bool → ℕ → Bool
is_whole query skipped column = is_member query.groups column || skipped

-- the values that satisfy the conjuncts on a filtered dimension; all of one that is grouped or
-- skipped; else one
abbrev pub factor : BoundQuery → Seen → Bool → ℕ → ℕ
factor query head skipped column =
    if is_filtered query.conjuncts column then matched query.conjuncts column
    (values_in head column) else
    if is_whole query skipped column then length (values_in head column) else 1

-- the factors of these dimensions, the first of which has this level
abbrev pub factors_from : BoundQuery → Seen → TreeShape → ℕ → List ℕ → List ℕ
factors_from query head shape level [] = []
factors_from query head shape level (column ∷ split) = factor query head (skips shape level) column
    ∷ factors_from query head shape (level + 1) split

-- the dictionary of a dimension that is grouped or skipped was loaded
abbrev pub IsWholeLoaded : BoundQuery → Seen → Bool → ℕ → Type 0
IsWholeLoaded query head skipped column = is_whole query skipped column ≡ true
    → IsLoaded head column

-- the dictionary of each split dimension that is grouped or skipped was loaded
abbrev pub AreWholeLoaded : BoundQuery → Seen → TreeSetting → Type 0
AreWholeLoaded query head tree = (level column : ℕ) → slice_get tree.split level ≡ Some column
    → IsWholeLoaded query head (skips tree.shape level) column

-- a factor for each split dimension of a tree
abbrev pub factors_of : BoundQuery → Seen → TreeSetting → List ℕ
factors_of query head tree = factors_from query head tree.shape 0 tree.split
