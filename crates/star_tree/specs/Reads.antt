-- The product that bounds how many documents a query reads of a tree.
use Rattle.std.specs.Prelude.{ℕ, zero, suc, ◌*◌, if◌then◌else◌, ◌||◌, List, length}
use Rattle.std.specs.List.{filter}
use Rattle.agg_laws.specs.declared.tree_shape.TreeShape.{TreeShape}
use Rattle.agg_laws.specs.Tree.{skips, ids_at}
use Rattle.star_tree.specs.Picks.{Task}

module _ {S : Type 0} (join : S → S → S) (t : Task) (shape : TreeShape)
    (rows : List (List ℕ × S)) where
  -- how many ids a dimension has, and how many of them pass its tests
  abbrev pub cardinality : ℕ → ℕ
  cardinality d = length (ids_at join d rows)

  abbrev pub matched : ℕ → ℕ
  matched d = length (filter (t.passes d) (ids_at join d rows))

  abbrev pub factor : ℕ → ℕ
  factor d = if t.filtered d then matched d
      else (if t.grouped d || skips shape d then cardinality d else 1)

  -- the factors of the next dimensions
  abbrev pub factors_from : ℕ → ℕ → ℕ
  factors_from zero d = 1
  factors_from (suc more) d = factor d * factors_from more (suc d)

  abbrev pub bound : ℕ → ℕ
  bound k = shape.leaf * factors_from k 0
