-- The star-trees of a segment, as they are made one after the other.
use Rattle.std.specs.Prelude.{◌≡◌, ◌↔◌, ◌⊎◌, ℕ, Bool, true, false, nat_le, List, map, take, slice_get, Some}
use Rattle.std.specs.Prelude.{Result, Err, IfErr, IsErrOf, OnErr, OnOk}
use Rattle.std.specs.List.{All, list_all}
use Rattle.star_tree.specs.Flat.{tree_bytes}
use Rattle.agg_laws.specs.Rows.{merged_rows}
use Rattle.star_file.specs.Reading.{doc_width}
use Rattle.star_file.specs.Rules.{most_bytes}
use Rattle.values.specs.declared.value.Value.{Value}
use Rattle.table_schema.specs.declared.settings.TreeSetting.{TreeSetting}
use Rattle.table_schema.specs.declared.table.Table.{Table}
use Rattle.segment_file.specs.Ordered.{ordered}
use Rattle.segment_file.specs.Trees.{TreeFits, nested, nodes_of, star_of}
use Rattle.segment_build.specs.declared.fault.BuildFault.{BuildFault}
use Rattle.segment_build.specs.declared.fault.BuildFault.TheVariants as fault

-- each of the trees takes no more bytes than one may, over the rows in their order
abbrev pub TreesFit : Table → List (List Value) → Type 0
TreesFit table rows = All (TreeFits (ordered table.settings.sorted rows)) table.settings.trees

-- the tree with this number is the first that takes more
pub record IsTooLarge (table : Table) (rows : List (List Value)) (t : ℕ) : Type 0 where
  pub before : All (TreeFits (ordered table.settings.sorted rows)) (take t table.settings.trees)
  pub tree : TreeSetting
  pub at : slice_get table.settings.trees t ≡ Some tree
  pub over : ¬ TreeFits (ordered table.settings.sorted rows) tree

-- what is made of rows is made where all trees fit, and is refused just with the first tree that is
-- too large, or for want of memory
pub record IsBuilt {A : Type 0} (table : Table) (rows : List (List Value))
    (result : Result A BuildFault) : Type 0 where
  pub fits : OnOk result (TreesFit table rows)
  pub too_large : IfErr result (λ reason. (tree : ℕ) → reason ≡ fault.TooLarge tree
      → IsTooLarge table rows tree)
  pub only : OnErr result
      (IsErrOf result fault.NoMemory ⊎ ((tree : ℕ) × (result ≡ Err (fault.TooLarge tree))))

-- whether this tree takes no more bytes than one may, over rows in their order
unfoldable pub tree_fits : List (List Value) → TreeSetting → Bool
tree_fits rows tree = nat_le (tree_bytes merged_rows (doc_width tree.shape)
    (nested rows tree)) most_bytes

-- whether each of the trees takes no more bytes than one may, over the rows in their order
unfoldable pub trees_fit : Table → List (List Value) → Bool
trees_fit table rows = list_all
    (tree_fits (ordered table.settings.sorted rows)) table.settings.trees

-- the test says whether the trees fit
abbrev pub FitIsTested : Type 0
FitIsTested = (table : Table) (rows : List (List Value)) → (trees_fit table rows
    ≡ true) ↔ TreesFit table rows

-- where some tree is too large, they do not
abbrev pub LargeIsTested : Type 0
LargeIsTested = (table : Table) (rows : List (List Value)) (t : ℕ) → IsTooLarge table rows t
    → trees_fit table rows ≡ false

-- the sections of nodes of these trees, over rows that are in order
abbrev pub nodes_grown : List (List Value) → List TreeSetting → List (List ℕ)
nodes_grown rows trees = map (λ tree. nodes_of rows (Some tree)) trees

-- the sections of their documents
abbrev pub stars_grown : List (List Value) → List TreeSetting → List (List ℕ)
stars_grown rows trees = map (λ tree. star_of rows (Some tree)) trees
