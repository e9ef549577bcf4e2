-- The nested tree of a list of rows, and what each of its nodes covers.
use Rattle.std.specs.Prelude.{◌≡◌, ◌≢◌, ℕ, zero, suc, ◌<◌, ◌/◌, ◌%◌, ◌^◌, Bool, true, false}
use Rattle.std.specs.Prelude.{if◌then◌else◌, ◌==◌, nat_le, nat_lt, not, ◌&&◌, ◌||◌, List, [], ◌∷◌}
use Rattle.std.specs.Prelude.{◌++◌, map, length, slice_index_or, slice_set}
use Rattle.std.specs.List.{filter}
use Rattle.std.specs.declared.cmp.Ordering.{Ordering}
use Rattle.std.specs.Ordering.{nat_cmp}
use Rattle.std.specs.Cmp.Lexicographic.{slice_cmp}
use Rattle.agg_laws.specs.declared.tree_shape.TreeShape.{TreeShape}
use Rattle.agg_laws.specs.Merged.{total, rekey, Merged}

-- the id that stands for any, above each other id
abbrev pub star : ℕ
star = 4294967295

-- combinations of ids ascend by the ids in order
abbrev pub dims_order : List ℕ → List ℕ → Ordering
dims_order = slice_cmp nat_cmp

-- the id of a dimension
abbrev pub dim : ℕ → List ℕ → ℕ
dim d xs = slice_index_or xs d star

-- that dimension set to star
abbrev pub set_star : ℕ → List ℕ → List ℕ
set_star d xs = slice_set xs d star

-- one document per combination, ascending, with the joined states
abbrev pub merged_docs : {S : Type 0} → (S → S → S) → List (List ℕ × S) → List (List ℕ × S)
merged_docs join rows = Merged dims_order join rows

-- nodes beside each other: each with its id, its documents and the nodes below it. A node with none
-- below is a leaf
pub data Nodes (S : Type 0) : Type 0 where
  none : Nodes S
  node : ℕ → List (List ℕ × S) → Nodes S → Nodes S → Nodes S

-- nodes of which one is a star child
abbrev pub has_star : {S : Type 0} → Nodes S → Bool
has_star none = false
has_star (node id docs subtrees rest) = if id == star then true else has_star rest

-- no star child is made for this split dimension
abbrev pub skips : TreeShape → ℕ → Bool
skips shape d = shape.skipped / 2 ^ d % 2 == 1

-- the documents with this id
abbrev pub docs_with : {S : Type 0} → ℕ → ℕ → List (List ℕ × S) → List (List ℕ × S)
docs_with d v docs = filter (λ e. dim d e.0 == v) docs

-- one node per id, and then the last ones; `below` gives the nodes below a node with these
-- documents
abbrev pub child_nodes_of : {S : Type 0} → (List (List ℕ × S) → Nodes S) → ℕ
    → List (List ℕ × S) → Nodes S
    → List ℕ → Nodes S
child_nodes_of below d docs last [] = last
child_nodes_of below d docs last (v ∷ vs) =
    node v (docs_with d v docs) (below (docs_with d v docs)) (child_nodes_of below d docs last vs)

module _ {S : Type 0} (join : S → S → S) where
  -- the ids of a dimension, ascending, each once
  abbrev pub ids_at : ℕ → List (List ℕ × S) → List ℕ
  ids_at d docs = map (λ e. e.0) (Merged nat_cmp join (rekey (dim d) docs))

  -- the star child, where there is one
  abbrev pub star_child : (List (List ℕ × S) → Nodes S) → TreeShape → ℕ → List (List ℕ × S)
      → Nodes S
  star_child below shape d docs = if not (skips shape d) && nat_lt 1 (length (ids_at d docs))
      then node star (merged_docs join (rekey (set_star d) docs))
      (below (merged_docs join (rekey (set_star d) docs))) none
      else none

  -- the nodes below a node of level d with these documents, where `more` levels are left
  abbrev pub under : TreeShape → ℕ → ℕ → List (List ℕ × S) → Nodes S
  under shape zero d docs = none
  under shape (suc more) d docs = if nat_le (length docs) shape.leaf then none
      else child_nodes_of (under shape more (suc d)) d docs
      (star_child (under shape more (suc d)) shape d docs) (ids_at d docs)

  -- the tree of some rows: no node, or the root
  abbrev pub root_of : TreeShape → ℕ → List (List ℕ × S) → Nodes S
  root_of shape k [] = none
  root_of shape k (e ∷ es) = node star (e ∷ es) (under shape k 0 (e ∷ es)) none

  abbrev pub tree_of : TreeShape → ℕ → List (List ℕ × S) → Nodes S
  tree_of shape k rows = root_of shape k (merged_docs join rows)

-- a row agrees with a path of ids, of which a star agrees with any
abbrev pub agrees : List ℕ → List ℕ → Bool
agrees [] xs = true
agrees (p ∷ ps) [] = (p == star) && agrees ps []
agrees (p ∷ ps) (x ∷ xs) = ((p == star) || (x == p)) && agrees ps xs

-- the ids with star where the path has star
abbrev pub starred : List ℕ → List ℕ → List ℕ
starred [] xs = xs
starred (p ∷ ps) [] = []
starred (p ∷ ps) (x ∷ xs) = (if p == star then star else x) ∷ starred ps xs

-- the rows that agree with a path
abbrev pub rows_at : {S : Type 0} → List ℕ → List (List ℕ × S) → List (List ℕ × S)
rows_at path rows = filter (λ e. agrees path e.0) rows

-- a node at a path covers just the rows that agree with the path
pub record CoversRows {S : Type 0} (join : S → S → S) (rows : List (List ℕ × S)) (path : List ℕ)
    (docs : List (List ℕ × S)) : Type 0 where
  pub docs_are : docs ≡ merged_docs join (rekey (starred path) (rows_at path rows))
  pub total_is : total join (λ _. true) docs ≡ total join (λ _. true) (rows_at path rows)

-- no row has a star, or no id, at a dimension below k
abbrev pub HaveNoStar : {S : Type 0} → ℕ → List (List ℕ × S) → Type 0
HaveNoStar k [] = Unit {0}
HaveNoStar k (e ∷ es) = ((d : ℕ) → d < k → dim d e.0 ≢ star) × HaveNoStar k es

-- each of these nodes, under a path, and each node below them
abbrev pub Covers : {S : Type 0} → (S → S → S) → List (List ℕ × S) → List ℕ → Nodes S → Type 0
Covers join rows path none = Unit {0}
Covers join rows path (node id docs subtrees rest) =
    CoversRows join rows (path ++ (id ∷ [])) docs × Covers join rows (path ++ (id ∷ [])) subtrees
    × Covers join rows path rest

-- the root has the empty path
abbrev pub CoversTree : {S : Type 0} → (S → S → S) → List (List ℕ × S) → Nodes S → Type 0
CoversTree join rows none = rows ≡ []
CoversTree join rows (node id docs subtrees rest) = CoversRows join rows [] docs
    × Covers join rows [] subtrees
