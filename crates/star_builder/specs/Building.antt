-- What is known of nodes on the way, as a tree is built.
use Rattle.std.specs.Prelude.{◌≡◌, ◌≢◌, ℕ, zero, suc, ◌+◌, ◌-◌, ◌*◌, ◌<◌, ◌≤◌, Bool, if◌then◌else◌}
use Rattle.std.specs.Prelude.{nat_le, ◌==◌, ◌||◌, true, List, [], ◌∷◌, length, take}
use Rattle.std.specs.FinMap.{is_sorted}
use Rattle.star_tree.specs.declared.node.Node.{Node}
use Rattle.agg_laws.specs.declared.states.AggState.{AggState}
use Rattle.agg_laws.specs.declared.tree_shape.TreeShape.{TreeShape}
use Rattle.agg_laws.specs.Numbers.{most_stored}
use Rattle.agg_laws.specs.Rows.{merged_rows, row_weight}
use Rattle.agg_laws.specs.Merged.{weights}
use Rattle.agg_laws.specs.Tree.{star, dims_order, dim, Nodes, none, node, ids_at, child_nodes_of, star_child}
use Rattle.agg_laws.specs.Tree.{under}
use Rattle.state_columns.specs.Docs.{Doc, doc_at}
use Rattle.star_tree.specs.Flat.{Flat, node_at, child_nodes, visited_one, closed, filled, with_total}
use Rattle.state_columns.specs.Region.{range}
use Rattle.star_file.specs.Rules.{widths}

-- the nodes of documents of states
abbrev pub Tree : Type 0
Tree = Nodes (List AggState)

-- nodes and documents, written flat
abbrev pub Written : Type 0
Written = Flat (List AggState)

-- how many bytes they take
abbrev pub bytes_of : TreeShape → Written → ℕ
bytes_of shape f = (4 * shape.dims + widths shape.kinds) * length f.1 + 28 * length f.0

-- the id of a dimension of the document with a number
abbrev pub id_of : ℕ → ℕ → List Doc → ℕ
id_of level at docs = dim level (doc_at docs at).0

-- documents of a node of level d: of k ids, alike below d, and with no star from d on
abbrev pub DocsAt : ℕ → ℕ → List ℕ → List Doc → Type 0
DocsAt k d path [] = Unit {0}
DocsAt k d path (e ∷ es) = (length e.0 ≡ k) × (take d e.0 ≡ path)
    × ((i : ℕ) → d ≤ i → i < k → dim i e.0 ≢ star) × DocsAt k d path es

-- each id of a dimension is at least v
abbrev pub AtLeast : ℕ → ℕ → List Doc → Type 0
AtLeast d v [] = Unit {0}
AtLeast d v (e ∷ es) = (v ≤ dim d e.0) × AtLeast d v es

-- the ids of a dimension do not fall
abbrev pub Rising : ℕ → List Doc → Type 0
Rising d [] = Unit {0}
Rising d (e ∷ es) = AtLeast d (dim d e.0) es × Rising d es

-- none of them is the star
abbrev pub Ordinary : ℕ → List Doc → Type 0
Ordinary d [] = Unit {0}
Ordinary d (e ∷ es) = (dim d e.0 ≢ star) × Ordinary d es

-- the nodes of the groups of equal ids
abbrev pub group_nodes : ℕ → ℕ → List Doc → List Node
group_nodes d from docs =
    child_nodes (suc d) from 0 (child_nodes_of (λ _. none) d docs none (ids_at merged_rows d docs))

-- documents of a node of level d, where k is the number of dimensions
pub record Proper (k d : ℕ) (docs : List Doc) : Type 0 where
  pub path : List ℕ
  pub alike : DocsAt k d path docs
  pub ascending : is_sorted dims_order docs ≡ true
  pub weight_fits : weights row_weight docs ≤ most_stored

-- the node with this number has these documents
pub record StandsAt (at : ℕ) (docs : List Doc) (f : Written) : Type 0 where
  pub within : at < length f.0
  pub some : (node_at f.0 at).start < (node_at f.0 at).end
  pub inside : (node_at f.0 at).end ≤ length f.1
  pub docs_are : range (node_at f.0 at).start (node_at f.0 at).end f.1 ≡ docs

-- nodes of level d beside each other, of which the first has the number `at`, are not visited yet
abbrev pub Standing : TreeShape → ℕ → ℕ → ℕ → Tree → Written → Type 0
Standing shape more d at none f = Unit {0}
Standing shape more d at (node id docs subtrees rest) f =
    StandsAt at docs f × Proper (d + more) d docs × (subtrees ≡ under merged_rows shape more d docs)
    × Standing shape more d (suc at) rest f

-- the children of a node of level d that is split
abbrev pub split_children : TreeShape → ℕ → ℕ → List Doc → Tree
split_children shape more d docs =
    child_nodes_of (under merged_rows shape more (suc d)) d docs
    (star_child merged_rows (under merged_rows shape more (suc d)) shape d docs)
    (ids_at merged_rows d docs)

-- the documents of the node with this number
abbrev pub docs_at : ℕ → Written → List Doc
docs_at at f = range (node_at f.0 at).start (node_at f.0 at).end f.1

-- a visit of the node with this number, where `more` levels are left
abbrev pub visit_at : TreeShape → ℕ → ℕ → ℕ → Written → Written
visit_at shape more d at f =
    visited_one merged_rows d at (docs_at at f) (under merged_rows shape more d (docs_at at f)) f

-- all but the first n nodes
abbrev pub drop_children : ℕ → Tree → Tree
drop_children zero subtrees = subtrees
drop_children (suc n) none = none
drop_children (suc n) (node id docs subtrees rest) = drop_children n rest

-- the children of the node with this number, which is split
abbrev pub children_at : TreeShape → ℕ → ℕ → Written → Tree
children_at s d at f = split_children s (s.dims - (d + 1)) d (docs_at at f)

-- the node with this number is there, with some documents
pub record NodeStands (s : TreeShape) (d at : ℕ) (f : Written) : Type 0 where
  pub within : at < length f.0
  pub some : (node_at f.0 at).start < (node_at f.0 at).end
  pub inside : (node_at f.0 at).end ≤ length f.1
  pub proper : Proper s.dims d (docs_at at f)

-- a leaf is closed
abbrev pub leaf_closed : ℕ → ℕ → Written → Written
leaf_closed d at f = closed merged_rows d at 0 (docs_at at f) none f

-- a split node is closed, after its children
abbrev pub split_closed : ℕ → ℕ → ℕ → ℕ → Bool → Written → Written
split_closed d at first children starred f =
    if starred then (filled at (node_at f.0 (first + (children - 1))).total first children f.0, f.1)
    else with_total merged_rows d at first children (docs_at at f) f

-- the children of a split node with this range
abbrev pub children_in : TreeShape → ℕ → ℕ → ℕ → Written → Tree
children_in s d start end f = split_children s (s.dims - (d + 1)) d (range start end f.1)

-- whether a node with so many documents is a leaf
abbrev pub is_leaf : TreeShape → ℕ → ℕ → Bool
is_leaf s d n = nat_le n s.leaf || (d == s.dims)

-- a visit of a node of level d
abbrev pub visit_node : TreeShape → ℕ → ℕ → Written → Written
visit_node s d at f = visit_at s (s.dims - d) d at f
