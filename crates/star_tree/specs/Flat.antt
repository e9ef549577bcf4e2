-- The tree written flat: its documents and nodes, numbered in the order in which nodes are visited.
use Rattle.std.specs.Prelude.{◌≡◌, ℕ, suc, ◌+◌, ◌*◌, ◌<◌, ◌≤◌, if◌then◌else◌, ◌==◌, List, []}
use Rattle.std.specs.Prelude.{◌∷◌, ◌++◌, map, length, slice_index_or, slice_set}
use Rattle.star_tree.specs.declared.node.Node.{Node}
use Rattle.agg_laws.specs.Tree.{star, Nodes, none, node, has_star}
use Rattle.state_columns.specs.Documents.{aggregated, star_docs, total_doc}
use Rattle.state_columns.specs.Region.{range}

-- a node that is not visited yet
abbrev pub blank : ℕ → ℕ → ℕ → ℕ → Node
blank d id from to = record {
  level = d;
  id = id;
  start = from;
  end = to;
  total = 0;
  first = 0;
  children = 0;
}

-- a node as it was before its visit
abbrev pub unvisited : Node → Node
unvisited n = blank n.level n.id n.start n.end

-- the node with a number
abbrev pub node_at : List Node → ℕ → Node
node_at ns i = slice_index_or ns i (blank 0 0 0 0)

-- how many nodes are beside each other
abbrev pub count : {S : Type 0} → Nodes S → ℕ
count none = 0
count (node id docs subtrees rest) = suc (count rest)

-- children of level d: the first begins at `from`, each next at the end of the one before, and a
-- star child at `to`
abbrev pub child_nodes : {S : Type 0} → ℕ → ℕ → ℕ → Nodes S → List Node
child_nodes d from to none = []
child_nodes d from to (node id docs subtrees rest) =
    (if id == star then blank d id to (to + length docs) else blank d id from (from + length docs))
    ∷ child_nodes d (if id == star then from else from + length docs) to rest

-- nodes and documents
abbrev pub Flat : Type 0 → Type 0
Flat S = List Node × List (List ℕ × S)

-- the children get the next numbers, and the documents of the star child are appended
abbrev pub opened : {S : Type 0} → ℕ → ℕ → Nodes S → Flat S → Flat S
opened d at subtrees f = (
  f.0 ++ child_nodes (suc d) (node_at f.0 at).start (length f.1) subtrees,
  f.1 ++ star_docs subtrees,
)

-- the total and the children of a node are known
abbrev pub filled : ℕ → ℕ → ℕ → ℕ → List Node → List Node
filled at total first children ns =
    slice_set ns at (record (node_at ns at) { total = total; first = first; children = children })

module _ {S : Type 0} (join : S → S → S) where
  -- the aggregated document is appended
  abbrev pub with_total : ℕ → ℕ → ℕ → ℕ → List (List ℕ × S) → Flat S → Flat S
  with_total d at first children docs f =
      (filled at (length f.1) first children f.0, f.1 ++ aggregated join d docs)

  -- the total of a leaf of one document is that document, and of a node with a star child the star
  -- child's; else the aggregated document is appended
  abbrev pub closed : ℕ → ℕ → ℕ → List (List ℕ × S) → Nodes S → Flat S → Flat S
  closed d at first docs none f =
      if length docs == 1 then (filled at (node_at f.0 at).start 0 0 f.0, f.1)
      else with_total d at 0 0 docs f
  closed d at first docs (node id own below rest) f =
      if has_star (node id own below rest)
      then (filled at (node_at f.0 (first + count rest)).total first (suc (count rest)) f.0, f.1)
      else with_total d at first (suc (count rest)) docs f

  -- nodes of level d beside each other are visited in order, of which the first has the number `at`
  abbrev pub visited : ℕ → ℕ → Nodes S → Flat S → Flat S
  visited d at none f = f
  visited d at (node id docs subtrees rest) f =
      visited d (suc at) rest
      (closed d at (length f.0) docs subtrees
      (visited (suc d) (length f.0) subtrees (opened d at subtrees f)))

  -- one node is
  abbrev pub visited_one : ℕ → ℕ → List (List ℕ × S) → Nodes S → Flat S → Flat S
  visited_one d at docs subtrees f =
      closed d at (length f.0) docs subtrees
      (visited (suc d) (length f.0) subtrees (opened d at subtrees f))

  -- the whole tree
  abbrev pub flat : Nodes S → Flat S
  flat none = ([], [])
  flat (node id docs subtrees rest) =
      visited_one 0 0 docs subtrees (blank 0 star 0 (length docs) ∷ [], docs)

  -- how many bytes it takes, where a document takes `width`
  abbrev pub tree_bytes : ℕ → Nodes S → ℕ
  tree_bytes width tree = width * length (flat tree).1 + 28 * length (flat tree).0

-- the nodes of a tree
abbrev pub nodes_in : {S : Type 0} → Nodes S → ℕ
nodes_in none = 0
nodes_in (node id docs subtrees rest) = suc (nodes_in subtrees + nodes_in rest)

-- the node with this number has this level, id and documents
pub record HasDocs {S : Type 0} (d at id : ℕ) (docs : List (List ℕ × S)) (f : Flat S) : Type 0 where
  pub within : at < length f.0
  pub level_is : (node_at f.0 at).level ≡ d
  pub id_is : (node_at f.0 at).id ≡ id
  pub order : (node_at f.0 at).start < (node_at f.0 at).end
  pub inside : (node_at f.0 at).end ≤ length f.1
  pub docs_are : range (node_at f.0 at).start (node_at f.0 at).end f.1 ≡ docs

-- so have these nodes beside each other, of which the first has the number `at`
abbrev pub ChildrenHaveDocs : {S : Type 0} → ℕ → ℕ → Nodes S → Flat S → Type 0
ChildrenHaveDocs d at none f = Unit {0}
ChildrenHaveDocs d at (node id docs subtrees rest) f = HasDocs d at id docs f
    × ChildrenHaveDocs d (suc at) rest f

-- the node with this number is this node of the nested tree: its documents, the one that stands for
-- all of them, and its children, whose numbers are above its own
pub record IsNode {S : Type 0} (join : S → S → S) (d at id : ℕ) (docs : List (List ℕ × S))
    (subtrees : Nodes S) (f : Flat S) : Type 0 where
  pub docs_are : HasDocs d at id docs f
  pub total_in : (node_at f.0 at).total < length f.1
  pub total_is : range (node_at f.0 at).total (suc (node_at f.0 at).total) f.1
      ≡ total_doc join d docs subtrees
  pub children_are : (node_at f.0 at).children ≡ count subtrees
  pub leaf : count subtrees ≡ 0 → (node_at f.0 at).first ≡ 0
  pub later : 0 < count subtrees → at < (node_at f.0 at).first
  pub children_in : (node_at f.0 at).first + count subtrees ≤ length f.0
  pub star_from : ℕ
  pub nodes_are : range (node_at f.0 at).first ((node_at f.0 at).first + count subtrees)
      (map unvisited f.0) ≡ child_nodes (suc d) (node_at f.0 at).start star_from subtrees
  pub children_docs : ChildrenHaveDocs (suc d) (node_at f.0 at).first subtrees f

-- the nodes of level d from the number `at` on are these nested ones, with all below them
abbrev pub FlatAt : {S : Type 0} → (S → S → S) → ℕ → ℕ → Nodes S → Flat S → Type 0
FlatAt join d at none f = Unit {0}
FlatAt join d at (node id docs subtrees rest) f =
    IsNode join d at id docs subtrees f × FlatAt join (suc d) (node_at f.0 at).first subtrees f
    × FlatAt join d (suc at) rest f
