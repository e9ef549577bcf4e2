-- What a walk picks of the nodes of a tree that is written flat.
use Rattle.std.specs.Prelude.{◌≡◌, ℕ, zero, suc, ◌+◌, ◌<◌, ◌≤◌, Bool, true, false, if◌then◌else◌, ◌==◌, List, [], ◌∷◌, ◌++◌, length, Option, None, Some, slice_index_or}
use Rattle.star_tree.specs.declared.node.Node.{Node}
use Rattle.agg_laws.specs.Tree.{star}
use Rattle.state_columns.specs.Region.{range}
use Rattle.star_tree.specs.Flat.{node_at}
use Rattle.star_tree.specs.Picks.{Task, are_unconstrained, is_selected}
use Rattle.value_ids.specs.Ids.{has_id}
use Rattle.star_walk.specs.declared.pick.Pick.{Pick}

-- there is an entry of both kinds for each dimension
abbrev pub HasEach : List (Option (List ℕ)) → List Bool → Type 0
HasEach matched grouped = length grouped ≡ length matched

-- whether there are ids that pass, and whether an id is among them
abbrev pub some_ids : Option (List ℕ) → Bool
some_ids None = false
some_ids (Some ids) = true

-- whether an id passes: one of those listed, or any where the dimension is not tested
abbrev pub is_among : Option (List ℕ) → ℕ → Bool
is_among None id = true
is_among (Some ids) id = has_id ids id

-- whether a dimension is tested, whether an id passes, and whether a dimension is grouped
abbrev pub is_tested : List (Option (List ℕ)) → ℕ → Bool
is_tested matched d = some_ids (slice_index_or matched d None)

-- whether an id of a dimension passes the test of the filter
abbrev pub passes : List (Option (List ℕ)) → ℕ → ℕ → Bool
passes matched d id = is_among (slice_index_or matched d None) id

-- whether GROUP BY names the dimension
abbrev pub is_grouped : List Bool → ℕ → Bool
is_grouped grouped d = slice_index_or grouped d false

-- what is asked of each dimension
abbrev pub task_of : List (Option (List ℕ)) → List Bool → Task
task_of matched grouped = record {
  filtered = is_tested matched;
  passes = passes matched;
  grouped = is_grouped grouped;
}

-- the children of a node are among the nodes, and its total is not the greatest number of 32 bits
pub record StandsAmong (ns : List Node) (n : Node) : Type 0 where
  pub children_in : n.first + n.children ≤ length ns
  pub total_in : n.total < 4294967295

-- each node has its children among the nodes
abbrev pub AreWalkable : List Node → Type 0
AreWalkable ns = (at : ℕ) → at < length ns → StandsAmong ns (node_at ns at)

-- the one document that stands for all of a node, where there are k dimensions
abbrev pub whole_pick : ℕ → Node → Pick
whole_pick k n = record { start = n.total; end = n.total + 1; level = k }

-- the documents of a leaf of level d
abbrev pub leaf_pick : ℕ → Node → Pick
leaf_pick d n = record { start = n.start; end = n.end; level = d }

-- the children of a node
abbrev pub child_nodes_of : List Node → Node → List Node
child_nodes_of ns n = range n.first (n.first + n.children) ns

-- whether one of some nodes is a star child
abbrev pub has_star_among : List Node → Bool
has_star_among [] = false
has_star_among (n ∷ ns) = if n.id == star then true else has_star_among ns

-- the picks of those children of a node of level d that are taken, where `below` gives those of one
abbrev pub taken : (Node → List Pick) → Task → Bool → ℕ → List Node → List Pick
taken below t starred d [] = []
taken below t starred d (n ∷ ns) =
    (if is_selected t starred d n.id then below n else []) ++ taken below t starred d ns

-- the picks at a node of level d, where `more` levels are left of k: the one document that stands
-- for all of them where no dimension is tested or grouped any more, all of them at a leaf, and else
-- the picks of the children that are taken
abbrev pub node_picks : Task → ℕ → List Node → ℕ → ℕ → Node → List Pick
node_picks t k ns zero d n = whole_pick k n ∷ []
node_picks t k ns (suc more) d n =
    if are_unconstrained t (suc more) d then whole_pick k n ∷ []
    else (if n.children == 0 then leaf_pick d n ∷ []
    else taken (node_picks t k ns more (suc d)) t (has_star_among (child_nodes_of ns n)) d
    (child_nodes_of ns n))

-- the picks of a tree of k dimensions
abbrev pub tree_picks : Task → ℕ → List Node → List Pick
tree_picks t k [] = []
tree_picks t k (n ∷ ns) = node_picks t k (n ∷ ns) k 0 n
