-- The rules on the nodes of a tree, all together, and the nodes that bytes spell.
use Rattle.std.specs.Prelude.{◌≡◌, ℕ, zero, suc, ◌+◌, ◌-◌, ◌*◌, ◌/◌, ◌^◌, ◌<◌, ◌≤◌, ◌↔◌, List, [], ◌∷◌, length, take}
use Rattle.std.specs.Prelude.{drop}
use Rattle.std.specs.Int.{w32, from_be_bytes}
use Rattle.agg_laws.specs.declared.aggregate_kind.AggKind.{AggKind}
use Rattle.star_tree.specs.declared.node.Node.{Node}
use Rattle.agg_laws.specs.declared.tree_shape.TreeShape.{TreeShape}
use Rattle.agg_laws.specs.Kind.{width_of}
use Rattle.star_tree.specs.Flat.{node_at}
use Rattle.star_tree.specs.NodeRules.{KeepsRules, IsRoot}

-- the bytes of states of some kinds
abbrev pub widths : List AggKind → ℕ
widths [] = 0
widths (k ∷ ks) = width_of k + widths ks

-- a tree takes at most so many bytes
abbrev pub most_bytes : ℕ
most_bytes = 134217728

-- the nodes of a tree of so many documents keep all rules, but for the one that speaks of rows
pub record KeepAll (shape : TreeShape) (counts : List ℕ) (documents : ℕ)
    (ns : List Node) : Type 0 where
  pub none : (ns ≡ []) ↔ (documents ≡ 0)
  pub bytes : documents * (4 * shape.dims + widths shape.kinds) + 28 * length ns ≤ most_bytes
  pub root : 0 < length ns → IsRoot (node_at ns 0)
  pub each : (at : ℕ) → at < length ns → KeepsRules shape shape.dims counts documents ns at

-- the number in four bytes from a place on
abbrev pub number_at : ℕ → List ℕ → ℕ
number_at at bytes = from_be_bytes w32 (take 4 (drop at bytes))

-- the node in 28 bytes
abbrev pub node_in : List ℕ → Node
node_in bytes = record {
  level = number_at 0 bytes;
  id = number_at 4 bytes;
  start = number_at 8 bytes;
  end = number_at 12 bytes;
  total = number_at 16 bytes;
  first = number_at 20 bytes;
  children = number_at 24 bytes;
}

-- so many nodes
abbrev pub nodes_in : ℕ → List ℕ → List Node
nodes_in zero bytes = []
nodes_in (suc n) bytes = node_in (take 28 bytes) ∷ nodes_in n (drop 28 bytes)

-- each number of the nodes has four bytes
abbrev pub AreWords : List Node → Type 0
AreWords [] = Unit {0}
AreWords (n ∷ ns) = (n.level < 2 ^ 32) × (n.id < 2 ^ 32) × (n.start < 2 ^ 32) × (n.end < 2 ^ 32)
    × (n.total < 2 ^ 32) × (n.first < 2 ^ 32) × (n.children < 2 ^ 32) × AreWords ns

-- how many nodes a section has, after the number of its documents
abbrev pub count_in : List ℕ → ℕ
count_in bytes = (length bytes - 4) / 28

-- bytes are a section of nodes that keep all rules
pub record KeepsSection (shape : TreeShape) (counts : List ℕ) (bytes : List ℕ) : Type 0 where
  pub lengths : length bytes ≡ 4 + 28 * count_in bytes
  pub keeps : KeepAll shape counts (number_at 0 bytes) (nodes_in (count_in bytes) (drop 4 bytes))

-- a shape within its bounds, and how many ids each of its dimensions has
pub record IsCounted (shape : TreeShape) (counts : List ℕ) : Type 0 where
  pub few_dims : shape.dims ≤ 16
  pub few_kinds : length shape.kinds ≤ 16
  pub counts_are : length counts ≡ shape.dims
