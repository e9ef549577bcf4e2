-- The rules that the nodes of a tree keep.
use Rattle.std.specs.Prelude.{◌≡◌, ℕ, suc, ◌+◌, ◌-◌, ◌<◌, ◌≤◌, ◌⊎◌, Bool, false, MatchBool, ◌==◌}
use Rattle.std.specs.Prelude.{List, [], ◌∷◌, length, slice_index_or}
use Rattle.star_tree.specs.declared.node.Node.{Node}
use Rattle.agg_laws.specs.declared.tree_shape.TreeShape.{TreeShape}
use Rattle.agg_laws.specs.Tree.{star, dim, skips}
use Rattle.state_columns.specs.Region.{range}
use Rattle.star_tree.specs.Flat.{node_at}

-- how many ids a dimension has, where the counts are these
abbrev pub count_at : List ℕ → ℕ → ℕ
count_at counts d = slice_index_or counts d 0

-- each row has an id below its dimension's count, in each of k dimensions
abbrev pub AreCounted : {S : Type 0} → ℕ → List ℕ → List (List ℕ × S) → Type 0
AreCounted k counts [] = Unit {0}
AreCounted k counts (e ∷ es) = ((d : ℕ) → d < k → dim d e.0 < count_at counts d)
    × AreCounted k counts es

-- the nodes have this level
abbrev pub HaveLevel : ℕ → List Node → Type 0
HaveLevel d [] = Unit {0}
HaveLevel d (n ∷ ns) = (n.level ≡ d) × HaveLevel d ns

-- the ids are above another, and ascend strictly
abbrev pub AreAbove : ℕ → List Node → Type 0
AreAbove v [] = Unit {0}
AreAbove v (n ∷ ns) = (v < n.id) × AreAbove v ns

-- the ids ascend strictly, from the first node to the last
abbrev pub Ascend : List Node → Type 0
Ascend [] = Unit {0}
Ascend (n ∷ ns) = AreAbove n.id ns × Ascend ns

-- each id but a star is below a count
abbrev pub AreKnown : ℕ → List Node → Type 0
AreKnown c [] = Unit {0}
AreKnown c (n ∷ ns) = ((n.id ≡ star) ⊎ (n.id < c)) × AreKnown c ns

-- a star child comes only last, only on a dimension that is not skipped, and only after two or more
-- others; it has at most `most` documents
abbrev pub StarIsLast : Bool → ℕ → ℕ → List Node → Type 0
StarIsLast skipped most before [] = Unit {0}
StarIsLast skipped most before (n ∷ ns) =
    (n.id ≡ star → (ns ≡ []) × (skipped ≡ false) × (2 ≤ before) × (n.end - n.start ≤ most))
    × StarIsLast skipped most (suc before) ns

-- the ranges of the others cover a range in order
abbrev pub Cover : ℕ → ℕ → List Node → Type 0
Cover from to [] = from ≡ to
Cover from to (n ∷ ns) =
    MatchBool (n.id == star) (Cover from to ns) ((n.start ≡ from) × Cover n.end to ns)

-- the children of a node of level d, whose documents are those from one number up to another
pub record KeepChildrenRules (shape : TreeShape) (counts : List ℕ) (d from to : ℕ)
    (subtrees : List Node) : Type 0 where
  pub levels : HaveLevel (suc d) subtrees
  pub ids_ascend : Ascend subtrees
  pub ids_known : AreKnown (count_at counts d) subtrees
  pub star_last : StarIsLast (skips shape d) (to - from) 0 subtrees
  pub ranges_cover : Cover from to subtrees

-- the node with a number, among these nodes and so many documents, where there are k levels
pub record KeepsRules (shape : TreeShape) (k : ℕ) (counts : List ℕ) (documents : ℕ) (ns : List Node)
    (at : ℕ) : Type 0 where
  pub level : (node_at ns at).level ≤ k
  pub order : (node_at ns at).start < (node_at ns at).end
  pub inside : (node_at ns at).end ≤ documents
  pub total : (node_at ns at).total < documents
  -- a leaf has at most as many documents as the leaf size, or it has one and level k
  pub leaf_first : (node_at ns at).children ≡ 0 → (node_at ns at).first ≡ 0
  pub leaf_size : (node_at ns at).children ≡ 0
      → ((node_at ns at).end - (node_at ns at).start ≤ shape.leaf)
      ⊎ (((node_at ns at).level ≡ k) × ((node_at ns at).end - (node_at ns at).start ≡ 1))
  -- a split node has a level below k, and its children have later numbers
  pub split_level : 0 < (node_at ns at).children → (node_at ns at).level < k
  pub split_first : 0 < (node_at ns at).children → at < (node_at ns at).first
  pub split_last : 0 < (node_at ns at).children → (node_at ns at).first
      + (node_at ns at).children ≤ length ns
  pub split_children : 0 < (node_at ns at).children
      → KeepChildrenRules shape counts (node_at ns at).level (node_at ns at).start
      (node_at ns at).end
      (range (node_at ns at).first ((node_at ns at).first + (node_at ns at).children) ns)

-- the root
pub record IsRoot (n : Node) : Type 0 where
  pub level : n.level ≡ 0
  pub id : n.id ≡ star
  pub start : n.start ≡ 0
