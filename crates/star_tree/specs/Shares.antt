-- The children of a split node share its rows.
use Rattle.std.specs.Prelude.{◌≡◌, ℕ, ◌+◌, if◌then◌else◌, ◌==◌, not, ◌&&◌, List, [], ◌∷◌, ◌++◌}
use Rattle.agg_laws.specs.Tree.{star, Nodes, none, node, agrees, rows_at}

-- how many ordinary children of a node with this path have a row
abbrev pub ordinary_with : {S : Type 0} → List ℕ → List ℕ → Nodes S → ℕ
ordinary_with path x none = 0
ordinary_with path x (node id docs subtrees rest) =
    (if not (id == star) && agrees (path ++ (id ∷ [])) x then 1 else 0) + ordinary_with path x rest

-- each row of the node is a row of just one of them, and no other row is a row of any
abbrev pub AreShared : {S : Type 0} → List ℕ → Nodes S → List (List ℕ × S) → Type 0
AreShared path subtrees [] = Unit {0}
AreShared path subtrees (e ∷ es) =
    (ordinary_with path e.0 subtrees ≡ (if agrees path e.0 then 1 else 0))
    × AreShared path subtrees es

-- the ordinary children of a split node have its rows, and a star child has the same rows as the
-- node
abbrev pub ChildrenShare : {S : Type 0} → List (List ℕ × S) → List ℕ → Nodes S → Type 0
ChildrenShare rows path none = Unit {0}
ChildrenShare rows path (node id docs subtrees rest) =
    AreShared path (node id docs subtrees rest) rows
    × (rows_at (path ++ (star ∷ [])) rows ≡ rows_at path rows)

-- so it is at each of these nodes, under a path, and at each node below them
abbrev pub Share : {S : Type 0} → List (List ℕ × S) → List ℕ → Nodes S → Type 0
Share rows path none = Unit {0}
Share rows path (node id docs subtrees rest) =
    ChildrenShare rows (path ++ (id ∷ [])) subtrees × Share rows (path ++ (id ∷ [])) subtrees
    × Share rows path rest

-- the root has the empty path
abbrev pub ShareTree : {S : Type 0} → List (List ℕ × S) → Nodes S → Type 0
ShareTree rows none = Unit {0}
ShareTree rows (node id docs subtrees rest) =
    ChildrenShare rows [] subtrees × Share rows [] subtrees
