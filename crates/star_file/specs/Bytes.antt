-- The bytes of nodes and documents: numbers of four bytes with the highest first, and states as
-- they are spelled.
use Rattle.std.specs.Prelude.{◌≡◌, ℕ, List, [], ◌∷◌, ◌++◌, Result, OnOk}
use Rattle.std.specs.Int.{w32, to_be_bytes}
use Rattle.agg_laws.specs.declared.states.AggState.{AggState}
use Rattle.star_tree.specs.declared.node.Node.{Node}
use Rattle.agg_laws.specs.States.{spelling}
use Rattle.state_columns.specs.Docs.{Doc}

-- numbers, each in four bytes
abbrev pub words : List ℕ → List ℕ
words [] = []
words (x ∷ xs) = to_be_bytes w32 x ++ words xs

-- the numbers of a node, in order
abbrev pub node_words : Node → List ℕ
node_words n = n.level ∷ n.id ∷ n.start ∷ n.end ∷ n.total ∷ n.first ∷ n.children ∷ []

-- the bytes of nodes
abbrev pub node_bytes : List Node → List ℕ
node_bytes [] = []
node_bytes (n ∷ ns) = words (node_words n) ++ node_bytes ns

-- the section of nodes: how many documents there are, and the nodes
abbrev pub nodes_section : ℕ → List Node → List ℕ
nodes_section docs ns = words (docs ∷ []) ++ node_bytes ns

-- the bytes of states
abbrev pub state_bytes : List AggState → List ℕ
state_bytes [] = []
state_bytes (v ∷ vs) = spelling v ++ state_bytes vs

-- the bytes of documents: of each its ids, and then its states
abbrev pub doc_bytes : List Doc → List ℕ
doc_bytes [] = []
doc_bytes (e ∷ es) = (words e.0 ++ state_bytes e.1) ++ doc_bytes es

-- a list that was added to at its end
abbrev pub IsExtended : List ℕ → List ℕ → Type 0
IsExtended old new = (more : List ℕ) × (new ≡ old ++ more)

-- a call has added these bytes to a list; where it was refused, it may have added others
pub record Adds {E : Type 0} (bytes old new : List ℕ) (result : Result (Unit {0}) E) : Type 0 where
  pub ok : OnOk result (new ≡ old ++ bytes)
  pub kept : IsExtended old new
