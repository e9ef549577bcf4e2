-- All documents of a tree, in the order in which its nodes are visited.
use Rattle.std.specs.Prelude.{◌≡◌, ℕ, zero, suc, if◌then◌else◌, ◌==◌, Option, Some, None, List, []}
use Rattle.std.specs.Prelude.{◌∷◌, ◌++◌, length, take}
use Rattle.agg_laws.specs.Merged.{rekey}
use Rattle.agg_laws.specs.Tree.{star, merged_docs, Nodes, none, node, has_star}

-- the ids from a level on set to star
abbrev pub star_from : ℕ → List ℕ → List ℕ
star_from d [] = []
star_from zero (x ∷ xs) = star ∷ star_from zero xs
star_from (suc d) (x ∷ xs) = x ∷ star_from d xs

-- the documents of the star child
abbrev pub star_docs : {S : Type 0} → Nodes S → List (List ℕ × S)
star_docs none = []
star_docs (node id docs subtrees rest) = if id == star then docs else star_docs rest

module _ {S : Type 0} (join : S → S → S) where
  -- the aggregated document of a node of level d
  abbrev pub aggregated : ℕ → List (List ℕ × S) → List (List ℕ × S)
  aggregated d docs = merged_docs join (rekey (star_from d) docs)

  -- the one document that stands for all documents of a node of level d: its own at a leaf of one
  -- document, else that of its star child, else the aggregated document
  abbrev pub total_here : ℕ → List (List ℕ × S) → Nodes S → List (List ℕ × S) → List (List ℕ × S)
  total_here d docs none below = if length docs == 1 then docs else aggregated d docs
  total_here d docs (node id own subtrees rest) below = below

  abbrev pub total_below : ℕ → List (List ℕ × S) → Nodes S → List (List ℕ × S)
  total_below d docs none = aggregated d docs
  total_below d docs (node id own subtrees rest) = if id == star
      then total_here (suc d) own subtrees (total_below (suc d) own subtrees)
      else total_below d docs rest

  abbrev pub total_doc : ℕ → List (List ℕ × S) → Nodes S → List (List ℕ × S)
  total_doc d docs subtrees = total_here d docs subtrees (total_below d docs subtrees)

  -- what the visit of a node of level d appends, with what the visits of its children append: an
  -- aggregated document at a leaf of several documents; else the documents of the star child, those
  -- of the children's visits, and where there is no star child the aggregated document
  abbrev pub visit_of : ℕ → List (List ℕ × S) → Nodes S → List (List ℕ × S) → List (List ℕ × S)
  visit_of d docs none below = if length docs == 1 then [] else aggregated d docs
  visit_of d docs (node id own subtrees rest) below =
      star_docs (node id own subtrees rest)
      ++ (below ++ (if has_star (node id own subtrees rest) then [] else aggregated d docs))

  -- what the visits of nodes of level d beside each other append
  abbrev pub visits_of : ℕ → Nodes S → List (List ℕ × S)
  visits_of d none = []
  visits_of d (node id docs subtrees rest) = visit_of d docs subtrees (visits_of (suc d) subtrees)
      ++ visits_of d rest

  -- the documents of a tree begin with those of its root
  abbrev pub documents_of : Nodes S → List (List ℕ × S)
  documents_of none = []
  documents_of (node id docs subtrees rest) =
      docs ++ visit_of 0 docs subtrees (visits_of 1 subtrees)

-- the one document with these ids and states, or none
abbrev pub one_document : {S : Type 0} → List ℕ → Option S → List (List ℕ × S)
one_document dims None = []
one_document dims (Some states) = (dims, states) ∷ []

-- the documents have the same first ids, up to a level
abbrev pub BeginWith : {S : Type 0} → ℕ → List ℕ → List (List ℕ × S) → Type 0
BeginWith d path [] = Unit {0}
BeginWith d path (e ∷ es) = (take d e.0 ≡ path) × BeginWith d path es

-- documents whose first ids are the same, so many of them
abbrev pub AreAlike : {S : Type 0} → ℕ → List (List ℕ × S) → Type 0
AreAlike d [] = Unit {0}
AreAlike d (e ∷ es) = BeginWith d (take d e.0) es
