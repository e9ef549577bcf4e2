-- Documents of a star-tree.
use Rattle.std.specs.Prelude.{◌≡◌, ℕ, List, [], ◌∷◌, length, slice_index_or, Option, Some, None, ℤ}
use Rattle.agg_laws.specs.declared.aggregate_kind.AggKind.{AggKind}
use Rattle.agg_laws.specs.declared.states.AggState.{AggState}
use Rattle.state_columns.specs.declared.star_row.StarRow.{StarRow}
use Rattle.agg_laws.specs.Rows.{row_of, kinds_of, RowFits, RowStored}

-- the ids of the split dimensions, and a state for each pair
abbrev pub Doc : Type 0
Doc = List ℕ × List AggState

-- a document as its ids with its row of states
abbrev pub doc_of : StarRow → Doc
doc_of row = (row.dims, row.states)

-- a table of documents, the shape that they all have, and how many more there is room for
pub record Docs : Type 0 where
  pub dims : ℕ
  pub kinds : List AggKind
  pub docs : List Doc
  pub spare : ℕ

-- each document has an id for each of k dimensions and a state of each kind
abbrev pub HaveShape : ℕ → List AggKind → List Doc → Type 0
HaveShape k ks [] = Unit {0}
HaveShape k ks (e ∷ es) = (length e.0 ≡ k) × (kinds_of e.1 ≡ ks) × HaveShape k ks es

-- each document has k ids
abbrev pub HaveIds : {S : Type 0} → ℕ → List (List ℕ × S) → Type 0
HaveIds k [] = Unit {0}
HaveIds k (e ∷ es) = (length e.0 ≡ k) × HaveIds k es

-- the document with a number
abbrev pub doc_at : List Doc → ℕ → Doc
doc_at docs i = slice_index_or docs i ([], [])

-- the states of each document can be stored
abbrev pub AreStored : List Doc → Type 0
AreStored [] = Unit {0}
AreStored (e ∷ es) = RowStored e.1 × AreStored es

-- each document can come from as many values as its share
abbrev pub FitShares : List Doc → List ℕ → Type 0
FitShares [] [] = Unit {0}
FitShares [] (n ∷ ns) = ⊥
FitShares (e ∷ es) [] = ⊥
FitShares (e ∷ es) (n ∷ ns) = RowFits e.1 n × FitShares es ns

-- rows of ids and numbers as documents, each of one value
abbrev pub projected : List AggKind → List (List ℕ × List ℤ) → List Doc
projected ks [] = []
projected ks (row ∷ rows) = (row.0, row_of ks (row.1 ∷ [])) ∷ projected ks rows

-- the states of the numbers of some rows, or none
abbrev pub states_of : List AggKind → List (List ℤ) → Option (List AggState)
states_of ks [] = None
states_of ks (xs ∷ rest) = Some (row_of ks (xs ∷ rest))
