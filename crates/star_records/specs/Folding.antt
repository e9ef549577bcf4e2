-- Rows in the order of their ids, merged one by one, a block of them at a time.
use Rattle.std.specs.Prelude.{◌≡◌, ◌≢◌, ℕ, ℤ, ◌+◌, ◌-◌, ◌<◌, ◌≤◌, List, [], ◌∷◌, ◌++◌, map, take}
use Rattle.std.specs.Prelude.{length, get_or, pos, Bool, true, false, All}
use Rattle.agg_laws.specs.declared.aggregate_kind.AggKind.{AggKind}
use Rattle.agg_laws.specs.declared.states.AggState.{AggState}
use Rattle.state_columns.specs.Docs.{Doc, Docs}
use Rattle.agg_laws.specs.Merged.{weights}
use Rattle.agg_laws.specs.Rows.{merged_rows, row_weight}
use Rattle.agg_laws.specs.Tree.{merged_docs}
use Rattle.star_rows.specs.Columns.{row_count}
use Rattle.star_rows.specs.Words.{ids_at, key_in, row_in, states_at}

-- some rows as documents
abbrev pub docs_of : List AggKind → List (List ℕ) → List (List ℤ) → List ℕ → List Doc
docs_of ks dims metrics rows = map (λ row. (ids_at dims row, states_at ks metrics row)) rows

-- the last document has these ids
pub record Ends (docs : List Doc) (ids : List ℕ) : Type 0 where
  pub front : List Doc
  pub states : List AggState
  pub is : docs ≡ front ++ ((ids, states) ∷ [])

-- a table has the rows of the first words, merged
pub record HasMerged (ks : List AggKind) (dims : List (List ℕ)) (metrics : List (List ℤ))
    (words : List ℕ) (at : ℕ) (table : Docs) : Type 0 where
  pub kinds : table.kinds ≡ ks
  pub docs : table.docs
      ≡ merged_docs merged_rows (docs_of ks dims metrics (take at (map row_in words)))
  pub weight_fits : weights row_weight table.docs ≤ at
  pub last : 0 < at → Ends table.docs (ids_at dims (row_in (get_or words (at - 1) 0)))

-- what columns have in the rows of some words
abbrev pub picked : {X : Type 0} → X → List ℕ → List (List X) → List (List X)
picked d words columns = map (λ column. map (λ word. get_or column (row_in word) d) words) columns

-- words of a range among which are all that have not the key of the one before them, and the place
-- of each of these
pub record AreHeads (words : List ℕ) (from to : ℕ) (heads slots : List ℕ) : Type 0 where
  pub lengths : length slots ≡ to - from
  pub among : (n : ℕ) → All (λ word. row_in word < n) words → All (λ word. row_in word < n) heads
  pub place : (k : ℕ) → k < to - from
      → (0 < from + k → key_in (get_or words (from + k - 1) 0) ≢ key_in (get_or words (from + k) 0))
      → (get_or slots k 0 < length heads)
      × (get_or heads (get_or slots k 0) 0 ≡ get_or words (from + k) 0)

-- numbers are zeros alone
abbrev pub AllZero : List ℤ → Type 0
AllZero numbers = (i : ℕ) → i < length numbers → get_or numbers i (pos 0) ≡ pos 0

-- so many columns are known, and those that are marked have zeros alone
pub record AreZero (marks : List Bool) (columns : List (List ℤ)) : Type 0 where
  pub lengths : length marks ≡ length columns
  pub zero : (i : ℕ) → i < length columns → get_or marks i false ≡ true
      → AllZero (get_or columns i [])

-- columns of ids and of numbers for a table, with an entry for each row
pub record FitTable (ids : List (List ℕ)) (values : List (List ℤ)) (table : Docs) : Type 0 where
  pub dims : length ids ≡ table.dims
  pub metrics : length values ≡ length table.kinds
  pub ids_long : All (λ c. length c ≡ row_count ids) ids
  pub values_long : All (λ c. length c ≡ row_count ids) values

-- the states of one row were merged into those of the last document
pub record MergesRow (states : List AggState) (old new : Docs) : Type 0 where
  pub merged : (front : List Doc) (e : Doc) → old.docs ≡ front ++ e ∷ []
      → new.docs ≡ front ++ (e.0, merged_rows e.1 states) ∷ []
  pub weighs : row_weight states ≤ 1
  pub dims : new.dims ≡ old.dims
  pub kinds : new.kinds ≡ old.kinds

-- the documents of a table with those of equal ids merged
pub record IsMergedOf (rows table : Docs) : Type 0 where
  pub dims : table.dims ≡ rows.dims
  pub kinds : table.kinds ≡ rows.kinds
  pub docs_are : table.docs ≡ merged_docs merged_rows rows.docs
