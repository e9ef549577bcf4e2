-- Documents by number: their ids one after the other, their states pair by pair.
use Rattle.std.specs.Prelude.{◌≡◌, ℕ, zero, suc, ◌+◌, ◌-◌, ◌*◌, ◌^◌, ◌<◌, ◌≤◌, List, [], ◌∷◌}
use Rattle.std.specs.Prelude.{length, take, drop}
use Rattle.agg_laws.specs.declared.aggregate_kind.AggKind.{AggKind}
use Rattle.state_columns.specs.Docs.{Doc, HaveShape, AreStored}
use Rattle.state_columns.specs.Columns.{Column, kinds_in, row_at, AreColumns}

-- a document of k ids, with what the columns have in its place
abbrev pub doc_in : ℕ → List ℕ → List Column → ℕ → Doc
doc_in k ids columns i = (take k (drop (i * k) ids), row_at columns i)

-- n documents, from a number on
abbrev pub docs_from : ℕ → ℕ → ℕ → List ℕ → List Column → List Doc
docs_from i zero k ids columns = []
docs_from i (suc n) k ids columns = doc_in k ids columns i ∷ docs_from (suc i) n k ids columns

-- the first n documents
abbrev pub docs_in : ℕ → ℕ → List ℕ → List Column → List Doc
docs_in n k ids columns = docs_from 0 n k ids columns

-- n documents of a shape, with room for more
pub record IsRegion (n k : ℕ) (kinds : List AggKind) (ids : List ℕ) (columns : List Column)
    (spare ids_room : ℕ) : Type 0 where
  pub ids_are : length ids ≡ n * k
  pub kinds_are : kinds_in columns ≡ kinds
  pub columns_are : AreColumns n spare columns
  pub few_kinds : length kinds ≤ 16
  pub at_most : n + spare < 2 ^ 64
  pub shape : HaveShape k kinds (docs_in n k ids columns)
  pub stored : AreStored (docs_in n k ids columns)
  pub ids_fit : length ids + spare * k ≤ ids_room

-- the numbers from one up to another
abbrev pub numbers_from : ℕ → ℕ → List ℕ
numbers_from from zero = []
numbers_from from (suc n) = from ∷ numbers_from (suc from) n

-- the numbers from one to another, which is left out
abbrev pub numbers : ℕ → ℕ → List ℕ
numbers from to = numbers_from from (to - from)

-- the items from one number up to another
abbrev pub range : {X : Type 0} → ℕ → ℕ → List X → List X
range from to xs = take (to - from) (drop from xs)
