-- The groups of a query: from the rows that hold, and from what is read of a tree.
use Rattle.std.specs.Prelude.{ℕ, zero, suc, ◌-◌, if◌then◌else◌, ◌&&◌, List, [], ◌∷◌, ◌++◌}
use Rattle.std.specs.List.{filter}
use Rattle.std.specs.Ordering.{eq_by_cmp}
use Rattle.agg_laws.specs.Merged.{rekey}
use Rattle.agg_laws.specs.Tree.{dims_order, dim, merged_docs}
use Rattle.star_tree.specs.Picks.{Task, Pick, holds_from}

-- the key of a combination: its ids in those of the next dimensions that are grouped
abbrev pub key_from : Task → ℕ → ℕ → List ℕ → List ℕ
key_from t zero d x = []
key_from t (suc more) d x = if t.grouped d then dim d x ∷ key_from t more (suc d) x
    else key_from t more (suc d) x

-- one entry per key, ascending, with the joined states
abbrev pub groups_of : {S : Type 0} → (S → S → S) → Task → ℕ → List (List ℕ × S) → List (List ℕ × S)
groups_of join t k docs = merged_docs join (rekey (key_from t k 0) docs)

-- the rows that hold
abbrev pub rows_that_hold : {S : Type 0} → Task → ℕ → List (List ℕ × S) → List (List ℕ × S)
rows_that_hold t k rows = filter (λ e. holds_from t k 0 e.0) rows

-- those of them that have a key
abbrev pub rows_with_key : {S : Type 0} → Task → ℕ → List ℕ → List (List ℕ × S) → List (List ℕ × S)
rows_with_key t k key rows =
    filter (λ e. holds_from t k 0 e.0 && eq_by_cmp dims_order key (key_from t k 0 e.0)) rows

-- the documents of some picks that pass their remaining tests
abbrev pub passing : {S : Type 0} → Task → ℕ → List (Pick S) → List (List ℕ × S)
passing t k [] = []
passing t k (p ∷ ps) = filter (λ e. holds_from t (k - p.level) p.level e.0) p.docs ++ passing t k ps
