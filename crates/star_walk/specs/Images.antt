-- The picks of a tree that is written flat, beside those of the nested tree.
use Rattle.std.specs.Prelude.{ℕ, ◌+◌, ◌-◌, ◌<◌, ◌≤◌, List, [], ◌∷◌, ◌++◌}
use Rattle.std.specs.List.{filter}
use Rattle.agg_laws.specs.declared.states.AggState.{AggState}
use Rattle.state_columns.specs.Docs.{Doc}
use Rattle.state_columns.specs.Region.{range}
use Rattle.star_tree.specs.Picks.{Task, holds_from}
use Rattle.star_tree.specs.Picks as nested
use Rattle.star_walk.specs.declared.pick.Pick.{Pick}

-- the level of a pick and its documents, of a nested tree and among the documents of a flat one
abbrev pub bare : nested.Pick (List AggState) → ℕ × List Doc
bare p = (p.level, p.docs)

-- the level of a pick of the flat tree, and the documents that its numbers name
abbrev pub shown : List Doc → Pick → ℕ × List Doc
shown docs p = (p.level, range p.start p.end docs)

-- how many documents are read of some picks
abbrev pub read_of : List Pick → ℕ
read_of [] = 0
read_of (p ∷ ps) = (p.end - p.start) + read_of ps

-- the documents of some picks that pass their remaining tests
abbrev pub passing : Task → ℕ → List Doc → List Pick → List Doc
passing t k docs [] = []
passing t k docs (p ∷ ps) =
    filter (λ e. holds_from t (k - p.level) p.level e.0) (range p.start p.end docs)
    ++ passing t k docs ps

-- each pick is of one document or more, of so many, and has a level up to k
abbrev pub AreWithin : ℕ → ℕ → List Pick → Type 0
AreWithin documents k [] = Unit {0}
AreWithin documents k (p ∷ ps) =
    (p.start < p.end) × (p.end ≤ documents) × (p.level ≤ k) × AreWithin documents k ps
