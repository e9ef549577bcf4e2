-- The rows that picks cover. A pick is taken as its level and its documents, be it of a nested tree
-- or of a flat one.
use Rattle.std.specs.Prelude.{◌≡◌, ℕ, ◌-◌, ◌<◌, ◌≤◌, Bool, true, ◌&&◌, List, MatchBool, All}
use Rattle.std.specs.Prelude.{count_by, nat_le, nat_lt}
use Rattle.std.specs.List.{list_any}
use Rattle.state_columns.specs.Docs.{Doc}
use Rattle.agg_laws.specs.Tree.{dim, agrees}
use Rattle.star_tree.specs.Picks.{Task, holds_from}
use Rattle.star_walk.specs.declared.pick.Pick.{Pick}

-- a document stands for a row that has its id on each dimension on which the document has no star
abbrev pub stands_for : Doc → List ℕ → Bool
stands_for e row = agrees e.0 row

-- a pick covers a row for which one of its documents stands
abbrev pub covers : List ℕ → ℕ × List Doc → Bool
covers row p = list_any (λ e. stands_for e row) p.1

-- and the row passes the tests that are left, those from the pick's level on
abbrev pub counts : Task → ℕ → List ℕ → ℕ × List Doc → Bool
counts t k row p = covers row p && holds_from t (k - p.0) p.0 row

-- a row that holds is covered by exactly one pick, whose remaining tests it passes; any other is
-- covered by none, or by one whose remaining tests it fails
abbrev pub IsCovered : Task → ℕ → List (ℕ × List Doc) → List ℕ → Type 0
IsCovered t k ps row =
    MatchBool (holds_from t k 0 row)
    ((count_by (covers row) ps ≡ 1) × (count_by (counts t k row) ps ≡ 1))
    ((count_by (covers row) ps ≤ 1) × (count_by (counts t k row) ps ≡ 0))

-- each row is
abbrev pub AreCovered : Task → ℕ → List (ℕ × List Doc) → List Doc → Type 0
AreCovered t k ps rows = All (λ row. IsCovered t k ps row.0) rows

-- on each grouped dimension the documents have the value of each row for which they stand
abbrev pub HaveValues : Task → ℕ → List Doc → List Doc → Type 0
HaveValues t k rows docs =
    All (λ e. All (λ row. stands_for e row.0 ≡ true → (d : ℕ) → d < k → t.grouped d ≡ true
    → dim d e.0 ≡ dim d row.0) rows) docs

-- whether a pick has the document with a number
abbrev pub has_number : ℕ → Pick → Bool
has_number at p = nat_le p.start at && nat_lt at p.end
