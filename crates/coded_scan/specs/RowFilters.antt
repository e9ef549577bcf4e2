-- Conditions on the rows of a segment by their ids, and the places of the rows that they let
-- through.
use Rattle.std.specs.Prelude.{ℕ, zero, suc, ◌+◌, ◌-◌, ◌≤◌, ◌≡◌, Bool, true, List, [], ◌∷◌, ◌++◌, cond, length, get_or, nat_eq}
use Rattle.std.specs.List.{list_all}
use Rattle.values.specs.Tests.{all_true, any_true}
use Rattle.value_ids.specs.Ids.{has_id}
use Rattle.coded_scan.specs.declared.row_filter.RowFilter.{RowFilter}
use Rattle.coded_scan.specs.declared.row_filter.RowFilter.TheOpen.{RowFilter-F}
use Rattle.coded_scan.specs.declared.row_filter.RowFilter.TheFolds.{fold-RowFilter}

-- one condition at a row, with whether each inner one lets the row through
abbrev pub lets_step : ℕ → RowFilter-F Bool → Bool
lets_step at (RowFilter-F.Ids ids matching) = has_id matching (get_or ids.now at 0)
lets_step at (RowFilter-F.Fixed holds) = holds
lets_step at (RowFilter-F.All inner) = all_true inner
lets_step at (RowFilter-F.Any inner) = any_true inner

-- whether a condition lets a row through
abbrev pub lets : ℕ → RowFilter → Bool
lets at = fold-RowFilter Bool (lets_step at)

-- whether each of some conditions lets a row through
abbrev pub all_let : ℕ → List RowFilter → Bool
all_let at row_filters = list_all (lets at) row_filters

-- one condition, with whether each inner one has an id for each of so many rows
abbrev pub covers_step : ℕ → RowFilter-F Bool → Bool
covers_step count (RowFilter-F.Ids ids matching) = nat_eq (length ids.now) count
covers_step count (RowFilter-F.Fixed holds) = true
covers_step count (RowFilter-F.All inner) = all_true inner
covers_step count (RowFilter-F.Any inner) = all_true inner

-- whether a condition has an id for each of so many rows
abbrev pub covers : ℕ → RowFilter → Bool
covers count = fold-RowFilter Bool (covers_step count)

-- each of some conditions has an id for each of so many rows
abbrev pub AllCover : ℕ → List RowFilter → Type 0
AllCover count row_filters = list_all (covers count) row_filters ≡ true

-- the places from one on, of so many, of which it holds
abbrev pub passing : (ℕ → Bool) → ℕ → ℕ → List ℕ
passing holds from zero = []
passing holds from (suc n) = passing holds from n ++ cond (holds (from + n)) ((from + n) ∷ []) []

-- these are the places from one up to another of which it holds
pub record ArePassing (holds : ℕ → Bool) (from to : ℕ) (places : List ℕ) : Type 0 where
  pub within : from ≤ to
  pub are : places ≡ passing holds from (to - from)
