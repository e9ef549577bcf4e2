-- The index by which the rows of a conjunct are found.
use Rattle.std.specs.Prelude.{◌≡◌, ℕ, Bool, true, false, ◌&&◌, ◌==◌, ◌+◌, List, [], ◌∷◌, Option, Some, None, slice_get, if◌then◌else◌}
use Rattle.table_schema.specs.declared.query.Conjunct.{Conjunct}
use Rattle.table_schema.specs.declared.query.Conjunct.TheVariants.{One, Many}
use Rattle.table_schema.specs.declared.settings.Settings.{Settings}
use Rattle.table_schema.specs.NeedIds.{is_set}
use Rattle.value_ids.specs.Ids.{matching}
use Rattle.segment_head.specs.Heads.{IsLoaded, Seen}
use Rattle.segment_plan.specs.declared.plans.IndexChoice.{IndexChoice}
use Rattle.segment_plan.specs.declared.plans.IndexChoice.TheVariants.{Unindexed, Sorted, Inverted, Range}
use Rattle.segment_plan.specs.Matched.{values_in}

-- each id is one more than the one before it
abbrev pub follow : ℕ → List ℕ → Bool
follow id [] = true
follow id (next ∷ ids) = next == id + 1 && follow next ids

-- there are ids, and no id between them is left out
abbrev pub are_consecutive : List ℕ → Bool
are_consecutive [] = false
are_consecutive (first ∷ ids) = follow first ids

-- the dictionary of the column that a conjunct names alone was loaded
abbrev pub IsReady : Seen → Conjunct → Type 0
IsReady head (One column condition) = IsLoaded head column
IsReady head (Many condition) = Unit {0}

-- the column is the sorted one
abbrev pub is_sorted_on : Option ℕ → ℕ → Bool
is_sorted_on None column = false
is_sorted_on (Some sorted) column = sorted == column

-- the first of these that serves: the sorted column, an inverted index, and a range index where the
-- matching ids are consecutive
abbrev pub choice_of : Settings → Seen → Conjunct → IndexChoice
choice_of settings head (One column condition) =
    if is_sorted_on settings.sorted column then Sorted else
    if is_set (slice_get settings.inverted column) then Inverted else
    if is_set (slice_get settings.ranged column) && are_consecutive
    (matching condition (values_in head column)) then Range else Unindexed
choice_of settings head (Many condition) = Unindexed
