-- The conjuncts of a query whose rows are found by an index, and the rows that are left.
use Rattle.std.specs.Prelude.{ℕ, Bool, true, false, ◌-◌, List, [], ◌∷◌, length, map, get_or, if◌then◌else◌}
use Rattle.std.specs.List.{filter, list_all}
use Rattle.values.specs.declared.test.Test.{Test}
use Rattle.values.specs.declared.value.Value.{Value}
use Rattle.value_ids.specs.Dictionary.{distinct}
use Rattle.value_ids.specs.Ids.{matching}
use Rattle.bit_column.specs.Postings.{bucket_of}
use Rattle.index_reader.specs.Buckets.{overlaps}
use Rattle.table_schema.specs.declared.query.BoundQuery.{BoundQuery}
use Rattle.table_schema.specs.declared.query.Conjunct.{Conjunct}
use Rattle.table_schema.specs.declared.query.Conjunct.TheVariants.{One}
use Rattle.table_schema.specs.Conditions.{conjunct_holds}
use Rattle.segment_file.specs.Columns.{place_of, values_in}
use Rattle.segment_file.specs.Ordered.{value_in}
use Rattle.segment_plan.specs.declared.plans.IndexChoice.{IndexChoice}
use Rattle.segment_plan.specs.declared.plans.IndexChoice.TheVariants.{Sorted, Inverted, Range}

-- a conjunct is indexed where it is served or has a range index
abbrev pub is_indexed : IndexChoice → Conjunct → Bool
is_indexed Sorted (One column test) = true
is_indexed Inverted (One column test) = true
is_indexed Range (One column test) = true
is_indexed choice conjunct = false

-- for documents that are not to be checked, a range index tells just the rows of its conjunct too
abbrev pub sure_choice : IndexChoice → IndexChoice
sure_choice Range = Sorted
sure_choice choice = choice

abbrev pub sure_choices : List IndexChoice → List IndexChoice
sure_choices choices = map sure_choice choices

-- a conjunct with its choice
pub record Chosen : Type 0 where
  pub choice : IndexChoice
  pub conjunct : Conjunct

-- the conjuncts that are indexed
abbrev pub indexed : List IndexChoice → List Conjunct → List Chosen
indexed [] conjuncts = []
indexed (choice ∷ choices) [] = []
indexed (first ∷ choices)
    (other ∷ conjuncts) = if is_indexed first other then record { choice = first; conjunct = other }
    ∷ indexed choices conjuncts else indexed choices conjuncts

-- ---- the rows that are left

-- the first of some ids, and the last of them
abbrev pub first_of : List ℕ → ℕ
first_of ids = get_or ids 0 0

-- the last of some ids; 0 where there is none
abbrev pub last_of : List ℕ → ℕ
last_of ids = get_or ids (length ids - 1) 0

-- the bucket of an id overlaps the ids from the first of a set to the last, of so many ids that
-- there are
abbrev pub is_near : ℕ → List ℕ → ℕ → Bool
is_near count set id = overlaps count (first_of set) (last_of set) (bucket_of id)

-- the bucket of a value's number among these distinct ones overlaps the numbers of those that
-- satisfy a test
abbrev pub is_value_near : List Value → Test → Value → Bool
is_value_near values test value = is_near (length values) (matching test values)
    (place_of values value)

-- an index leaves a row of these: one that satisfies its conjunct, or of a range index one in a
-- bucket that overlaps the matching ids
abbrev pub is_row_left : List (List Value) → List Value → IndexChoice → Conjunct → Bool
is_row_left rows row Range (One column test) = is_value_near (distinct (values_in column rows)) test
    (value_in column row)
is_row_left rows row choice conjunct = conjunct_holds row conjunct

-- each of these indexes leaves it
abbrev pub all_left : List (List Value) → List Value → List Chosen → Bool
all_left rows row list = list_all (λ c. is_row_left rows row c.choice c.conjunct) list

-- the rows that the indexes leave: those that each of them leaves
abbrev pub rows_left : BoundQuery → List IndexChoice → List (List Value) → List (List Value)
rows_left query choices rows = filter (λ row. all_left rows row
    (indexed choices query.conjuncts)) rows
