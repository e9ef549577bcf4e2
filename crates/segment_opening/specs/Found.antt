-- What is looked up of columns that a query only tests.
use Rattle.std.specs.Prelude.{◌≡◌, ◌≤◌, ◌<◌, ◌&&◌, ◌||◌, not, ℕ, Bool, false, true, List, [], ◌∷◌, get_or, pos, length, slice_get, Option, None, Some, if◌then◌else◌}
use Rattle.std.specs.List.{AllZip, list_any}
use Rattle.outside.specs.Files.{Files}
use Rattle.values.specs.declared.value.Value.{Value}
use Rattle.values.specs.declared.value.Value.TheVariants.{Whole}
use Rattle.values.specs.declared.test.Test.{Test}
use Rattle.values.specs.Tests.{holds}
use Rattle.value_ids.specs.Dictionary.{Distinct, most_values}
use Rattle.value_ids.specs.Ids.{has_id, matching}
use Rattle.table_schema.specs.Conditions.{cell, wide_holds}
use Rattle.table_schema.specs.declared.query.BoundQuery.{BoundQuery}
use Rattle.table_schema.specs.declared.query.Conjunct.{Conjunct}
use Rattle.table_schema.specs.declared.query.Conjunct.TheVariants.{Many, One}
use Rattle.table_schema.specs.declared.table.Table.{Table}
use Rattle.segment_head.specs.ColumnIds.{ids_below}
use Rattle.segment_head.specs.Heads.{IsLoaded, OfWhole, Seen}
use Rattle.segment_head.specs.Lookups.{OfColumn}
use Rattle.segment_head.specs.declared.column_ids.Matched.{Matched}
use Rattle.segment_plan.specs.Matched.{count_in, is_filtered, is_on, values_of}
use Rattle.segment_plan.specs.Named.{query_names, wide_names}
use Rattle.segment_plan.specs.Plan.{is_emptied}

-- the query without its filter
abbrev pub unfiltered : BoundQuery → BoundQuery
unfiltered query = record query { conjuncts = [] }

-- some value satisfies the test
abbrev pub IsMet : Test → Type 0
IsMet test = (value : Value) × (holds value test ≡ true)

-- a dictionary has so many values, and these are the ids of those that satisfy the test
abbrev pub IsFoundIn : Test → Matched → Distinct → Type 0
IsFoundIn test matched d = (matched.count ≡ length d.values)
    × (matched.ids ≡ matching test d.values)

-- ---- ids in place of values

-- the head with these dictionaries
abbrev pub keeping : List (Option Distinct) → Seen → Seen
keeping dictionaries head = record head { dictionaries = dictionaries }

-- so many ids in place of the values of each column that has a count
abbrev pub ids_in : List (Option ℕ) → List (Option Distinct) → List (Option Distinct)
ids_in [] dictionaries = dictionaries
ids_in (count ∷ counts) [] = []
ids_in (None ∷ counts) (d ∷ dictionaries) = d ∷ ids_in counts dictionaries
ids_in (Some n ∷ counts) (d ∷ dictionaries) = Some (ids_below n) ∷ ids_in counts dictionaries

-- the head with these
abbrev pub with_counts : List (Option ℕ) → Seen → Seen
with_counts counts head = keeping (ids_in counts head.dictionaries) head

-- the count of a column, if it has one
abbrev pub count_of : List (Option ℕ) → ℕ → Option ℕ
count_of counts column = get_or counts column None

-- ---- a filter that is asked by ids

-- the values of a column in these dictionaries
abbrev pub values_from : List (Option Distinct) → ℕ → List Value
values_from dictionaries column = values_of (slice_get dictionaries column)

-- the values have one id, the one in the first dictionaries and the other in the second
pub record HaveOneId (full given : List (Option Distinct)) (column : ℕ) (value other : Value)
    : Type 0 where
  pub id : ℕ
  pub below : id < length (values_from full column)
  pub value_is : value ≡ get_or (values_from full column) id (Whole (pos 0))
  pub other_is : other ≡ get_or (values_from given column) id (Whole (pos 0))

-- the rows have in each column that is named values of one id
abbrev pub HaveOneIds : List (Option Distinct) → List (Option Distinct) → (ℕ → Bool) → List Value
    → List Value → Type 0
HaveOneIds full given named row other = (column : ℕ) → named column ≡ true
    → HaveOneId full given column (cell row column) (cell other column)

-- a conjunct says of the values in some dictionaries what another one says of those in others: of
-- one column the same ids satisfy it; of several, rows of the same ids do
abbrev pub SaysAlike : List (Option Distinct) → List (Option Distinct) → Conjunct → Conjunct
    → Type 0
SaysAlike full given (One column test) (One named asked) = (named ≡ column)
    × (matching asked (values_from given column) ≡ matching test (values_from full column))
SaysAlike full given (Many wide) (Many asked) = ((column : ℕ) → wide_names column asked
    ≡ wide_names column wide) × ((row other : List Value)
    → HaveOneIds full given (λ column. wide_names column wide) row other
    → wide_holds other asked ≡ wide_holds row wide)
SaysAlike full given conjunct asked = ⊥

-- a test of a column is left as it is where the column has no count, and holds of some value where
-- it has one
abbrev pub IsKeptOrMet : Option ℕ → Test → Test → Type 0
IsKeptOrMet None test asked = asked ≡ test
IsKeptOrMet (Some count) test asked = IsMet test

-- a conjunct is asked by ids of the columns that have a count: it is of the same columns
abbrev pub IsAskedBy : List (Option ℕ) → Conjunct → Conjunct → Type 0
IsAskedBy counts (One column test) (One named asked) = (named ≡ column)
    × IsKeptOrMet (count_of counts column) test asked
IsAskedBy counts (Many wide) (Many asked) = (column : ℕ) → wide_names column asked
    ≡ wide_names column wide
IsAskedBy counts conjunct asked = ⊥

-- a whole head has as many values in each column that has a count; its values and so many ids
-- satisfy the conjuncts alike; and no column is left without a value
pub record TellsAsked (query : BoundQuery) (table : Table) (conjuncts : List Conjunct)
    (counts : List (Option ℕ)) (whole : Seen) : Type 0 where
  pub counts_are : (column count : ℕ) → count_of counts column ≡ Some count
      → count_in whole column ≡ count
  pub says : AllZip (SaysAlike whole.dictionaries (ids_in counts whole.dictionaries))
      query.conjuncts conjuncts
  pub some : is_emptied query.conjuncts table whole ≡ false

-- a query may be asked by ids of some columns: these are of its filter alone, and of each other one
-- that it names the head has the dictionary
pub record IsAskable (query : BoundQuery) (table : Table) (head : Seen) (conjuncts : List Conjunct)
    (counts : List (Option ℕ)) : Type 0 where
  pub each : length counts ≡ length table.schema.fields
  pub few : (column count : ℕ) → count_of counts column ≡ Some count → count ≤ most_values
  pub apart : (column : ℕ) → query_names (unfiltered query) column ≡ true
      → count_of counts column ≡ None
  pub asked : AllZip (IsAskedBy counts) query.conjuncts conjuncts
  pub loaded : (column : ℕ) → query_names query column ≡ true → count_of counts column ≡ None
      → IsLoaded head column

-- where no star-tree answers, a query may be asked so of a head that more was loaded of: the ids
-- are those that the whole head has
pub record IsFoundBeside (query : BoundQuery) (table : Table) (held : Option Files)
    (by_tree : Bool) (head grown : Seen) (conjuncts : List Conjunct) (counts : List (Option ℕ))
    : Type 0 where
  pub untreed : by_tree ≡ false
  pub askable : IsAskable query table grown conjuncts counts
  pub whole : OfWhole table held head (TellsAsked query table conjuncts counts)

-- ---- the columns that are named beside a filter

-- a mark for each of so many columns: one without a mark is named in no group column and no
-- aggregate
pub record TellsOthers (query : BoundQuery) (columns : ℕ) (marks : List Bool) : Type 0 where
  pub count : length marks ≡ columns
  pub apart : (column : ℕ) → column < columns → get_or marks column false ≡ false
      → query_names (unfiltered query) column ≡ false

-- ---- what is found for a filter of conjuncts on one column each

-- the column of a conjunct, which some value satisfies and which nothing else of the query names,
-- was looked up
pub record IsFoundOf (query : BoundQuery) (table : Table) (held : Option Files) (head : Seen)
    (column : ℕ) (test : Test) (matched : Matched) : Type 0 where
  pub within : column < length table.schema.fields
  pub apart : query_names (unfiltered query) column ≡ false
  pub met : IsMet test
  pub few : matched.count ≤ most_values
  pub whole : OfWhole table held head (OfColumn column (IsFoundIn test matched))

abbrev pub IsFoundFor : BoundQuery → Table → Option Files → Seen → Conjunct → Matched → Type 0
IsFoundFor query table held head (One column test) matched = IsFoundOf query table held head column
    test matched
IsFoundFor query table held head (Many wide) matched = ⊥

-- what the first of the conjuncts on a column found as its count
abbrev pub count_for : List Conjunct → List Matched → ℕ → Option ℕ
count_for [] found column = None
count_for (conjunct ∷ conjuncts) [] column = None
count_for (conjunct ∷ conjuncts) (matched ∷ found) column = if is_on column conjunct then
    Some matched.count else count_for conjuncts found column

-- each conjunct of the query was looked up
abbrev pub AreFound : BoundQuery → Table → Option Files → Seen → List Matched → Type 0
AreFound query table held head found = AllZip (IsFoundFor query table held head) query.conjuncts
    found

-- the conjunct names one column
abbrev pub IsOne : Conjunct → Type 0
IsOne (One column test) = Unit {0}
IsOne (Many wide) = ⊥

-- each of them does
abbrev pub AreOnes : List Conjunct → Type 0
AreOnes [] = Unit {0}
AreOnes (conjunct ∷ conjuncts) = IsOne conjunct × AreOnes conjuncts

-- a number below the count satisfies the test just where it is one of the ids
abbrev pub PicksIds : Matched → Test → Type 0
PicksIds matched test = (id : ℕ) → id < matched.count → holds (Whole (pos id)) test
    ≡ has_id matched.ids id

-- the conjunct asks for the ids that were found for another
abbrev pub IsByIds : Matched → Conjunct → Conjunct → Type 0
IsByIds matched (One column test) (One named asked) = (named ≡ column) × PicksIds matched asked
IsByIds matched conjunct asked = ⊥

-- each of them does
abbrev pub AreByIds : List Conjunct → List Matched → List Conjunct → Type 0
AreByIds [] [] [] = Unit {0}
AreByIds (conjunct ∷ conjuncts) (matched ∷ found) (asked ∷ more) = IsByIds matched conjunct asked
    × AreByIds conjuncts found more
AreByIds conjuncts found asked = ⊥

-- the id is none of those of a conjunct on the column
abbrev pub lacks : Conjunct → Matched → ℕ → ℕ → Bool
lacks conjunct matched column id = is_on column conjunct && not (has_id matched.ids id)

-- whether an id is one of those of each conjunct on the column
abbrev pub is_shared : List Conjunct → List Matched → ℕ → ℕ → Bool
is_shared [] found column id = true
is_shared (conjunct ∷ conjuncts) [] column id = true
is_shared (conjunct ∷ conjuncts) (matched ∷ found) column id =
    not (lacks conjunct matched column id) && is_shared conjuncts found column id

-- no id of this conjunct is one of those of each conjunct on its column
abbrev pub shares_none : List Conjunct → List Matched → Conjunct → Matched → Bool
shares_none conjuncts found (One column test) matched = not (list_any
    (is_shared conjuncts found column) matched.ids)
shares_none conjuncts found (Many wide) matched = false

-- there is such a conjunct among some
abbrev pub some_shares_none : List Conjunct → List Matched → List Conjunct → List Matched → Bool
some_shares_none conjuncts found [] those = false
some_shares_none conjuncts found (conjunct ∷ more) [] = false
some_shares_none conjuncts found (conjunct ∷ more) (matched ∷ those) =
    shares_none conjuncts found conjunct matched || some_shares_none conjuncts found more those
