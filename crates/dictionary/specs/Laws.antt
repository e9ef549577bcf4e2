-- What the distinct values of a column are, in words that say nothing of how they are found.
use Rattle.std.specs.Prelude.{◌≡◌, List}
use Rattle.values.specs.declared.value.Value.{Value}
use Rattle.values.specs.Tests.{is_member}
use Rattle.value_ids.specs.Dictionary.{Ascends, distinct}

-- each is before all those after it
abbrev pub DistinctAscend : Type 0
DistinctAscend = (column : List Value) → Ascends (distinct column)

-- they are the values of the column, and no others
abbrev pub DistinctAreThose : Type 0
DistinctAreThose = (value : Value) (column : List Value) → is_member (distinct column) value
    ≡ is_member column value

-- one ascending list alone has some members
abbrev pub AscendsOneWay : Type 0
AscendsOneWay = (a b : List Value) → Ascends a → Ascends b → ((value : Value)
    → is_member a value ≡ is_member b value) → a ≡ b
