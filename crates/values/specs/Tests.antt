-- Which values satisfy a test, and whether a value between two others may.
use Rattle.std.specs.Prelude.{◌≡◌, Bool, true, false, not, ◌&&◌, ◌||◌, List, [], ◌∷◌, if◌then◌else◌}
use Rattle.std.specs.declared.cmp.Ordering.{Ordering}
use Rattle.std.specs.List.{list_any}
use Rattle.std.specs.Ordering.{is_eq, is_ne, is_lt, is_le, is_gt, is_ge}
use Rattle.values.specs.declared.value.Value.{Value}
use Rattle.values.specs.declared.test.CompareOp.{CompareOp}
use Rattle.values.specs.declared.test.CompareOp.TheVariants.{Equal, Unequal, Less, AtMost, More, AtLeast}
use Rattle.values.specs.declared.test.Test.{Test}
use Rattle.values.specs.declared.test.Test.TheOpen.{Test-F}
use Rattle.values.specs.declared.test.Test.TheFolds.{fold-Test}
use Rattle.values.specs.Order.{value_order, value_eq}

-- what a comparison says of how the left value stands to the right one
abbrev pub op_holds : CompareOp → Ordering → Bool
op_holds Equal order = is_eq order
op_holds Unequal order = is_ne order
op_holds Less order = is_lt order
op_holds AtMost order = is_le order
op_holds More order = is_gt order
op_holds AtLeast order = is_ge order

-- the opposite, where something is negated
abbrev pub negated_if : Bool → Bool → Bool
negated_if negated holds = if negated then not holds else holds

-- whether a value is in a list
abbrev pub is_member : List Value → Value → Bool
is_member members value = list_any (value_eq value) members

-- whether a value is at most another
abbrev pub is_at_most : Value → Value → Bool
is_at_most a b = is_le (value_order a b)

-- whether a value is between two, both included
abbrev pub is_between : Value → Value → Value → Bool
is_between low value high = is_at_most low value && is_at_most value high

-- the AND of truth values; true where there is none
abbrev pub all_true : List Bool → Bool
all_true [] = true
all_true (b ∷ bs) = b && all_true bs

-- the OR of truth values; false where there is none
abbrev pub any_true : List Bool → Bool
any_true [] = false
any_true (b ∷ bs) = b || any_true bs

-- one test, with whether the value satisfies each inner test in its place
abbrev pub holds_step : Value → Test-F Bool → Bool
holds_step value (Test-F.Compare op bound) = op_holds op (value_order value bound)
holds_step value (Test-F.OneOf members negated) = negated_if negated (is_member members value)
holds_step value (Test-F.Between low high negated) = negated_if negated (is_between low value high)
holds_step value (Test-F.All inner) = all_true inner
holds_step value (Test-F.Any inner) = any_true inner

-- whether the value satisfies the test
abbrev pub holds : Value → Test → Bool
holds value = fold-Test Bool (holds_step value)

-- whether a comparison with a bound may hold of a value between the two
abbrev pub compare_may : CompareOp → Value → Value → Value → Bool
compare_may Equal least bound greatest = is_between least bound greatest
compare_may Unequal least bound greatest = not (value_eq least bound && value_eq greatest bound)
compare_may Less least bound greatest = is_lt (value_order least bound)
compare_may AtMost least bound greatest = is_le (value_order least bound)
compare_may More least bound greatest = is_gt (value_order greatest bound)
compare_may AtLeast least bound greatest = is_ge (value_order greatest bound)

-- whether some value of a list is between two
abbrev pub some_between : List Value → Value → Value → Bool
some_between members least greatest = list_any (λ member. is_between least member greatest) members

-- some member lies between the two; negated: not all values between them are one member
abbrev pub one_of_may : Bool → List Value → Value → Value → Bool
one_of_may false members least greatest = some_between members least greatest
one_of_may true members least greatest = not (value_eq least greatest && is_member members least)

-- the two ranges meet; negated: the range of values does not lie within the other
abbrev pub between_may : Bool → Value → Value → Value → Value → Bool
between_may false low high least greatest = is_at_most low high && is_at_most low greatest
    && is_at_most least high
between_may true low high least greatest = not (is_at_most low least && is_at_most greatest high)

-- one test, with whether each inner test may hold in its place
abbrev pub may_step : Value → Value → Test-F Bool → Bool
may_step least greatest (Test-F.Compare op bound) = compare_may op least bound greatest
may_step least greatest (Test-F.OneOf members negated) = one_of_may negated members least greatest
may_step least greatest (Test-F.Between low high negated) = between_may negated low high least
    greatest
may_step least greatest (Test-F.All inner) = all_true inner
may_step least greatest (Test-F.Any inner) = any_true inner

-- whether a test may hold of some value between the least and the greatest; true where that is not
-- known
abbrev pub may_hold : Value → Value → Test → Bool
may_hold least greatest = fold-Test Bool (may_step least greatest)

-- no value between the two satisfies the test
abbrev pub NoneHolds : Value → Value → Test → Type 0
NoneHolds least greatest test = (value : Value) → is_at_most least value ≡ true
    → is_at_most value greatest ≡ true → holds value test ≡ false
