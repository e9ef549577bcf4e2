-- Ids: the places of values in a dictionary, from 0.
use Rattle.std.specs.Prelude.{◌≡◌, ◌<◌, ◌≤◌, ◌+◌, ◌-◌, ◌/◌, ◌%◌, ℕ, Bool, true, false, not, ◌&&◌, ◌||◌, nat_eq, nat_le, nat_lt, List, [], ◌∷◌, length, Option, Some, None, slice_get, get_or, if◌then◌else◌}
use Rattle.std.specs.Int.{bit_at}
use Rattle.std.specs.List.{list_any}
use Rattle.std.specs.List.Sorted.{IsStrictlySortedBy}
use Rattle.std.specs.Option.{IfSome}
use Rattle.std.specs.Ordering.{nat_cmp}
use Rattle.std.specs.declared.cmp.Ordering.TheVariants.{Less, Equal, Greater}
use Rattle.values.specs.Order.{value_order}
use Rattle.values.specs.declared.value.Value.{Value}
use Rattle.values.specs.declared.test.Test.{Test}
use Rattle.values.specs.Tests.{holds}

-- ids in ascending order, none of them twice; how many there are is a number of 32 bits
pub record IsIdSet (ids : List ℕ) : Type 0 where
  pub ascends : IsStrictlySortedBy nat_cmp ids
  pub at_most : length ids ≤ 4294967295

-- whether an id is in a list
abbrev pub has_id : List ℕ → ℕ → Bool
has_id ids id = list_any (nat_eq id) ids

-- whether the bit of an id is set in a mask, which has 64 bits a word
abbrev pub has_bit : List ℕ → ℕ → Bool
has_bit mask id = nat_eq (bit_at (get_or mask (id / 64) 0) (id % 64)) 1

-- the same bits are set
abbrev pub SameBits : List ℕ → List ℕ → Type 0
SameBits old new = (id : ℕ) → has_bit new id ≡ has_bit old id

-- ids in ascending order, and a mask that has a bit for each of them and no other
pub record IsMaskedSet (ids mask : List ℕ) : Type 0 where
  pub stands : IsIdSet ids
  pub masked : (id : ℕ) → has_bit mask id ≡ has_id ids id

-- whether an id is one from `from` up to `to`
abbrev pub is_within : ℕ → ℕ → ℕ → Bool
is_within from to id = nat_le from id && nat_lt id to

-- whether an id is below a count and not in a set
abbrev pub is_outside : ℕ → List ℕ → ℕ → Bool
is_outside count ids id = nat_lt id count && not (has_id ids id)

-- whether an id is below a count and in one of two sets
abbrev pub is_in_either : ℕ → List ℕ → List ℕ → ℕ → Bool
is_in_either count a b id = nat_lt id count && (has_id a id || has_id b id)

-- whether an id is in both of two sets
abbrev pub is_in_both : List ℕ → List ℕ → ℕ → Bool
is_in_both a b id = has_id a id && has_id b id

-- the ids are those of which the test holds
abbrev pub AreThose : (ℕ → Bool) → List ℕ → Type 0
AreThose test ids = (id : ℕ) → has_id ids id ≡ test id

-- the id is greater than the last of the ids, if there is one
abbrev pub IsAboveLast : List ℕ → ℕ → Type 0
IsAboveLast ids id = IfSome (slice_get ids (length ids - 1)) (λ last. last < id)

-- the ids of the values that satisfy the test, where the first value has the id `first`
abbrev pub matching_from : ℕ → Test → List Value → List ℕ
matching_from first test [] = []
matching_from first test (value ∷ values) = if holds value test then first
    ∷ matching_from (first + 1) test values else matching_from (first + 1) test values

-- the ids of the values that satisfy a test, ascending
abbrev pub matching : Test → List Value → List ℕ
matching test values = matching_from 0 test values

-- whether there is a value and the test holds of it
abbrev pub holds_at : (Value → Bool) → Option Value → Bool
holds_at test None = false
holds_at test (Some value) = test value

-- whether there is a value and it satisfies the test
abbrev pub satisfies : Test → Option Value → Bool
satisfies test = holds_at (λ value. holds value test)

-- the ids are those of the values of which the test holds
abbrev pub Picks : (Value → Bool) → List Value → List ℕ → Type 0
Picks test values = AreThose (λ id. holds_at test (slice_get values id))

-- whether an id is in a set, or, negated, below a count and not in it
abbrev pub negated_ids : Bool → ℕ → List ℕ → ℕ → Bool
negated_ids true count ids = is_outside count ids
negated_ids false count ids = has_id ids

-- ascending values are cut by a bound: those before `from` are less, those from `to` on are
-- greater, and one between, if there is one, is the bound
pub record Cuts (values : List Value) (bound : Value) (from to : ℕ) : Type 0 where
  pub order : from ≤ to
  pub once : to ≤ from + 1
  pub within : to ≤ length values
  pub less : (id : ℕ) (d : Value) → id < from → value_order (get_or values id d) bound ≡ Less
  pub equal : (id : ℕ) (d : Value) → from ≤ id → id < to → value_order (get_or values id d) bound
      ≡ Equal
  pub greater : (id : ℕ) (d : Value) → to ≤ id → id < length values
      → value_order (get_or values id d) bound ≡ Greater
