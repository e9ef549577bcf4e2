-- The order of the groups in an answer.
use Rattle.std.specs.Prelude.{ℕ, Bool, List, [], ◌∷◌, slice_index_or, if◌then◌else◌}
use Rattle.std.specs.declared.cmp.Ordering.{Ordering}
use Rattle.std.specs.Ordering.{ordering_reverse, ordering_then}
use Rattle.std.specs.FinMap.Entries.{by_order}
use Rattle.values.specs.Order.{value_order}
use Rattle.agg_laws.specs.declared.states.AggState.{AggState}
use Rattle.agg_laws.specs.declared.states.AggState.TheVariants.{Count}
use Rattle.agg_laws.specs.Order.{state_order}
use Rattle.table_schema.specs.Conditions.{cell}
use Rattle.table_schema.specs.declared.query.Item.{Item}
use Rattle.table_schema.specs.declared.query.Item.TheVariants as item
use Rattle.table_schema.specs.declared.query.OrderKey.{OrderKey}
use Rattle.group_table.specs.Groups.{Group, key_order}

-- an aggregate of a group, by its place
abbrev pub state_in : Group → ℕ → AggState
state_in group place = slice_index_or group.1 place (Count 0)

-- by a value of the key, or by an aggregate, of which averages are compared as fractions
abbrev pub item_order : Item → Group → Group → Ordering
item_order (item.Group place) a b = value_order (cell a.0 place) (cell b.0 place)
item_order (item.Agg place) a b = state_order (state_in a place) (state_in b place)

-- the least first, or the greatest
abbrev pub directed : Bool → Ordering → Ordering
directed descending order = if descending then ordering_reverse order else order

-- by what is asked, one after the other, and then by the key, the least first
abbrev pub group_order : List OrderKey → Group → Group → Ordering
group_order [] a b = key_order a.0 b.0
group_order (k ∷ ks) a b =
    ordering_then (directed k.descending (item_order k.item a b)) (group_order ks a b)

-- a group put in its place among groups in order
abbrev pub put_in : List OrderKey → Group → List Group → List Group
put_in order group [] = group ∷ []
put_in order group (first ∷ others) = by_order (group_order order group first)
    (group ∷ first ∷ others) (group ∷ first ∷ others) (first ∷ put_in order group others)

-- groups in order
abbrev pub in_order : List OrderKey → List Group → List Group
in_order order [] = []
in_order order (group ∷ groups) = put_in order group (in_order order groups)
