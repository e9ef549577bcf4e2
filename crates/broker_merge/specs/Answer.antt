-- The answer of a query: its columns, and of each group that is written a cell a column.
use Rattle.std.specs.Prelude.{◌≡◌, ℕ, ◌<◌, ◌≤◌, nat_lt, ℤ, pos, true, List, ◌++◌, codes, map, flat_map, take, drop}
use Rattle.std.specs.Prelude.{length, Option, Some, None}
use Rattle.std.specs.List.{All, list_all}
use Rattle.std.specs.Fmt.{decimal, signed_decimal}
use Rattle.std.specs.FinMap as finite
use Rattle.csv.specs.Writing.{default_writer, row_text}
use Rattle.values.specs.Printed as value
use Rattle.agg_laws.specs.declared.states.AggState.{AggState}
use Rattle.agg_laws.specs.declared.states.AggState.TheVariants.{Count, Sum, Least, Greatest}
use Rattle.agg_laws.specs.declared.states.AggState.TheVariants.{Average}
use Rattle.table_schema.specs.Conditions.{cell}
use Rattle.table_schema.specs.declared.query.Item.{Item}
use Rattle.table_schema.specs.declared.query.Item.TheVariants as item
use Rattle.table_schema.specs.declared.query.BoundQuery.{BoundQuery}
use Rattle.table_schema.specs.ValidQuery.{is_item, having_places, if_asked}
use Rattle.group_table.specs.Shape.{Shape}
use Rattle.group_table.specs.Groups.{Group, Groups}
use Rattle.broker_merge.specs.Having.{asked_groups}
use Rattle.broker_merge.specs.Order.{in_order, state_in}
use Rattle.broker_merge.specs.declared.answer.Answer.{Answer}
use Rattle.broker_merge.specs.declared.answer.Cell.{Cell}
use Rattle.broker_merge.specs.declared.answer.Cell.TheVariants as cells

-- the least or greatest of some numbers, or of none
abbrev pub number_cell : Option ℤ → Cell
number_cell None = cells.Null
number_cell (Some number) = cells.Whole number

-- what is written of an aggregate
abbrev pub state_cell : AggState → Cell
state_cell (Count count) = cells.Whole (pos count)
state_cell (Sum sum) = cells.Whole sum
state_cell (Least least) = number_cell least
state_cell (Greatest greatest) = number_cell greatest
state_cell (Average average) = cells.Fraction average.sum average.count

-- what is written of a group in a column
abbrev pub item_cell : Group → Item → Cell
item_cell group (item.Group place) = cells.Kept (cell group.0 place)
item_cell group (item.Agg place) = state_cell (state_in group place)

-- the groups that are written: of those that satisfy HAVING, in order, the first `offset` passed
-- over, `limit` at most
abbrev pub written_of : Shape → Groups → List Group
written_of shape groups =
    take shape.limit (drop shape.offset
    (in_order shape.order (asked_groups shape.having (finite.entries groups))))

-- the answer over these groups
abbrev pub answer_of : Shape → Groups → Answer
answer_of shape groups = record {
  labels = shape.labels;
  rows = map (λ group. map (item_cell group) shape.items) (written_of shape groups);
}

-- the text of a cell: an average is its sum and its count, and no number is null
abbrev pub cell_text : Cell → List ℕ
cell_text (cells.Kept value') = value.text_of value'
cell_text (cells.Whole number) = signed_decimal number
cell_text (cells.Fraction sum count) = signed_decimal sum ++ (codes "/" ++ decimal count)
cell_text cells.Null = codes "null"

-- the CSV text of an answer: a record of labels, and one for each row
abbrev pub answer_text : Answer → List ℕ
answer_text answer = row_text default_writer answer.labels
    ++ flat_map (λ row. row_text default_writer (map cell_text row)) answer.rows

-- an answer that can be written: of a column at least, and in each row of a cell a column
pub record IsWhole (answer : Answer) : Type 0 where
  pub some : 0 < length answer.labels
  pub each : All (λ row. length row ≡ length answer.labels) answer.rows

-- what a query asks for, asks of groups and orders by are of its group columns and its aggregates
pub record NamesPlaces (query : BoundQuery) : Type 0 where
  pub items : list_all (is_item query) query.items ≡ true
  pub keys : list_all (λ key. is_item query key.item) query.order ≡ true
  pub at_most : length query.order ≤ 16
  pub grouped : if_asked (λ having. nat_lt 0 (length query.groups)) query.having ≡ true
  pub asked : if_asked (having_places query.groups query.aggs) query.having ≡ true
