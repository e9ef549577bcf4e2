-- What is asked of the rows that hold.
use Rattle.std.specs.Prelude.{ℕ, List, Option}
use Rattle.table_schema.specs.declared.query.Agg.{Agg}
use Rattle.table_schema.specs.declared.query.Having.{Having}
use Rattle.table_schema.specs.declared.query.Item.{Item}
use Rattle.table_schema.specs.declared.query.OrderKey.{OrderKey}
use Rattle.table_schema.specs.declared.query.BoundQuery.{BoundQuery}

-- by which columns rows are grouped, which aggregates are made of a group, what is written of a
-- group and under which labels, by what the groups are ordered, how many of them are passed over,
-- how many are written at most, and what is asked of a group that is written
pub record Shape : Type 0 where
  pub groups : List ℕ
  pub aggs : List Agg
  pub items : List Item
  pub labels : List (List ℕ)
  pub order : List OrderKey
  pub offset : ℕ
  pub limit : ℕ
  pub having : Option Having

-- a query without its filter
abbrev pub shape_of : BoundQuery → Shape
shape_of q = record {
  groups = q.groups;
  aggs = q.aggs;
  items = q.items;
  labels = q.labels;
  order = q.order;
  offset = q.offset;
  limit = q.limit;
  having = q.having;
}
