-- Parts of a query and of an option, for the functions that read them.
use Rattle.std.specs.Prelude.{Bool}
use Rattle.query_parser.specs.declared.query.Selected.{Selected}
use Rattle.query_parser.specs.declared.query.Shaped.{Shaped}
use Rattle.query_tokens.specs.declared.token.Kind.TheVariants as k
use Rattle.query_tokens.specs.declared.tree.NameAt.{NameAt}
use Rattle.query_tokens.specs.declared.tree.Query.{Query}
use Rattle.query_parser.specs.Reading.{Parser, ◌>>=◌, ◌>>◌, pure, expect, name, separated}
use Rattle.query_parser.specs.Query.{here, item, option_value, checked, set_option, options, condition_if, groups, having_if, order, closing}

-- from the value of an option on
unfoldable pub valued : Bool → NameAt → Parser Bool
valued use_tree n = do
  value ← option_value
  after ← checked (set_option n value use_tree)
  expect k.Semi
  pure after

-- SELECT and FROM
unfoldable pub selection : Parser Selected
selection = do
  select ← here
  expect k.Select
  items ← separated k.Comma item
  expect k.From
  table ← name
  pure (record { select = select; items = items; table = table })

-- what follows the condition, up to the end
unfoldable pub shape : Parser Shaped
shape = do
  group ← groups
  having ← having_if group
  keys ← order
  limit ← closing
  pure (record {
    groups = group;
    having = having;
    order = keys;
    limit = limit.0;
    offset = limit.1;
  })

-- a whole query by these parts
unfoldable pub query : Parser Query
query = do
  use_tree ← options
  s ← selection
  cond ← condition_if
  e ← shape
  pure (record {
    use_tree = use_tree;
    select = s.select;
    items = s.items;
    table = s.table;
    condition = cond;
    groups = e.groups;
    having = e.having;
    order = e.order;
    limit = e.limit;
    offset = e.offset;
  })
