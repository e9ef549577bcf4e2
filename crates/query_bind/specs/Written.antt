-- The condition of a query as it is written, and which rows satisfy it.
use Rattle.std.specs.Prelude.{ℕ, Bool, true, false, not, ◌&&◌, ◌||◌, List, [], ◌∷◌, map, Option, Some, None, unwrap_or}
use Rattle.values.specs.declared.value.Value.{Value}
use Rattle.values.specs.declared.test.CompareOp.{CompareOp}
use Rattle.values.specs.Order.{value_order}
use Rattle.values.specs.Tests.{op_holds, negated_if, is_member, is_between}
use Rattle.table_schema.specs.declared.field.Field.{Field}
use Rattle.table_schema.specs.Columns.{number_of}
use Rattle.table_schema.specs.Conditions.{cell}
use Rattle.query_tokens.specs.declared.tree.NameAt.{NameAt}
use Rattle.query_tokens.specs.declared.tree.LiteralAt.{LiteralAt}
use Rattle.query_tokens.specs.declared.tree.Cond.{Cond}
use Rattle.query_tokens.specs.declared.tree.Cond.TheOpen.{Cond-F}
use Rattle.query_tokens.specs.declared.tree.Cond.TheFolds.{fold-Cond}

-- A condition with numbers of fields in place of names. The `Bool` says negated.
mutual
  pub data Written : Type 0 where
    Compare : ℕ → CompareOp → Value → Written
    OneOf : ℕ → List Value → Bool → Written
    Between : ℕ → Value → Value → Bool → Written
    Not : Written → Written
    All : Members → Written
    Any : Members → Written

  -- the members of one AND or OR
  pub data Members : Type 0 where
    no_members : Members
    member : Written → Members → Members

-- ---- which rows satisfy it

abbrev mutual
  pub holds : List Value → Written → Bool
  holds row (Compare field op bound) = op_holds op (value_order (cell row field) bound)
  holds row (OneOf field values negated) = negated_if negated (is_member values (cell row field))
  holds row (Between field low high negated) = negated_if negated
      (is_between low (cell row field) high)
  holds row (Not inner) = not (holds row inner)
  holds row (All inner) = each_holds row inner
  holds row (Any inner) = some_holds row inner

  pub each_holds : List Value → Members → Bool
  each_holds row no_members = true
  each_holds row (member w ws) = holds row w && each_holds row ws

  pub some_holds : List Value → Members → Bool
  some_holds row no_members = false
  some_holds row (member w ws) = holds row w || some_holds row ws

-- every row satisfies a query without WHERE
abbrev pub where_holds : List Value → Option Written → Bool
where_holds row None = true
where_holds row (Some w) = holds row w

-- ---- the condition that a query's text has

-- the number of the field that a name is, where it is one
abbrev pub field_number : List Field → NameAt → ℕ
field_number fields n = unwrap_or (number_of fields n.name) 0

-- the value of a literal
abbrev pub value_in : LiteralAt → Value
value_in l = l.value

-- a list of conditions as the members of one AND or OR
abbrev pub members_of : List Written → Members
members_of [] = no_members
members_of (w ∷ ws) = member w (members_of ws)

-- one condition, with each inner one in its place
abbrev pub written_step : List Field → Cond-F Written → Written
written_step fields (Cond-F.Compare n op l) = Compare (field_number fields n) op l.value
written_step fields (Cond-F.OneOf n ls negated) = OneOf (field_number fields n)
    (map value_in ls) negated
written_step fields (Cond-F.Between n low high negated) = Between
    (field_number fields n) low.value high.value negated
written_step fields (Cond-F.Not inner) = Not inner
written_step fields (Cond-F.All inner) = All (members_of inner)
written_step fields (Cond-F.Any inner) = Any (members_of inner)

-- a condition over these fields, as written; it is so where each name is that of a field
abbrev pub written : List Field → Cond → Written
written fields = fold-Cond Written (written_step fields)

-- the condition of a query as it is written, over numbers of fields
abbrev pub where_written : List Field → Option Cond → Option Written
where_written fields None = None
where_written fields (Some c) = Some (written fields c)
