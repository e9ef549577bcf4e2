-- How conditions are read.
use Rattle.std.specs.Prelude.{ℕ, zero, suc, Bool, true, false, List, [], ◌∷◌, Option, Some, None}
use Rattle.query_tokens.specs.declared.token.Kind.{Kind}
use Rattle.query_tokens.specs.declared.token.Kind.TheVariants as k
use Rattle.values.specs.declared.test.CompareOp.{CompareOp}
use Rattle.query_tokens.specs.declared.tree.NameAt.{NameAt}
use Rattle.query_tokens.specs.declared.tree.Cond.{Cond}
use Rattle.query_tokens.specs.declared.tree.Cond.TheVariants.{Compare, OneOf, Between, Not, All, Any}
use Rattle.query_parser.specs.Operators.{operator}
use Rattle.query_parser.specs.Reading.{Parser, ◌>>=◌, ◌>>◌, ◌<$>◌, pure, refuse, too_deep, peek, take_token, expect, name, literal, separated}

-- after IN
unfoldable pub one_of : NameAt → Bool → Parser Cond
one_of column negated = do
  expect k.LParen
  values ← separated k.Comma literal
  expect k.RParen
  pure (OneOf column values negated)

-- after BETWEEN
unfoldable pub between : NameAt → Bool → Parser Cond
between column negated = do
  low ← literal
  expect k.And
  high ← literal
  pure (Between column low high negated)

-- after a name and NOT
abbrev pub negated_by : NameAt → Kind → Parser Cond
negated_by column k.In = take_token >> one_of column true
negated_by column k.Between = take_token >> between column true
negated_by column _ = refuse

-- the same, by the token there
abbrev pub negated : NameAt → Parser Cond
negated column = peek >>= negated_by column

-- after a name, at the sign
abbrev pub compared : NameAt → Option CompareOp → Parser Cond
compared column (Some op) = take_token >> Compare column op <$> literal
compared column None = refuse

-- after a name
abbrev pub test_by : NameAt → Kind → Parser Cond
test_by column k.In = take_token >> one_of column false
test_by column k.Between = take_token >> between column false
test_by column k.Not = take_token >> negated column
test_by column kind = compared column (operator kind)

-- a test of one column
unfoldable pub predicate : Parser Cond
predicate = do
  column ← name
  kind ← peek
  test_by column kind

-- two or more members, or the one alone
abbrev pub joined : {C : Type 0} → (List C → C) → List C → C
joined f [] = f []
joined f (c ∷ []) = c
joined f (c ∷ d ∷ cs) = f (c ∷ d ∷ cs)

-- how conditions are put together from tests of some sort
pub record Joints (C : Type 0) : Type 0 where
  pub not_of : C → C
  pub all_of : List C → C
  pub any_of : List C → C

-- factors with AND between
unfoldable pub conjunction : {C : Type 0} → Joints C → Parser C → Parser C
conjunction j factor = joined j.all_of <$> separated k.And factor

-- those with OR between
unfoldable pub cond : {C : Type 0} → Joints C → Parser C → Parser C
cond j factor = joined j.any_of <$> separated k.Or (conjunction j factor)

-- The rules of a condition, for any sort of test that begins with a name.
module _ {C : Type 0} (leaf : Parser C) (j : Joints C) where
  -- by the first token: NOT, a parenthesis or a test
  abbrev pub factor_by : Parser C → Parser C → Kind → Parser C
  factor_by negated grouped k.Not = negated
  factor_by negated grouped k.LParen = grouped
  factor_by negated grouped k.Name = leaf
  factor_by negated grouped _ = refuse

  -- at NOT, which reaches over one factor
  abbrev pub negation : Parser C → Parser C
  negation factor = take_token >> j.not_of <$> factor

  -- at a parenthesis, which is open until the one that closes it
  abbrev pub in_parentheses : Parser C → Parser C
  in_parentheses factor = do
    take_token
    inner ← cond j factor
    expect k.RParen
    pure inner

  -- The number says how many more parentheses and NOTs may be open.
  unfoldable pub factor : ℕ → Parser C
  factor zero = peek >>= factor_by too_deep too_deep
  factor (suc depth) = peek >>= factor_by (negation (factor depth)) (in_parentheses (factor depth))

-- conditions on a row
abbrev pub row_joints : Joints Cond
row_joints = record { not_of = Not; all_of = All; any_of = Any }

-- the most parentheses and NOTs that may be open at once
abbrev pub deepest : ℕ
deepest = 64

-- what follows WHERE
unfoldable pub condition : Parser Cond
condition = cond row_joints (factor predicate row_joints deepest)
