-- The reading of a query never ends for want of memory.
use Rattle.std.proofs.Common.{◌≡◌, ℕ, zero, suc, Bool, true, false, cond, not, ◌&&◌, List, [], ◌∷◌, ◌++◌, length, Option, Some, None, Result, Ok, Err, codes, refl}
use Rattle.std.specs.Str.{str_eq_ignore_ascii_case}
use Rattle.query_tokens.specs.declared.token.Kind.{Kind}
use Rattle.query_tokens.specs.declared.token.Kind.TheVariants as k
use Rattle.query_tokens.specs.declared.fault.QueryFault.{QueryFault}
use Rattle.query_tokens.specs.declared.fault.QueryFault.TheVariants.{At, NoMemory}
use Rattle.query_tokens.specs.declared.tree.NameAt.{NameAt}
use Rattle.query_tokens.specs.declared.tree.LiteralAt.{LiteralAt}
use Rattle.query_tokens.specs.declared.fault.Reason.TheVariants.{UnsupportedOption}
use Rattle.query_tokens.specs.declared.tree.Argument.TheVariants as argument
use Rattle.query_tokens.specs.declared.tree.Cond.TheVariants.{Compare}
use Rattle.query_tokens.specs.declared.tree.HavingCond.TheVariants as asked
use Rattle.query_tokens.specs.declared.tree.Term.{Term}
use Rattle.query_tokens.specs.declared.tree.Term.TheVariants as term
use Rattle.values.specs.declared.test.CompareOp.{CompareOp}
use Rattle.query_tokens.specs.declared.tree.Func.{Func}
use Rattle.query_tokens.specs.declared.tree.Query.{Query}
use Rattle.query_tokens.specs.Lex.{Bytes}
use Rattle.query_tokens.specs.Stream.{Stream, kind, number, tokens}
use Rattle.query_parser.specs.Reading.{Outcome, Parser, and_then, ◌>>=◌, ◌>>◌, ◌<$>◌, pure, refusal, refuse, too_deep, peek, take_token, sees, eat, expect, name, literal_by, literal, separated_from, separated}
use Rattle.query_parser.specs.Operators.{operator}
use Rattle.query_parser.specs.Cond as c
use Rattle.query_parser.specs.Query as q

-- what a rule of the grammar reads is no want of memory
abbrev Tells : {A : Type 0} → Parser A → Type 0
Tells {A} p = (ts : Stream) → p ts ≡ Err NoMemory → ⊥

-- ---- combinators

then_tells : {A B : Type 0} (o : Outcome A) (f : A → Parser B) → (o ≡ Err NoMemory → ⊥) → ((a : A) → Tells (f a)) → and_then o f ≡ Err NoMemory → ⊥
then_tells (Ok p) f own each e = each p.0 p.1 e
then_tells (Err (At reason at)) f own each e = absurd cc
then_tells (Err NoMemory) f own each e = own refl

bind : {A B : Type 0} (p : Parser A) (f : A → Parser B) → Tells p → ((a : A) → Tells (f a)) → Tells (p >>= f)
bind p f own each ts e = then_tells (p ts) f (own ts) each e

pure_tells : {A : Type 0} (a : A) → Tells (pure a)
pure_tells a ts e = absurd cc

refuse_tells : {A : Type 0} → Tells (refuse {A = A})
unfolding refusal
refuse_tells ts e = absurd cc

deep_tells : {A : Type 0} → Tells (too_deep {A = A})
deep_tells ts e = absurd cc

peek_tells : Tells peek
peek_tells ts e = absurd cc

take_tells : Tells take_token
take_tells ts e = absurd cc

eat_tells : (kd : Kind) → Tells (eat kd)
eat_tells kd ts e = absurd cc

chosen : {A : Type 0} (b : Bool) (o u : Result A QueryFault) → (o ≡ Err NoMemory → ⊥) → (u ≡ Err NoMemory → ⊥) → cond b o u ≡ Err NoMemory → ⊥
chosen true o u here there e = here e
chosen false o u here there e = there e

either : {A : Type 0} (b : Bool) (p r : Parser A) → Tells p → Tells r → Tells (cond b p r)
either true p r here there = here
either false p r here there = there

expect_tells : (kd : Kind) → Tells (expect kd)
unfolding expect
expect_tells kd ts e = chosen (sees kd ts) _ _ (λ e. absurd cc) (refuse_tells ts) e

name_tells : Tells name
unfolding name
name_tells ts e = chosen (sees k.Name ts) _ _ (λ e. absurd cc) (refuse_tells ts) e

literal_by_tells : (kd : Kind) → Tells (literal_by kd)
literal_by_tells k.Number = λ ts e. absurd cc
literal_by_tells k.Text = λ ts e. absurd cc
literal_by_tells _ = refuse_tells

literal_tells : Tells literal
unfolding literal
literal_tells = bind peek _ peek_tells literal_by_tells

from_tells : {A : Type 0} (sep : Kind) (item : Parser A) (n : ℕ) (found : List A) → Tells item → Tells (separated_from sep item n found)
unfolding separated_from
from_tells sep item zero found own = refuse_tells
from_tells sep item (suc n) found own =
    bind item _ own (λ x. bind (eat sep) _ (eat_tells sep) (λ more. either more (separated_from sep item n (found ++ x ∷ [])) (pure (found ++ x ∷ [])) (from_tells sep item n (found ++ x ∷ []) own) (pure_tells _)))

separated_tells : {A : Type 0} (sep : Kind) (item : Parser A) → Tells item → Tells (separated sep item)
separated_tells sep item own ts e = from_tells sep item (suc (length ts)) [] own ts e

-- ---- conditions

one_of_tells : (column : NameAt) (negated : Bool) → Tells (c.one_of column negated)
unfolding c.one_of
one_of_tells column negated =
    bind (expect k.LParen) _ (expect_tells k.LParen) (λ _. bind (separated k.Comma literal) _ (separated_tells k.Comma literal literal_tells) (λ values. bind (expect k.RParen) _ (expect_tells k.RParen) (λ _. pure_tells _)))

between_tells : (column : NameAt) (negated : Bool) → Tells (c.between column negated)
unfolding c.between
between_tells column negated =
    bind literal _ literal_tells (λ low. bind (expect k.And) _ (expect_tells k.And) (λ _. bind literal _ literal_tells (λ high. pure_tells _)))

negated_by_tells : (column : NameAt) (kd : Kind) → Tells (c.negated_by column kd)
negated_by_tells column k.In = bind take_token _ take_tells (λ _. one_of_tells column true)
negated_by_tells column k.Between = bind take_token _ take_tells (λ _. between_tells column true)
negated_by_tells column _ = refuse_tells

compared_tells : (column : NameAt) (op : Option CompareOp) → Tells (c.compared column op)
compared_tells column (Some op) = bind take_token _ take_tells (λ _. bind literal _ literal_tells (λ l. pure_tells (Compare column op l)))
compared_tells column None = refuse_tells

test_tells : (column : NameAt) (kd : Kind) → Tells (c.test_by column kd)
test_tells column k.In = bind take_token _ take_tells (λ _. one_of_tells column false)
test_tells column k.Between = bind take_token _ take_tells (λ _. between_tells column false)
test_tells column k.Not = bind take_token _ take_tells (λ _. bind peek _ peek_tells (negated_by_tells column))
test_tells column kind = compared_tells column (operator kind)

predicate_tells : Tells c.predicate
unfolding c.predicate
predicate_tells = bind name _ name_tells (λ column. bind peek _ peek_tells (test_tells column))

conjunction_tells : {C : Type 0} (j : c.Joints C) (factor : Parser C) → Tells factor → Tells (c.conjunction j factor)
unfolding c.conjunction
conjunction_tells j factor own = bind (separated k.And factor) _ (separated_tells k.And factor own) (λ cs. pure_tells _)

cond_tells : {C : Type 0} (j : c.Joints C) (factor : Parser C) → Tells factor → Tells (c.cond j factor)
unfolding c.cond
cond_tells j factor own = bind (separated k.Or (c.conjunction j factor)) _ (separated_tells k.Or (c.conjunction j factor) (conjunction_tells j factor own)) (λ cs. pure_tells _)

module _ {C : Type 0} (leaf : Parser C) (j : c.Joints C) (leaf_tells : Tells leaf) where
  by_kind : (negated grouped : Parser C) (kd : Kind) → Tells negated → Tells grouped → Tells (c.factor_by leaf j negated grouped kd)
  by_kind negated grouped k.Not n g = n
  by_kind negated grouped k.LParen n g = g
  by_kind negated grouped k.Name n g = leaf_tells
  by_kind negated grouped _ n g = refuse_tells

  negation_tells : (factor : Parser C) → Tells factor → Tells (c.negation leaf j factor)
  negation_tells factor own = bind take_token _ take_tells (λ _. bind factor _ own (λ inner. pure_tells (j.not_of inner)))

  grouped_tells : (factor : Parser C) → Tells factor → Tells (c.in_parentheses leaf j factor)
  grouped_tells factor own =
      bind take_token _ take_tells (λ _. bind (c.cond j factor) _ (cond_tells j factor own) (λ inner. bind (expect k.RParen) _ (expect_tells k.RParen) (λ _. pure_tells inner)))

  factor_tells : (depth : ℕ) → Tells (c.factor leaf j depth)
  unfolding c.factor
  factor_tells zero = bind peek _ peek_tells (λ kd. by_kind too_deep too_deep kd deep_tells deep_tells)
  factor_tells (suc depth) =
      let own = factor_tells depth in
      bind peek _ peek_tells (λ kd. by_kind (c.negation leaf j (c.factor leaf j depth)) (c.in_parentheses leaf j (c.factor leaf j depth)) kd (negation_tells (c.factor leaf j depth) own) (grouped_tells (c.factor leaf j depth) own))

condition_tells : Tells c.condition
unfolding c.condition
condition_tells = cond_tells c.row_joints (c.factor c.predicate c.row_joints c.deepest) (factor_tells c.predicate c.row_joints predicate_tells c.deepest)

-- ---- terms

star_tells : (b : Bool) → Tells (cond b (take_token >> pure argument.Star) q.bad_star)
star_tells true = bind take_token _ take_tells (λ _. pure_tells argument.Star)
star_tells false = λ ts e. absurd cc

argument_tells : (f : Func) (kd : Kind) → Tells (q.argument_by f kd)
argument_tells f k.Star = star_tells (q.is_count f)
argument_tells f k.Name = bind name _ name_tells (λ n. pure_tells (argument.Column n))
argument_tells f _ = refuse_tells

own_argument : (f : Func) → Tells (q.argument_of f)
unfolding q.argument_of
own_argument f = bind peek _ peek_tells (argument_tells f)

call_tells : (at : ℕ) (f : Option Func) → Tells (q.call_of at f)
call_tells at None = λ ts e. absurd cc
call_tells at (Some f) = bind take_token _ take_tells (λ _. bind (q.argument_of f) _ (own_argument f) (λ a. bind (expect k.RParen) _ (expect_tells k.RParen) (λ _. pure_tells (term.Call (record { func = f; argument = a; offset = at })))))

following_tells : (n : NameAt) → Tells (q.following_name n)
following_tells n ts e = chosen (sees k.LParen ts) _ _ (call_tells n.offset (q.func_of n.name) ts) (λ e. absurd cc) e

term_tells : Tells q.term_of
unfolding q.term_of
term_tells = bind name _ name_tells following_tells

asked_tells : (t : Term) (op : Option CompareOp) → Tells (q.having_compared t op)
asked_tells t (Some op) = bind take_token _ take_tells (λ _. bind literal _ literal_tells (λ l. pure_tells (asked.Compare t op l)))
asked_tells t None = refuse_tells

group_test_tells : Tells q.having_test
unfolding q.having_test
group_test_tells = bind q.term_of _ term_tells (λ t. bind peek _ peek_tells (λ kd. asked_tells t (operator kd)))

having_tells : Tells q.having
unfolding q.having
having_tells = cond_tells q.group_joints (c.factor q.having_test q.group_joints c.deepest) (factor_tells q.having_test q.group_joints group_test_tells c.deepest)

some_tells : {A : Type 0} (p : Parser A) (b : Bool) → Tells p → Tells (cond b (Some <$> p) (pure None))
some_tells p true own = bind p _ own (λ a. pure_tells (Some a))
some_tells p false own = pure_tells None

optional_tells : {A : Type 0} (kd : Kind) (p : Parser A) → Tells p → Tells (q.optional kd p)
optional_tells kd p own = bind (eat kd) _ (eat_tells kd) (λ found. some_tells p found own)

listed_tells : {A : Type 0} (kd : Kind) (p : Parser (List A)) → Tells p → Tells (q.listed kd p)
listed_tells kd p own = bind (eat kd) _ (eat_tells kd) (λ found. either found p (pure []) own (pure_tells []))

label_tells : Tells q.label
unfolding q.label
label_tells = optional_tells k.As name name_tells

item_tells : Tells q.item
unfolding q.item
item_tells = bind q.term_of _ term_tells (λ t. bind q.label _ label_tells (λ l. pure_tells (record { term = t; label = l })))

direction_tells : (kd : Kind) → Tells (q.direction_by kd)
direction_tells k.Asc = bind take_token _ take_tells (λ _. pure_tells false)
direction_tells k.Desc = bind take_token _ take_tells (λ _. pure_tells true)
direction_tells _ = pure_tells false

own_direction : Tells q.direction
unfolding q.direction
own_direction = bind peek _ peek_tells direction_tells

key_tells : Tells q.key
unfolding q.key
key_tells = bind q.term_of _ term_tells (λ t. bind q.direction _ own_direction (λ d. pure_tells (record { term = t; descending = d })))

-- ---- options

checked_tells : (r : Result Bool QueryFault) → (r ≡ Err NoMemory → ⊥) → Tells (q.checked r)
checked_tells (Ok b) own = pure_tells b
checked_tells (Err (At reason at)) own = λ ts e. absurd cc
checked_tells (Err NoMemory) own = λ ts e. own refl

abbrev option_or : (unsupported named value use_tree : Bool) (at : ℕ) → Result Bool QueryFault
option_or unsupported named value use_tree at = cond unsupported (Err (At UnsupportedOption at)) (cond named (Ok value) (Ok use_tree))

set_by : (unsupported named value use_tree : Bool) (at : ℕ) → option_or unsupported named value use_tree at ≡ Err NoMemory → ⊥
set_by true named value use_tree at e = absurd cc
set_by false true value use_tree at e = absurd cc
set_by false false value use_tree at e = absurd cc

set_tells : (n : NameAt) (value : Bytes) (use_tree : Bool) → q.set_option n value use_tree ≡ Err NoMemory → ⊥
unfolding q.set_option
set_tells n value use_tree e =
    set_by (str_eq_ignore_ascii_case n.name (codes "enableNullHandling") && not (str_eq_ignore_ascii_case value (codes "false"))) (str_eq_ignore_ascii_case n.name (codes "useStarTree")) (not (str_eq_ignore_ascii_case value (codes "false"))) use_tree n.offset e

value_tells : Tells q.option_value
unfolding q.option_value
value_tells ts e = chosen (q.is_value (kind ts)) _ _ (λ e. absurd cc) (refuse_tells ts) e

option_tells : (use_tree : Bool) → Tells (q.option use_tree)
unfolding q.option
option_tells use_tree =
    bind (expect k.Set) _ (expect_tells k.Set) (λ _. bind name _ name_tells (λ n. bind (expect k.Eq) _ (expect_tells k.Eq) (λ _. bind q.option_value _ value_tells (λ value.
    bind (q.checked (q.set_option n value use_tree)) _ (checked_tells (q.set_option n value use_tree) (set_tells n value use_tree)) (λ after. bind (expect k.Semi) _ (expect_tells k.Semi) (λ _. pure_tells after))))))

options_tells : (n : ℕ) (use_tree : Bool) → Tells (q.options_from n use_tree)
unfolding q.options_from
options_tells zero use_tree = refuse_tells
options_tells (suc n) use_tree = λ ts e. chosen (sees k.Set ts) _ _ (bind (q.option use_tree) (q.options_from n) (option_tells use_tree) (options_tells n) ts) (λ e. absurd cc) e

-- ---- the end of a query

count_tells : Tells q.count
unfolding q.count
count_tells ts e = chosen (sees k.Number ts && q.is_natural (number ts)) _ _ (λ e. absurd cc) (refuse_tells ts) e

limits_by : (found : Bool) → Tells (cond {A = Parser (Option LiteralAt × Option LiteralAt)} found (do l ← q.count; o ← q.optional k.Offset q.count; pure (Some l, o)) (pure (None, None)))
limits_by true = bind q.count _ count_tells (λ l. bind (q.optional k.Offset q.count) _ (optional_tells k.Offset q.count count_tells) (λ o. pure_tells (Some l, o)))
limits_by false = pure_tells (None, None)

limits_tells : Tells q.limits
unfolding q.limits
limits_tells = bind (eat k.Limit) _ (eat_tells k.Limit) limits_by

ending_tells : Tells q.ending
unfolding q.ending
ending_tells = bind (eat k.Semi) _ (eat_tells k.Semi) (λ _. expect_tells k.End)

closing_tells : Tells q.closing
unfolding q.closing
closing_tells = bind q.limits _ limits_tells (λ limit. bind q.ending _ ending_tells (λ _. pure_tells limit))

listed_by : {A : Type 0} (p : Parser A) → Tells p → Tells (expect k.By >> separated k.Comma p)
listed_by p own = bind (expect k.By) _ (expect_tells k.By) (λ _. separated_tells k.Comma p own)

condition_if_tells : Tells q.condition_if
unfolding q.condition_if
condition_if_tells = optional_tells k.Where c.condition condition_tells

groups_tells : Tells q.groups
unfolding q.groups
groups_tells = listed_tells k.Group (expect k.By >> separated k.Comma name) (listed_by name name_tells)

having_if_tells : (gs : List NameAt) → Tells (q.having_if gs)
unfolding q.having_if
having_if_tells [] = pure_tells None
having_if_tells (g ∷ gs) = optional_tells k.Having q.having having_tells

order_tells : Tells q.order
unfolding q.order
order_tells = listed_tells k.Order (expect k.By >> separated k.Comma q.key) (listed_by q.key key_tells)

query_tells : Tells q.query
unfolding q.query
query_tells =
    bind q.options _ (λ ts e. options_tells (suc (length ts)) true ts e) (λ use_tree. bind q.here _ (λ ts e. absurd cc) (λ select. bind (expect k.Select) _ (expect_tells k.Select) (λ _.
    bind (separated k.Comma q.item) _ (separated_tells k.Comma q.item item_tells) (λ items. bind (expect k.From) _ (expect_tells k.From) (λ _. bind name _ name_tells (λ table.
    bind q.condition_if _ condition_if_tells (λ condition. bind q.groups _ groups_tells (λ group. bind (q.having_if group) _ (having_if_tells group) (λ having.
    bind q.order _ order_tells (λ keys. bind q.closing _ closing_tells (λ limit.
    pure_tells (record { use_tree = use_tree; select = select; items = items; table = table; condition = condition; groups = group; having = having; order = keys; limit = limit.0; offset = limit.1 }))))))))))))

tree_tells : (o : Outcome Query) → (o ≡ Err NoMemory → ⊥) → q.tree_or_fault o ≡ Err NoMemory → ⊥
tree_tells (Ok p) own e = absurd cc
tree_tells (Err (At reason at)) own e = absurd cc
tree_tells (Err NoMemory) own e = own refl

-- a text is a query, or it has a fault with its place
pub parsed_tells : (text : Bytes) → q.parsed text ≡ Err NoMemory → ⊥
unfolding q.parsed
parsed_tells text e = tree_tells (q.query (tokens text)) (query_tells (tokens text)) e
