-- Which tokens spell a query: the rules of the grammar.
use Rattle.std.specs.Prelude.{◌≡◌, ◌⊎◌, Bool, true, false, List, [], ◌∷◌, Option, Some, None, Ok}
use Rattle.query_tokens.specs.declared.token.Kind.{Kind}
use Rattle.query_tokens.specs.declared.token.Kind.TheVariants as k
use Rattle.query_tokens.specs.declared.tree.NameAt.{NameAt}
use Rattle.query_tokens.specs.declared.tree.LiteralAt.{LiteralAt}
use Rattle.values.specs.declared.value.Value.TheVariants.{Whole}
use Rattle.query_tokens.specs.declared.tree.Func.{Func}
use Rattle.query_tokens.specs.declared.tree.Argument.{Argument}
use Rattle.query_tokens.specs.declared.tree.Argument.TheVariants as argument
use Rattle.query_tokens.specs.declared.tree.Term.{Term}
use Rattle.query_tokens.specs.declared.tree.Term.TheVariants as term
use Rattle.query_tokens.specs.declared.tree.HavingCond.{HavingCond}
use Rattle.query_tokens.specs.declared.tree.HavingCond.TheVariants.{Compare}
use Rattle.values.specs.declared.test.CompareOp.{CompareOp}
use Rattle.query_tokens.specs.declared.tree.QueryItem.{QueryItem}
use Rattle.query_tokens.specs.declared.tree.QueryKey.{QueryKey}
use Rattle.query_tokens.specs.declared.tree.Query.{Query}
use Rattle.query_tokens.specs.Lex.{Bytes}
use Rattle.query_tokens.specs.Stream.{Lexeme, Stream, kind, tokens}
use Rattle.query_parser.specs.Operators.{operator}
use Rattle.query_parser.specs.Cond.{deepest}
use Rattle.query_parser.specs.Query.{func_of, is_count, is_natural, is_value, set_option, group_joints, query}
use Rattle.query_parser.specs.Spells.{Rule, IsToken, Skips, SpellsName, SpellsLiteral, SpellsList, SpellsCond, SpellsFactor, SpellsCondition}

-- `*` for COUNT, or a column
abbrev pub SpellsArgument : Func → Rule Argument
SpellsArgument f ts a us = (Skips k.Star ts us × (is_count f ≡ true) × (a ≡ argument.Star))
    ⊎ ((n : NameAt) × SpellsName ts n us × (a ≡ argument.Column n))

-- the name of a function, and its argument in parentheses
pub record SpellsCall (ts : Stream) (x : Term) (us : Stream) : Type 0 where
  pub name : NameAt
  pub func : Func
  pub argument : Argument
  pub at_open : Stream
  pub inside : Stream
  pub at_close : Stream
  pub spells_name : SpellsName ts name at_open
  pub known : func_of name.name ≡ Some func
  pub opens : Skips k.LParen at_open inside
  pub spells_argument : SpellsArgument func inside argument at_close
  pub closes : Skips k.RParen at_close us
  pub tree : x ≡ term.Call (record { func = func; argument = argument; offset = name.offset })

-- a column or a call
abbrev pub SpellsTerm : Rule Term
SpellsTerm ts x us = ((n : NameAt) × SpellsName ts n us × (x ≡ term.Column n)) ⊎ SpellsCall ts x us

-- an optional word with what it brings
abbrev pub SpellsOptional : {A : Type 0} → Kind → Rule A → Rule (Option A)
SpellsOptional kd rule ts None us = us ≡ ts
SpellsOptional kd rule ts (Some a) us = (mid : Stream) × Skips kd ts mid × rule mid a us

-- an optional word with a list
abbrev pub SpellsListed : {A : Type 0} → Kind → Rule (List A) → Rule (List A)
SpellsListed kd rule ts [] us = us ≡ ts
SpellsListed kd rule ts (x ∷ xs) us = (mid : Stream) × Skips kd ts mid × rule mid (x ∷ xs) us

-- ---- conditions on a group

-- column or call, sign, literal
pub record SpellsGroupTest (ts : Stream) (c : HavingCond) (us : Stream) : Type 0 where
  pub tested : Term
  pub op : CompareOp
  pub value : LiteralAt
  pub sign : Lexeme
  pub rest : Stream
  pub spells_term : SpellsTerm ts tested (sign ∷ rest)
  pub is_op : operator sign.kind ≡ Some op
  pub spells_value : SpellsLiteral rest value us
  pub tree : c ≡ Compare tested op value

-- a condition on a group
abbrev pub SpellsHaving : Rule HavingCond
SpellsHaving = SpellsCond group_joints (SpellsFactor SpellsGroupTest group_joints deepest)

-- HAVING, which stands only behind the columns of GROUP BY
abbrev pub SpellsHavingIf : List NameAt → Rule (Option HavingCond)
SpellsHavingIf [] ts h us = (us ≡ ts) × (h ≡ None)
SpellsHavingIf (g ∷ gs) ts h us = SpellsOptional k.Having SpellsHaving ts h us

-- ---- items, keys and the end

-- an item of the select list
abbrev pub SpellsItem : Rule QueryItem
SpellsItem ts i us = (mid : Stream) × SpellsTerm ts i.term mid
    × SpellsOptional k.As SpellsName mid i.label us

-- ASC or nothing, or DESC
abbrev pub SpellsDirection : Rule Bool
SpellsDirection ts false us = (us ≡ ts) ⊎ Skips k.Asc ts us
SpellsDirection ts true us = Skips k.Desc ts us

-- a key of ORDER BY
abbrev pub SpellsKey : Rule QueryKey
SpellsKey ts i us = (mid : Stream) × SpellsTerm ts i.term mid × SpellsDirection mid i.descending us

-- BY and a list
abbrev pub SpellsBy : {A : Type 0} → Rule A → Rule (List A)
SpellsBy rule ts xs us = (mid : Stream) × Skips k.By ts mid × SpellsList k.Comma rule mid xs us

-- a number from 0 on
abbrev pub SpellsCount : Rule LiteralAt
SpellsCount ts l us = (t : Lexeme) × IsToken k.Number ts t us × (is_natural t.number ≡ true)
    × (l ≡ record { value = Whole t.number; offset = t.at })

-- OFFSET comes after LIMIT alone
abbrev pub SpellsLimits : Stream → Option LiteralAt → Option LiteralAt → Stream → Type 0
SpellsLimits ts None None us = us ≡ ts
SpellsLimits ts None (Some o) us = ⊥
SpellsLimits ts (Some l) o us = (mid : Stream) × (after : Stream) × Skips k.Limit ts mid
    × SpellsCount mid l after × SpellsOptional k.Offset SpellsCount after o us

-- SET name = value ;
pub record SpellsSet (ts : Stream) (name : NameAt) (value : Bytes) (us : Stream) : Type 0 where
  pub at_name : Stream
  pub at_sign : Stream
  pub at_value : Stream
  pub at_end : Stream
  pub token : Lexeme
  pub word : Skips k.Set ts at_name
  pub spells_name : SpellsName at_name name at_sign
  pub sign : Skips k.Eq at_sign at_value
  pub is_value : is_value token.kind ≡ true
  pub spells_value : at_value ≡ token ∷ at_end
  pub value_is : value ≡ token.value
  pub ends : Skips k.Semi at_end us

-- options that are allowed, from one answer on the tree to the next
abbrev pub SpellsSets : List (NameAt × Bytes) → Stream → Bool → Bool → Stream → Type 0
SpellsSets [] ts before after us = (us ≡ ts) × (after ≡ before)
SpellsSets (o ∷ os) ts before after us = (mid : Stream) × (now : Bool) × SpellsSet ts o.0 o.1 mid
    × (set_option o.0 o.1 before ≡ Ok now) × SpellsSets os mid now after us

-- the end of the text, after one `;` at most
abbrev pub SpellsEnding : Stream → Type 0
SpellsEnding ts = (kind ts ≡ k.End) ⊎ ((mid : Stream) × Skips k.Semi ts mid × (kind mid ≡ k.End))

-- a whole query
pub record SpellsQuery (ts : Stream) (q : Query) : Type 0 where
  pub sets : List (NameAt × Bytes)
  pub at_select : Stream
  pub at_items : Stream
  pub at_from : Stream
  pub at_table : Stream
  pub after_table : Stream
  pub after_condition : Stream
  pub after_groups : Stream
  pub after_having : Stream
  pub after_order : Stream
  pub at_end : Stream
  pub select : Lexeme
  pub spells_sets : SpellsSets sets ts true q.use_tree at_select
  pub spells_select : IsToken k.Select at_select select at_items
  pub select_at : q.select ≡ select.at
  pub spells_items : SpellsList k.Comma SpellsItem at_items q.items at_from
  pub from : Skips k.From at_from at_table
  pub spells_table : SpellsName at_table q.table after_table
  pub spells_condition : SpellsOptional k.Where SpellsCondition after_table q.condition
      after_condition
  pub spells_groups : SpellsListed k.Group
      (SpellsBy SpellsName) after_condition q.groups after_groups
  pub spells_having : SpellsHavingIf q.groups after_groups q.having after_having
  pub spells_order : SpellsListed k.Order (SpellsBy SpellsKey) after_having q.order after_order
  pub spells_limits : SpellsLimits after_order q.limit q.offset at_end
  pub ends : SpellsEnding at_end

-- ---- laws

-- what is spelled is read
abbrev pub WhatIsSpelledIsParsed : Type 0
WhatIsSpelledIsParsed = (ts : Stream) (q : Query) → SpellsQuery ts q → (us : Stream)
    × (query ts ≡ Ok (q, us))

-- what is read is spelled
abbrev pub WhatIsParsedIsSpelled : Type 0
WhatIsParsedIsSpelled = (ts : Stream) (q : Query) (us : Stream) → query ts ≡ Ok (q, us)
    → SpellsQuery ts q

-- a text spells one query at most
abbrev pub OneQuery : Type 0
OneQuery = (text : Bytes) (a b : Query) → SpellsQuery (tokens text) a → SpellsQuery (tokens text) b
    → a ≡ b
