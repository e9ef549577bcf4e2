-- Which tokens spell a condition: the rules of the grammar, with no word on how they are read. A
-- rule is a relation between the tokens from a place on, what they spell, and the tokens after it.
use Rattle.std.specs.Prelude.{◌≡◌, ◌⊎◌, ℕ, zero, suc, Bool, true, false, List, [], ◌∷◌, Some, Ok}
use Rattle.query_tokens.specs.declared.token.Kind.{Kind}
use Rattle.query_tokens.specs.declared.token.Kind.TheVariants as k
use Rattle.values.specs.declared.test.CompareOp.{CompareOp}
use Rattle.query_tokens.specs.declared.tree.NameAt.{NameAt}
use Rattle.query_tokens.specs.declared.tree.LiteralAt.{LiteralAt}
use Rattle.values.specs.declared.value.Value.TheVariants.{Whole, Text}
use Rattle.query_tokens.specs.declared.tree.Cond.{Cond}
use Rattle.query_tokens.specs.declared.tree.Cond.TheVariants.{Compare, OneOf, Between}
use Rattle.query_tokens.specs.Stream.{Lexeme, Stream}
use Rattle.query_parser.specs.Operators.{operator}
use Rattle.query_parser.specs.Cond.{joined, Joints, row_joints, deepest, condition}
use Rattle.query_parser.specs.Reading.{sees}

-- tokens from a place on, what they spell, and the tokens after it
abbrev pub Rule : Type 0 → Type 1
Rule A = Stream → A → Stream → Type 0

-- a token of this kind, and then us
abbrev pub IsToken : Kind → Rule Lexeme
IsToken kd ts t us = (ts ≡ t ∷ us) × (t.kind ≡ kd)

-- the same, where only the kind matters
abbrev pub Skips : Kind → Stream → Stream → Type 0
Skips kd ts us = (t : Lexeme) × IsToken kd ts t us

-- a name with its place
abbrev pub SpellsName : Rule NameAt
SpellsName ts name us = (t : Lexeme) × IsToken k.Name ts t us
    × (name ≡ record { name = t.value; offset = t.at })

-- a number or a text with its place
abbrev pub SpellsLiteral : Rule LiteralAt
SpellsLiteral ts literal us = (t : Lexeme) × ((IsToken k.Number ts t us
    × (literal ≡ record { value = Whole t.number; offset = t.at }))
    ⊎ (IsToken k.Text ts t us × (literal ≡ record { value = Text t.value; offset = t.at })))

-- one or more, with a token between
abbrev pub SpellsList : {A : Type 0} → Kind → Rule A → Rule (List A)
SpellsList sep rule ts [] us = ⊥
SpellsList sep rule ts (x ∷ []) us = rule ts x us
SpellsList sep rule ts (x ∷ y ∷ xs) us = (mid : Stream) × (rest : Stream) × rule ts x mid
    × Skips sep mid rest × SpellsList sep rule rest (y ∷ xs) us

-- ---- tests

-- column, sign, literal
pub record SpellsCompare (ts : Stream) (c : Cond) (us : Stream) : Type 0 where
  pub column : NameAt
  pub op : CompareOp
  pub value : LiteralAt
  pub sign : Lexeme
  pub rest : Stream
  pub spells_column : SpellsName ts column (sign ∷ rest)
  pub is_op : operator sign.kind ≡ Some op
  pub spells_value : SpellsLiteral rest value us
  pub tree : c ≡ Compare column op value

-- an optional NOT, and whether it stands there
abbrev pub MayNegate : Rule Bool
MayNegate ts false us = us ≡ ts
MayNegate ts true us = Skips k.Not ts us

-- column, an optional NOT, IN, literals in parentheses
pub record SpellsOneOf (ts : Stream) (c : Cond) (us : Stream) : Type 0 where
  pub column : NameAt
  pub negated : Bool
  pub values : List LiteralAt
  pub after_column : Stream
  pub at_in : Stream
  pub at_open : Stream
  pub inside : Stream
  pub at_close : Stream
  pub spells_column : SpellsName ts column after_column
  pub negation : MayNegate after_column negated at_in
  pub word : Skips k.In at_in at_open
  pub opens : Skips k.LParen at_open inside
  pub spells_values : SpellsList k.Comma SpellsLiteral inside values at_close
  pub closes : Skips k.RParen at_close us
  pub tree : c ≡ OneOf column values negated

-- column, an optional NOT, BETWEEN, literal, AND, literal
pub record SpellsBetween (ts : Stream) (c : Cond) (us : Stream) : Type 0 where
  pub column : NameAt
  pub negated : Bool
  pub low : LiteralAt
  pub high : LiteralAt
  pub after_column : Stream
  pub at_between : Stream
  pub at_low : Stream
  pub at_and : Stream
  pub at_high : Stream
  pub spells_column : SpellsName ts column after_column
  pub negation : MayNegate after_column negated at_between
  pub word : Skips k.Between at_between at_low
  pub spells_low : SpellsLiteral at_low low at_and
  pub and_word : Skips k.And at_and at_high
  pub spells_high : SpellsLiteral at_high high us
  pub tree : c ≡ Between column low high negated

-- a test of one column
abbrev pub SpellsTest : Rule Cond
SpellsTest ts c us = SpellsCompare ts c us ⊎ (SpellsOneOf ts c us ⊎ SpellsBetween ts c us)

-- ---- conditions

-- members with a token between, as one tree
abbrev pub SpellsJoined : {C : Type 0} → (List C → C) → Kind → Rule C → Rule C
SpellsJoined {C} joint sep rule ts c us = (members : List C) × SpellsList sep rule ts members us
    × (c ≡ joined joint members)

-- members of an AND
abbrev pub SpellsConjunction : {C : Type 0} → Joints C → Rule C → Rule C
SpellsConjunction j factor = SpellsJoined j.all_of k.And factor

-- members of an OR
abbrev pub SpellsCond : {C : Type 0} → Joints C → Rule C → Rule C
SpellsCond j factor = SpellsJoined j.any_of k.Or (SpellsConjunction j factor)

-- NOT and a factor
abbrev pub SpellsNegation : {C : Type 0} → Joints C → Rule C → Rule C
SpellsNegation {C} j factor ts c us = (rest : Stream) × (inner : C) × Skips k.Not ts rest
    × factor rest inner us × (c ≡ j.not_of inner)

-- a condition in parentheses, which is the tree of what stands in them
abbrev pub SpellsGroup : {C : Type 0} → Joints C → Rule C → Rule C
SpellsGroup j factor ts c us = (inside : Stream) × (at_close : Stream) × Skips k.LParen ts inside
    × SpellsCond j factor inside c at_close × Skips k.RParen at_close us

-- a test, or with at most so many parentheses and NOTs open, one of those two
unfoldable pub SpellsFactor : {C : Type 0} → Rule C → Joints C → ℕ → Rule C
SpellsFactor leaf j zero ts c us = leaf ts c us
SpellsFactor leaf j (suc depth) ts c us = leaf ts c us ⊎ (SpellsNegation j
    (SpellsFactor leaf j depth) ts c us ⊎ SpellsGroup j (SpellsFactor leaf j depth) ts c us)

-- a condition on a row
abbrev pub SpellsCondition : Rule Cond
SpellsCondition = SpellsCond row_joints (SpellsFactor SpellsTest row_joints deepest)

-- ---- laws

-- What is spelled is read, where the condition does not go on.
abbrev pub WhatIsSpelledIsRead : Type 0
WhatIsSpelledIsRead = (ts : Stream) (c : Cond) (us : Stream) → SpellsCondition ts c us
    → sees k.And us ≡ false → sees k.Or us ≡ false → condition ts ≡ Ok (c, us)

-- What is read is spelled, as far as it goes on.
abbrev pub WhatIsReadIsSpelled : Type 0
WhatIsReadIsSpelled = (ts : Stream) (c : Cond) (us : Stream) → condition ts ≡ Ok (c, us)
    → SpellsCondition ts c us × (sees k.And us ≡ false) × (sees k.Or us ≡ false)
