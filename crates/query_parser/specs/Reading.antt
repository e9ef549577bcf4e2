-- How symbols are read from the tokens that are left, and where the reading stops.
use Rattle.std.specs.Prelude.{◌≡◌, ◌≢◌, ℕ, zero, suc, Bool, if◌then◌else◌, List, [], ◌∷◌, ◌++◌, length, Result, Ok, Err}
use Rattle.query_tokens.specs.declared.token.Kind.{Kind}
use Rattle.query_tokens.specs.declared.token.Kind.TheVariants as k
use Rattle.query_tokens.specs.declared.fault.Reason.{Reason}
use Rattle.query_tokens.specs.declared.fault.Reason.TheVariants as reason
use Rattle.query_tokens.specs.declared.fault.QueryFault.{QueryFault}
use Rattle.query_tokens.specs.declared.fault.QueryFault.TheVariants.{NoMemory, At}
use Rattle.query_tokens.specs.declared.tree.NameAt.{NameAt}
use Rattle.query_tokens.specs.declared.tree.LiteralAt.{LiteralAt}
use Rattle.values.specs.declared.value.Value.TheVariants.{Whole, Text}
use Rattle.query_tokens.specs.Lex.{same_kind}
use Rattle.query_tokens.specs.Stream.{Stream, kind, place, number, word, next}

-- a tree with the tokens after it, or the fault at which the reading stops
abbrev pub Outcome : Type 0 → Type 0
Outcome A = Result (A × Stream) QueryFault

-- a rule of the grammar: from the tokens that are left to what it reads and the tokens after it
abbrev pub Parser : Type 0 → Type 0
Parser A = Stream → Outcome A

-- what a function of the code answers: the outcome, unless memory runs out
abbrev pub Reads : {A : Type 0} → Outcome A → Result A QueryFault → Stream → Type 0
Reads outcome (Ok a) new = outcome ≡ Ok (a, new)
Reads outcome (Err e) new = e ≢ NoMemory → outcome ≡ Err e

-- goes on after what was read, with the tokens after it; a fault stays
abbrev pub and_then : {A B : Type 0} → Outcome A → (A → Parser B) → Outcome B
and_then (Ok p) f = f p.0 p.1
and_then (Err e) f = Err e

infixl 10 ◌>>=◌
-- one rule, and then the rule that is chosen by what the first one read
abbrev pub ◌>>=◌ : {A B : Type 0} → Parser A → (A → Parser B) → Parser B
p >>= f = λ ts. and_then (p ts) f

infixl 10 ◌>>◌
-- one rule, and then another, of which only the second gives the tree
abbrev pub ◌>>◌ : {A B : Type 0} → Parser A → Parser B → Parser B
p >> q = p >>= (λ _. q)

-- takes no token and gives this
abbrev pub pure : {A : Type 0} → A → Parser A
pure a = λ ts. Ok (a, ts)

infixr 11 ◌<$>◌
-- one rule, with a function applied to what it read
abbrev pub ◌<$>◌ : {A B : Type 0} → (A → B) → Parser A → Parser B
f <$> p = p >>= (λ x. pure (f x))

-- why no rule reads a token of this kind
unfoldable pub reason_of : Kind → Reason
reason_of k.BadCharacter = reason.BadCharacter
reason_of k.OpenText = reason.OpenText
reason_of k.NumberTooWide = reason.NumberTooWide
reason_of k.NameTooLong = reason.NameTooLong
reason_of k.TextTooLong = reason.TextTooLong
reason_of _ = reason.Unexpected

unfoldable pub refusal : Stream → QueryFault
refusal ts = At (reason_of (kind ts)) (place ts)

-- no token is read: the fault at the next one, with the reason by its kind
abbrev pub refuse : {A : Type 0} → Parser A
refuse = λ ts. Err (refusal ts)

-- no token is read: the fault of a condition in more parentheses or NOTs than are allowed
abbrev pub too_deep : {A : Type 0} → Parser A
too_deep = λ ts. Err (At reason.TooDeep (place ts))

-- the kind of the next token, which is not taken
abbrev pub peek : Parser Kind
peek = λ ts. Ok (kind ts, ts)

-- takes the next token, whatever it is; the last one stays
abbrev pub take_token : Parser (Unit {0})
take_token = λ ts. Ok (tt, next ts)

unfoldable pub sees : Kind → Stream → Bool
sees k ts = same_kind (kind ts) k

unfoldable pub after : Kind → Stream → Stream
after k ts = if sees k ts then next ts else ts

-- takes a token of this kind, where there is one
abbrev pub eat : Kind → Parser Bool
eat k = λ ts. Ok (sees k ts, after k ts)

unfoldable pub expect : Kind → Parser (Unit {0})
expect k = λ ts. if sees k ts then Ok (tt, next ts) else refuse ts

unfoldable pub name : Parser NameAt
name = λ ts. if sees k.Name ts then Ok (
  record {
    name = word ts;
    offset = place ts;
  },
  next ts,
) else refuse ts

-- the number or the text of the next token, which has this kind
abbrev pub literal_by : Kind → Parser LiteralAt
literal_by k.Number = λ ts. Ok (record { value = Whole (number ts); offset = place ts }, next ts)
literal_by k.Text = λ ts. Ok (record { value = Text (word ts); offset = place ts }, next ts)
literal_by _ = refuse

unfoldable pub literal : Parser LiteralAt
literal = peek >>= literal_by

-- One or more, with a token between. Each turn takes a token, so one more than the count of those
-- that are left is enough.
unfoldable pub separated_from : {A : Type 0} → Kind → Parser A → ℕ → List A → Parser (List A)
separated_from sep item zero found = refuse
separated_from sep item (suc n) found = do
  x ← item
  more ← eat sep
  if more then separated_from sep item n (found ++ x ∷ []) else pure (found ++ x ∷ [])

-- one item or more, with a token between each two
abbrev pub separated : {A : Type 0} → Kind → Parser A → Parser (List A)
separated sep item = λ ts. separated_from sep item (suc (length ts)) [] ts
