-- A symbol that was read took a token.
use Rattle.std.proofs.Common.{◌≡◌, ℕ, zero, suc, ◌≤◌, ◌<◌, Bool, true, false, cond, List, [], ◌∷◌, ◌++◌, length, Option, Some, None, Ok, Err, refl, ap, sym, ◌∙◌, arith, rules}
use denote.Enum.Bare.{same_true}
use Rattle.query_tokens.specs.contracts.token.Kind.{the_type}
use Rattle.query_tokens.specs.declared.token.Kind.{Kind}
use Rattle.query_tokens.specs.declared.token.Kind.TheVariants as k
use Rattle.query_tokens.specs.declared.fault.QueryFault.{QueryFault}
use Rattle.query_tokens.specs.declared.tree.NameAt.{NameAt}
use Rattle.query_tokens.specs.declared.tree.LiteralAt.{LiteralAt}
use Rattle.values.specs.declared.test.CompareOp.{CompareOp}
use Rattle.query_tokens.specs.declared.tree.Cond.TheVariants.{Compare}
use Rattle.query_tokens.specs.Lex.{is_last, same_kind}
use Rattle.query_tokens.specs.Stream.{Stream, kind, next}
use Rattle.query_parser.specs.Reading.{Outcome, Parser, and_then, ◌>>=◌, pure, refuse, peek, take_token, sees, after, eat, expect, name, literal_by, literal, separated_from, separated, too_deep}
use Rattle.query_parser.specs.Operators.{operator}
use Rattle.query_parser.specs.Cond as c

-- where the rule reads something, fewer tokens are left
abbrev pub Shrinks : {A : Type 0} → Parser A → Type 0
Shrinks {A} p = (ts us : Stream) (a : A) → p ts ≡ Ok (a, us) → length us < length ts

-- where the rule reads something, no more tokens are left than there were
abbrev pub Keeps : {A : Type 0} → Parser A → Type 0
Keeps {A} p = (ts us : Stream) (a : A) → p ts ≡ Ok (a, us) → length us ≤ length ts

pub bind_ok : {A B : Type 0} (o : Outcome A) (f : A → Parser B) (y : B × Stream)
    → and_then o f ≡ Ok y → (p : A × Stream) × (o ≡ Ok p) × (f p.0 p.1 ≡ Ok y)
bind_ok (Ok p) f y h = (p, refl, h)
bind_ok (Err e) f y h = absurd (cc)

pub next_keeps : (ts : Stream) → length (next ts) ≤ length ts
unfolding next
next_keeps [] = omega arith
next_keeps (t ∷ ts) = elim (is_last t.kind) as (λ q. length (cond q (t ∷ ts) ts)
    ≤ length (t ∷ ts)) [ true ↦ omega arith | false ↦ omega arith ]

pub end_is_last : is_last k.End ≡ true
unfolding is_last
end_is_last = refl

pub next_shrinks : (ts : Stream) → is_last (kind ts) ≡ false → length (next ts) < length ts
unfolding next kind
next_shrinks [] h = let conjunction : true ≡ false = sym end_is_last ∙ h in absurd (cc)
next_shrinks (t ∷ ts) h = rw h (omega arith)

-- ---- combinators

pub keeps : {A : Type 0} (p : Parser A) → Shrinks p → Keeps p
keeps p h ts us a e = let l = h ts us a e in omega (arith, l)

pub bind_shrinks : {A B : Type 0} (p : Parser A) (f : A → Parser B) → Shrinks p
    → ((a : A) → Keeps (f a)) → Shrinks (p >>= f)
bind_shrinks p f hp hf ts us b e =
    let m = bind_ok (p ts) f (b, us) e in
    let first = hp ts m.0.1 m.0.0 m.1 in
    let second = hf m.0.0 m.0.1 us b m.2 in
    omega (arith, first, second)

pub bind_shrinks' : {A B : Type 0} (p : Parser A) (f : A → Parser B) → Keeps p
    → ((a : A) → Shrinks (f a)) → Shrinks (p >>= f)
bind_shrinks' p f hp hf ts us b e =
    let m = bind_ok (p ts) f (b, us) e in
    let first = hp ts m.0.1 m.0.0 m.1 in
    let second = hf m.0.0 m.0.1 us b m.2 in
    omega (arith, first, second)

pub bind_keeps : {A B : Type 0} (p : Parser A) (f : A → Parser B) → Keeps p
    → ((a : A) → Keeps (f a)) → Keeps (p >>= f)
bind_keeps p f hp hf ts us b e =
    let m = bind_ok (p ts) f (b, us) e in
    let first = hp ts m.0.1 m.0.0 m.1 in
    let second = hf m.0.0 m.0.1 us b m.2 in
    omega (arith, first, second)

-- this was read, and these tokens are left
abbrev pub ok : {A : Type 0} → A → Stream → Outcome A
ok a ts = Ok (a, ts)

-- the reading stops with this fault
abbrev pub stop : {A : Type 0} → QueryFault → Outcome A
stop e = Err e

-- the tokens that an outcome leaves, or the given ones where it is a fault
abbrev pub rest_or : {A : Type 0} → Stream → Outcome A → Stream
rest_or us (Ok p) = p.1
rest_or us (Err e) = us

pub rest_is : {A : Type 0} (a b : A) (ts us : Stream) → ok a ts ≡ ok b us → us ≡ ts
rest_is a b ts us e = sym (ap (rest_or us) e)

pub pure_keeps : {A : Type 0} (x : A) → Keeps (pure x)
pure_keeps x ts us a e = let same = rest_is x a ts us e in omega (arith, ap length same)

pub refuse_shrinks : {A : Type 0} → Shrinks (refuse {A = A})
refuse_shrinks ts us a e = absurd (cc)

pub peek_keeps : Keeps peek
peek_keeps ts us a e = let same = rest_is (kind ts) a ts us e in omega (arith, ap length same)

pub take_keeps : Keeps take_token
take_keeps ts us a e = let same = rest_is tt a (next ts) us e in let le = next_keeps ts in
    omega (arith, ap length same, le)

pub after_keeps : (k : Kind) (ts : Stream) → length (after k ts) ≤ length ts
unfolding after
after_keeps k ts = elim (sees k ts) as (λ q. length (cond q (next ts) ts)
    ≤ length ts) [ true ↦ next_keeps ts | false ↦ omega arith ]

pub eat_keeps : (k : Kind) → Keeps (eat k)
eat_keeps k ts us a e = let same = rest_is (sees k ts) a (after k ts) us e in
    let le = after_keeps k ts in omega (arith, ap length same, le)

expect_step : (q : Bool) (ts us : Stream) (a : Unit {0}) (f : QueryFault)
    → cond q (ok tt (next ts)) (stop f) ≡ ok a us → length us ≤ length ts
expect_step true ts us a f e = let same = rest_is tt a (next ts) us e in let le = next_keeps ts in
    omega (arith, ap length same, le)
expect_step false ts us a f e = absurd (cc)

pub expect_keeps : (k : Kind) → Keeps (expect k)
unfolding expect
expect_keeps k ts us a e = expect_step (sees k ts) ts us a _ e

pub sees_kind : (k : Kind) (ts : Stream) → sees k ts ≡ true → kind ts ≡ k
unfolding sees same_kind
sees_kind k ts h = same_true the_type (search rules) _ _ h

pub name_goes_on : is_last k.Name ≡ false
unfolding is_last
name_goes_on = refl

name_step : (q : Bool) (ts us : Stream) (x a : NameAt) (f : QueryFault) → sees k.Name ts ≡ q
    → cond q (ok x (next ts)) (stop f) ≡ ok a us → length us < length ts
name_step true ts us x a f s e =
    let same = rest_is x a (next ts) us e in
    let less = next_shrinks ts (ap is_last (sees_kind k.Name ts s) ∙ name_goes_on) in
    omega (arith, ap length same, less)
name_step false ts us x a f s e = absurd (cc)

pub name_shrinks : Shrinks name
unfolding name
name_shrinks ts us a e = name_step (sees k.Name ts) ts us _ a _ refl e

literal_step : (kd : Kind) (ts us : Stream) (a : LiteralAt) → kind ts ≡ kd
    → literal_by kd ts ≡ Ok (a, us) → length us < length ts
unfolding is_last
literal_step k.Number ts us a s e =
    let same = rest_is _ a (next ts) us e in
    let less = next_shrinks ts (ap is_last s) in
    omega (arith, ap length same, less)
literal_step k.Text ts us a s e =
    let same = rest_is _ a (next ts) us e in
    let less = next_shrinks ts (ap is_last s) in
    omega (arith, ap length same, less)
literal_step _ ts us a s e = absurd (cc)

pub literal_shrinks : Shrinks literal
unfolding literal
literal_shrinks ts us a e = literal_step (kind ts) ts us a refl e

-- ---- repetition

more_keeps : {A : Type 0} (found : List A) (more : Parser (List A)) (b : Bool) → Keeps more
    → Keeps (cond b more (pure found))
more_keeps found more true h = h
more_keeps found more false h = pure_keeps found

from_shrinks : {A : Type 0} (sep : Kind) (item : Parser A) (n : ℕ) (found : List A) → Shrinks item
    → Shrinks (separated_from sep item n found)
unfolding separated_from
from_shrinks sep item zero found h = refuse_shrinks
from_shrinks sep item (suc n) found h =
    bind_shrinks item _ h (λ x. bind_keeps (eat sep) _ (eat_keeps sep)
    (λ b. more_keeps (found ++ x ∷ []) (separated_from sep item n (found ++ x ∷ [])) b
    (keeps _ (from_shrinks sep item n (found ++ x ∷ []) h))))

pub separated_shrinks : {A : Type 0} (sep : Kind) (item : Parser A) → Shrinks item
    → Shrinks (separated sep item)
separated_shrinks sep item h ts us a e = from_shrinks sep item (suc (length ts)) [] h ts us a e

-- ---- conditions

one_of_keeps : (column : NameAt) (b : Bool) → Keeps (c.one_of column b)
unfolding c.one_of
one_of_keeps column b =
    bind_keeps (expect k.LParen) _ (expect_keeps k.LParen) (λ _.
    bind_keeps (separated k.Comma literal) _
    (keeps _ (separated_shrinks k.Comma literal literal_shrinks))
    (λ vs. bind_keeps (expect k.RParen) _ (expect_keeps k.RParen) (λ _. pure_keeps _)))

between_keeps : (column : NameAt) (b : Bool) → Keeps (c.between column b)
unfolding c.between
between_keeps column b =
    bind_keeps literal _ (keeps _ literal_shrinks) (λ low. bind_keeps (expect k.And) _
    (expect_keeps k.And) (λ _. bind_keeps literal _ (keeps _ literal_shrinks)
    (λ high. pure_keeps _)))

negated_keeps : (column : NameAt) (kd : Kind) → Keeps (c.negated_by column kd)
negated_keeps column k.In = bind_keeps take_token _ take_keeps (λ _. one_of_keeps column true)
negated_keeps column k.Between = bind_keeps take_token _ take_keeps (λ _. between_keeps column true)
negated_keeps column _ = keeps _ refuse_shrinks

compared_keeps : (column : NameAt) (op : Option CompareOp) → Keeps (c.compared column op)
compared_keeps column (Some op) = bind_keeps take_token _ take_keeps
    (λ _. bind_keeps literal _ (keeps _ literal_shrinks) (λ v. pure_keeps (Compare column op v)))
compared_keeps column None = keeps _ refuse_shrinks

test_keeps : (column : NameAt) (kd : Kind) → Keeps (c.test_by column kd)
test_keeps column k.In = bind_keeps take_token _ take_keeps (λ _. one_of_keeps column false)
test_keeps column k.Between = bind_keeps take_token _ take_keeps (λ _. between_keeps column false)
test_keeps column k.Not = bind_keeps take_token _ take_keeps
    (λ _. bind_keeps peek _ peek_keeps (λ kd. negated_keeps column kd))
test_keeps column kd = compared_keeps column (operator kd)

-- a test takes a token at least
pub test_shrinks : Shrinks c.predicate
unfolding c.predicate
test_shrinks = bind_shrinks name _ name_shrinks (λ column. bind_keeps peek _ peek_keeps
    (λ kd. test_keeps column kd))

pub conjunction_shrinks : {C : Type 0} (j : c.Joints C) (factor : Parser C) → Shrinks factor
    → Shrinks (c.conjunction j factor)
unfolding c.conjunction
conjunction_shrinks j factor h = bind_shrinks (separated k.And factor) _
    (separated_shrinks k.And factor h) (λ cs. pure_keeps _)

pub cond_shrinks : {C : Type 0} (j : c.Joints C) (factor : Parser C) → Shrinks factor
    → Shrinks (c.cond j factor)
unfolding c.cond
cond_shrinks j factor h = bind_shrinks (separated k.Or (c.conjunction j factor)) _
    (separated_shrinks k.Or (c.conjunction j factor) (conjunction_shrinks j factor h))
    (λ cs. pure_keeps _)

module _ {C : Type 0} (leaf : Parser C) (j : c.Joints C) (takes : Shrinks leaf) where
  factor_step : (negated grouped : Parser C) (kd : Kind) → Shrinks negated → Shrinks grouped
      → Shrinks (c.factor_by leaf j negated grouped kd)
  factor_step negated grouped k.Not hn hg = hn
  factor_step negated grouped k.LParen hn hg = hg
  factor_step negated grouped k.Name hn hg = takes
  factor_step negated grouped _ hn hg = refuse_shrinks

  too_deep_shrinks : Shrinks (too_deep {A = C})
  too_deep_shrinks ts us a e = absurd (cc)

  pub factor_shrinks : (depth : ℕ) → Shrinks (c.factor leaf j depth)
  unfolding c.factor
  factor_shrinks zero = bind_shrinks' peek _ peek_keeps (λ kd.
      factor_step _ _ kd too_deep_shrinks too_deep_shrinks)
  factor_shrinks (suc depth) = bind_shrinks' peek _ peek_keeps (λ kd. factor_step _ _ kd
      (bind_shrinks' take_token _ take_keeps (λ _. bind_shrinks (c.factor leaf j depth) _
      (factor_shrinks depth) (λ x. pure_keeps (j.not_of x))))
      (bind_shrinks' take_token _ take_keeps (λ _. bind_shrinks (c.cond j (c.factor leaf j depth)) _
      (cond_shrinks j (c.factor leaf j depth) (factor_shrinks depth))
      (λ x. bind_keeps (expect k.RParen) _ (expect_keeps k.RParen) (λ _. pure_keeps x)))))
