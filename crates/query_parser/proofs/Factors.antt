-- A `factor` by its first token.
use Rattle.std.proofs.Common.{◌≡◌, ◌≢◌, ℕ, zero, suc, Err, refl, ap}
use Rattle.query_tokens.specs.declared.token.Kind.{Kind}
use Rattle.query_tokens.specs.declared.token.Kind.TheVariants as k
use Rattle.query_tokens.specs.Stream.{Stream, kind}
use Rattle.query_parser.specs.Reading.{Parser, refusal, too_deep}
use Rattle.query_parser.specs.Cond as c

module _ {C : Type 0} (leaf : Parser C) (j : c.Joints C) where
  pub factor_test : (d : ℕ) (ts : Stream) → kind ts ≡ k.Name → c.factor leaf j d ts ≡ leaf ts
  unfolding c.factor
  factor_test zero ts e = ap (λ kd. c.factor_by leaf j too_deep too_deep kd ts) e
  factor_test (suc d) ts e = ap (λ kd. c.factor_by leaf j (c.negation leaf j (c.factor leaf j d)) (c.in_parentheses leaf j (c.factor leaf j d)) kd ts) e

  other : (negated grouped : Parser C) (kd : Kind) (ts : Stream) → kd ≢ k.Name → kd ≢ k.LParen → kd ≢ k.Not → c.factor_by leaf j negated grouped kd ts ≡ Err (refusal ts)
  other negated grouped k.Name ts a b c = absurd (a refl)
  other negated grouped k.LParen ts a b c = absurd (b refl)
  other negated grouped k.Not ts a b c = absurd (c refl)
  other negated grouped _ ts a b c = refl

  pub factor_refuse : (d : ℕ) (ts : Stream) → kind ts ≢ k.Name → kind ts ≢ k.LParen → kind ts ≢ k.Not → c.factor leaf j d ts ≡ Err (refusal ts)
  unfolding c.factor
  factor_refuse zero ts a b e = other too_deep too_deep (kind ts) ts a b e
  factor_refuse (suc d) ts a b e = other (c.negation leaf j (c.factor leaf j d)) (c.in_parentheses leaf j (c.factor leaf j d)) (kind ts) ts a b e
