-- The signs of comparisons.
use Rattle.std.specs.Prelude.{Option, Some, None}
use Rattle.query_tokens.specs.declared.token.Kind.{Kind}
use Rattle.query_tokens.specs.declared.token.Kind.TheVariants as k
use Rattle.values.specs.declared.test.CompareOp.{CompareOp}
use Rattle.values.specs.declared.test.CompareOp.TheVariants as op

-- the sign of a comparison
unfoldable pub operator : Kind → Option CompareOp
operator k.Eq = Some op.Equal
operator k.Ne = Some op.Unequal
operator k.Lt = Some op.Less
operator k.Le = Some op.AtMost
operator k.Gt = Some op.More
operator k.Ge = Some op.AtLeast
operator _ = None
