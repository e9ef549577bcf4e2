use Rattle.std.proofs.Common.{◌≡◌, ℕ, ◌^◌, ◌≤◌, ℤ, ◌*ℤ◌, pos, negsuc, unsigned_abs, FitsSigned, ap}
use Rattle.std.proofs.Common.{sym, subst, arith, ◌∙◌}
use Rattle.std.specs.Int.{w128, cast_signed, cast_unsigned}
use Rattle.std.proofs.lemmas.Int.{ints, to_z-of_z, to_z_pos, fits_signed_mul}
use Rattle.agg_laws.specs.Numbers.{SumFits, most_values}
use Rattle.agg_laws.proofs.compare.product.Goals as goal

small : (s : ℤ) → SumFits s most_values → unsigned_abs s ≤ 2 ^ 92
small (pos n) h = omega (arith, ints)
small (negsuc n) h = omega (arith, ints)

read : (s : ℤ) (n : ℕ) → FitsSigned w128 s → n ≤ most_values
    → cast_signed w128 (cast_unsigned w128 s) *ℤ cast_signed w128 n ≡ s *ℤ pos n
read s n h k = λ i. to_z-of_z w128 s h i *ℤ to_z_pos w128 n (omega arith) i

fits : (s : ℤ) (n : ℕ) → SumFits s most_values → n ≤ most_values → FitsSigned w128 (s *ℤ pos n)
fits s n h k = fits_signed_mul w128 s (pos n) (2 ^ 92) (2 ^ 29) (small s h) k (omega arith)

pub overflow_mul-result : goal.overflow_mul-result
overflow_mul-result c =
    subst (FitsSigned w128) (sym (read c.args.sum c.args.count c.ranges.sum c.requires.count))
    (fits c.args.sum c.args.count c.requires.sum c.requires.count)

pub returns : goal.returns
returns c =
    let is = read c.args.sum c.args.count c.ranges.sum c.requires.count in
    ap (λ z. cast_signed w128 (cast_unsigned w128 z)) is
    ∙ to_z-of_z w128 (c.args.sum *ℤ pos c.args.count)
    (fits c.args.sum c.args.count c.requires.sum c.requires.count)
