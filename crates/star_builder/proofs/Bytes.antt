-- A visit only adds bytes.
use Rattle.std.proofs.Common.{◌≡◌, ℕ, ◌+◌, ◌*◌, ◌≤◌, arith}
use Rattle.std.proofs.Math.Nat.{mul-le-mul_left, mul-le-mul_right}
use Rattle.agg_laws.specs.declared.tree_shape.TreeShape.{TreeShape}
use Rattle.star_file.specs.Rules.{widths}
use Rattle.star_tree.proofs.FlatLemmas.{Grows, more_docs}
use Rattle.star_builder.specs.Building.{Written, bytes_of}

pub bytes_grow : (P : ℕ → Type 0) (shape : TreeShape) (f g : Written) → Grows P f g
    → bytes_of shape f ≤ bytes_of shape g
bytes_grow P shape f g a =
    let le = mul-le-mul_left (4 * shape.dims + widths shape.kinds) (more_docs P f g a) in
    omega (arith, a.longer, le)

pub at_least : (w n : ℕ) → 1 ≤ w → n ≤ w * n
at_least w n h = let le = mul-le-mul_right n h in let e : 1 * n ≡ n = omega arith in
    omega (arith, le, e)
