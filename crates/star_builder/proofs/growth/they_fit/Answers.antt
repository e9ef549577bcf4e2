use Rattle.std.proofs.Common.{◌≡◌, ◌+◌, ◌*◌, length, arith, false, true}
use Rattle.star_file.specs.Rules.{widths}
use Rattle.star_builder.proofs.Bytes.{at_least}
use Rattle.star_builder.proofs.growth.they_fit.Goals as goal

no : false ≡ true → ⊥
no e = cc

pub returns-in-Err : goal.returns-in-Err
returns-in-Err c =
    let n = length c.args.docs.now.docs in
    let w = 4 * c.args.shape.now.dims + widths c.args.shape.now.kinds in
    let le = at_least w n (omega (arith, c.requires.some_dims)) in
    (λ h. absurd (no h), λ h. absurd (omega (arith, le, h, c.len.ensures.count, c.in-Err.ensures)))
