use Rattle.std.proofs.Common.{◌+◌, ◌*◌, length, arith}
use Rattle.star_file.specs.Rules.{widths}
use Rattle.star_builder.proofs.Bytes.{at_least}
use Rattle.star_builder.proofs.growth.count_of.Goals as goal

pub overflow_cast-result : goal.overflow_cast-result
overflow_cast-result c =
    let n = length c.args.docs.now.docs in
    let w = 4 * c.args.shape.now.dims + widths c.args.shape.now.kinds in
    let le = at_least w n (omega (arith, c.requires.bounded.some_dims)) in
    omega (arith, le, c.requires.small, c.len-count.ensures.count)

pub returns-clause-bound : goal.returns-clause-bound
returns-clause-bound c =
    let n = length c.args.docs.now.docs in
    let w = 4 * c.args.shape.now.dims + widths c.args.shape.now.kinds in
    let le = at_least w n (omega (arith, c.requires.bounded.some_dims)) in
    omega (arith, le, c.requires.small, c.len-count.ensures.count)
