use Rattle.std.proofs.Common.{◌*◌, ◌-◌, ◌%◌, arith}
use Rattle.std.proofs.lemmas.Bool.{eqb-true}
use Rattle.segment_build.proofs.PackedLemmas.{spelled_low, spelled_whole}
use Rattle.segment_build.proofs.packed.are_spelled.Goals as goal

pub returns-then-zeros-eq0 : goal.returns-then-zeros-eq0
returns-then-zeros-eq0 c = λ is.
    spelled_whole c.args.bytes.now c.args.width.bits c.args.rows (λ i lt. (c.type_inv.bytes i).fits) (omega (arith, c.if-bytes-bits.false, c.if-zeros-eq0.true))

pub returns-else-zeros-eq0 : goal.returns-else-zeros-eq0
returns-else-zeros-eq0 c = λ is.
    let bits = c.args.rows * c.args.width.bits in
    spelled_low c.args.bytes.now c.args.width.bits c.args.rows ((8 - bits % 8) % 8) (λ i lt. (c.type_inv.bytes i).fits) (omega (arith, c.if-bytes-bits.false, c.if-zeros-eq0.false))
    (omega (arith, c.if-bytes-bits.false, c.if-zeros-eq0.false)) (omega arith) (eqb-true _ 0 is)
