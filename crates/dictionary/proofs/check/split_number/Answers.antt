use Rattle.std.proofs.Common.{◌∙◌, ap, arith, refl}
use Rattle.std.specs.Int.{w32, from_be_bytes}
use Rattle.dictionary.proofs.Bytes.{counted_whole}
use Rattle.dictionary.proofs.check.split_number.Goals as goal

pub returns : goal.returns
returns c = (
  c.from_be_bytes.type_inv,
  counted_whole c.args.bytes.now c.in_ok-number.rest.now c.from_be_bytes.result (λ i. omega (arith, c.type_inv.bytes i)) (c.in_ok-number.ensures.variant.0 refl)
      (c.from_be_bytes.ensures ∙ ap (from_be_bytes w32) c.in_ok-number.ensures.cases.0) c.in_ok-number.ensures.cases.1,
)
