use Rattle.std.proofs.Common.{◌∙◌, ap, arith, refl}
use Rattle.std.specs.Int.{w16, from_be_bytes}
use Rattle.segment_file.proofs.BoundReads.{short_whole}
use Rattle.segment_head.proofs.bounds.split_short.Goals as goal

pub returns : goal.returns
returns c = (
  c.from_be_bytes.type_inv,
  short_whole c.args.bytes.now c.in_ok-number.rest.now c.from_be_bytes.result (λ i. omega (arith, c.type_inv.bytes i)) (c.in_ok-number.ensures.variant.0 refl)
      (c.from_be_bytes.ensures ∙ ap (from_be_bytes w16) c.in_ok-number.ensures.cases.0) c.in_ok-number.ensures.cases.1,
)
