use Rattle.std.proofs.Common.{◌≡◌, Ok, ap, ◌∙◌, sym, subst, arith}
use Rattle.std.specs.Int.{w128, from_be_bytes, cast_signed, cast_unsigned}
use Rattle.std.proofs.lemmas.Int.{to_z-of_z}
use Rattle.agg_laws.specs.Numbers.{sum_bytes, SumFits, most_stored}
use Rattle.agg_laws.specs.laws.Sums as laws
use Rattle.agg_laws.proofs.sums.SumAggregator.take.Goals as goal

pub returns-then-sum_fits-clause-found : goal.returns-then-sum_fits-clause-found
returns-then-sum_fits-clause-found c =
    let same : cast_signed w128 (cast_unsigned w128 c.read_i128-sum.result)
    ≡ c.read_i128-sum.result =
    to_z-of_z w128 c.read_i128-sum.result (record { sfits = c.read_i128-sum.type_inv }) in (
      c.sum_fits.ensures.0 c.if-sum_fits.true,
      ap sum_bytes (same ∙ c.read_i128-sum.ensures)
          ∙ laws.written c.args.bytes.now c.requires (λ i. omega (arith, c.type_inv.bytes i)),
    )

pub returns-then-sum_fits-clause-again : goal.returns-then-sum_fits-clause-again
returns-then-sum_fits-clause-again c v stored is =
    let same : cast_signed w128 (cast_unsigned w128 c.read_i128-sum.result)
    ≡ c.read_i128-sum.result =
    to_z-of_z w128 c.read_i128-sum.result (record { sfits = c.read_i128-sum.type_inv }) in
    ap Ok (same ∙ c.read_i128-sum.ensures
    ∙ ap (λ bs. cast_signed w128 (from_be_bytes w128 bs)) (sym is)
    ∙ laws.read v (laws.fits_128 v most_stored (omega arith) stored))

pub returns-else-sum_fits-clause-again : goal.returns-else-sum_fits-clause-again
returns-else-sum_fits-clause-again c v stored is =
    let same : cast_signed w128 (cast_unsigned w128 c.read_i128-sum.result)
    ≡ c.read_i128-sum.result =
    to_z-of_z w128 c.read_i128-sum.result (record { sfits = c.read_i128-sum.type_inv }) in
    let value : cast_signed w128 (cast_unsigned w128 c.read_i128-sum.result) ≡ v = same
    ∙ c.read_i128-sum.ensures ∙ ap (λ bs. cast_signed w128 (from_be_bytes w128 bs)) (sym is)
    ∙ laws.read v (laws.fits_128 v most_stored (omega arith) stored) in
    let fits = c.sum_fits.ensures.1 (subst (λ s. SumFits s most_stored) (sym value) stored) in
    let no = c.if-sum_fits.false in
    cc
