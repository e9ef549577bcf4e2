use Rattle.std.proofs.Common.{◌≡◌, ◌+◌, ◌∷◌, [], ℤ, sym, subst, arith, to_z, of_z, w64}
use Rattle.std.proofs.lemmas.Int.{to_z-of_z}
use Rattle.agg_laws.specs.Numbers.{IsWhole, most_values}
use Rattle.scan_engine.proofs.fold.folded.Goals as goal

pub add-requires : goal.add-requires
add-requires g c =
    let a = g.A.Aggregator in
    let met = g.met.A.Aggregator.aggregate in
    let at = c.loop-place.place-index in
    let z : ℤ = to_z w64 (of_z w64 c.number_at.result) in
    let same : z ≡ c.number_at.result = to_z-of_z w64 c.number_at.result (record { sfits = c.number_at.type_inv }) in
    let whole : IsWhole z = subst IsWhole (sym same) c.number_at.ensures.whole in
    met.fits_more _ (at + 1) most_values (met.fits_both c.loop-place.state (a.of (z ∷ [])) at 1 c.loop-place.invariant.fits (met.fits_of (z ∷ []) (whole, tt))) (omega arith)
