use Rattle.std.proofs.Common.{◌≡◌, ◌∙◌, ℤ}
use Rattle.std.proofs.lemmas.Int.{to_z-of_z}
use Rattle.std.specs.Int.{w64, cast_signed, cast_unsigned}
use Rattle.dictionary.proofs.Numbers.{number_read, within_range, fits_from_mag}
use Rattle.dictionary.proofs.whole_numbers.number_of.Goals as goal

pub returns : goal.returns
returns c =
    let z : ℤ = c.cast_signed.result in
    let same : cast_signed w64 (cast_unsigned w64 z) ≡ z = to_z-of_z w64 z (fits_from_mag z c.cast_signed.type_inv) in
    record {
      spelled = number_read c.args.bytes.now c.from_be_bytes.result (cast_signed w64 (cast_unsigned w64 z)) c.told-bytes c.fits-bytes c.from_be_bytes.type_inv c.from_be_bytes.ensures (same ∙ c.cast_signed.ensures);
      within = rw same (within_range z c.cast_signed.type_inv);
    }
