use Rattle.std.proofs.Common.{◌≡◌, ℤ, subst, sym}
use Rattle.std.proofs.lemmas.Int.{to_z-of_z}
use Rattle.std.proofs.lemmas.List.{take_rest}
use Rattle.std.specs.Int.{w64, cast_signed, cast_unsigned}
use Rattle.dictionary.specs.Spelling.{number_bytes}
use Rattle.values.specs.declared.value.Value.TheVariants as value
use Rattle.dictionary.proofs.Numbers.{fits_from_mag}
use Rattle.dictionary_reading.specs.InFile.{part}
use Rattle.dictionary_reading.proofs.Words.{eight_read}
use Rattle.dictionary_reading.proofs.bytes.eight_at.Goals as goal

pub returns-clause-spelled : goal.returns-clause-spelled
returns-clause-spelled c =
    let z : ℤ = c.number_of.result in
    let same : cast_signed w64 (cast_unsigned w64 z) ≡ z = to_z-of_z w64 z (fits_from_mag z c.number_of.type_inv) in
    subst (λ (y : ℤ). number_bytes (value.Whole y) ≡ part c.args.at 8 c.args.bytes.now) (sym same) (eight_read c.args.bytes.now _ c.in-Some.number.now c.args.at z (take_rest c.args.bytes.now c.args.at) c.in-Some.ensures.cases.0 c.number_of.ensures.spelled)
