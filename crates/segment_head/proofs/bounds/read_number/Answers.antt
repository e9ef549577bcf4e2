use Rattle.std.proofs.Common.{◌≡◌, ◌∙◌, ℤ, false, sym, ap}
use Rattle.std.proofs.lemmas.Int.{to_z-of_z}
use Rattle.std.specs.Int.{w64, cast_signed, cast_unsigned}
use Rattle.data_types.specs.Numbers.{is_in_range}
use Rattle.dictionary.proofs.Numbers.{fits_from_mag}
use Rattle.dictionary.proofs.Texts.{at_none}
use Rattle.segment_file.proofs.BoundReads.{no_eight, out_of_range}
use Rattle.segment_head.proofs.bounds.read_number.Goals as goal

pub returns-in_err-number : goal.returns-in_err-number
returns-in_err-number c = at_none c.from_residual.result _ _ c.from_residual.ensures (no_eight c.args.kind c.args.bytes.now c.requires c.in_err-number.ensures.cases)

pub returns-else-is_in_range : goal.returns-else-is_in_range
returns-else-is_in_range c =
    let z : ℤ = c.number_of-number.result in
    let same : cast_signed w64 (cast_unsigned w64 z) ≡ z = to_z-of_z w64 z (fits_from_mag z c.number_of-number.type_inv) in
    let out : is_in_range c.args.kind z ≡ false = sym (c.if-is_in_range.ensures ∙ ap (is_in_range c.args.kind) same) in
    out_of_range c.args.kind c.args.bytes.now c.in_ok-number.number.now c.in_ok-number.rest.now z c.requires c.number_of-number.ensures.spelled c.in_ok-number.ensures.cases.0 c.in_ok-number.ensures.cases.1 c.number_of-number.ensures.within out
