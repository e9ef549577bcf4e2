use Rattle.csv_ingest.proofs.DigitLemmas.{whole-signed}
use Rattle.csv_ingest.proofs.digits.whole_between.Goals as goal
use Rattle.std.proofs.Common.{◌∙◌, Ok, ap, sym, w64}
use Rattle.std.proofs.lemmas.Int.{to_z-of_z}

pub returns : goal.returns
returns c =
    let same = to_z-of_z w64 c.signed.result (record { sfits = c.signed.type_inv }) in
    whole-signed c.args.kind c.args.text.now c.args.start c.args.end c.has_minus-minus.result c.in_ok-magnitude.magnitude c.signed.result c.requires.within
    c.has_minus-minus.ensures c.in_ok-magnitude.ensures.spells (c.is_in_range.ensures c.if-not-is_in_range.false) c.signed.ensures.plus c.signed.ensures.minus
    ∙ ap Ok (sym same)
