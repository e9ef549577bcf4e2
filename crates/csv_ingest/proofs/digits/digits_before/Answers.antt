use Rattle.csv_ingest.proofs.DigitLemmas.{eight, laid, last-bytes}
use Rattle.csv_ingest.proofs.digits.digits_before.Goals as goal
use Rattle.std.proofs.Common.{◌-◌, sym, arith}
use Rattle.std.proofs.lemmas.Simd.{length-chunk}
use lib.Lanes.{chunk}

pub returns : goal.returns
returns c =
    let end = c.args.end in
    let len = c.args.len in
    let lanes = chunk (end - 8) 8 c.args.text.now in
    rw (sym (last-bytes c.args.text.now end len c.requires.len c.requires.some))
    (rw (eight lanes (length-chunk (end - 8) 8 c.args.text.now (omega arith)))
    (laid (8 - len) (omega arith) _ _ _ _ _ _ _ _))
