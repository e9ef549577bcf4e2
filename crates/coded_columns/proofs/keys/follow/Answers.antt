use Rattle.std.proofs.Common.{◌-◌, length, arith}
use Rattle.coded_columns.proofs.AscendSteps.{follow-told}
use Rattle.coded_columns.proofs.keys.follow.Goals as goal

pub returns : goal.returns
returns c =
    let places = c.args.places.now in
    follow-told places (length places - 1) c.ends_at.result c.ends_at.ensures c.requires.ascend (omega (arith, c.requires.some))
