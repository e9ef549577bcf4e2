use Rattle.std.proofs.Common.{get_or, ap, arith, add-one}
use Rattle.csv_ingest.proofs.MarkedLines.{cell-is}
use Rattle.csv_ingest.proofs.parts.Part.cell.Goals as goal

pub between-requires-clause-ordered : goal.between-requires-clause-ordered
between-requires-clause-ordered c =
    let i = c.args.i in
    let marks = c.args.self.places.now in
    let cell = cell-is c.args.self.text.now marks c.requires.marks i (omega (arith, c.requires.within)) in
    omega (arith, cell.lt, ap (λ k. get_or marks k 0) (add-one i))

pub between-requires-clause-within : goal.between-requires-clause-within
between-requires-clause-within c =
    let i = c.args.i in
    let marks = c.args.self.places.now in
    let cell = cell-is c.args.self.text.now marks c.requires.marks i (omega (arith, c.requires.within)) in
    omega (arith, cell.within, ap (λ k. get_or marks k 0) (add-one i))
