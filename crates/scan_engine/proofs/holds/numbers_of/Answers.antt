use Rattle.std.proofs.Common.{◌≡◌, ◌∙◌, Some, ap, slice_get, sym}
use Rattle.scan_engine.proofs.CellLemmas.{numbers-of}
use Rattle.scan_engine.proofs.holds.numbers_of.Goals as goal

pub returns : goal.returns
returns c =
    let got : slice_get c.args.table.columns.now.columns c.args.field ≡ Some c.column.result.now = ap (slice_get c.args.table.columns.now.columns) (sym c.from-field.ensures) ∙ c.column.ensures.place in
    numbers-of c.args.table.columns.now c.args.field c.column.result.now c.in-Some.numbers.now got c.column.ensures.count c.in-Some.ensures
