use Rattle.std.proofs.Common.{sym, subst}
use Rattle.outside.specs.Whole.{IsWhole}
use Rattle.values.specs.Columns.{rows_of}
use Rattle.command_model.proofs.CreateLemmas.{not_read, other_err}
use Rattle.command_model.proofs.RowsLemmas.{handed_rows, read_err, read_ok, rows_unread}
use Rattle.command_model.proofs.rows.read_rows.Goals as goal

pub returns-in_err-text-clause-stops : goal.returns-in_err-text-clause-stops
returns-in_err-text-clause-stops g c =
    let held = g.I.Shelf.held c.args.inputs.now in
    let fields = c.args.table.now.schema.fields in
    handed_rows held fields c.args.csv.now _ c.from_residual.result c.in_err-text.field-0.0 c.from_residual.ensures.1 (rows_unread held fields c.args.csv.now _ c.in_err-text.field-0.0 c.in_err-text.ensures.stops)

pub returns-in_err-text-clause-unchanged : goal.returns-in_err-text-clause-unchanged
returns-in_err-text-clause-unchanged g c = λ other.
    c.in_err-text.ensures.unchanged (other_err c.in_err-text.field-0.0 (not_read c.from_residual.result c.in_err-text.field-0.0 c.from_residual.ensures.1 other))

pub returns-clause-rows : goal.returns-clause-rows
returns-clause-rows g c =
    let held = g.I.Shelf.held c.args.inputs.now in
    let whole : IsWhole held c.args.csv.now 134217728 c.as_slice.result.now = subst (IsWhole held c.args.csv.now 134217728) (sym c.as_slice.ensures) c.in_ok-text.ensures.whole in
    read_ok rows_of held c.args.table.now.schema.fields c.args.csv.now c.as_slice.result.now c.columns_of.result whole c.columns_of.ensures.rows

pub returns-clause-stops : goal.returns-clause-stops
returns-clause-stops g c =
    let held = g.I.Shelf.held c.args.inputs.now in
    let whole : IsWhole held c.args.csv.now 134217728 c.as_slice.result.now = subst (IsWhole held c.args.csv.now 134217728) (sym c.as_slice.ensures) c.in_ok-text.ensures.whole in
    read_err held c.args.table.now.schema.fields c.args.csv.now c.as_slice.result.now _ c.columns_of.result whole c.columns_of.ensures.stops
