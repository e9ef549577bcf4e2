use Rattle.std.proofs.Common.{◌≡◌, ◌≤◌, ◌<◌, ◌+◌, ◌-◌, ◌*◌, Bool, true, IfSome, subst, arith}
use Rattle.csv_row.specs.Row.{cell_value}
use Rattle.csv_ingest.specs.Parts.{AddsValues, cell_at, field_value, line_cells}
use Rattle.csv_ingest.proofs.NumberTextLemmas.{ok-at}
use Rattle.csv_ingest.proofs.PartRows.{adds-given, field-at}
use Rattle.csv_ingest.proofs.part_columns.push_field.Goals as goal

pub returns-in-Some : goal.returns-in-Some
returns-in-Some c =
    let part = c.args.part in
    let field = c.args.field.now in
    let at = c.in-Some.at in
    let old = c.args.column.now in
    let new = c.push_cells.new.column in
    let first : 1 ≤ at = subst (λ p. IfSome p (λ n. 1 ≤ n)) c.in-Some.is c.requires.first in
    let last : at ≤ part.width = subst (λ p. IfSome p (λ n. n ≤ part.width)) c.in-Some.is c.requires.within in
    let lt : at - 1 < part.width = omega (arith, first, last) in
    ok-at c.push_cells.result
    (λ (done : Bool). done ≡ true → AddsValues (λ r. cell_value field (cell_at part.text.now part.places.now (r * part.step + (at - 1)))) part.rows old new)
    (λ (done : Bool). done ≡ true → AddsValues (λ r. field_value field c.args.place (line_cells part r)) part.rows old new)
    (λ done adds e. adds-given (λ r. cell_value field (cell_at part.text.now part.places.now (r * part.step + (at - 1)))) (λ r. field_value field c.args.place (line_cells part r)) part.rows old new
    (λ r _. field-at part field c.args.place at r c.in-Some.is lt) (adds e))
    c.push_cells.ensures
