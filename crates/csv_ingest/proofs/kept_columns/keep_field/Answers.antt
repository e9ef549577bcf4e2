use Rattle.std.proofs.Common.{◌≡◌, ℕ, Bool, true, Result}
use Rattle.values.specs.declared.value.Value.{Value}
use Rattle.csv_row.specs.declared.fault.CsvKind.{CsvKind}
use Rattle.csv_ingest.specs.Kept.{KeepsValues}
use Rattle.csv_ingest.specs.Parts.{AddsValues, field_value, line_cells}
use Rattle.csv_ingest.proofs.KeptLemmas.{all-kept, passed-over, plain-field}
use Rattle.csv_ingest.proofs.NumberTextLemmas.{ok-at}
use Rattle.csv_ingest.proofs.kept_columns.keep_field.Goals as goal

pub returns-then-keep : goal.returns-then-keep
returns-then-keep c =
    let part = c.args.part in
    let given : ℕ → Result Value CsvKind = λ r. field_value c.args.field.now c.args.place (line_cells part r) in
    let old = c.args.column.now in
    let new = c.push_field.new.column in
    ok-at c.push_field.result (λ (done : Bool). done ≡ true → AddsValues given part.rows old new) (λ (done : Bool). done ≡ true → KeepsValues c.args.keep given part.rows old new)
    (λ done adds e. all-kept c.args.keep given part.rows old new (adds e)) c.push_field.ensures

pub returns-in_ok-push_zeros-in-Long : goal.returns-in_ok-push_zeros-in-Long
returns-in_ok-push_zeros-in-Long c = λ _.
    let part = c.args.part in
    let field = c.args.field.now in
    passed-over c.args.keep (λ r. field_value field c.args.place (line_cells part r)) part.rows c.args.column.now c.push_zeros.new.column c.if-keep.false
    (plain-field part c.requires.part c.requires.plain field c.in-Long.is c.args.place c.requires.first c.requires.within)
    c.in_ok-push_zeros-in-Long.ensures

pub returns-in_default : goal.returns-in_default
returns-in_default c =
    let part = c.args.part in
    let given : ℕ → Result Value CsvKind = λ r. field_value c.args.field.now c.args.place (line_cells part r) in
    let old = c.args.column.now in
    let new = c.push_field-in_default.new.column in
    ok-at c.push_field-in_default.result (λ (done : Bool). done ≡ true → AddsValues given part.rows old new) (λ (done : Bool). done ≡ true → KeepsValues c.args.keep given part.rows old new)
    (λ done adds e. all-kept c.args.keep given part.rows old new (adds e)) c.push_field-in_default.ensures
