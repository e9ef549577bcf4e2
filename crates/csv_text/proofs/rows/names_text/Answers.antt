use Rattle.std.proofs.Common.{◌≡◌, ◌∙◌, ◌++◌, [], refl, arith, sym, ap, take, length}
use Rattle.std.proofs.lemmas.List.{length-map, take_all}
use Rattle.table_schema.specs.declared.field.Field.{Field}
use Rattle.csv.specs.Writing.{default_writer, field_text, row_body}
use Rattle.csv_text.specs.Rows.{names_of}
use Rattle.csv_text.proofs.Records.{fields_done, record_done}
use Rattle.csv_text.proofs.rows.names_text.Goals as goal

pub names-preserved : goal.names-preserved
names-preserved c =
    fields_done (λ (f : Field). f.name) c.args.fields.now c.names.at c.index-fields-at.result [] c.names.text.items c.separate.new.text.items c.push_field.new.text.items
    c.names-test.true c.index-fields-at.is c.names.invariant c.in_ok-separate.ensures (c.in_ok-push_field.ensures ∙ ap (λ n. c.separate.new.text.items ++ field_text default_writer n) (c.as_slice.ensures ∙ ap (λ (f : Field). f.name) (sym c.index-fields-at.is)))

pub returns : goal.returns
returns c =
    let all : take c.names.at c.args.fields.now ≡ c.args.fields.now = take_all c.names.at c.args.fields.now (omega (arith, c.names-test.false)) in
    record_done [] (names_of c.args.fields.now) c.names.text.items c.end_record.new.text.items (length c.args.fields.now) 0
    (c.names.invariant ∙ ap (λ fs. row_body default_writer (names_of fs)) all) (sym (length-map c.args.fields.now (λ (f : Field). f.name))) refl c.in_ok-end_record.ensures
