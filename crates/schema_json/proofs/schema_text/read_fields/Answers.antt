use Rattle.std.proofs.Common.{◌∙◌}
use Rattle.std.proofs.lemmas.Result.{err_from_is_err_and}
use Rattle.schema_json.proofs.FieldWalk.{field_refused, walk_more, read_more}
use Rattle.schema_json.proofs.schema_text.read_fields.Goals as goal

pub returns-in_err-field : goal.returns-in_err-field
returns-in_err-field c =
    let p = err_from_is_err_and c.from_residual.result c.from_residual.ensures.1 in
    let l = c.loop-entry in
    rw (p.1, p.2) (field_refused c.args.entries.now l.entry-index c.entry-item.result c.as_slice.result.now c.loop-entry-test.true c.entry-item.is
    (c.as_slice.ensures ∙ l.invariant.0) l.invariant.1 c.in_err-field.field-0.0 c.in_err-field.ensures)

pub loop-entry-preserved : goal.loop-entry-preserved
loop-entry-preserved c =
    let l = c.loop-entry in
    let read = c.as_slice.ensures ∙ l.invariant.0 in (
      c.in_ok-push.ensures.ok ∙ read_more c.args.entries.now l.entry-index c.entry-item.result l.fields c.loop-entry-test.true c.entry-item.is
          l.invariant.0 l.invariant.1 c.in_ok-field.field c.in_ok-field.ensures.1,
      walk_more c.args.entries.now l.entry-index c.entry-item.result c.as_slice.result.now c.loop-entry-test.true c.entry-item.is
          read l.invariant.1 c.in_ok-field.ensures.0,
    )
