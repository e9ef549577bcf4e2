use Rattle.std.proofs.Common.{◌∙◌, ◌∷◌, [], ap, sym, subst, arith}
use Rattle.std.proofs.lemmas.Bool.{false≢true}
use Rattle.segment_build.proofs.FitTests.{fit_tested, large_tested}
use Rattle.segment_file.specs.Image.{image}
use Rattle.segment_file.specs.Names.{file_of}
use Rattle.segment_build.specs.Publishing.{incoming}
use Rattle.values.specs.Columns.{rows_of}
use Rattle.values.proofs.RowLemmas.{length-rows}
use Rattle.command_model.specs.Attach.{attached_text}
use Rattle.command_model.specs.World.{SameButThese}
use Rattle.command_model.proofs.CreateLemmas.{one_of_these, put_these}
use Rattle.commands.proofs.attach.put_in.Goals as goal

pub returns-in-Ok-clause-puts : goal.returns-in-Ok-clause-puts
returns-in-Ok-clause-puts g c = (
  c.in-Ok.ensures.published,
  c.in_ok-reply.ensures ∙ ap (attached_text c.args.name.now) (c.len.ensures.count ∙ sym (length-rows c.args.columns.count c.args.columns.columns c.len.ensures.each)),
)

pub returns-in-Ok-clause-writes : goal.returns-in-Ok-clause-writes
returns-in-Ok-clause-writes g c = record {
  held = subst (λ h. SameButThese (file_of c.args.name.now ∷ []) (g.D.Shelf.held c.args.depot.now) h) (sym c.in-Ok.ensures.published)
      (put_these (file_of c.args.name.now) (image 1 c.args.table.now c.args.name.now (rows_of c.args.columns)) (g.D.Shelf.held c.args.depot.now));
  parts = one_of_these incoming (g.D.Shelf.parts c.args.depot.now) (g.D.Shelf.parts c.write_columns.new.depot) c.write_columns.ensures.only_writes.parts;
  reads_later = omega (arith, c.write_columns.ensures.only_writes.reads);
  writes_later = c.write_columns.ensures.only_writes.later;
  log = c.write_columns.ensures.only_writes.log;
}

pub unreachable-requires : goal.unreachable-requires
unreachable-requires g c =
    let tree = c.in-Err-TooLarge.field-0-0 in
    let table = c.args.table.now in
    let rows = rows_of c.args.columns in
    let large = large_tested table rows tree (c.in-Err-TooLarge.ensures.too_large tree c.in-Err-TooLarge.field-0-is) in
    false≢true (sym large ∙ (fit_tested table rows).1 c.requires.rows.fits)
