use Rattle.std.proofs.Common.{◌∙◌, ◌∷◌, [], refl, sym, subst, arith}
use Rattle.segment_build.proofs.FitTests.{large_tested}
use Rattle.segment_file.specs.Image.{image}
use Rattle.segment_file.specs.Names.{file_of}
use Rattle.segment_build.specs.Publishing.{incoming}
use Rattle.values.specs.Columns.{rows_of}
use Rattle.values.proofs.RowLemmas.{length-rows}
use Rattle.command_model.specs.World.{SameButThese}
use Rattle.command_model.proofs.BuildLemmas.{built_of}
use Rattle.command_model.proofs.CreateLemmas.{one_of_these, put_these}
use Rattle.commands.proofs.build.publish.Goals as goal

pub returns-in-Ok-clause-publishes : goal.returns-in-Ok-clause-publishes
returns-in-Ok-clause-publishes g c = (
  c.in-Ok.ensures.published,
  c.in_ok-reply.ensures ∙ built_of c.args.name.now (rows_of c.args.columns) c.len.result (length-rows c.args.columns.count c.args.columns.columns c.len.ensures.each ∙ sym c.len.ensures.count),
  c.in-Ok.ensures.fits,
)

pub returns-in-Ok-clause-writes : goal.returns-in-Ok-clause-writes
returns-in-Ok-clause-writes g c = record {
  held = subst (λ h. SameButThese (file_of c.args.name.now ∷ []) (g.D.Shelf.held c.args.depot.now) h) (sym c.in-Ok.ensures.published)
      (put_these (file_of c.args.name.now) (image 1 c.args.table.now c.args.name.now (rows_of c.args.columns)) (g.D.Shelf.held c.args.depot.now));
  parts = one_of_these incoming (g.D.Shelf.parts c.args.depot.now) (g.D.Shelf.parts c.write_columns.new.depot) c.write_columns.ensures.only_writes.parts;
  reads_later = omega (arith, c.write_columns.ensures.only_writes.reads);
  writes_later = c.write_columns.ensures.only_writes.later;
  log = c.write_columns.ensures.only_writes.log;
}

pub returns-clause-publishes : goal.returns-clause-publishes
returns-clause-publishes g c =
    let large = c.in-Err-TooLarge.ensures.too_large c.in-Err-TooLarge.field-0-0 c.in-Err-TooLarge.field-0-is in
    (refl, large_tested c.args.table.now (rows_of c.args.columns) c.in-Err-TooLarge.field-0-0 large, c.in-Err-TooLarge.ensures.kept)
