use Rattle.std.proofs.Common.{◌∙◌, Option}
use Rattle.outside.specs.Files.{Files}
use Rattle.embedded_example.specs.Steps.{cursors_of}
use Rattle.embedded_example.proofs.TurnLemmas.{begins}
use Rattle.embedded_example.proofs.turns.begin.Goals as goal

pub returns : goal.returns
returns g c =
    let d0 : Option Files = g.D.Shelf.held c.args.depot.now in
    let d1 : Option Files = g.D.Shelf.held c.open_cursor.new.depot in
    let d2 : Option Files = g.D.Shelf.held c.step.new.shelf in
    record {
      begun = begins c.args.table.now c.args.cursor.now c.args.query (cursors_of c.args.serving.now) (cursors_of c.open_cursor.new.self) (cursors_of c.step.new.self) d0 d1 d2
          c.in_ok-open_cursor.field-0 c.in_ok-step.field-0 c.in_ok-open_cursor.ensures.serves c.in_ok-step.ensures.serves;
      held = c.in_ok-step.ensures.only_reads.held ∙ c.in_ok-open_cursor.ensures.looks.reads.held;
      over = record { cursors = c.in_ok-step.ensures.cursors; over = c.in_ok-step.ensures.over };
    }
