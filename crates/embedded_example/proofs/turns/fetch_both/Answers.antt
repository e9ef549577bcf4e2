use Rattle.std.proofs.Common.{Option}
use Rattle.outside.specs.Files.{Files}
use Rattle.embedded_example.specs.Steps.{cursors_of}
use Rattle.embedded_example.proofs.TurnLemmas.{both_fetch}
use Rattle.embedded_example.proofs.turns.fetch_both.Goals as goal

pub returns : goal.returns
returns g c =
    let d0 : Option Files = g.D.Shelf.held c.args.depot.now in
    let d1 : Option Files = g.D.Shelf.held c.step.new.shelf in
    let d2 : Option Files = g.D.Shelf.held c.fetch.new.shelf in
    let d3 : Option Files = g.D.Shelf.held c.fetch-2.new.shelf in
    record {
      fetched = both_fetch c.args.table.now (cursors_of c.args.serving.now) (cursors_of c.step.new.self) (cursors_of c.fetch.new.self) (cursors_of c.fetch-2.new.self) d0 d1 d2 d3
          c.in_ok-step.field-0 c.in_ok-first.first c.in_ok-second.second c.in_ok-step.ensures.serves c.in_ok-second.ensures.serves c.in_ok-first.ensures.serves;
      over = record { cursors = c.in_ok-first.ensures.cursors; over = c.in_ok-first.ensures.over };
    }
