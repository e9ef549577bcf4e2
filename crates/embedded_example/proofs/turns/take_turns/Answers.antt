use Rattle.std.proofs.Common.{Option}
use Rattle.outside.specs.Files.{Files}
use Rattle.values.specs.Columns.{rows_of}
use Rattle.embedded_example.specs.Steps.{cursors_of}
use Rattle.embedded_example.proofs.TurnLemmas.{Calls, leaves_replaced, prints_own}
use Rattle.embedded_example.proofs.turns.take_turns.Goals as goal

pub returns : goal.returns
returns g c =
    let table = c.args.table.now in
    let early = c.args.early in
    let late = c.args.late in
    let name = c.args.name.now in
    let rows = rows_of c.args.rows in
    let d0 : Option Files = g.D.Shelf.held c.args.depot.now in
    let d1 : Option Files = g.D.Shelf.held c.begin_both.new.depot in
    let d2 : Option Files = g.D.Shelf.held c.fetch_both.new.depot in
    let d3 : Option Files = g.D.Shelf.held c.close_both.new.depot in
    let c1 = cursors_of c.in_ok-serving.serving in
    let c2 = cursors_of c.fetch_both.new.serving in
    let c3 = cursors_of c.close_both.new.serving in
    let first = c.in_ok-replies.replies.0 in
    let second = c.in_ok-replies.replies.1 in
    let calls : Calls table early late name rows c1 c2 c3 d0 d1 d2 d3 first second = record {
      begin = c.in_ok-serving.ensures.begun;
      fetch = c.in_ok-replies.ensures.fetched;
      close = c.in_ok-close_both.ensures table;
    } in
    record {
      prints = prints_own table early late name rows c1 c2 c3 d0 d1 d2 d3 first second c.fetched_law.ensures calls;
      leaves = leaves_replaced table early late name rows c1 c2 c3 d0 d1 d2 d3 first second c.fetched_law.ensures calls;
    }
