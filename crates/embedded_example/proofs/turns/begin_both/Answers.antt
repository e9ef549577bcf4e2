use Rattle.std.proofs.Common.{[], Option, subst, sym}
use Rattle.outside.specs.Files.{Files, Lacks}
use Rattle.values.specs.Columns.{rows_of}
use Rattle.segment_file.specs.Ordered.{ordered}
use Rattle.table_store.specs.Kept.{kept_name}
use Rattle.cursors.specs.Kept.{cursors_in}
use Rattle.embedded_example.specs.Steps.{IsOpened, Leads, begun, cursors_of, early_name}
use Rattle.embedded_example.proofs.TurnLemmas.{both_begin, not_large}
use Rattle.embedded_example.proofs.turns.begin_both.Goals as goal

pub begin-requires-2-clause-over : goal.begin-requires-2-clause-over
begin-requires-2-clause-over g c = record {
  cursors = c.in_ok-replace_live.ensures.cursors;
  over = c.in_ok-replace_live.ensures.over c.args.table.now c.in_ok-begin.ensures.over.over;
}

pub returns : goal.returns
returns g c =
    let table = c.args.table.now in
    let early = c.args.early in
    let name = c.args.name.now in
    let d0 : Option Files = g.D.Shelf.held c.args.depot.now in
    let d1 : Option Files = g.D.Shelf.held c.begin.new.depot in
    let d2 : Option Files = g.D.Shelf.held c.replace_live.new.depot in
    let d3 : Option Files = g.D.Shelf.held c.begin-2.new.depot in
    let c1 = cursors_of c.begin.new.serving in
    let first : Leads table (begun early_name early) (IsOpened early_name early) [] c1 d0 d1 =
    subst (λ ds. Leads table (begun early_name early) (IsOpened early_name early) (cursors_in c.in_ok-serving.serving.pool ds) c1 d0 d1) c.in_ok-serving.ensures.none c.in_ok-begin.ensures.begun in
    record {
      begun = λ lacks unicode. both_begin table early c.args.late name (ordered table.settings.sorted (rows_of c.args.rows)) [] c1 (cursors_of c.replace_live.new.self) (cursors_of c.begin-2.new.serving) d0 d1 d2 d3
          first (c.in_ok-replace_live.ensures.serves (subst (λ d. Lacks d (kept_name name 1)) (sym c.in_ok-begin.ensures.held) lacks) unicode not_large) c.in_ok-begin-2.ensures.begun;
      over = c.in_ok-begin-2.ensures.over;
    }
