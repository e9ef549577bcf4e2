use Rattle.std.proofs.Common.{subst, sym}
use Rattle.outside.specs.Seen.{Seen, seen}
use Rattle.command_words.specs.ServeView.{line_view}
use Rattle.serve_lines.specs.Calls.{AnswersOver}
use Rattle.serve_lines.specs.Kept.{cursors_of}
use Rattle.serve_lines.proofs.BuiltLemmas.{build_line}
use Rattle.serve_lines.proofs.line.answer_over.Goals as goal

pub returns-in-Open-clause-answers : goal.returns-in-Open-clause-answers
returns-in-Open-clause-answers g c =
    let i : Seen = seen g.I.Shelf c.args.inputs.now in
    let d : Seen = seen g.D.Shelf c.args.depot.now in
    let e : Seen = seen g.D.Shelf c.open_over.new.depot in
    subst (λ l. AnswersOver c.args.number (line_view l) c.args.table.now (record { inputs = i; depot = d }) (record { inputs = i; depot = e }) (cursors_of c.args.serving.now) (cursors_of c.open_over.new.serving) c.open_over.result) (sym c.in-Open.is) (c.open_over.ensures.answers c.args.number i)

pub returns-in-Step-clause-answers : goal.returns-in-Step-clause-answers
returns-in-Step-clause-answers g c =
    let i : Seen = seen g.I.Shelf c.args.inputs.now in
    let d : Seen = seen g.D.Shelf c.args.depot.now in
    let e : Seen = seen g.D.Shelf c.step_over.new.depot in
    subst (λ l. AnswersOver c.args.number (line_view l) c.args.table.now (record { inputs = i; depot = d }) (record { inputs = i; depot = e }) (cursors_of c.args.serving.now) (cursors_of c.step_over.new.serving) c.step_over.result) (sym c.in-Step.is) (c.step_over.ensures.answers c.args.number i)

pub returns-in-Fetch-clause-answers : goal.returns-in-Fetch-clause-answers
returns-in-Fetch-clause-answers g c =
    let i : Seen = seen g.I.Shelf c.args.inputs.now in
    let d : Seen = seen g.D.Shelf c.args.depot.now in
    let e : Seen = seen g.D.Shelf c.fetch_over.new.depot in
    subst (λ l. AnswersOver c.args.number (line_view l) c.args.table.now (record { inputs = i; depot = d }) (record { inputs = i; depot = e }) (cursors_of c.args.serving.now) (cursors_of c.fetch_over.new.serving) c.fetch_over.result) (sym c.in-Fetch.is) (c.fetch_over.ensures.answers c.args.number i)

pub returns-in-Close-clause-answers : goal.returns-in-Close-clause-answers
returns-in-Close-clause-answers g c =
    let i : Seen = seen g.I.Shelf c.args.inputs.now in
    let d : Seen = seen g.D.Shelf c.args.depot.now in
    let e : Seen = seen g.D.Shelf c.close_over.new.depot in
    subst (λ l. AnswersOver c.args.number (line_view l) c.args.table.now (record { inputs = i; depot = d }) (record { inputs = i; depot = e }) (cursors_of c.args.serving.now) (cursors_of c.close_over.new.serving) c.close_over.result) (sym c.in-Close.is) (c.close_over.ensures.answers c.args.number i)

pub returns-in-Drop-clause-answers : goal.returns-in-Drop-clause-answers
returns-in-Drop-clause-answers g c =
    let i : Seen = seen g.I.Shelf c.args.inputs.now in
    let d : Seen = seen g.D.Shelf c.args.depot.now in
    let e : Seen = seen g.D.Shelf c.drop_over.new.depot in
    subst (λ l. AnswersOver c.args.number (line_view l) c.args.table.now (record { inputs = i; depot = d }) (record { inputs = i; depot = e }) (cursors_of c.args.serving.now) (cursors_of c.drop_over.new.serving) c.drop_over.result) (sym c.in-Drop.is) (c.drop_over.ensures.answers i)

pub returns-in-Build-clause-answers : goal.returns-in-Build-clause-answers
returns-in-Build-clause-answers g c =
    let i : Seen = seen g.I.Shelf c.args.inputs.now in
    let d : Seen = seen g.D.Shelf c.args.depot.now in
    let j : Seen = seen g.I.Shelf c.build.new.inputs in
    let e : Seen = seen g.D.Shelf c.build.new.depot in
    subst (λ l. AnswersOver c.args.number (line_view l) c.args.table.now (record { inputs = i; depot = d }) (record { inputs = j; depot = e }) (cursors_of c.args.serving.now) (cursors_of c.args.serving.now) c.build.result) (sym c.in-Build.is)
    (build_line c.args.number c.in-Build.name.now c.in-Build.csv.now c.args.table.now (cursors_of c.args.serving.now) i d j e c.build.result c.build.ensures)

pub returns-in-Replace-clause-answers : goal.returns-in-Replace-clause-answers
returns-in-Replace-clause-answers g c =
    let i : Seen = seen g.I.Shelf c.args.inputs.now in
    let d : Seen = seen g.D.Shelf c.args.depot.now in
    let j : Seen = seen g.I.Shelf c.replace_over.new.inputs in
    let e : Seen = seen g.D.Shelf c.replace_over.new.depot in
    subst (λ l. AnswersOver c.args.number (line_view l) c.args.table.now (record { inputs = i; depot = d }) (record { inputs = j; depot = e }) (cursors_of c.args.serving.now) (cursors_of c.replace_over.new.serving) c.replace_over.result) (sym c.in-Replace.is) c.replace_over.ensures.answers
