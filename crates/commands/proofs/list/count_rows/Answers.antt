use Rattle.std.proofs.Common.{◌≡◌, ◌∙◌, subst}
use Rattle.outside.specs.Seen.{seen}
use Rattle.segment_file.specs.Names.{file_of}
use Rattle.segment_head.specs.Heads.{LogsOpened}
use Rattle.segment_head.specs.Stored.{live}
use Rattle.segment_reads.specs.Logs.{IsHeadRead}
use Rattle.segment_reads.proofs.LogLemmas.{entries_none, opened_log}
use Rattle.command_model.proofs.StoredLemmas.{counted, uncounted}
use Rattle.commands.proofs.list.count_rows.Goals as goal

pub returns-in-Ok-clause-looks : goal.returns-in-Ok-clause-looks
returns-in-Ok-clause-looks g c =
    let e = c.in-Ok.ensures in
    let is : c.as_str.result.now ≡ file_of c.args.name.now = c.as_str.ensures.value ∙ c.in_ok-file.ensures in
    counted (seen g.D.Shelf c.args.depot.now) (seen g.D.Shelf c.open_head.new.shelf) c.args.table.now c.args.name.now c.as_str.result.now is c.requires.name
    c.in-Ok.head c.rows.result e.opened e.only_reads (λ f. cc) e.log c.rows.ensures

pub returns-in-Ok-clause-heads : goal.returns-in-Ok-clause-heads
returns-in-Ok-clause-heads g c =
    opened_log c.args.table.now (live c.args.name.now) (g.D.Shelf.held c.args.depot.now) (g.D.Shelf.log c.args.depot.now) (g.D.Shelf.log c.open_head.new.shelf)
    (subst (λ file. LogsOpened c.args.table.now c.args.name.now file (g.D.Shelf.held c.args.depot.now) (g.D.Shelf.log c.args.depot.now) (g.D.Shelf.log c.open_head.new.shelf)) (c.as_str.ensures.value ∙ c.in_ok-file.ensures) c.in-Ok.ensures.log)

pub returns-clause-looks : goal.returns-clause-looks
returns-clause-looks g c =
    let e = c.in-Err.ensures in
    let is : c.as_str.result.now ≡ file_of c.args.name.now = c.as_str.ensures.value ∙ c.in_ok-file.ensures in
    uncounted (seen g.D.Shelf c.args.depot.now) (seen g.D.Shelf c.open_head.new.shelf) c.args.table.now c.args.name.now c.as_str.result.now is c.requires.name
    c.in-Err.fault c.head_stop.result c.head_stop.ensures c.requires.there e.refused e.first e.only_reads e.log

pub returns-clause-heads : goal.returns-clause-heads
returns-clause-heads g c =
    opened_log c.args.table.now (live c.args.name.now) (g.D.Shelf.held c.args.depot.now) (g.D.Shelf.log c.args.depot.now) (g.D.Shelf.log c.open_head.new.shelf)
    (subst (λ file. LogsOpened c.args.table.now c.args.name.now file (g.D.Shelf.held c.args.depot.now) (g.D.Shelf.log c.args.depot.now) (g.D.Shelf.log c.open_head.new.shelf)) (c.as_str.ensures.value ∙ c.in_ok-file.ensures) c.in-Err.ensures.log)

pub returns-in_err-file-clause-heads : goal.returns-in_err-file-clause-heads
returns-in_err-file-clause-heads g c = entries_none (IsHeadRead c.args.table.now (g.D.Shelf.held c.args.depot.now) (live c.args.name.now)) (g.D.Shelf.log c.args.depot.now)
