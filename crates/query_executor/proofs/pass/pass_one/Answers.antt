use Rattle.outside.specs.Seen.{seen}
use Rattle.segment_head.specs.declared.fault.EngineFault.TheVariants as engine
use Rattle.query_executor.proofs.DoneLemmas.{stats_added}
use Rattle.query_executor.proofs.EndLemmas.{gives_fault}
use Rattle.query_executor.proofs.PassLemmas.{adds_done, adds_failed, adds_lacking}
use Rattle.group_table.specs.Pooled.{in_pool}
use Rattle.query_executor.specs.Passes.{kept_by}
use Rattle.query_executor.proofs.pass.pass_one.Goals as goal

pub returns-in-Err-clause-adds : goal.returns-in-Err-clause-adds
returns-in-Err-clause-adds g c =
    adds_failed c.args.query.now c.args.table.now c.args.segment.now (kept_by c.args.pass.now) (in_pool c.add_segment.new.groups c.add_segment.new.pool) _ _ c.in-Err.fault (seen g.S.Shelf c.args.shelf.now) (seen g.S.Shelf c.add_segment.new.shelf) c.in-Err.ensures.adds

pub returns-in_err-push_if-clause-adds : goal.returns-in_err-push_if-clause-adds
returns-in_err-push_if-clause-adds g c =
    adds_lacking c.args.query.now c.args.table.now c.args.segment.now (kept_by c.args.pass.now) (in_pool c.add_segment.new.groups c.add_segment.new.pool) _ _ c.in-Ok.done c.from_residual.result (seen g.S.Shelf c.args.shelf.now) (seen g.S.Shelf c.add_segment.new.shelf)
    (gives_fault _ c.from_residual.result engine.NoMemory c.from_residual.ensures.1) c.in-Ok.ensures.adds

pub returns-clause-adds : goal.returns-clause-adds
returns-clause-adds g c =
    adds_done c.args.query.now c.args.table.now c.args.segment.now (kept_by c.args.pass.now) (in_pool c.add_segment.new.groups c.add_segment.new.pool) _ _ c.in-Ok.done tt (seen g.S.Shelf c.args.shelf.now) (seen g.S.Shelf c.add_segment.new.shelf) c.in-Ok.ensures.adds

pub returns-clause-lines : goal.returns-clause-lines
returns-clause-lines g c = λ wanted.
    stats_added c.args.query.now c.args.table.now (g.S.Shelf.held c.args.shelf.now) c.args.segment.now c.in-Ok.done.plan c.in-Ok.done.docs c.args.pass.now.lines.items _ c.in-Ok.ensures.done (c.in_ok-push_if.ensures wanted)
