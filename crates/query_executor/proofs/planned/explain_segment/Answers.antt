use Rattle.outside.specs.Seen.{Seen, seen}
use Rattle.segment_opening.specs.Calls.{HasOpeningIn}
use Rattle.segment_head.specs.declared.fault.EngineFault.TheVariants as engine
use Rattle.query_executor.proofs.EndLemmas.{fault_ok, gives_fault}
use Rattle.query_executor.proofs.LineLemmas.{line_added}
use Rattle.query_executor.proofs.PassLemmas.{head_done, head_failed, head_lacking}
use Rattle.query_executor.proofs.planned.explain_segment.Goals as goal

pub plan_segment-requires : goal.plan_segment-requires
plan_segment-requires g c = c.requires

pub push_line-pushed-requires : goal.push_line-pushed-requires
push_line-pushed-requires g c = record { valid = c.requires.valid; planned = c.in-Ok.ensures.planned.plan_is; detailed = c.in-Ok.ensures.planned.detailed }

pub returns-in-Err : goal.returns-in-Err
returns-in-Err g c = record {
  ok = tt;
  opens = tt;
  looks = head_failed c.args.table.now c.args.segment.now _ _ c.in-Err.fault (seen g.S.Shelf c.args.shelf.now) (seen g.S.Shelf c.plan_segment.new.shelf) c.in-Err.ensures.looks;
}

pub returns-in_err-pushed : goal.returns-in_err-pushed
returns-in_err-pushed g c =
    let r = c.from_residual.result in
    let is = gives_fault _ r engine.NoMemory c.from_residual.ensures.1 in
    record {
      ok = fault_ok _ r engine.NoMemory _ is;
      opens = fault_ok _ r engine.NoMemory (HasOpeningIn c.args.table.now (g.S.Shelf.held c.args.shelf.now) c.args.segment.now) is;
      looks = head_lacking c.args.table.now c.args.segment.now _ _ c.in-Ok.found r (seen g.S.Shelf c.args.shelf.now) (seen g.S.Shelf c.plan_segment.new.shelf) is c.in-Ok.ensures.looks;
    }

pub returns : goal.returns
returns g c =
    let a : Seen = seen g.S.Shelf c.args.shelf.now in
    let found = c.in-Ok.found in
    record {
      ok = line_added c.args.query.now c.args.table.now c.head_tells_law.ensures c.explained_law.ensures c.requires.valid c.requires.query a.held c.args.segment.now
          found.head found.plan c.args.text.now.items c.push_line-pushed.new.text.items c.in-Ok.ensures.planned c.in_ok-pushed.ensures;
      opens = c.in-Ok.ensures.opens;
      looks = head_done c.args.table.now c.args.segment.now _ _ found tt a (seen g.S.Shelf c.plan_segment.new.shelf) c.in-Ok.ensures.looks;
    }
