use Rattle.std.proofs.Common.{rules, ◌≡◌, ◌+◌, ◌∷◌, [], ℕ, suc, ap, length-append, List, Option, None, false, get_or, length, subst, arith}
use Rattle.outside.specs.Seen.{seen}
use Rattle.outside.proofs.SeenLemmas.{err_is, reads_next}
use Rattle.segment_head.specs.declared.fault.EngineFault.{EngineFault}
use Rattle.segment_head.specs.declared.fault.EngineFault.TheVariants.{ReadFault}
use Rattle.column_reader.specs.Forward.{IsRead, LogsColumns, LogsSome}
use Rattle.column_reader.proofs.ByteLemmas.{grown_at}
use Rattle.column_reader.proofs.FaultLemmas.{fault_in}
use Rattle.column_reader.proofs.LogLemmas.{logs_more, logs_none, logs_part}
use Rattle.column_reader.proofs.columns.read_columns.Goals as goal

pub returns-in_err-all-clause-reads : goal.returns-in_err-all-clause-reads
returns-in_err-all-clause-reads g c = record {
  only_reads = search rules;
  log = search rules;
  log_of_fault =
      let log = g.S.Shelf.log c.args.shelf.now in
      err_is c.from_residual.result (LogsSome c.args.head.now c.args.named.now log log) (logs_none c.args.head.now c.args.named.now log);
}

pub returns-in-Err-clause-reads : goal.returns-in-Err-clause-reads
returns-in-Err-clause-reads g c = record {
  only_reads = search rules;
  log = tt;
  log_of_fault =
      logs_part c.args.head.now c.args.named.now c.loop-column.column (g.S.Shelf.log c.args.shelf.now) (g.S.Shelf.log c.loop-column.shelf) (g.S.Shelf.log c.read_named.new.shelf) c.loop-column-test.true c.loop-column.invariant.log c.in-Err.ensures.reads.log_of_fault;
}

pub returns-in_err-keep-clause-reads : goal.returns-in_err-keep-clause-reads
returns-in_err-keep-clause-reads g c = record {
  only_reads = search rules;
  log = search rules;
  log_of_fault =
      err_is c.from_residual-in_err-keep.result (LogsSome c.args.head.now c.args.named.now (g.S.Shelf.log c.args.shelf.now) (g.S.Shelf.log c.read_named.new.shelf))
      (logs_more c.args.head.now c.args.named.now c.loop-column.column (g.S.Shelf.log c.args.shelf.now) (g.S.Shelf.log c.loop-column.shelf) (g.S.Shelf.log c.read_named.new.shelf) c.loop-column-test.true c.loop-column.invariant.log c.in-Ok.ensures.reads.log);
}

pub returns-clause-reads : goal.returns-clause-reads
returns-clause-reads g c = record {
  only_reads = search rules;
  log =
      let end : c.loop-column.column ≡ length c.args.named.now = omega arith in
      subst (λ n. LogsColumns c.args.head.now c.args.named.now n (g.S.Shelf.log c.args.shelf.now) (g.S.Shelf.log c.loop-column.shelf)) end c.loop-column.invariant.log;
  log_of_fault = tt;
}

pub loop-column-preserved : goal.loop-column-preserved
loop-column-preserved g c =
    let i : ℕ = c.loop-column.column in
    let more : suc i ≡ i + 1 = omega arith in
    let held = g.S.Shelf.held c.args.shelf.now in
    record {
      count = omega (arith, ap length c.in_ok-keep.ensures.ok, length-append c.loop-column.all.items (c.in-Ok.ids ∷ []), c.loop-column.invariant.count);
      ids = grown_at (λ column ids. IsRead held c.args.head.now column (get_or c.args.named.now column false) ids) None c.loop-column.all.items c.keep.new.all.items c.in-Ok.ids i c.loop-column.invariant.count
          c.in_ok-keep.ensures.ok c.loop-column.invariant.ids (subst (λ h. IsRead h c.args.head.now i (get_or c.args.named.now i false) c.in-Ok.ids) c.loop-column.invariant.only_reads.held c.in-Ok.ensures.ids);
      only_reads = reads_next (Option (List ℕ)) EngineFault c.in-Ok.ids ReadFault (seen g.S.Shelf c.args.shelf.now) (seen g.S.Shelf c.loop-column.shelf) (seen g.S.Shelf c.read_named.new.shelf) c.loop-column.invariant.only_reads c.in-Ok.ensures.reads.only_reads;
      log = subst (λ n. LogsColumns c.args.head.now c.args.named.now n (g.S.Shelf.log c.args.shelf.now) (g.S.Shelf.log c.read_named.new.shelf)) more (g.S.Shelf.log c.loop-column.shelf, c.loop-column.invariant.log, c.in-Ok.ensures.reads.log);
    }

pub returns-in-Err-clause-fault : goal.returns-in-Err-clause-fault
returns-in-Err-clause-fault g c =
    fault_in (g.S.Shelf.held c.args.shelf.now) (g.S.Shelf.held c.loop-column.shelf) c.args.head.now c.args.named.now c.loop-column.column c.in-Err.fault c.loop-column.invariant.only_reads.held c.in-Err.ensures.fault
