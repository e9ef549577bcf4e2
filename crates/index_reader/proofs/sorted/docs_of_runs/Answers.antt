use Rattle.std.proofs.Common.{rules, ◌≡◌, ◌<◌, ◌⊎◌, ◌+◌, ◌*◌, [], ◌∷◌, drop, get_or, inl, inr, refl, arith, le_refl}
use Rattle.std.proofs.lemmas.List.{drop_all, drop_more}
use Rattle.outside.specs.Seen.{seen}
use Rattle.outside.proofs.ReadLemmas.{logs-up}
use Rattle.outside.proofs.SeenLemmas.{reads_after}
use Rattle.doc_lists.specs.declared.doc_list.DocList.{DocList}
use Rattle.doc_lists.specs.declared.run.Run.{Run}
use Rattle.index_reader.specs.declared.ends.Ends.{Ends}
use Rattle.index_reader.specs.declared.fault.ListFault.TheVariants.{BadList, NoMemory, ReadFault}
use Rattle.index_reader.proofs.FaultLemmas.{reads_answer, reads_failed, reads_refused, reads_well, same_fault}
use Rattle.index_reader.proofs.SortedSteps.{all_less, run_known, sorted_docs_told, sorted_log, sorted_next, sorted_order_bad, sorted_partly, sorted_read_bad, sorted_start}
use Rattle.index_reader.proofs.sorted.docs_of_runs.Goals as goal
use Rattle.index_reader.proofs.sorted.docs_of_runs.Goals.{then-ends-end-via-then-ends-end, then-ends-end-via-else-ends-end+then-ends}

pub loop-run-init : goal.loop-run-init
loop-run-init g c =
    sorted_start c.args.size.count c.args.size.rows c.args.place.now c.args.runs.now (drop 0 c.args.runs.now) (seen g.S.Shelf c.args.shelf.now) c.new-docs.result refl c.new-docs.ensures c.requires.apart c.requires.within

pub overflow_mul-run : goal.overflow_mul-run
overflow_mul-run g c =
    let runs = c.args.runs.now in
    let i = c.loop-run.run-index in
    let run : Run = get_or runs i (record { first = 0; last = 0 }) in
    let is : drop i runs ≡ run ∷ drop (i + 1) runs = drop_more runs i (record { first = 0; last = 0 }) c.loop-run-test.true in
    let first = seen g.S.Shelf c.args.shelf.now in
    let now = seen g.S.Shelf c.loop-run.shelf in
    let known = run_known c.args.size.count c.args.size.rows c.args.place.now runs (drop i runs) (drop (i + 1) runs) run first now c.loop-run.end c.loop-run.docs c.loop-run.invariant is in
    omega (arith, known, c.args.size.count_at_most)

pub read_ends-requires : goal.read_ends-requires
read_ends-requires g c =
    let runs = c.args.runs.now in
    let i = c.loop-run.run-index in
    let run : Run = get_or runs i (record { first = 0; last = 0 }) in
    let is : drop i runs ≡ run ∷ drop (i + 1) runs = drop_more runs i (record { first = 0; last = 0 }) c.loop-run-test.true in
    let first = seen g.S.Shelf c.args.shelf.now in
    let now = seen g.S.Shelf c.loop-run.shelf in
    let known = run_known c.args.size.count c.args.size.rows c.args.place.now runs (drop i runs) (drop (i + 1) runs) run first now c.loop-run.end c.loop-run.docs c.loop-run.invariant is in
    omega (arith, known)

pub returns-in-Err-clause-reads : goal.returns-in-Err-clause-reads
returns-in-Err-clause-reads g c = record {
  only_reads =
      let first = seen g.S.Shelf c.args.shelf.now in
      let now = seen g.S.Shelf c.loop-run.shelf in
      let next = seen g.S.Shelf c.read_ends.new.shelf in
      reads_failed Ends DocList c.in-Err.fault ReadFault first now next c.loop-run.invariant.reads c.in-Err.ensures.reads.only_reads;
  log = search rules;
  log_of_fault =
      let runs = c.args.runs.now in
      let i = c.loop-run.run-index in
      let run : Run = get_or runs i (record { first = 0; last = 0 }) in
      let is : drop i runs ≡ run ∷ drop (i + 1) runs = drop_more runs i (record { first = 0; last = 0 }) c.loop-run-test.true in
      let first = seen g.S.Shelf c.args.shelf.now in
      let now = seen g.S.Shelf c.loop-run.shelf in
      let next = seen g.S.Shelf c.read_ends.new.shelf in
      sorted_partly c.args.size.count c.args.size.rows c.args.place.now runs (drop i runs) (drop (i + 1) runs) run first now next c.loop-run.end c.loop-run.docs c.loop-run.invariant is c.in-Err.ensures.reads.log_of_fault;
  bad =
      λ bad.
      let runs = c.args.runs.now in
      let i = c.loop-run.run-index in
      let run : Run = get_or runs i (record { first = 0; last = 0 }) in
      let is : drop i runs ≡ run ∷ drop (i + 1) runs = drop_more runs i (record { first = 0; last = 0 }) c.loop-run-test.true in
      let first = seen g.S.Shelf c.args.shelf.now in
      let now = seen g.S.Shelf c.loop-run.shelf in
      sorted_read_bad c.args.size.count c.args.size.rows c.args.place.now runs (drop i runs) (drop (i + 1) runs) run first now c.loop-run.end c.loop-run.docs c.loop-run.invariant is c.args.size.rows_at_most
      (c.in-Err.ensures.reads.bad (same_fault DocList Ends c.in-Err.fault BadList bad));
}

pub returns-then-ends-end-clause-reads : goal.returns-then-ends-end-clause-reads
returns-then-ends-end-clause-reads g c = record {
  only_reads =
      let first = seen g.S.Shelf c.args.shelf.now in
      let now = seen g.S.Shelf c.loop-run.shelf in
      let next = seen g.S.Shelf c.read_ends.new.shelf in
      reads_refused DocList BadList first next tt (reads_after ⊥ first now next c.loop-run.invariant.reads (reads_well Ends c.in-Ok.ends ReadFault now next c.in-Ok.ensures.reads.only_reads));
  log = search rules;
  log_of_fault =
      let runs = c.args.runs.now in
      let i = c.loop-run.run-index in
      let run : Run = get_or runs i (record { first = 0; last = 0 }) in
      let is : drop i runs ≡ run ∷ drop (i + 1) runs = drop_more runs i (record { first = 0; last = 0 }) c.loop-run-test.true in
      let first = seen g.S.Shelf c.args.shelf.now in
      let now = seen g.S.Shelf c.loop-run.shelf in
      let next = seen g.S.Shelf c.read_ends.new.shelf in
      let at = c.args.place.now.offset in
      sorted_partly c.args.size.count c.args.size.rows c.args.place.now runs (drop i runs) (drop (i + 1) runs) run first now next c.loop-run.end c.loop-run.docs c.loop-run.invariant is
      (logs-up c.args.place.now.file (at + 4 * (2 * run.first)) (at + 4 * (2 * run.last + 2)) (at + 4 * (2 * run.last + 2)) now.log next.log next.log (le_refl _) c.in-Ok.ensures.reads.log refl);
  bad =
      λ bad.
      let runs = c.args.runs.now in
      let i = c.loop-run.run-index in
      let run : Run = get_or runs i (record { first = 0; last = 0 }) in
      let is : drop i runs ≡ run ∷ drop (i + 1) runs = drop_more runs i (record { first = 0; last = 0 }) c.loop-run-test.true in
      let first = seen g.S.Shelf c.args.shelf.now in
      let now = seen g.S.Shelf c.loop-run.shelf in
      let wrong : (c.in-Ok.ends.first < c.loop-run.end) ⊎ (c.in-Ok.ends.last < c.in-Ok.ends.first) = elim c.then-ends-end.branch [
        | then-ends-end-via-then-ends-end w ↦ inl w.if-ends-end.true
        | then-ends-end-via-else-ends-end+then-ends w ↦ inr w.if-ends.true
      ] in
      sorted_order_bad c.args.size.count c.args.size.rows c.args.place.now runs (drop i runs) (drop (i + 1) runs) run first now c.loop-run.end c.in-Ok.ends.first c.in-Ok.ends.last c.loop-run.docs c.loop-run.invariant is c.args.size.rows_at_most
      c.in-Ok.ensures.ends wrong;
}

pub push_range-requires-clause-above : goal.push_range-requires-clause-above
push_range-requires-clause-above g c =
    all_less c.loop-run.docs c.loop-run.end c.in-Ok.ends.first (omega (arith, c.if-ends-end.false)) c.loop-run.invariant.below

pub returns-in-Err-push_range-clause-reads : goal.returns-in-Err-push_range-clause-reads
returns-in-Err-push_range-clause-reads g c = record {
  only_reads =
      let first = seen g.S.Shelf c.args.shelf.now in
      let now = seen g.S.Shelf c.loop-run.shelf in
      let next = seen g.S.Shelf c.read_ends.new.shelf in
      reads_refused DocList NoMemory first next tt (reads_after ⊥ first now next c.loop-run.invariant.reads (reads_well Ends c.in-Ok.ends ReadFault now next c.in-Ok.ensures.reads.only_reads));
  log = search rules;
  log_of_fault =
      let runs = c.args.runs.now in
      let i = c.loop-run.run-index in
      let run : Run = get_or runs i (record { first = 0; last = 0 }) in
      let is : drop i runs ≡ run ∷ drop (i + 1) runs = drop_more runs i (record { first = 0; last = 0 }) c.loop-run-test.true in
      let first = seen g.S.Shelf c.args.shelf.now in
      let now = seen g.S.Shelf c.loop-run.shelf in
      let next = seen g.S.Shelf c.read_ends.new.shelf in
      let at = c.args.place.now.offset in
      sorted_partly c.args.size.count c.args.size.rows c.args.place.now runs (drop i runs) (drop (i + 1) runs) run first now next c.loop-run.end c.loop-run.docs c.loop-run.invariant is
      (logs-up c.args.place.now.file (at + 4 * (2 * run.first)) (at + 4 * (2 * run.last + 2)) (at + 4 * (2 * run.last + 2)) now.log next.log next.log (le_refl _) c.in-Ok.ensures.reads.log refl);
  bad = search rules;
}

pub loop-run-preserved : goal.loop-run-preserved
loop-run-preserved g c =
    let runs = c.args.runs.now in
    let i = c.loop-run.run-index in
    let run : Run = get_or runs i (record { first = 0; last = 0 }) in
    let is : drop i runs ≡ run ∷ drop (i + 1) runs = drop_more runs i (record { first = 0; last = 0 }) c.loop-run-test.true in
    let first = seen g.S.Shelf c.args.shelf.now in
    let now = seen g.S.Shelf c.loop-run.shelf in
    let next = seen g.S.Shelf c.read_ends.new.shelf in
    sorted_next c.args.size.count c.args.size.rows c.args.place.now runs (drop i runs) (drop (i + 1) runs) run first now next c.loop-run.end c.in-Ok.ends.first c.in-Ok.ends.last c.loop-run.docs c.push_range.new.self c.loop-run.invariant is
    (reads_well Ends c.in-Ok.ends ReadFault now next c.in-Ok.ensures.reads.only_reads) c.in-Ok.ensures.reads.log c.in-Ok.ensures.ends c.args.size.rows_at_most
    (omega (arith, c.in-Ok.ensures.below.1)) (omega (arith, c.if-ends-end.false)) (omega (arith, c.if-ends.false)) c.in-Ok-push_range.ensures.ok

pub returns-clause-docs : goal.returns-clause-docs
returns-clause-docs g c =
    let runs = c.args.runs.now in
    let i = c.loop-run.run-index in
    let none : drop i runs ≡ [] = drop_all i runs (omega (arith, c.loop-run-test.false)) in
    let first = seen g.S.Shelf c.args.shelf.now in
    let now = seen g.S.Shelf c.loop-run.shelf in
    sorted_docs_told c.args.size.count c.args.size.rows c.args.place.now runs (drop i runs) first now c.loop-run.end c.loop-run.docs c.loop-run.invariant none

pub returns-clause-below : goal.returns-clause-below
returns-clause-below g c =
    all_less c.loop-run.docs c.loop-run.end c.args.size.rows c.loop-run.invariant.bound c.loop-run.invariant.below

pub returns-clause-reads : goal.returns-clause-reads
returns-clause-reads g c = record {
  only_reads =
      let first = seen g.S.Shelf c.args.shelf.now in
      let now = seen g.S.Shelf c.loop-run.shelf in
      reads_answer DocList c.loop-run.docs ReadFault first now c.loop-run.invariant.reads;
  log =
      let runs = c.args.runs.now in
      let i = c.loop-run.run-index in
      let none : drop i runs ≡ [] = drop_all i runs (omega (arith, c.loop-run-test.false)) in
      let first = seen g.S.Shelf c.args.shelf.now in
      let now = seen g.S.Shelf c.loop-run.shelf in
      sorted_log c.args.size.count c.args.size.rows c.args.place.now runs (drop i runs) first now c.loop-run.end c.loop-run.docs c.loop-run.invariant none;
  log_of_fault = search rules;
  bad = search rules;
}
