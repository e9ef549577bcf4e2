use Rattle.std.proofs.Common.{rules, ◌≡◌, ◌<◌, ◌⊎◌, ◌+◌, ◌*◌, [], ◌∷◌, drop, get_or, inl, inr, refl, arith, le_refl}
use Rattle.std.proofs.lemmas.List.{drop_all, drop_more}
use Rattle.outside.specs.Seen.{seen}
use Rattle.outside.proofs.ReadLemmas.{logs-up}
use Rattle.outside.proofs.SeenLemmas.{reads_after}
use Rattle.doc_lists.specs.declared.run.Run.{Run}
use Rattle.index_reader.specs.declared.ends.Ends.{Ends}
use Rattle.index_reader.specs.declared.fault.ListFault.TheVariants.{BadList, NoMemory, ReadFault}
use Rattle.index_reader.proofs.FaultLemmas.{reads_answer, reads_failed, reads_refused, reads_well, same_fault}
use Rattle.index_reader.proofs.PostingSteps.{parts_end, parts_known, parts_next, parts_none, parts_order_bad, parts_partly, parts_read_bad, parts_start}
use Rattle.index_reader.proofs.postings.read_parts.Goals as goal
use Rattle.index_reader.proofs.postings.read_parts.Goals.{then-part-end-via-then-part-end, then-part-end-via-else-part-end+then-part}

pub returns-in-Err-clause-reads : goal.returns-in-Err-clause-reads
returns-in-Err-clause-reads g c = record {
  only_reads = search rules;
  log = search rules;
  log_of_fault =
      parts_none c.args.place.now 0 c.args.runs.now (g.S.Shelf.log c.args.shelf.now) c.requires.apart;
  bad = search rules;
}

pub loop-run-init : goal.loop-run-init
loop-run-init g c =
    parts_start c.args.size.count c.args.size.rows c.args.place.now c.args.runs.now (drop 0 c.args.runs.now) (seen g.S.Shelf c.args.shelf.now) c.in-Ok.parts.items refl c.in-Ok.ensures.items c.requires.apart c.requires.within

pub overflow_add-run : goal.overflow_add-run
overflow_add-run g c =
    let runs = c.args.runs.now in
    let i = c.loop-run.run-index in
    let run : Run = get_or runs i (record { first = 0; last = 0 }) in
    let is : drop i runs ≡ run ∷ drop (i + 1) runs = drop_more runs i (record { first = 0; last = 0 }) c.loop-run-test.true in
    let first = seen g.S.Shelf c.args.shelf.now in
    let now = seen g.S.Shelf c.loop-run.shelf in
    let known = parts_known c.args.size.count c.args.size.rows c.args.place.now runs (drop i runs) (drop (i + 1) runs) run first now c.loop-run.end c.loop-run.parts.items c.loop-run.invariant is in
    omega (arith, known, c.args.size.count_at_most)

pub read_ends-requires : goal.read_ends-requires
read_ends-requires g c =
    let runs = c.args.runs.now in
    let i = c.loop-run.run-index in
    let run : Run = get_or runs i (record { first = 0; last = 0 }) in
    let is : drop i runs ≡ run ∷ drop (i + 1) runs = drop_more runs i (record { first = 0; last = 0 }) c.loop-run-test.true in
    let first = seen g.S.Shelf c.args.shelf.now in
    let now = seen g.S.Shelf c.loop-run.shelf in
    let known = parts_known c.args.size.count c.args.size.rows c.args.place.now runs (drop i runs) (drop (i + 1) runs) run first now c.loop-run.end c.loop-run.parts.items c.loop-run.invariant is in
    omega (arith, known)

pub returns-in-Err-read_ends-clause-reads : goal.returns-in-Err-read_ends-clause-reads
returns-in-Err-read_ends-clause-reads g c = record {
  only_reads =
      let first = seen g.S.Shelf c.args.shelf.now in
      let now = seen g.S.Shelf c.loop-run.shelf in
      let next = seen g.S.Shelf c.read_ends.new.shelf in
      reads_failed Ends _ c.in-Err-read_ends.fault ReadFault first now next c.loop-run.invariant.reads c.in-Err-read_ends.ensures.reads.only_reads;
  log = search rules;
  log_of_fault =
      let runs = c.args.runs.now in
      let i = c.loop-run.run-index in
      let run : Run = get_or runs i (record { first = 0; last = 0 }) in
      let is : drop i runs ≡ run ∷ drop (i + 1) runs = drop_more runs i (record { first = 0; last = 0 }) c.loop-run-test.true in
      let first = seen g.S.Shelf c.args.shelf.now in
      let now = seen g.S.Shelf c.loop-run.shelf in
      let next = seen g.S.Shelf c.read_ends.new.shelf in
      parts_partly c.args.size.count c.args.size.rows c.args.place.now runs (drop i runs) (drop (i + 1) runs) run first now next c.loop-run.end c.loop-run.parts.items c.loop-run.invariant is c.in-Err-read_ends.ensures.reads.log_of_fault;
  bad =
      λ bad.
      let runs = c.args.runs.now in
      let i = c.loop-run.run-index in
      let run : Run = get_or runs i (record { first = 0; last = 0 }) in
      let is : drop i runs ≡ run ∷ drop (i + 1) runs = drop_more runs i (record { first = 0; last = 0 }) c.loop-run-test.true in
      let first = seen g.S.Shelf c.args.shelf.now in
      let now = seen g.S.Shelf c.loop-run.shelf in
      parts_read_bad c.args.size.count c.args.size.rows c.args.place.now runs (drop i runs) (drop (i + 1) runs) run first now c.loop-run.end c.loop-run.parts.items c.loop-run.invariant is c.args.size.rows_at_most
      (c.in-Err-read_ends.ensures.reads.bad (same_fault _ Ends c.in-Err-read_ends.fault BadList bad));
}

pub returns-then-part-end-clause-reads : goal.returns-then-part-end-clause-reads
returns-then-part-end-clause-reads g c = record {
  only_reads =
      let first = seen g.S.Shelf c.args.shelf.now in
      let now = seen g.S.Shelf c.loop-run.shelf in
      let next = seen g.S.Shelf c.read_ends.new.shelf in
      reads_refused _ BadList first next tt (reads_after ⊥ first now next c.loop-run.invariant.reads (reads_well Ends c.in-Ok-read_ends.part ReadFault now next c.in-Ok-read_ends.ensures.reads.only_reads));
  log = search rules;
  log_of_fault =
      let runs = c.args.runs.now in
      let i = c.loop-run.run-index in
      let run : Run = get_or runs i (record { first = 0; last = 0 }) in
      let is : drop i runs ≡ run ∷ drop (i + 1) runs = drop_more runs i (record { first = 0; last = 0 }) c.loop-run-test.true in
      let first = seen g.S.Shelf c.args.shelf.now in
      let now = seen g.S.Shelf c.loop-run.shelf in
      let next = seen g.S.Shelf c.read_ends.new.shelf in
      let at = c.args.place.now.offset in
      parts_partly c.args.size.count c.args.size.rows c.args.place.now runs (drop i runs) (drop (i + 1) runs) run first now next c.loop-run.end c.loop-run.parts.items c.loop-run.invariant is
      (logs-up c.args.place.now.file (at + 4 * run.first) (at + 4 * (run.last + 2)) (at + 4 * (run.last + 2)) now.log next.log next.log (le_refl _) c.in-Ok-read_ends.ensures.reads.log refl);
  bad =
      λ bad.
      let runs = c.args.runs.now in
      let i = c.loop-run.run-index in
      let run : Run = get_or runs i (record { first = 0; last = 0 }) in
      let is : drop i runs ≡ run ∷ drop (i + 1) runs = drop_more runs i (record { first = 0; last = 0 }) c.loop-run-test.true in
      let first = seen g.S.Shelf c.args.shelf.now in
      let now = seen g.S.Shelf c.loop-run.shelf in
      let part = c.in-Ok-read_ends.part in
      let wrong : (part.first < c.loop-run.end) ⊎ (part.last < part.first) = elim c.then-part-end.branch [
        | then-part-end-via-then-part-end w ↦ inl w.if-part-end.true
        | then-part-end-via-else-part-end+then-part w ↦ inr w.if-part.true
      ] in
      parts_order_bad c.args.size.count c.args.size.rows c.args.place.now runs (drop i runs) (drop (i + 1) runs) run first now c.loop-run.end part.first part.last c.loop-run.parts.items c.loop-run.invariant is c.args.size.rows_at_most
      c.in-Ok-read_ends.ensures.ends wrong;
}

pub returns-in-Err-push-clause-reads : goal.returns-in-Err-push-clause-reads
returns-in-Err-push-clause-reads g c = record {
  only_reads =
      let first = seen g.S.Shelf c.args.shelf.now in
      let now = seen g.S.Shelf c.loop-run.shelf in
      let next = seen g.S.Shelf c.read_ends.new.shelf in
      reads_refused _ NoMemory first next tt (reads_after ⊥ first now next c.loop-run.invariant.reads (reads_well Ends c.in-Ok-read_ends.part ReadFault now next c.in-Ok-read_ends.ensures.reads.only_reads));
  log = search rules;
  log_of_fault =
      let runs = c.args.runs.now in
      let i = c.loop-run.run-index in
      let run : Run = get_or runs i (record { first = 0; last = 0 }) in
      let is : drop i runs ≡ run ∷ drop (i + 1) runs = drop_more runs i (record { first = 0; last = 0 }) c.loop-run-test.true in
      let first = seen g.S.Shelf c.args.shelf.now in
      let now = seen g.S.Shelf c.loop-run.shelf in
      let next = seen g.S.Shelf c.read_ends.new.shelf in
      let at = c.args.place.now.offset in
      parts_partly c.args.size.count c.args.size.rows c.args.place.now runs (drop i runs) (drop (i + 1) runs) run first now next c.loop-run.end c.loop-run.parts.items c.loop-run.invariant is
      (logs-up c.args.place.now.file (at + 4 * run.first) (at + 4 * (run.last + 2)) (at + 4 * (run.last + 2)) now.log next.log next.log (le_refl _) c.in-Ok-read_ends.ensures.reads.log refl);
  bad = search rules;
}

pub loop-run-preserved : goal.loop-run-preserved
loop-run-preserved g c =
    let runs = c.args.runs.now in
    let i = c.loop-run.run-index in
    let run : Run = get_or runs i (record { first = 0; last = 0 }) in
    let is : drop i runs ≡ run ∷ drop (i + 1) runs = drop_more runs i (record { first = 0; last = 0 }) c.loop-run-test.true in
    let first = seen g.S.Shelf c.args.shelf.now in
    let now = seen g.S.Shelf c.loop-run.shelf in
    let next = seen g.S.Shelf c.read_ends.new.shelf in
    let part = c.in-Ok-read_ends.part in
    parts_next c.args.size.count c.args.size.rows c.args.place.now runs (drop i runs) (drop (i + 1) runs) run first now next c.loop-run.end part c.loop-run.parts.items c.push.new.self.items c.loop-run.invariant is
    (reads_well Ends part ReadFault now next c.in-Ok-read_ends.ensures.reads.only_reads) c.in-Ok-read_ends.ensures.reads.log c.in-Ok-read_ends.ensures.ends c.args.size.rows_at_most
    (omega (arith, c.in-Ok-read_ends.ensures.below.1)) (omega (arith, c.if-part-end.false)) (omega (arith, c.if-part.false)) c.in-Ok-push.ensures.items

pub returns-clause-parts : goal.returns-clause-parts
returns-clause-parts g c =
    let runs = c.args.runs.now in
    let i = c.loop-run.run-index in
    let none : drop i runs ≡ [] = drop_all i runs (omega (arith, c.loop-run-test.false)) in
    let first = seen g.S.Shelf c.args.shelf.now in
    let now = seen g.S.Shelf c.loop-run.shelf in
    (parts_end c.args.size.count c.args.size.rows c.args.place.now runs (drop i runs) first now c.loop-run.end c.loop-run.parts.items c.loop-run.invariant none).told

pub returns-clause-rising : goal.returns-clause-rising
returns-clause-rising g c =
    let runs = c.args.runs.now in
    let i = c.loop-run.run-index in
    let none : drop i runs ≡ [] = drop_all i runs (omega (arith, c.loop-run-test.false)) in
    let first = seen g.S.Shelf c.args.shelf.now in
    let now = seen g.S.Shelf c.loop-run.shelf in
    (parts_end c.args.size.count c.args.size.rows c.args.place.now runs (drop i runs) first now c.loop-run.end c.loop-run.parts.items c.loop-run.invariant none).rising

pub returns-clause-number : goal.returns-clause-number
returns-clause-number g c =
    let runs = c.args.runs.now in
    let i = c.loop-run.run-index in
    let none : drop i runs ≡ [] = drop_all i runs (omega (arith, c.loop-run-test.false)) in
    let first = seen g.S.Shelf c.args.shelf.now in
    let now = seen g.S.Shelf c.loop-run.shelf in
    (parts_end c.args.size.count c.args.size.rows c.args.place.now runs (drop i runs) first now c.loop-run.end c.loop-run.parts.items c.loop-run.invariant none).number

pub returns-clause-reads : goal.returns-clause-reads
returns-clause-reads g c = record {
  only_reads =
      let first = seen g.S.Shelf c.args.shelf.now in
      let now = seen g.S.Shelf c.loop-run.shelf in
      reads_answer _ c.loop-run.parts ReadFault first now c.loop-run.invariant.reads;
  log =
      let runs = c.args.runs.now in
      let i = c.loop-run.run-index in
      let none : drop i runs ≡ [] = drop_all i runs (omega (arith, c.loop-run-test.false)) in
      let first = seen g.S.Shelf c.args.shelf.now in
      let now = seen g.S.Shelf c.loop-run.shelf in
      (parts_end c.args.size.count c.args.size.rows c.args.place.now runs (drop i runs) first now c.loop-run.end c.loop-run.parts.items c.loop-run.invariant none).log;
  log_of_fault = search rules;
  bad = search rules;
}
