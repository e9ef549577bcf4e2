use Rattle.std.proofs.Common.{rules, ◌≡◌, ◌∙◌, ◌+◌, ◌*◌, ◌++◌, [], ◌∷◌, List, ℕ, ap, drop, get_or, le_refl, refl, arith}
use Rattle.std.proofs.lemmas.List.{drop_all, drop_more}
use Rattle.outside.specs.Seen.{seen}
use Rattle.outside.proofs.ReadLemmas.{logs-up}
use Rattle.outside.proofs.SeenLemmas.{reads_after}
use Rattle.index_reader.specs.declared.ends.Ends.{Ends}
use Rattle.index_reader.specs.declared.fault.ListFault.TheVariants.{BadList, NoMemory, ReadFault}
use Rattle.index_reader.proofs.FaultLemmas.{reads_answer, reads_failed, reads_refused, reads_well, same_fault}
use Rattle.index_reader.proofs.PostingSteps.{entries_bad, entries_end, entries_known, entries_next, entries_partly, entries_start}
use Rattle.index_reader.proofs.postings.read_entries.Goals as goal

pub loop-part-init : goal.loop-part-init
loop-part-init g c = entries_start c.args.size.count c.args.size.rows c.args.place.now c.args.parts.now (drop 0 c.args.parts.now) (seen g.S.Shelf c.args.shelf.now) c.new-entries.result.items refl c.new-entries.ensures.items c.requires.rising

pub overflow_add-first : goal.overflow_add-first
overflow_add-first g c =
    let parts = c.args.parts.now in
    let i = c.loop-part.part-index in
    let part : Ends = get_or parts i (record { first = 0; last = 0 }) in
    let is : drop i parts ≡ part ∷ drop (i + 1) parts = drop_more parts i (record { first = 0; last = 0 }) c.loop-part-test.true in
    let first = seen g.S.Shelf c.args.shelf.now in
    let now = seen g.S.Shelf c.loop-part.shelf in
    let known = entries_known c.args.size.count c.args.size.rows c.args.place.now parts (drop i parts) (drop (i + 1) parts) part first now c.loop-part.entries.items c.loop-part.invariant is in
    omega (arith, known, c.args.size.count_at_most, c.args.size.rows_at_most)

pub overflow_add-last : goal.overflow_add-last
overflow_add-last g c =
    let parts = c.args.parts.now in
    let i = c.loop-part.part-index in
    let part : Ends = get_or parts i (record { first = 0; last = 0 }) in
    let is : drop i parts ≡ part ∷ drop (i + 1) parts = drop_more parts i (record { first = 0; last = 0 }) c.loop-part-test.true in
    let first = seen g.S.Shelf c.args.shelf.now in
    let now = seen g.S.Shelf c.loop-part.shelf in
    let known = entries_known c.args.size.count c.args.size.rows c.args.place.now parts (drop i parts) (drop (i + 1) parts) part first now c.loop-part.entries.items c.loop-part.invariant is in
    omega (arith, known, c.args.size.count_at_most, c.args.size.rows_at_most)

pub read_words-requires : goal.read_words-requires
read_words-requires g c =
    let parts = c.args.parts.now in
    let i = c.loop-part.part-index in
    let part : Ends = get_or parts i (record { first = 0; last = 0 }) in
    let is : drop i parts ≡ part ∷ drop (i + 1) parts = drop_more parts i (record { first = 0; last = 0 }) c.loop-part-test.true in
    let first = seen g.S.Shelf c.args.shelf.now in
    let now = seen g.S.Shelf c.loop-part.shelf in
    let known = entries_known c.args.size.count c.args.size.rows c.args.place.now parts (drop i parts) (drop (i + 1) parts) part first now c.loop-part.entries.items c.loop-part.invariant is in
    omega (arith, known)

pub returns-in-Err-clause-reads : goal.returns-in-Err-clause-reads
returns-in-Err-clause-reads g c = record {
  only_reads =
      let first = seen g.S.Shelf c.args.shelf.now in
      let now = seen g.S.Shelf c.loop-part.shelf in
      let next = seen g.S.Shelf c.read_words.new.shelf in
      reads_failed _ _ c.in-Err.fault ReadFault first now next c.loop-part.invariant.reads c.in-Err.ensures.reads.only_reads;
  log = search rules;
  log_of_fault =
      let parts = c.args.parts.now in
      let i = c.loop-part.part-index in
      let part : Ends = get_or parts i (record { first = 0; last = 0 }) in
      let is : drop i parts ≡ part ∷ drop (i + 1) parts = drop_more parts i (record { first = 0; last = 0 }) c.loop-part-test.true in
      let first = seen g.S.Shelf c.args.shelf.now in
      let now = seen g.S.Shelf c.loop-part.shelf in
      let next = seen g.S.Shelf c.read_words.new.shelf in
      entries_partly c.args.size.count c.args.size.rows c.args.place.now parts (drop i parts) (drop (i + 1) parts) part first now next c.loop-part.entries.items c.loop-part.invariant is c.in-Err.ensures.reads.log_of_fault;
  bad =
      λ bad.
      let parts = c.args.parts.now in
      let i = c.loop-part.part-index in
      let part : Ends = get_or parts i (record { first = 0; last = 0 }) in
      let is : drop i parts ≡ part ∷ drop (i + 1) parts = drop_more parts i (record { first = 0; last = 0 }) c.loop-part-test.true in
      let first = seen g.S.Shelf c.args.shelf.now in
      let now = seen g.S.Shelf c.loop-part.shelf in
      entries_bad c.args.size.count c.args.size.rows c.args.place.now parts (drop i parts) (drop (i + 1) parts) part first now c.loop-part.entries.items c.loop-part.invariant is c.args.size.rows_at_most
      (c.in-Err.ensures.reads.bad (same_fault _ _ c.in-Err.fault BadList bad));
}

pub returns-in-Err-extend_from_slice-clause-reads : goal.returns-in-Err-extend_from_slice-clause-reads
returns-in-Err-extend_from_slice-clause-reads g c = record {
  only_reads =
      let first = seen g.S.Shelf c.args.shelf.now in
      let now = seen g.S.Shelf c.loop-part.shelf in
      let next = seen g.S.Shelf c.read_words.new.shelf in
      reads_refused _ NoMemory first next tt (reads_after ⊥ first now next c.loop-part.invariant.reads (reads_well _ c.in-Ok.words ReadFault now next c.in-Ok.ensures.reads.only_reads));
  log = search rules;
  log_of_fault =
      let parts = c.args.parts.now in
      let i = c.loop-part.part-index in
      let part : Ends = get_or parts i (record { first = 0; last = 0 }) in
      let is : drop i parts ≡ part ∷ drop (i + 1) parts = drop_more parts i (record { first = 0; last = 0 }) c.loop-part-test.true in
      let first = seen g.S.Shelf c.args.shelf.now in
      let now = seen g.S.Shelf c.loop-part.shelf in
      let next = seen g.S.Shelf c.read_words.new.shelf in
      let from = c.args.place.now.offset + 4 * (c.args.size.count + 1 + part.first) in
      let to = c.args.place.now.offset + 4 * (c.args.size.count + 1 + part.last) in
      entries_partly c.args.size.count c.args.size.rows c.args.place.now parts (drop i parts) (drop (i + 1) parts) part first now next c.loop-part.entries.items c.loop-part.invariant is
      (logs-up c.args.place.now.file from to to now.log next.log next.log (le_refl _) c.in-Ok.ensures.reads.log refl);
  bad = search rules;
}

pub loop-part-preserved : goal.loop-part-preserved
loop-part-preserved g c =
    let parts = c.args.parts.now in
    let i = c.loop-part.part-index in
    let part : Ends = get_or parts i (record { first = 0; last = 0 }) in
    let is : drop i parts ≡ part ∷ drop (i + 1) parts = drop_more parts i (record { first = 0; last = 0 }) c.loop-part-test.true in
    let first = seen g.S.Shelf c.args.shelf.now in
    let now = seen g.S.Shelf c.loop-part.shelf in
    let next = seen g.S.Shelf c.read_words.new.shelf in
    let old = c.loop-part.entries.items in
    entries_next c.args.size.count c.args.size.rows c.args.place.now parts (drop i parts) (drop (i + 1) parts) part first now next old c.extend_from_slice.new.self.items c.in-Ok.words c.loop-part.invariant is
    (reads_well _ c.in-Ok.words ReadFault now next c.in-Ok.ensures.reads.only_reads) c.in-Ok.ensures.reads.log c.in-Ok.ensures.words c.args.size.rows_at_most c.in-Ok.ensures.below
    (c.in-Ok-extend_from_slice.ensures.items ∙ ap (λ (ws : List ℕ). old ++ ws) c.as_slice.ensures)

pub returns-clause-entries : goal.returns-clause-entries
returns-clause-entries g c =
    let parts = c.args.parts.now in
    let i = c.loop-part.part-index in
    let none : drop i parts ≡ [] = drop_all i parts (omega (arith, c.loop-part-test.false)) in
    let first = seen g.S.Shelf c.args.shelf.now in
    let now = seen g.S.Shelf c.loop-part.shelf in
    (entries_end c.args.size.count c.args.size.rows c.args.place.now parts (drop i parts) first now c.loop-part.entries.items c.loop-part.invariant none).0

pub returns-clause-reads : goal.returns-clause-reads
returns-clause-reads g c = record {
  only_reads =
      reads_answer _ c.loop-part.entries ReadFault (seen g.S.Shelf c.args.shelf.now) (seen g.S.Shelf c.loop-part.shelf) c.loop-part.invariant.reads;
  log =
      let parts = c.args.parts.now in
      let i = c.loop-part.part-index in
      let none : drop i parts ≡ [] = drop_all i parts (omega (arith, c.loop-part-test.false)) in
      let first = seen g.S.Shelf c.args.shelf.now in
      let now = seen g.S.Shelf c.loop-part.shelf in
      (entries_end c.args.size.count c.args.size.rows c.args.place.now parts (drop i parts) first now c.loop-part.entries.items c.loop-part.invariant none).1;
  log_of_fault = search rules;
  bad = search rules;
}
