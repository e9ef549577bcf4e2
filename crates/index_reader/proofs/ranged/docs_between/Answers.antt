use Rattle.std.proofs.Common.{rules}
use Rattle.outside.specs.Seen.{seen}
use Rattle.outside.proofs.SeenLemmas.{reads_after}
use Rattle.doc_lists.specs.declared.doc_set.DocSet.{DocSet}
use Rattle.index_reader.specs.declared.fault.ListFault.TheVariants.{BadList, ReadFault}
use Rattle.index_reader.proofs.BucketSteps.{PartsRead, all_logs, check_told, outer_partly, ranged_bad, sure_partly, sure_told, told_at}
use Rattle.index_reader.proofs.FaultLemmas.{reads_well, same_fault}
use Rattle.index_reader.proofs.ranged.docs_between.Goals as goal

pub returns-in-Err-clause-reads : goal.returns-in-Err-clause-reads
returns-in-Err-clause-reads g c = record {
  only_reads = search rules;
  log = search rules;
  log_of_fault = search rules;
  bad =
      λ bad.
      let held = g.S.Shelf.held c.args.shelf.now in
      let place = c.args.place.now in
      let count = c.args.count in
      let rows = c.args.rows in
      let n = c.buckets_of-buckets.result in
      ranged_bad held place count rows n c.buckets_of-buckets.ensures (c.in-Err.ensures.reads.bad (same_fault _ _ c.in-Err.fault BadList bad));
}

pub returns-in-Err-docs_of_parts-clause-reads : goal.returns-in-Err-docs_of_parts-clause-reads
returns-in-Err-docs_of_parts-clause-reads g c = record {
  only_reads = search rules;
  log = search rules;
  log_of_fault =
      let held = g.S.Shelf.held c.args.shelf.now in
      let place = c.args.place.now in
      let count = c.args.count in
      let rows = c.args.rows in
      let n = c.buckets_of-buckets.result in
      let o = c.overlap_of-overlap.result in
      let parts = c.in-Ok.parts in
      let old = g.S.Shelf.log c.args.shelf.now in
      let now = g.S.Shelf.log c.read_bucket_parts.new.shelf in
      let read : PartsRead held place count rows c.args.low c.args.high n o parts old now = record {
        overlap = c.overlap_of-overlap.ensures;
        number = c.buckets_of-buckets.ensures;
        rising = c.in-Ok.ensures.rising;
        joined = c.in-Ok.ensures.joined;
        told = c.in-Ok.ensures.parts;
        log = c.in-Ok.ensures.reads.log;
      } in
      sure_partly held place count rows c.args.low c.args.high n o parts old now read (g.S.Shelf.log c.docs_of_parts.new.shelf) c.in-Err-docs_of_parts.ensures.reads.log_of_fault;
  bad =
      λ bad.
      let held = g.S.Shelf.held c.args.shelf.now in
      let place = c.args.place.now in
      let count = c.args.count in
      let rows = c.args.rows in
      let n = c.buckets_of-buckets.result in
      let first = seen g.S.Shelf c.args.shelf.now in
      let mid = seen g.S.Shelf c.read_bucket_parts.new.shelf in
      let before = reads_well _ c.in-Ok.parts ReadFault first mid c.in-Ok.ensures.reads.only_reads in
      ranged_bad held place count rows n c.buckets_of-buckets.ensures
      (told_at held mid.held place n rows (λ keys. ⊥) before.held (c.in-Err-docs_of_parts.ensures.reads.bad (same_fault _ DocSet c.in-Err-docs_of_parts.fault BadList bad)));
}

pub returns-in-Err-docs_of_parts-2-clause-reads : goal.returns-in-Err-docs_of_parts-2-clause-reads
returns-in-Err-docs_of_parts-2-clause-reads g c = record {
  only_reads = search rules;
  log = search rules;
  log_of_fault =
      let held = g.S.Shelf.held c.args.shelf.now in
      let place = c.args.place.now in
      let count = c.args.count in
      let rows = c.args.rows in
      let n = c.buckets_of-buckets.result in
      let o = c.overlap_of-overlap.result in
      let parts = c.in-Ok.parts in
      let old = g.S.Shelf.log c.args.shelf.now in
      let now = g.S.Shelf.log c.read_bucket_parts.new.shelf in
      let read : PartsRead held place count rows c.args.low c.args.high n o parts old now = record {
        overlap = c.overlap_of-overlap.ensures;
        number = c.buckets_of-buckets.ensures;
        rising = c.in-Ok.ensures.rising;
        joined = c.in-Ok.ensures.joined;
        told = c.in-Ok.ensures.parts;
        log = c.in-Ok.ensures.reads.log;
      } in
      outer_partly held place count rows c.args.low c.args.high n o parts old now read (g.S.Shelf.log c.docs_of_parts.new.shelf) (g.S.Shelf.log c.docs_of_parts-2.new.shelf)
      c.in-Ok-docs_of_parts.ensures.reads.log c.in-Err-docs_of_parts-2.ensures.reads.log_of_fault;
  bad =
      λ bad.
      let held = g.S.Shelf.held c.args.shelf.now in
      let place = c.args.place.now in
      let count = c.args.count in
      let rows = c.args.rows in
      let n = c.buckets_of-buckets.result in
      let first = seen g.S.Shelf c.args.shelf.now in
      let mid = seen g.S.Shelf c.read_bucket_parts.new.shelf in
      let before = reads_well _ c.in-Ok.parts ReadFault first mid c.in-Ok.ensures.reads.only_reads in
      let next = seen g.S.Shelf c.docs_of_parts.new.shelf in
      let both = reads_after ⊥ first mid next before (reads_well DocSet c.in-Ok-docs_of_parts.docs ReadFault mid next c.in-Ok-docs_of_parts.ensures.reads.only_reads) in
      ranged_bad held place count rows n c.buckets_of-buckets.ensures
      (told_at held next.held place n rows (λ keys. ⊥) both.held (c.in-Err-docs_of_parts-2.ensures.reads.bad (same_fault _ DocSet c.in-Err-docs_of_parts-2.fault BadList bad)));
}

pub returns-clause-sure : goal.returns-clause-sure
returns-clause-sure g c =
    let held = g.S.Shelf.held c.args.shelf.now in
    let place = c.args.place.now in
    let count = c.args.count in
    let rows = c.args.rows in
    let n = c.buckets_of-buckets.result in
    let o = c.overlap_of-overlap.result in
    let parts = c.in-Ok.parts in
    let old = g.S.Shelf.log c.args.shelf.now in
    let now = g.S.Shelf.log c.read_bucket_parts.new.shelf in
    let read : PartsRead held place count rows c.args.low c.args.high n o parts old now = record {
      overlap = c.overlap_of-overlap.ensures;
      number = c.buckets_of-buckets.ensures;
      rising = c.in-Ok.ensures.rising;
      joined = c.in-Ok.ensures.joined;
      told = c.in-Ok.ensures.parts;
      log = c.in-Ok.ensures.reads.log;
    } in
    let first = seen g.S.Shelf c.args.shelf.now in
    let mid = seen g.S.Shelf c.read_bucket_parts.new.shelf in
    let before = reads_well _ c.in-Ok.parts ReadFault first mid c.in-Ok.ensures.reads.only_reads in
    sure_told held place count rows c.args.low c.args.high n o parts old now read mid.held c.in-Ok-docs_of_parts.docs before.held c.in-Ok-docs_of_parts.ensures.found.docs

pub returns-clause-check : goal.returns-clause-check
returns-clause-check g c =
    let held = g.S.Shelf.held c.args.shelf.now in
    let place = c.args.place.now in
    let count = c.args.count in
    let rows = c.args.rows in
    let n = c.buckets_of-buckets.result in
    let o = c.overlap_of-overlap.result in
    let parts = c.in-Ok.parts in
    let old = g.S.Shelf.log c.args.shelf.now in
    let now = g.S.Shelf.log c.read_bucket_parts.new.shelf in
    let read : PartsRead held place count rows c.args.low c.args.high n o parts old now = record {
      overlap = c.overlap_of-overlap.ensures;
      number = c.buckets_of-buckets.ensures;
      rising = c.in-Ok.ensures.rising;
      joined = c.in-Ok.ensures.joined;
      told = c.in-Ok.ensures.parts;
      log = c.in-Ok.ensures.reads.log;
    } in
    let first = seen g.S.Shelf c.args.shelf.now in
    let mid = seen g.S.Shelf c.read_bucket_parts.new.shelf in
    let before = reads_well _ c.in-Ok.parts ReadFault first mid c.in-Ok.ensures.reads.only_reads in
    let next = seen g.S.Shelf c.docs_of_parts.new.shelf in
    let both = reads_after ⊥ first mid next before (reads_well DocSet c.in-Ok-docs_of_parts.docs ReadFault mid next c.in-Ok-docs_of_parts.ensures.reads.only_reads) in
    check_told held place count rows c.args.low c.args.high n o parts old now read next.held c.in-Ok-docs_of_parts-2.docs both.held c.in-Ok-docs_of_parts-2.ensures.found.docs

pub returns-clause-reads : goal.returns-clause-reads
returns-clause-reads g c = record {
  only_reads = search rules;
  log =
      let held = g.S.Shelf.held c.args.shelf.now in
      let place = c.args.place.now in
      let count = c.args.count in
      let rows = c.args.rows in
      let n = c.buckets_of-buckets.result in
      let o = c.overlap_of-overlap.result in
      let parts = c.in-Ok.parts in
      let old = g.S.Shelf.log c.args.shelf.now in
      let now = g.S.Shelf.log c.read_bucket_parts.new.shelf in
      let read : PartsRead held place count rows c.args.low c.args.high n o parts old now = record {
        overlap = c.overlap_of-overlap.ensures;
        number = c.buckets_of-buckets.ensures;
        rising = c.in-Ok.ensures.rising;
        joined = c.in-Ok.ensures.joined;
        told = c.in-Ok.ensures.parts;
        log = c.in-Ok.ensures.reads.log;
      } in
      all_logs held place count rows c.args.low c.args.high n o parts old now read (g.S.Shelf.log c.docs_of_parts.new.shelf) (g.S.Shelf.log c.docs_of_parts-2.new.shelf)
      c.in-Ok-docs_of_parts.ensures.reads.log c.in-Ok-docs_of_parts-2.ensures.reads.log;
  log_of_fault = search rules;
  bad = search rules;
}
