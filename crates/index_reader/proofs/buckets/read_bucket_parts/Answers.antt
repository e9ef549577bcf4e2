use Rattle.std.proofs.Common.{rules, ◌≡◌, ◌∙◌, ◌+◌, ◌*◌, false, ap, sym, refl, le_refl}
use Rattle.outside.proofs.ReadLemmas.{logs-up}
use Rattle.index_reader.specs.Buckets.{parts_in, parts_of}
use Rattle.index_reader.specs.declared.fault.ListFault.TheVariants.{BadList}
use Rattle.index_reader.proofs.BucketSteps.{InOrder, offsets_bad, order_bad, parts_told, rises}
use Rattle.index_reader.proofs.FaultLemmas.{same_fault}
use Rattle.index_reader.proofs.PostingSteps.{told_map}
use Rattle.index_reader.proofs.buckets.read_bucket_parts.Goals as goal

pub returns-in-Err-clause-reads : goal.returns-in-Err-clause-reads
returns-in-Err-clause-reads g c = record {
  only_reads = search rules;
  log = search rules;
  log_of_fault = search rules;
  bad =
      λ bad.
      let order : InOrder c.args.size.count c.args.overlap = record { before = c.requires.before; sure = c.requires.sure; after = c.requires.after; within = c.requires.within } in
      offsets_bad (g.S.Shelf.held c.args.shelf.now) c.args.place.now c.args.size.count c.args.size.rows c.args.overlap order c.args.size.rows_at_most (c.in-Err.ensures.reads.bad (same_fault _ _ c.in-Err.fault BadList bad));
}

pub returns-then-not-is_rising-clause-reads : goal.returns-then-not-is_rising-clause-reads
returns-then-not-is_rising-clause-reads g c = record {
  only_reads = search rules;
  log = search rules;
  log_of_fault =
      let at = c.args.place.now.offset in
      let o = c.args.overlap in
      let last = g.S.Shelf.log c.read_words.new.shelf in
      logs-up c.args.place.now.file (at + 4 * o.first) (at + 4 * (o.end + 1)) (at + 4 * (o.end + 1)) (g.S.Shelf.log c.args.shelf.now) last last (le_refl _) c.in-Ok.ensures.reads.log refl;
  bad =
      λ bad.
      let held = g.S.Shelf.held c.args.shelf.now in
      let place = c.args.place.now in
      let count = c.args.size.count in
      let rows = c.args.size.rows in
      let o = c.args.overlap in
      let order : InOrder count o = record { before = c.requires.before; sure = c.requires.sure; after = c.requires.after; within = c.requires.within } in
      let parts = c.parts_at-parts.result in
      let same : parts ≡ parts_in c.in-Ok.offsets o = c.parts_at-parts.ensures ∙ ap (λ ws. parts_in ws o) c.as_slice.ensures in
      let falls : rises parts ≡ false = sym c.is_rising.ensures ∙ c.if-not-is_rising.true in
      order_bad held place count rows o parts order falls
      (told_map held place count rows (λ keys. parts_in c.in-Ok.offsets o ≡ parts_of keys o) (λ keys. parts ≡ parts_of keys o) (λ keys e. same ∙ e)
      (parts_told held place count rows o c.in-Ok.offsets order c.args.size.rows_at_most c.in-Ok.ensures.words));
}

pub returns-clause-parts : goal.returns-clause-parts
returns-clause-parts g c =
    let held = g.S.Shelf.held c.args.shelf.now in
    let place = c.args.place.now in
    let count = c.args.size.count in
    let rows = c.args.size.rows in
    let o = c.args.overlap in
    let order : InOrder count o = record { before = c.requires.before; sure = c.requires.sure; after = c.requires.after; within = c.requires.within } in
    let parts = c.parts_at-parts.result in
    let same : parts ≡ parts_in c.in-Ok.offsets o = c.parts_at-parts.ensures ∙ ap (λ ws. parts_in ws o) c.as_slice.ensures in
    told_map held place count rows (λ keys. parts_in c.in-Ok.offsets o ≡ parts_of keys o) (λ keys. parts ≡ parts_of keys o) (λ keys e. same ∙ e)
    (parts_told held place count rows o c.in-Ok.offsets order c.args.size.rows_at_most c.in-Ok.ensures.words)
