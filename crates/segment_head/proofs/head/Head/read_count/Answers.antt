use Rattle.std.proofs.Common.{◌≡◌, ◌∙◌, ◌+◌, IfSome, Some, inl, inr, ◌<◌, take, length, ap, subst, arith}
use Rattle.std.specs.Int.{w32, from_be_bytes}
use Rattle.outside.specs.Files.{bytes_at, bytes_of}
use Rattle.outside.specs.Reads.{LogsThrough, LogsUpTo}
use Rattle.outside.proofs.ReadLemmas.{LogsThrough-none}
use Rattle.outside.specs.Seen.{seen}
use Rattle.outside.proofs.SeenLemmas.{reads_none}
use Rattle.segment_file.specs.declared.fault.HeadFault.TheVariants.{NotASegment}
use Rattle.segment_file.specs.declared.part.Part.TheVariants.{Dictionary}
use Rattle.segment_file.proofs.Faults.{other_fault, reads_ended, reads_handed, reads_other, reads_well}
use Rattle.segment_head.proofs.Steps.{count_none, count_over, count_whole, dictionary_slot, section_cut, section_few, section_within}
use Rattle.segment_file.proofs.ImageRows.{if_some}
use Rattle.segment_head.proofs.head.Head.read_count.Goals as goal

pub dictionary_section-requires : goal.dictionary_section-requires
dictionary_section-requires g c = dictionary_slot c.args.table.now c.args.self.now c.args.column c.requires.opened c.requires.column

pub returns-then-place-lt4-clause-reads : goal.returns-then-place-lt4-clause-reads
returns-then-place-lt4-clause-reads g c = record {
  told = tt;
  refused = λ p is. section_few c.args.table.now c.args.self.now c.args.column c.dictionary_section.result.now c.requires.column c.dictionary_section.ensures (g.S.Shelf.held c.args.shelf.now) c.if-place-lt4.true;
  only_reads = let old = seen g.S.Shelf c.args.shelf.now in
      reads_other (NotASegment (Dictionary c.args.column)) old old (other_fault (Dictionary c.args.column)) (reads_none old);
}

pub returns-then-place-lt4-clause-log : goal.returns-then-place-lt4-clause-log
returns-then-place-lt4-clause-log g c =
    let s = c.dictionary_section.result.now in
    if_some _ s _ c.dictionary_section.ensures (s.place.offset, omega arith, LogsThrough-none s.place.file s.place.offset (g.S.Shelf.log c.args.shelf.now))

pub read_exactly-requires-clause-fits : goal.read_exactly-requires-clause-fits
read_exactly-requires-clause-fits g c =
    let s = c.dictionary_section.result.now in
    let both = section_within c.args.table.now c.args.self.now (c.args.column + 1) s c.requires.opened c.dictionary_section.ensures in
    omega (arith, both.1, c.if-place-lt4.false)

pub returns-in-Err-clause-reads : goal.returns-in-Err-clause-reads
returns-in-Err-clause-reads g c = record {
  told = tt;
  refused = λ p is.
      let s = c.dictionary_section.result.now in
      let held = g.S.Shelf.held c.args.shelf.now in
      section_cut c.args.table.now c.args.self.now c.args.column s c.requires.column c.dictionary_section.ensures held 4 c.if-place-lt4.false
      (subst (λ f. IfSome held (λ files. length (bytes_of (Some files) f) < s.place.offset + 4)) c.as_str.ensures (c.in-Err.ensures.short p is).1);
  only_reads = reads_handed c.in-Err.fault (seen g.S.Shelf c.args.shelf.now) (seen g.S.Shelf c.read_exactly.new.shelf) c.in-Err.ensures.only_reads;
}

pub returns-in-Err-clause-log : goal.returns-in-Err-clause-log
returns-in-Err-clause-log g c =
    let s = c.dictionary_section.result.now in
    if_some _ s _ c.dictionary_section.ensures (subst (λ f. LogsUpTo f s.place.offset (s.place.offset + 4) (g.S.Shelf.log c.args.shelf.now) (g.S.Shelf.log c.read_exactly.new.shelf)) c.as_str.ensures c.in-Err.ensures.log_of_fault)

pub returns-then-count-self-clause-reads : goal.returns-then-count-self-clause-reads
returns-then-count-self-clause-reads g c = record {
  told = tt;
  refused = λ p is.
      let s = c.dictionary_section.result.now in
      let held = g.S.Shelf.held c.args.shelf.now in
      count_over c.args.table.now c.args.self.now c.args.column s c.requires.column c.dictionary_section.ensures held c.in-Ok.bytes c.four_at-count.result c.if-place-lt4.false
      (subst (λ f. IfSome held (λ files. c.in-Ok.bytes ≡ bytes_at files f s.place.offset 4)) c.as_str.ensures c.in-Ok.ensures.bytes)
      (c.four_at-count.ensures ∙ ap (λ b. from_be_bytes w32 (take 4 b)) c.as_slice.ensures)
      (omega (arith, c.if-count-self.true, ap (λ h. h.rows) c.self.view_is));
  only_reads = let old = seen g.S.Shelf c.args.shelf.now in
      let new = seen g.S.Shelf c.read_exactly.new.shelf in
      reads_other (NotASegment (Dictionary c.args.column)) old new (other_fault (Dictionary c.args.column)) (reads_well c.in-Ok.bytes old new c.in-Ok.ensures.only_reads);
}

pub returns-then-count-self-clause-log : goal.returns-then-count-self-clause-log
returns-then-count-self-clause-log g c =
    let s = c.dictionary_section.result.now in
    if_some _ s _ c.dictionary_section.ensures
    (s.place.offset + 4, omega arith, subst (λ f. LogsThrough f s.place.offset (s.place.offset + 4) (g.S.Shelf.log c.args.shelf.now) (g.S.Shelf.log c.read_exactly.new.shelf)) c.as_str.ensures c.in-Ok.ensures.log)

pub returns-then-self-gt0-clause-reads : goal.returns-then-self-gt0-clause-reads
returns-then-self-gt0-clause-reads g c = record {
  told = tt;
  refused = λ p is.
      let s = c.dictionary_section.result.now in
      let held = g.S.Shelf.held c.args.shelf.now in
      count_none c.args.table.now c.args.self.now c.args.column s c.requires.column c.dictionary_section.ensures held c.in-Ok.bytes c.four_at-count.result c.if-place-lt4.false
      (subst (λ f. IfSome held (λ files. c.in-Ok.bytes ≡ bytes_at files f s.place.offset 4)) c.as_str.ensures c.in-Ok.ensures.bytes)
      (c.four_at-count.ensures ∙ ap (λ b. from_be_bytes w32 (take 4 b)) c.as_slice.ensures)
      (omega (arith, c.if-count-eq0.true))
      (omega (arith, c.if-self-gt0.true, ap (λ h. h.rows) c.self.view_is));
  only_reads = let old = seen g.S.Shelf c.args.shelf.now in
      let new = seen g.S.Shelf c.read_exactly.new.shelf in
      reads_other (NotASegment (Dictionary c.args.column)) old new (other_fault (Dictionary c.args.column)) (reads_well c.in-Ok.bytes old new c.in-Ok.ensures.only_reads);
}

pub returns-then-self-gt0-clause-log : goal.returns-then-self-gt0-clause-log
returns-then-self-gt0-clause-log g c =
    let s = c.dictionary_section.result.now in
    if_some _ s _ c.dictionary_section.ensures
    (s.place.offset + 4, omega arith, subst (λ f. LogsThrough f s.place.offset (s.place.offset + 4) (g.S.Shelf.log c.args.shelf.now) (g.S.Shelf.log c.read_exactly.new.shelf)) c.as_str.ensures c.in-Ok.ensures.log)

pub returns-clause-reads : goal.returns-clause-reads
returns-clause-reads g c = record {
  told = let s = c.dictionary_section.result.now in
      let held = g.S.Shelf.held c.args.shelf.now in
      count_whole c.args.table.now c.args.self.now c.args.column s c.requires.column c.dictionary_section.ensures held c.in-Ok.bytes c.four_at-count.result c.if-place-lt4.false
      (subst (λ f. IfSome held (λ files. c.in-Ok.bytes ≡ bytes_at files f s.place.offset 4)) c.as_str.ensures c.in-Ok.ensures.bytes)
      (c.four_at-count.ensures ∙ ap (λ b. from_be_bytes w32 (take 4 b)) c.as_slice.ensures);
  refused = tt;
  only_reads = let old = seen g.S.Shelf c.args.shelf.now in
      let new = seen g.S.Shelf c.read_exactly.new.shelf in
      reads_ended c.four_at-count.result old new (reads_well c.in-Ok.bytes old new c.in-Ok.ensures.only_reads);
}

pub returns-clause-log : goal.returns-clause-log
returns-clause-log g c =
    let s = c.dictionary_section.result.now in
    if_some _ s _ c.dictionary_section.ensures
    (s.place.offset + 4, omega arith, subst (λ f. LogsThrough f s.place.offset (s.place.offset + 4) (g.S.Shelf.log c.args.shelf.now) (g.S.Shelf.log c.read_exactly.new.shelf)) c.as_str.ensures c.in-Ok.ensures.log)

pub returns-then-place-lt4-clause-part : goal.returns-then-place-lt4-clause-part
returns-then-place-lt4-clause-part g c = λ p is. (let same : p ≡ Dictionary c.args.column = cc in inr same)

pub returns-then-count-self-clause-part : goal.returns-then-count-self-clause-part
returns-then-count-self-clause-part g c = λ p is. (let same : p ≡ Dictionary c.args.column = cc in inr same)

pub returns-then-self-gt0-clause-part : goal.returns-then-self-gt0-clause-part
returns-then-self-gt0-clause-part g c = λ p is. (let same : p ≡ Dictionary c.args.column = cc in inr same)

pub returns-in-Err-clause-part : goal.returns-in-Err-clause-part
returns-in-Err-clause-part g c = λ p is. inl (c.in-Err.ensures.short p is).0

pub returns-clause-part : goal.returns-clause-part
returns-clause-part g c = tt
