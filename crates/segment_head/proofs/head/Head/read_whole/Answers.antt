use Rattle.std.proofs.Common.{◌≡◌, ◌∙◌, ◌<◌, ◌+◌, inl, inr, Some, Err, IfSome, get_or, length, sym, ap, subst, arith}
use Rattle.outside.specs.Files.{bytes_at, bytes_of}
use Rattle.outside.specs.Reads.{LogsThrough, LogsUpTo}
use Rattle.outside.specs.Seen.{seen}
use Rattle.segment_file.proofs.Faults.{reads_ended, reads_handed, reads_other, reads_well}
use Rattle.segment_file.specs.Image.{kind_at}
use Rattle.segment_file.specs.declared.part.Part.TheVariants.{Dictionary}
use Rattle.segment_head.proofs.HeadLemmas.{kind_found}
use Rattle.segment_head.proofs.Steps.{bad_fault, dictionary_none, dictionary_slot, dictionary_whole, none_there, section_cut, section_within, spelled_there}
use Rattle.segment_file.proofs.ImageRows.{if_some}
use Rattle.segment_head.proofs.head.Head.read_whole.Goals as goal

pub dictionary_section-requires : goal.dictionary_section-requires
dictionary_section-requires g c = dictionary_slot c.args.table.now c.args.self.now c.args.column c.requires.opened c.requires.column

pub read_exactly-requires-clause-some : goal.read_exactly-requires-clause-some
read_exactly-requires-clause-some g c =
    let s = c.dictionary_section.result.now in
    let both = section_within c.args.table.now c.args.self.now (c.args.column + 1) s c.requires.opened c.dictionary_section.ensures in
    omega (arith, both.0)

pub read_exactly-requires-clause-fits : goal.read_exactly-requires-clause-fits
read_exactly-requires-clause-fits g c =
    let s = c.dictionary_section.result.now in
    (section_within c.args.table.now c.args.self.now (c.args.column + 1) s c.requires.opened c.dictionary_section.ensures).1

pub returns-in-Err-clause-reads : goal.returns-in-Err-clause-reads
returns-in-Err-clause-reads g c = record {
  told = tt;
  refused = λ p is.
      let s = c.dictionary_section.result.now in
      let held = g.S.Shelf.held c.args.shelf.now in
      section_cut c.args.table.now c.args.self.now c.args.column s c.requires.column c.dictionary_section.ensures held s.place.length (omega arith)
      (subst (λ f. IfSome held (λ files. length (bytes_of (Some files) f) < s.place.offset + s.place.length)) c.as_str-file.ensures (c.in-Err.ensures.short p is).1);
  only_reads = reads_handed c.in-Err.fault (seen g.S.Shelf c.args.shelf.now) (seen g.S.Shelf c.read_exactly.new.shelf) c.in-Err.ensures.only_reads;
}

pub returns-in-Err-clause-log : goal.returns-in-Err-clause-log
returns-in-Err-clause-log g c =
    let s = c.dictionary_section.result.now in
    if_some _ s _ c.dictionary_section.ensures
    (subst (λ f. LogsUpTo f s.place.offset (s.place.offset + s.place.length) (g.S.Shelf.log c.args.shelf.now) (g.S.Shelf.log c.read_exactly.new.shelf)) c.as_str-file.ensures c.in-Err.ensures.log_of_fault)

pub returns-in-Ok-take_dictionary-clause-reads : goal.returns-in-Ok-take_dictionary-clause-reads
returns-in-Ok-take_dictionary-clause-reads g c = record {
  told = let s = c.dictionary_section.result.now in
      let table = c.args.table.now in
      let held = g.S.Shelf.held c.args.shelf.now in
      let column = c.args.column in
      let f = c.index-as_slice-column.result in
      let d = c.in-Ok-take_dictionary.dictionary in
      let kind : (get_or c.as_slice.result.now column f).kind ≡ kind_at table column =
      ap (λ x. x.kind) (sym c.index-as_slice-column.is) ∙ sym (kind_found table column f c.requires.column (c.index-as_slice-column.is ∙ ap (λ fs. get_or fs column f) c.as_slice.ensures)) in
      dictionary_whole table c.args.self.now column s c.requires.column c.dictionary_section.ensures held c.in-Ok.bytes d
      (subst (λ n. IfSome held (λ files. c.in-Ok.bytes ≡ bytes_at files n s.place.offset s.place.length)) c.as_str-file.ensures c.in-Ok.ensures.bytes)
      (spelled_there _ _ _ _ _ _ d kind (ap (λ h. h.rows) c.self.view_is) c.into_vec.ensures c.in-Ok-take_dictionary.ensures.ok);
  refused = tt;
  only_reads = let old = seen g.S.Shelf c.args.shelf.now in
      let new = seen g.S.Shelf c.read_exactly.new.shelf in
      reads_ended c.in-Ok-take_dictionary.dictionary old new (reads_well c.in-Ok.bytes old new c.in-Ok.ensures.only_reads);
}

pub returns-in-Ok-take_dictionary-clause-log : goal.returns-in-Ok-take_dictionary-clause-log
returns-in-Ok-take_dictionary-clause-log g c =
    let s = c.dictionary_section.result.now in
    if_some _ s _ c.dictionary_section.ensures
    (s.place.offset + s.place.length, omega arith, subst (λ f. LogsThrough f s.place.offset (s.place.offset + s.place.length) (g.S.Shelf.log c.args.shelf.now) (g.S.Shelf.log c.read_exactly.new.shelf)) c.as_str-file.ensures c.in-Ok.ensures.log)

pub returns-in-Err-take_dictionary-clause-reads : goal.returns-in-Err-take_dictionary-clause-reads
returns-in-Err-take_dictionary-clause-reads g c = record {
  told = tt;
  refused = λ p is.
      let s = c.dictionary_section.result.now in
      let table = c.args.table.now in
      let held = g.S.Shelf.held c.args.shelf.now in
      let column = c.args.column in
      let f = c.index-as_slice-column.result in
      let kind : (get_or c.as_slice.result.now column f).kind ≡ kind_at table column =
      ap (λ x. x.kind) (sym c.index-as_slice-column.is) ∙ sym (kind_found table column f c.requires.column (c.index-as_slice-column.is ∙ ap (λ fs. get_or fs column f) c.as_slice.ensures)) in
      dictionary_none table c.args.self.now column s c.requires.column c.dictionary_section.ensures held c.in-Ok.bytes
      (subst (λ n. IfSome held (λ files. c.in-Ok.bytes ≡ bytes_at files n s.place.offset s.place.length)) c.as_str-file.ensures c.in-Ok.ensures.bytes)
      (λ d spelled. c.in-Err-take_dictionary.ensures.bad (ap Err (bad_fault c.in-Err-take_dictionary.fault c.of_dictionary.result p c.of_dictionary.ensures.memory is)) d
      (spelled_there _ _ _ _ _ _ d (sym kind) (sym (ap (λ h. h.rows) c.self.view_is)) (sym c.into_vec.ensures) spelled));
  only_reads = let old = seen g.S.Shelf c.args.shelf.now in
      let new = seen g.S.Shelf c.read_exactly.new.shelf in
      reads_other c.of_dictionary.result old new c.of_dictionary.ensures.read (reads_well c.in-Ok.bytes old new c.in-Ok.ensures.only_reads);
}

pub returns-in-Err-take_dictionary-clause-log : goal.returns-in-Err-take_dictionary-clause-log
returns-in-Err-take_dictionary-clause-log g c =
    let s = c.dictionary_section.result.now in
    if_some _ s _ c.dictionary_section.ensures
    (s.place.offset + s.place.length, omega arith, subst (λ f. LogsThrough f s.place.offset (s.place.offset + s.place.length) (g.S.Shelf.log c.args.shelf.now) (g.S.Shelf.log c.read_exactly.new.shelf)) c.as_str-file.ensures c.in-Ok.ensures.log)

pub returns-in-Err-clause-part : goal.returns-in-Err-clause-part
returns-in-Err-clause-part g c = λ p is.
    let s = c.dictionary_section.result.now in
    record {
      own = s;
      at = c.dictionary_section.ensures;
      fails = inl (
        (c.in-Err.ensures.short p is).0,
        subst (λ f. IfSome (g.S.Shelf.held c.args.shelf.now) (λ files. length (bytes_of (Some files) f) < s.place.offset + s.place.length)) c.as_str-file.ensures (c.in-Err.ensures.short p is).1,
      );
    }

pub returns-in-Ok-take_dictionary-clause-part : goal.returns-in-Ok-take_dictionary-clause-part
returns-in-Ok-take_dictionary-clause-part g c = tt

pub returns-in-Err-take_dictionary-clause-part : goal.returns-in-Err-take_dictionary-clause-part
returns-in-Err-take_dictionary-clause-part g c = λ p is.
    let s = c.dictionary_section.result.now in
    let table = c.args.table.now in
    let held = g.S.Shelf.held c.args.shelf.now in
    let column = c.args.column in
    let f = c.index-as_slice-column.result in
    let kind : (get_or c.as_slice.result.now column f).kind ≡ kind_at table column =
    ap (λ x. x.kind) (sym c.index-as_slice-column.is) ∙ sym (kind_found table column f c.requires.column (c.index-as_slice-column.is ∙ ap (λ fs. get_or fs column f) c.as_slice.ensures)) in
    let bad = bad_fault c.in-Err-take_dictionary.fault c.of_dictionary.result p c.of_dictionary.ensures.memory is in
    let named = c.of_dictionary.ensures.bad bad in
    record {
      own = s;
      at = c.dictionary_section.ensures;
      fails = inr (
        (let same : p ≡ Dictionary column = cc in same),
        none_there held (kind_at table column) c.args.self.now.rows c.in-Ok.bytes s.place
            (subst (λ n. IfSome held (λ files. c.in-Ok.bytes ≡ bytes_at files n s.place.offset s.place.length)) c.as_str-file.ensures c.in-Ok.ensures.bytes)
            (λ d spelled. c.in-Err-take_dictionary.ensures.bad (ap Err bad) d
            (spelled_there _ _ _ _ _ _ d (sym kind) (sym (ap (λ h. h.rows) c.self.view_is)) (sym c.into_vec.ensures) spelled)),
      );
    }
