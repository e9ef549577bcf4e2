use Rattle.std.proofs.Common.{◌≡◌, ◌∙◌, ◌+◌, get_or, refl, sym, ap, arith}
use Rattle.outside.specs.Seen.{seen}
use Rattle.outside.specs.declared.place.Place.{Place}
use Rattle.outside.proofs.SeenLemmas.{reads_none}
use Rattle.dictionary_reading.specs.declared.in_file.FileDictionary.{FileDictionary}
use Rattle.segment_file.specs.Columns.{kind_at}
use Rattle.segment_file.specs.declared.fault.HeadFault.TheVariants.{NotASegment}
use Rattle.segment_file.specs.declared.part.Part.TheVariants.{Dictionary}
use Rattle.segment_file.proofs.Faults.{other_fault, reads_other, reads_well}
use Rattle.segment_head.proofs.HeadLemmas.{kind_found}
use Rattle.segment_head.proofs.LookupLemmas.{IsOfColumn, logs_count, none_held, of_none}
use Rattle.segment_head.proofs.Steps.{dictionary_slot, section_few, section_within}
use Rattle.segment_head.proofs.head.Head.in_file.Goals as goal

pub dictionary_section-requires : goal.dictionary_section-requires
dictionary_section-requires g c = dictionary_slot c.args.table.now c.args.self.now c.args.column c.requires.opened c.requires.column

pub returns-then-place-lt4-clause-reads : goal.returns-then-place-lt4-clause-reads
returns-then-place-lt4-clause-reads g c = record {
  told = tt;
  refused = λ p is. section_few c.args.table.now c.args.self.now c.args.column c.dictionary_section.result.now c.requires.column c.dictionary_section.ensures (g.S.Shelf.held c.args.shelf.now) c.if-place-lt4.true;
  only_reads = let old = seen g.S.Shelf c.args.shelf.now in
      reads_other (NotASegment (Dictionary c.args.column)) old old (other_fault (Dictionary c.args.column)) (reads_none old);
}

pub returns-in-Err-clause-log : goal.returns-in-Err-clause-log
returns-in-Err-clause-log g c = logs_count c.args.self.now c.args.column c.dictionary_section.result.now (g.S.Shelf.log c.args.shelf.now) (g.S.Shelf.log c.count.new.shelf) c.dictionary_section.ensures (omega (arith, c.if-place-lt4.false)) c.in-Err.ensures.log

pub returns-in_err-copied-clause-log : goal.returns-in_err-copied-clause-log
returns-in_err-copied-clause-log g c = logs_count c.args.self.now c.args.column c.dictionary_section.result.now (g.S.Shelf.log c.args.shelf.now) (g.S.Shelf.log c.count.new.shelf) c.dictionary_section.ensures (omega (arith, c.if-place-lt4.false)) c.in-Ok.ensures.log

pub returns-in-Some-clause-log : goal.returns-in-Some-clause-log
returns-in-Some-clause-log g c = logs_count c.args.self.now c.args.column c.dictionary_section.result.now (g.S.Shelf.log c.args.shelf.now) (g.S.Shelf.log c.count.new.shelf) c.dictionary_section.ensures (omega (arith, c.if-place-lt4.false)) c.in-Ok.ensures.log

pub returns-in-None-clause-log : goal.returns-in-None-clause-log
returns-in-None-clause-log g c = logs_count c.args.self.now c.args.column c.dictionary_section.result.now (g.S.Shelf.log c.args.shelf.now) (g.S.Shelf.log c.count.new.shelf) c.dictionary_section.ensures (omega (arith, c.if-place-lt4.false)) c.in-Ok.ensures.log

pub new-requires : goal.new-requires
new-requires g c =
    let s = c.dictionary_section.result.now in
    let both = section_within c.args.table.now c.args.self.now (c.args.column + 1) s c.requires.opened c.dictionary_section.ensures in
    let same = c.in_ok-copied.ensures in
    record { fits = omega (arith, both.1, ap (λ (p : Place). p.offset) same, ap (λ (p : Place). p.length) same) }

pub returns-in-Some-clause-kind : goal.returns-in-Some-clause-kind
returns-in-Some-clause-kind g c =
    let f = c.index-as_slice-column.result in
    let kind : (get_or c.as_slice.result.now c.args.column f).kind ≡ kind_at c.args.table.now c.args.column = ap (λ x. x.kind) (sym c.index-as_slice-column.is) ∙ sym (kind_found c.args.table.now c.args.column f c.requires.column (c.index-as_slice-column.is ∙ ap (λ fs. get_or fs c.args.column f) c.as_slice.ensures)) in
    ap (λ (d : FileDictionary). d.kind) c.in-Some.ensures.made ∙ kind

pub returns-in-None-clause-reads : goal.returns-in-None-clause-reads
returns-in-None-clause-reads g c =
    let s = c.dictionary_section.result.now in
    let f = c.index-as_slice-column.result in
    let kind : (get_or c.as_slice.result.now c.args.column f).kind ≡ kind_at c.args.table.now c.args.column = ap (λ x. x.kind) (sym c.index-as_slice-column.is) ∙ sym (kind_found c.args.table.now c.args.column f c.requires.column (c.index-as_slice-column.is ∙ ap (λ fs. get_or fs c.args.column f) c.as_slice.ensures)) in
    let l : FileDictionary = record { kind = (get_or c.as_slice.result.now c.args.column f).kind; place = c.in_ok-copied.field-0; count = c.in-Ok.count } in
    let of : IsOfColumn c.args.table.now c.args.self.now c.args.column l s = record { field = c.requires.column; at = c.dictionary_section.ensures; place_is = c.in_ok-copied.ensures; kind_is = kind } in
    let old = seen g.S.Shelf c.args.shelf.now in
    let new = seen g.S.Shelf c.count.new.shelf in
    record {
      told = tt;
      refused = λ p is. of_none c.args.table.now c.args.self.now c.args.column l s (g.S.Shelf.held c.args.shelf.now) of c.in-Ok.ensures.reads.told (none_held l (g.S.Shelf.held c.args.shelf.now) (λ files. c.in-None.ensures.none refl files));
      only_reads = reads_other (NotASegment (Dictionary c.args.column)) old new (other_fault (Dictionary c.args.column)) (reads_well c.in-Ok.count old new c.in-Ok.ensures.reads.only_reads);
    }
