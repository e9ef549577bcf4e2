use Rattle.std.proofs.Common.{rules, ◌≡◌, ◌∙◌, ◌+◌, Some, get_or, sym, ap, arith}
use Rattle.std.specs.Prelude.{slice_get}
use Rattle.segment_file.proofs.Faults.{err_so, ok_so}
use Rattle.segment_file.proofs.ImageRows.{if_some}
use Rattle.segment_file.specs.Image.{kind_at}
use Rattle.segment_file.specs.declared.fault.HeadFault.TheVariants.{NotASegment}
use Rattle.segment_file.specs.declared.part.Part.{Part}
use Rattle.segment_head.specs.Calls.{FailsLoading}
use Rattle.segment_head.specs.Heads.{OfWhole}
use Rattle.segment_head.proofs.HeadLemmas.{kind_found}
use Rattle.segment_head.proofs.PieceLemmas.{all_spelled, fails_there}
use Rattle.segment_head.proofs.Steps.{dictionary_slot, place_none, place_whole, section_within}
use Rattle.segment_head.proofs.head.Head.read_dictionary.Goals as goal

pub dictionary_section-requires : goal.dictionary_section-requires
dictionary_section-requires g c = dictionary_slot c.args.table.now c.args.self.now c.args.column c.requires.opened c.requires.column

pub read_numbers-requires : goal.read_numbers-requires
read_numbers-requires g c =
    let s = c.dictionary_section.result.now in
    let both = section_within c.args.table.now c.args.self.now (c.args.column + 1) s c.requires.opened c.dictionary_section.ensures in
    record {
      numbers = search rules;
      starts = omega (arith, both.0);
      fits = both.1;
    }

pub returns-in-Int : goal.returns-in-Int
returns-in-Int g c =
    let s = c.dictionary_section.result.now in
    let table = c.args.table.now in
    let head = c.args.self.now in
    let held = g.S.Shelf.held c.args.shelf.now in
    let column = c.args.column in
    let f = c.index-as_slice-column.result in
    let kind : (get_or c.as_slice.result.now column f).kind ≡ kind_at table column =
    ap (λ x. x.kind) (sym c.index-as_slice-column.is) ∙ sym (kind_found table column f c.requires.column (c.index-as_slice-column.is ∙ ap (λ fs. get_or fs column f) c.as_slice.ensures)) in
    let rows = ap (λ h. h.rows) c.self.view_is in
    record {
      reads = record {
        told = ok_so _ (λ d. OfWhole table held head (λ whole. slice_get whole.dictionaries column ≡ Some (Some d))) c.read_numbers.result
            (λ d ours. place_whole table head column s c.requires.column c.dictionary_section.ensures held d (all_spelled _ _ _ _ held s.place d kind rows ours)) c.read_numbers.ensures.ok;
        refused = err_so _ (λ fault. (p : Part) → fault ≡ NotASegment p → OfWhole table held head (λ _. ⊥)) c.read_numbers.result
            (λ fault named p is. place_none table head column s c.requires.column c.dictionary_section.ensures held p (fails_there _ _ _ _ column held s.place p kind rows (named p is))) c.read_numbers.ensures.part;
        only_reads = c.read_numbers.ensures.only_reads;
      };
      log = if_some _ s _ c.dictionary_section.ensures c.read_numbers.ensures.log;
      part = err_so _ (λ fault. (p : Part) → fault ≡ NotASegment p → FailsLoading table held head column p) c.read_numbers.result
          (λ fault named p is. record { own = s; at = c.dictionary_section.ensures; fails = fails_there _ _ _ _ column held s.place p kind rows (named p is) }) c.read_numbers.ensures.part;
    }
