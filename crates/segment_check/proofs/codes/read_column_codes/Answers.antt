use Rattle.std.proofs.Common.{◌≡◌, ◌≤◌, ◌∙◌, Some, sym, subst, arith}
use Rattle.std.proofs.lemmas.Option.{same_Some}
use Rattle.outside.specs.Seen.{Seen, seen}
use Rattle.segment_build.specs.declared.coded.CodedColumn.{CodedColumn}
use Rattle.segment_build.specs.Coded.{row_values}
use Rattle.segment_file.proofs.Faults.{reads_ended, reads_well}
use Rattle.segment_check.specs.Reading.{IsColumn}
use Rattle.segment_check.proofs.codes.read_column_codes.Goals as goal

pub codes_of-requires-clause-kind : goal.codes_of-requires-clause-kind
codes_of-requires-clause-kind g c = c.requires.kind c.dictionary-dictionary.result.now c.dictionary-dictionary.ensures

pub codes_of-requires-clause-list : goal.codes_of-requires-clause-list
codes_of-requires-clause-list g c = c.as_slice.ensures.value ∙ c.in-Ok.ensures.list

pub codes_of-requires-clause-below : goal.codes_of-requires-clause-below
codes_of-requires-clause-below g c = (c.in-Ok.ensures.reads.ids c.dictionary-dictionary.result.now c.dictionary-dictionary.ensures).below

pub codes_of-requires-clause-at_most : goal.codes_of-requires-clause-at_most
codes_of-requires-clause-at_most g c = omega (arith, (c.in-Ok.ensures.reads.ids c.dictionary-dictionary.result.now c.dictionary-dictionary.ensures).count, c.requires.at_most)

pub returns-in_ok-codes_of-in-Ok-clause-reads : goal.returns-in_ok-codes_of-in-Ok-clause-reads
returns-in_ok-codes_of-in-Ok-clause-reads g c =
    let held = g.S.Shelf.held c.args.shelf.now in
    let head = c.args.head.now in
    let first = c.in-Ok.ensures.reads in
    let coded = c.in_ok-codes_of-in-Ok.ensures in
    let own = c.dictionary-dictionary.result.now in
    let loaded = c.dictionary-dictionary.ensures in
    let code : CodedColumn = c.in_ok-codes_of-in-Ok.field-0 in
    let old : Seen = seen g.S.Shelf c.args.shelf.now in
    let new : Seen = seen g.S.Shelf c.read_packed_column.new.shelf in
    record {
      coding = coded.coding;
      kind_is = coded.kind_is;
      column_is = λ d asked.
          (let same : own ≡ d = same_Some own d (same_Some (Some own) (Some d) (sym loaded ∙ asked)) in
          subst (λ x. IsColumn held head c.args.column x (row_values code)) same (subst (IsColumn held head c.args.column own) (sym coded.values) (first.ids own loaded).are));
      refused = tt;
      only_reads = reads_ended _ old new (reads_well c.in-Ok.ids old new first.only_reads);
    }
