use Rattle.std.proofs.Common.{◌≡◌, ◌∙◌, Err, sym, ap}
use Rattle.outside.specs.Seen.{seen}
use Rattle.segment_file.specs.declared.fault.HeadFault.TheVariants as head
use Rattle.segment_head.specs.Faults.{fault_of}
use Rattle.segment_head.specs.declared.fault.EngineFault.TheVariants as engine
use Rattle.segment_head.proofs.FaultLemmas.{bad_head, never_full, read_head}
use Rattle.segment_opening.proofs.HeadLemmas.{dictionary_log, grows_one, unread_none}
use Rattle.segment_reads.proofs.LogLemmas.{reads_as}
use Rattle.segment_opening.proofs.loading.load_one.Goals as goal

pub returns-in-Ok-clause-loads : goal.returns-in-Ok-clause-loads
returns-in-Ok-clause-loads g c = record {
  grows = grows_one c.args.table.now (g.S.Shelf.held c.args.shelf.now) c.args.column c.args.head.now c.load_dictionary.new.self c.in-Ok.ensures.of c.in-Ok.ensures.loads c.in-Ok.ensures.reads.told;
  bad = λ part is. absurd cc;
  named = λ part is. absurd cc;
  never_full = λ is. cc;
  only_reads = reads_as (seen g.S.Shelf c.args.shelf.now) (seen g.S.Shelf c.load_dictionary.new.shelf) c.in-Ok.ensures.reads.only_reads (λ e. absurd cc) (λ e. absurd cc);
  log = λ file end within ends.
      dictionary_log c.args.table.now c.args.head.now c.args.column file end (g.S.Shelf.log c.args.shelf.now) (g.S.Shelf.log c.load_dictionary.new.shelf) c.requires.of_table c.requires.column within ends c.in-Ok.ensures.log;
}

pub returns-in-Err-clause-loads : goal.returns-in-Err-clause-loads
returns-in-Err-clause-loads g c = record {
  grows = tt;
  bad = λ part is name in_file.
      let own : c.engine_fault.result ≡ engine.NotASegment part = cc in
      unread_none c.args.table.now (g.S.Shelf.held c.args.shelf.now) c.args.head.now (c.in-Err.ensures.reads.refused part (bad_head c.in-Err.fault part (sym c.engine_fault.ensures ∙ own))) name in_file;
  named = λ part is.
      let own : c.engine_fault.result ≡ engine.NotASegment part = cc in
      (c.args.column, c.requires.column, c.in-Err.ensures.part part (bad_head c.in-Err.fault part (sym c.engine_fault.ensures ∙ own)));
  never_full = λ is. let own : c.engine_fault.result ≡ engine.TooManyGroups = cc in never_full c.in-Err.fault (sym c.engine_fault.ensures ∙ own);
  only_reads = reads_as (seen g.S.Shelf c.args.shelf.now) (seen g.S.Shelf c.load_dictionary.new.shelf) c.in-Err.ensures.reads.only_reads
      (λ e. let own : c.engine_fault.result ≡ engine.ReadFault = cc in ap Err (read_head c.in-Err.fault (sym c.engine_fault.ensures ∙ own)))
      (λ e. let own : c.in-Err.fault ≡ head.ReadFault = cc in ap Err (c.engine_fault.ensures ∙ ap fault_of own));
  log = λ file end within ends.
      dictionary_log c.args.table.now c.args.head.now c.args.column file end (g.S.Shelf.log c.args.shelf.now) (g.S.Shelf.log c.load_dictionary.new.shelf) c.requires.of_table c.requires.column within ends c.in-Err.ensures.log;
}

pub load_dictionary-requires : goal.load_dictionary-requires
load_dictionary-requires g c = record { opened = c.requires.of_table; column = c.requires.column }
