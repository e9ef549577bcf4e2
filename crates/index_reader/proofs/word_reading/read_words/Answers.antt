use Rattle.std.proofs.Common.{rules, ◌≡◌, Err, ap}
use Rattle.bit_column.specs.declared.fault.ColumnFault.{ColumnFault}
use Rattle.bit_column.specs.declared.fault.ColumnFault.TheVariants.{BadId}
use Rattle.index_reader.specs.declared.fault.ListFault.TheVariants.{BadList}
use Rattle.index_reader.proofs.WordLemmas.{logs_four, logs_four_partly, words_bad, words_read}
use Rattle.index_reader.proofs.word_reading.read_words.Goals as goal

pub returns-in-Ok-clause-words : goal.returns-in-Ok-clause-words
returns-in-Ok-clause-words g c = words_read (g.S.Shelf.held c.args.shelf.now) c.args.place.now c.args.limit c.args.from c.args.to c.in-Ok.words c.requires c.in-Ok.ensures.ids

pub returns-in-Err-clause-reads : goal.returns-in-Err-clause-reads
returns-in-Err-clause-reads g c = record {
  only_reads = search rules;
  log = search rules;
  log_of_fault =
      logs_four_partly c.args.place.now.file c.args.place.now.offset c.args.from c.args.to (g.S.Shelf.log c.args.shelf.now) (g.S.Shelf.log c.read_range.new.shelf) c.requires c.in-Err.ensures.reads.log_of_fault;
  bad =
      λ is.
      let same : c.of_column.result ≡ BadList = cc is in
      let bad : c.in-Err.fault ≡ BadId = c.of_column.ensures.bad.0 same in
      words_bad (g.S.Shelf.held c.args.shelf.now) c.args.place.now c.args.limit c.args.from c.args.to c.requires (c.in-Err.ensures.reads.bad (ap (λ (fault : ColumnFault). Err fault) bad));
}

pub returns-in-Ok-clause-reads : goal.returns-in-Ok-clause-reads
returns-in-Ok-clause-reads g c = record {
  only_reads = search rules;
  log =
      logs_four c.args.place.now.file c.args.place.now.offset c.args.from c.args.to (g.S.Shelf.log c.args.shelf.now) (g.S.Shelf.log c.read_range.new.shelf) c.requires c.in-Ok.ensures.reads.log;
  log_of_fault = search rules;
  bad = search rules;
}
