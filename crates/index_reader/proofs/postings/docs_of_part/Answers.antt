use Rattle.std.proofs.Common.{rules, ◌+◌, ◌*◌, le_refl, refl}
use Rattle.index_reader.specs.declared.fault.ListFault.TheVariants.{BadList}
use Rattle.outside.proofs.ReadLemmas.{logs-up}
use Rattle.index_reader.proofs.FaultLemmas.{same_fault}
use Rattle.index_reader.proofs.PostingSteps.{part_listed, words_bad}
use Rattle.index_reader.proofs.postings.docs_of_part.Goals as goal

pub returns-in-Err-clause-reads : goal.returns-in-Err-clause-reads
returns-in-Err-clause-reads g c = record {
  only_reads = search rules;
  log = search rules;
  log_of_fault = search rules;
  bad =
      λ bad.
      words_bad (g.S.Shelf.held c.args.shelf.now) c.args.place.now c.args.size.count c.args.size.rows c.args.part c.args.size.rows_at_most c.requires.within (c.in-Err.ensures.reads.bad (same_fault _ _ c.in-Err.fault BadList bad));
}

pub returns-in-Ok-docs_of_entries-clause-found : goal.returns-in-Ok-docs_of_entries-clause-found
returns-in-Ok-docs_of_entries-clause-found g c = record {
  docs =
      part_listed (g.S.Shelf.held c.args.shelf.now) c.args.place.now c.args.size.count c.args.size.rows c.args.part c.in-Ok.entries c.into_vec.result.items c.in-Ok-docs_of_entries.docs c.args.size.rows_at_most c.requires.within c.in-Ok.ensures.words c.into_vec.ensures c.in-Ok-docs_of_entries.ensures.those;
  within = c.in-Ok-docs_of_entries.ensures.within;
}

pub returns-in-Err-docs_of_entries-clause-reads : goal.returns-in-Err-docs_of_entries-clause-reads
returns-in-Err-docs_of_entries-clause-reads g c = record {
  only_reads = search rules;
  log = search rules;
  log_of_fault =
      let from = c.args.place.now.offset + 4 * (c.args.size.count + 1 + c.args.part.first) in
      let to = c.args.place.now.offset + 4 * (c.args.size.count + 1 + c.args.part.last) in
      logs-up c.args.place.now.file from to to (g.S.Shelf.log c.args.shelf.now) (g.S.Shelf.log c.read_words.new.shelf) (g.S.Shelf.log c.read_words.new.shelf) (le_refl to) c.in-Ok.ensures.reads.log refl;
  bad = search rules;
}
