use Rattle.std.proofs.Common.{rules, ◌≡◌, arith, length, map}
use Rattle.std.proofs.lemmas.Result.{IfOk-weaker}
use Rattle.index_reader.specs.Entries.{entries_at}
use Rattle.outside.specs.Stretches.{LogsOver, LogsPartly}
use Rattle.index_reader.proofs.PostingSteps.{err_weaker, one_over, one_partly, parts_listed}
use Rattle.outside.proofs.SeriesLemmas.{over_partly}
use Rattle.index_reader.proofs.postings.docs_of_parts.Goals as goal

pub returns-in-Ok-docs_of_entries-clause-found : goal.returns-in-Ok-docs_of_entries-clause-found
returns-in-Ok-docs_of_entries-clause-found g c = record {
  docs =
      parts_listed (g.S.Shelf.held c.args.shelf.now) c.args.place.now c.args.size.count c.args.size.rows c.args.parts.now c.in-Ok.entries.items c.in-Ok-docs_of_entries.docs c.in-Ok.ensures.entries c.in-Ok-docs_of_entries.ensures.those;
  within = c.in-Ok-docs_of_entries.ensures.within;
}

pub returns-in-Err-docs_of_entries-clause-reads : goal.returns-in-Err-docs_of_entries-clause-reads
returns-in-Err-docs_of_entries-clause-reads g c = record {
  only_reads = search rules;
  log = search rules;
  log_of_fault =
      over_partly c.args.place.now.file (map (entries_at c.args.place.now.offset c.args.size.count) c.args.parts.now) (g.S.Shelf.log c.args.shelf.now) (g.S.Shelf.log c.read_entries.new.shelf) c.in-Ok.ensures.reads.log;
  bad = search rules;
}

pub returns-in-len1-clause-reads : goal.returns-in-len1-clause-reads
returns-in-len1-clause-reads g c =
    let file = c.args.place.now.file in
    let at = entries_at c.args.place.now.offset c.args.size.count in
    let parts = c.args.parts.now in
    let old = g.S.Shelf.log c.args.shelf.now in
    let new = g.S.Shelf.log c.docs_of_part.new.shelf in
    let one : length parts ≡ 1 = omega (arith, c.in-len1.len_at_least, c.in-len1.len_below) in
    let reads = c.docs_of_part.ensures.reads in
    record {
      only_reads = reads.only_reads;
      log = IfOk-weaker c.docs_of_part.result _ (λ _. LogsOver file (map at parts) old new)
          (λ _ on. one_over file at parts _ old new one on) reads.log;
      log_of_fault = err_weaker c.docs_of_part.result _ (LogsPartly file (map at parts) old new)
          (λ up. one_partly file at parts _ old new one up) reads.log_of_fault;
      bad = reads.bad;
    }
