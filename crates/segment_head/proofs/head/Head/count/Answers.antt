use Rattle.outside.specs.Seen.{seen}
use Rattle.outside.proofs.SeenLemmas.{reads_none}
use Rattle.segment_file.proofs.Faults.{reads_ended}
use Rattle.segment_head.proofs.Steps.{loaded_count, none_read}
use Rattle.segment_head.proofs.head.Head.count.Goals as goal

pub returns-in-Some-clause-reads : goal.returns-in-Some-clause-reads
returns-in-Some-clause-reads g c = record {
  told = loaded_count c.args.table.now c.args.self.now c.args.column c.count.result c.in-Some.dictionary.now (g.S.Shelf.held c.args.shelf.now) c.in-Some.ensures c.count.ensures.count;
  refused = tt;
  only_reads = reads_ended c.count.result (seen g.S.Shelf c.args.shelf.now) (seen g.S.Shelf c.args.shelf.now) (reads_none (seen g.S.Shelf c.args.shelf.now));
}

pub returns-in-Some-clause-log : goal.returns-in-Some-clause-log
returns-in-Some-clause-log g c = none_read _ (λ s. 4) (g.S.Shelf.log c.args.shelf.now)

pub returns-in-Some-clause-part : goal.returns-in-Some-clause-part
returns-in-Some-clause-part g c = tt
