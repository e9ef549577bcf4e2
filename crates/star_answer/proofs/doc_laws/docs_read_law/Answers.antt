use Rattle.star_answer.proofs.DocSteps.{walk_reads}
use Rattle.star_answer.proofs.doc_laws.docs_read_law.Goals as goal

pub returns : goal.returns
returns c = record {
  read = walk_reads c.node_rules_law.ensures.rules c.node_rules_law.ensures.root
      c.walk_law.ensures.count;
}
