use Rattle.star_answer.proofs.BoundSteps.{docs_bounded}
use Rattle.star_answer.proofs.doc_laws.docs_bound_law.Goals as goal

pub returns : goal.returns
returns c = record { bound = docs_bounded c.reads_law.ensures }
