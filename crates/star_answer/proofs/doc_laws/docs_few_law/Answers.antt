use Rattle.star_answer.proofs.BoundSteps.{docs_few}
use Rattle.star_answer.proofs.doc_laws.docs_few_law.Goals as goal

pub returns : goal.returns
returns c = record { at_most = docs_few }
