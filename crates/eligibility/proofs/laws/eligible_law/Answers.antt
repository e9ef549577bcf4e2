use Rattle.eligibility.proofs.RuleLaws.{serves_so, serves_back}
use Rattle.eligibility.proofs.laws.eligible_law.Goals as goal

pub returns : goal.returns
returns c = λ query tree. (serves_so query tree, serves_back query tree)
