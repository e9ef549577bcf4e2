use Rattle.std.proofs.Common.{subst}
use Rattle.std.specs.List.Sorted.{IsStrictlyIncreasing}
use Rattle.doc_lists.proofs.Runs.{docs_increase}
use Rattle.doc_lists.proofs.doc_list.DocList.runs.Goals as goal

pub returns-clause-ascends : goal.returns-clause-ascends
returns-clause-ascends c = subst IsStrictlyIncreasing c.self.view_is (docs_increase c.self.inside.runs.items c.self.invariant.apart)
