use Rattle.std.proofs.Common.{subst}
use Rattle.std.specs.List.Sorted.{IsStrictlyIncreasing}
use Rattle.doc_lists.proofs.SetSteps.{kept_increase}
use Rattle.doc_lists.proofs.doc_set.DocSet.ascends.Goals as goal

pub returns : goal.returns
returns c = subst IsStrictlyIncreasing c.self.view_is (kept_increase c.self.inside.kept c.self.invariant)
