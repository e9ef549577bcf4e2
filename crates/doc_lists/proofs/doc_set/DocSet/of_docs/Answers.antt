use Rattle.doc_lists.proofs.SetSteps.{marked_below, marked_of}
use Rattle.doc_lists.proofs.doc_set.DocSet.of_docs.Goals as goal

pub returns-clause-those : goal.returns-clause-those
returns-clause-those c = marked_of c.args.docs.now c.in_ok-marks.marks.items c.in_ok-marks.ensures

pub returns-clause-within : goal.returns-clause-within
returns-clause-within c = marked_below c.args.rows c.args.docs.now c.in_ok-marks.marks.items c.requires c.in_ok-marks.ensures
