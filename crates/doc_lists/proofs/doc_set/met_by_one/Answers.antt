use Rattle.std.proofs.Common.{◌∙◌, ap, sym}
use Rattle.doc_lists.specs.Kept.{docs_kept}
use Rattle.doc_lists.proofs.SetSteps.{looked_those}
use Rattle.doc_lists.proofs.doc_set.met_by_one.Goals as goal

pub returns-in_ok-both-in-Runs-Words : goal.returns-in_ok-both-in-Runs-Words
returns-in_ok-both-in-Runs-Words c =
    looked_those c.in-Runs-Words.list c.args.a.now c.as_slice.result.now c.in-Runs-Words.marks.items c.args.b.now c.in_ok-both-in-Runs-Words.both c.of_list.result
    (sym (ap docs_kept c.in-Runs-Words.is-0) ∙ c.a.view_is) c.as_slice.ensures.value (sym (ap docs_kept c.in-Runs-Words.is-1) ∙ c.b.view_is) c.of_list.ensures c.in_ok-both-in-Runs-Words.ensures
