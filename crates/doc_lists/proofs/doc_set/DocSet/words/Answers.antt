use Rattle.std.proofs.Common.{◌∙◌, ap, sym, subst}
use Rattle.doc_lists.specs.Kept.{IsKept, docs_kept}
use Rattle.doc_lists.proofs.SetSteps.{own_words, runs_words, same_words}
use Rattle.doc_lists.proofs.doc_set.DocSet.words.Goals as goal

pub returns-in_ok-marks-in-Runs : goal.returns-in_ok-marks-in-Runs
returns-in_ok-marks-in-Runs c =
    runs_words c.runs.result.now c.args.self.now c.in_ok-marks-in-Runs.marks.items (c.runs.ensures.docs ∙ sym (ap docs_kept c.in-Runs.is) ∙ c.self.view_is) c.in_ok-marks-in-Runs.ensures

pub returns-in_ok-marks-in-Words : goal.returns-in_ok-marks-in-Words
returns-in_ok-marks-in-Words c =
    let words = c.in-Words.marks.items in
    same_words words c.args.self.now c.in_ok-marks-in-Words.marks.items (sym (ap docs_kept c.in-Words.is) ∙ c.self.view_is) (c.in_ok-marks-in-Words.ensures.items ∙ c.as_slice.ensures.value)
    (own_words words (subst IsKept c.in-Words.is c.self.invariant))
