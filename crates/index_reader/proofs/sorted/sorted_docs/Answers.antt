use Rattle.std.proofs.Common.{◌≡◌, ◌∙◌, ◌<◌, ℕ, List, All, IfSome, subst, sym}
use Rattle.std.proofs.lemmas.Result.{IfOk-weaker}
use Rattle.bit_column.specs.Sections.{section}
use Rattle.doc_lists.specs.Sets.{AreThose}
use Rattle.index_reader.specs.Documents.{TellsSorted, is_doc_of}
use Rattle.index_reader.specs.Runs.{docs_in}
use Rattle.index_reader.proofs.DocsOfRuns.{sorted_told}
use Rattle.index_reader.proofs.RunLemmas.{lasts_below}
use Rattle.index_reader.proofs.sorted.sorted_docs.Goals as goal

pub docs_of_runs-requires-clause-within : goal.docs_of_runs-requires-clause-within
docs_of_runs-requires-clause-within g c =
    lasts_below 0 c.runs.result.now c.args.size.count c.runs.ensures.apart (subst (All (λ id. id < c.args.size.count)) (sym (c.runs.ensures.docs ∙ c.in-Ok.ensures)) c.requires.below)

pub returns-clause-found : goal.returns-clause-found
returns-clause-found g c = record {
  docs =
      let held = g.S.Shelf.held c.args.shelf.now in
      let place = c.args.place.now in
      let count = c.args.size.count in
      let rows = c.args.size.rows in
      let runs = c.runs.result.now in
      IfOk-weaker c.docs_of_runs.result
      (λ docs. IfSome held (λ files. (told : List ℕ) → TellsSorted count rows (section files place) told → docs ≡ docs_in told runs))
      (λ docs. IfSome held (λ files. (told : List ℕ) → TellsSorted count rows (section files place) told → AreThose (is_doc_of c.args.ids.now told) docs))
      (λ docs is. sorted_told held place count rows c.args.ids.now docs runs (c.runs.ensures.apart, c.runs.ensures.docs ∙ c.in-Ok.ensures) is)
      c.docs_of_runs.ensures.docs;
  within = c.docs_of_runs.ensures.below;
}
