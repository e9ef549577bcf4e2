use Rattle.std.proofs.Common.{◌∙◌, ◌<◌, ℕ, List, All, IfSome, sym, subst}
use Rattle.std.proofs.lemmas.Result.{IfOk-weaker}
use Rattle.outside.specs.Seen.{seen}
use Rattle.bit_column.specs.Sections.{section}
use Rattle.doc_lists.specs.Docs.{has_doc}
use Rattle.doc_lists.specs.Sets.{AreThose}
use Rattle.index_reader.specs.Documents.{TellsInverted, is_doc_of}
use Rattle.index_reader.specs.Entries.{TellsPostings, entries_in}
use Rattle.index_reader.specs.Runs.{AreRunsOf}
use Rattle.index_reader.specs.declared.fault.ListFault.TheVariants.{ReadFault}
use Rattle.index_reader.proofs.FaultLemmas.{reads_well}
use Rattle.index_reader.proofs.MarkLemmas.{inverted_told}
use Rattle.index_reader.proofs.RunLemmas.{lasts_below}
use Rattle.index_reader.proofs.inverted.inverted_docs.Goals as goal

pub read_parts-requires-clause-within : goal.read_parts-requires-clause-within
read_parts-requires-clause-within g c =
    lasts_below 0 c.runs.result.now c.args.size.count c.runs.ensures.apart (subst (All (λ id. id < c.args.size.count)) (sym (c.runs.ensures.docs ∙ c.in-Ok.ensures)) c.requires.below)

pub returns-clause-found : goal.returns-clause-found
returns-clause-found g c = record {
  docs =
      let first = seen g.S.Shelf c.args.shelf.now in
      let mid = seen g.S.Shelf c.read_parts.new.shelf in
      let before = reads_well _ c.in-Ok-read_parts.parts ReadFault first mid c.in-Ok-read_parts.ensures.reads.only_reads in
      let place = c.args.place.now in
      let count = c.args.size.count in
      let rows = c.args.size.rows in
      let runs = c.runs.result.now in
      let are : AreRunsOf c.args.ids.now runs = (c.runs.ensures.apart, c.runs.ensures.docs ∙ c.in-Ok.ensures) in
      IfOk-weaker c.docs_of_parts.result
      (λ docs. IfSome mid.held (λ files. (keys : List ℕ) → TellsPostings count rows (section files place) keys → AreThose (has_doc (entries_in count keys c.deref.result.now)) docs))
      (λ docs. IfSome first.held (λ files. (told : List ℕ) → TellsInverted count rows (section files place) told → AreThose (is_doc_of c.args.ids.now told) docs))
      (λ docs is.
      inverted_told first.held mid.held place count rows c.args.ids.now docs runs c.in-Ok-read_parts.parts.items c.deref.result.now are
      (lasts_below 0 runs count c.runs.ensures.apart (subst (All (λ id. id < count)) (sym are.1) c.requires.below))
      before.held c.deref.ensures.value c.in-Ok-read_parts.ensures.parts is)
      c.docs_of_parts.ensures.found.docs;
  within = c.docs_of_parts.ensures.found.within;
}
