use Rattle.std.proofs.Common.{◌≡◌, ◌∙◌, ◌+◌, ◌*◌, length, sym, ap}
use Rattle.star_file.specs.Rules.{widths}
use Rattle.star_file.proofs.Ranges.{docs_of_width}
use Rattle.star_file.proofs.writing.doc_size.Goals as goal

pub returns-clause-each : goal.returns-clause-each
returns-clause-each c =
    let t = c.args.tree.now.docs in
    let width : c.widths.result ≡ widths t.kinds = c.widths.ensures.value ∙ ap widths (c.as_slice.ensures ∙ c.kinds.ensures) in
    docs_of_width t.dims t.kinds t.docs c.len-count.ensures.shape c.len-count.ensures.stored
    ∙ sym (λ i. length t.docs * (4 * c.dims.ensures i + width i))
