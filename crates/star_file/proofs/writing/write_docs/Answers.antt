use Rattle.std.proofs.Common.{◌++◌, ◌∙◌, ap}
use Rattle.star_file.specs.Bytes.{doc_bytes}
use Rattle.star_file.proofs.Ranges.{on_ok_then, range_all}
use Rattle.star_file.proofs.writing.write_docs.Goals as goal

pub returns-clause-ok : goal.returns-clause-ok
returns-clause-ok c =
    let docs = c.args.tree.now.docs.docs in
    on_ok_then c.write_docs_range.result (λ e. e ∙ ap (λ ds. c.args.out.now.items ++ doc_bytes ds) (range_all docs c.len.result c.len.ensures.count))
    c.write_docs_range.ensures.ok
