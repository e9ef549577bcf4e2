use Rattle.std.proofs.Common.{◌<◌, ap, ◌∙◌, arith, length}
use Rattle.agg_laws.specs.Tree.{dim}
use Rattle.state_columns.specs.Docs.{Docs, doc_at}
use Rattle.star_file.proofs.SpelledSteps as steps
use Rattle.star_file.proofs.spelled_docs.SpelledDocs.dim.Goals as goal

pub doc_of-doc-requires : goal.doc_of-doc-requires
doc_of-doc-requires c =
    let t = c.self.inside in
    let r = steps.room t.shape.now t.counts.now t.count t.width t.bytes c.self.invariant c.args.at
    (steps.is_there t.shape.now t.count t.bytes c.args.self.now c.self.view_is c.args.at
    c.requires.at) in
    let l = ap length c.as_slice.ensures in
    omega (arith, r, l)

pub number-requires : goal.number-requires
number-requires c =
    let level = ap (λ (v : Docs). v.dims) c.self.view_is in
    omega (arith, c.requires.level, level, c.doc_of-doc.ensures.lengths, c.self.invariant.width_is)

pub returns : goal.returns
returns c =
    let t = c.self.inside in
    let lt = steps.is_there t.shape.now t.count t.bytes c.args.self.now c.self.view_is c.args.at
    c.requires.at in
    let level : c.args.level < t.shape.now.dims =
    omega (arith, c.requires.level, ap (λ (v : Docs). v.dims) c.self.view_is) in
    let part = steps.own_part_is c.args.at t.width t.bytes c.as_slice.result.now
    c.doc_of-doc.result.now c.as_slice.ensures c.doc_of-doc.ensures.part in
    c.number.ensures
    ∙ steps.id_is t.shape.now t.count c.args.at c.args.level t.width t.bytes
    c.doc_of-doc.result.now lt level c.self.invariant.width_is part
    ∙ ap (λ (v : Docs). dim c.args.level (doc_at v.docs c.args.at).0) c.self.view_is
