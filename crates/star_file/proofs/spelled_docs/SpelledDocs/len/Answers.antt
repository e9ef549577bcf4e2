use Rattle.std.proofs.Common.{length, ap, subst, sym, ◌∙◌}
use Rattle.state_columns.specs.Docs.{AreStored, Docs, HaveShape}
use Rattle.star_file.proofs.SpelledSteps.{docs_count, spelled_shape, spelled_stored}
use Rattle.star_file.proofs.spelled_docs.SpelledDocs.len.Goals as goal

pub returns-clause-count : goal.returns-clause-count
returns-clause-count c =
    let t = c.self.inside in
    sym (docs_count t.shape.now t.count t.bytes) ∙ ap (λ (v : Docs). length v.docs) c.self.view_is

pub returns-clause-shape : goal.returns-clause-shape
returns-clause-shape c =
    let t = c.self.inside in
    subst (λ (v : Docs). HaveShape v.dims v.kinds v.docs) c.self.view_is
    (spelled_shape t.shape.now t.counts.now c.self.invariant.readable.counts_are t.count t.bytes _
    c.self.invariant.spelled)

pub returns-clause-stored : goal.returns-clause-stored
returns-clause-stored c =
    let t = c.self.inside in
    subst (λ (v : Docs). AreStored v.docs) c.self.view_is
    (spelled_stored t.shape.now t.counts.now c.self.invariant.readable.counts_are t.count t.bytes _
    c.self.invariant.spelled)
