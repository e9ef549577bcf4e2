use Rattle.std.proofs.Common.{◌∙◌, subst, sym}
use Rattle.pinot_run.specs.Promise.{Noted}
use Rattle.outside.specs.Seen.{heard}
use Rattle.pinot_run.proofs.PromiseLemmas.{noted_cut, noted_line}
use Rattle.pinot_run.proofs.finish.give_note.Goals as goal

pub returns-then-put_some-clause-noted : goal.returns-then-put_some-clause-noted
returns-then-put_some-clause-noted g c =
    subst (λ s. Noted s (heard g.N.Sink c.args.notes.now) (heard g.N.Sink c.put_some.new.sink)) (sym c.status_of.ensures)
    (noted_line c.args.note.now c.deref.result.now (heard g.N.Sink c.args.notes.now) (heard g.N.Sink c.put_some.new.sink) (c.deref.ensures.value ∙ c.in-Ok.ensures) (c.put_some.ensures.all c.if-put_some.true) c.put_some.ensures.prefix c.put_some.ensures.later (c.put_some.ensures.unchanged c.if-put_some.true))

pub returns-clause-noted : goal.returns-clause-noted
returns-clause-noted g c =
    noted_cut c.args.note.now c.deref.result.now (heard g.N.Sink c.args.notes.now) (heard g.N.Sink c.put_some.new.sink) (c.deref.ensures.value ∙ c.in-Ok.ensures) (c.put_some.ensures.failed c.if-put_some.false) c.put_some.ensures.prefix c.put_some.ensures.later
