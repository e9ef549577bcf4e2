use Rattle.outside.specs.Seen.{heard}
use Rattle.pinot_run.proofs.PromiseLemmas.{unnoted}
use Rattle.pinot_run.proofs.finish.give_text.Goals as goal

pub returns-then-put_some-clause-noted : goal.returns-then-put_some-clause-noted
returns-then-put_some-clause-noted g c = unnoted (heard g.N.Sink c.args.notes.now)
