use Rattle.std.proofs.Common.{length}
use Rattle.outside.specs.Seen.{seen}
use Rattle.serve_lines.specs.Kept.{IsSession, kept_of}
use Rattle.serve_lines.proofs.FinishLemmas.{Closing}
use Rattle.serve_lines.proofs.batch.finish.Given as goal

abbrev pub invariant-cursors : goal.invariant-cursors
invariant-cursors g l = record {
  session : IsSession l.session;
  closing : Closing (kept_of l.fn.session) (seen g.D.Shelf l.fn.depot) (seen g.D.Shelf l.depot) (kept_of l.session);
}

abbrev pub decreases-cursors : goal.decreases-cursors
decreases-cursors g l = length l.session.serving.cursors.items
