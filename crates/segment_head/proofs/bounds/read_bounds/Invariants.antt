use Rattle.segment_file.proofs.BoundReads.{BoundsRead}
use Rattle.segment_head.proofs.bounds.read_bounds.Given as goal

abbrev pub invariant-loop-field : goal.invariant-loop-field
invariant-loop-field l = BoundsRead l.fields l.bytes l.field-index l.bounds.items l.rest
