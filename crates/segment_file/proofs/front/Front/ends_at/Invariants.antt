use Rattle.std.proofs.Common.{◌≡◌, ◌+◌, drop, sum}
use Rattle.segment_file.proofs.front.Front.ends_at.Given as goal

abbrev pub invariant-loop-size : goal.invariant-loop-size
invariant-loop-size l = l.offset + sum (drop l.size-index l.size-items) ≡ l.start + sum l.self.sizes
