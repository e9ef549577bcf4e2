use Rattle.std.proofs.Common.{◌≡◌, get_or, map, pos, take}
use Rattle.scan_engine.proofs.fold.folded.Given as goal

abbrev pub invariant-loop-place : goal.invariant-loop-place
invariant-loop-place g l = record {
  state : l.state ≡ g.A.Aggregator.of (map (λ at. get_or l.numbers at (pos 0)) (take l.place-index l.places));
  fits : g.A.Aggregator.fits l.state l.place-index;
}
