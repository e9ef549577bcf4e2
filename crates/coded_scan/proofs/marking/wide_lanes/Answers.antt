use Rattle.std.proofs.Common.{Fits, w32, arith}
use Rattle.std.proofs.lemmas.Simd.{Each1-get_or}
use Rattle.coded_scan.proofs.Lanes.{run-lanes, same-lanes}
use Rattle.coded_scan.proofs.marking.wide_lanes.Goals as goal

pub returns : goal.returns
returns c i lt = run-lanes c.args.lanes c.args.first c.args.more i c.fits-lanes.0 lt (Each1-get_or (Fits w32) c.args.lanes i 0 (omega (arith, c.fits-lanes.0, lt)) c.fits-lanes.1).fits c.requires

pub returns-then-more-eq0 : goal.returns-then-more-eq0
returns-then-more-eq0 c i lt = same-lanes c.args.lanes c.args.first c.args.more i c.fits-lanes.0 lt (omega (arith, c.if-more-eq0.true))
