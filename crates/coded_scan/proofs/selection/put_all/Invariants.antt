use Rattle.std.proofs.Common.{◌≡◌, true, take}
use Rattle.coded_scan.specs.RowFilters.{passing}
use Rattle.coded_scan.proofs.selection.put_all.Given as goal

abbrev pub invariant-loop-at : goal.invariant-loop-at
invariant-loop-at l = take l.at l.out ≡ passing (λ at. true) l.from l.at
