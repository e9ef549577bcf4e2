use Rattle.std.proofs.Common.{◌<◌, ◌^◌, All, take}
use Rattle.base_tests.proofs.forward_indexes.fit.Given as goal

abbrev pub invariant-loop-id : goal.invariant-loop-id
invariant-loop-id l = All (λ id. id < 2 ^ l.width) (take l.id-index l.ids)
