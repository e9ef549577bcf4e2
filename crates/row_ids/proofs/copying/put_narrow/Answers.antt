use Rattle.std.proofs.Common.{◌<◌, arith}
use Rattle.std.proofs.lemmas.Grind.{same_number_lists}
use Rattle.row_ids.proofs.copying.put_narrow.Goals as goal

pub returns : goal.returns
returns c = same_number_lists c.loop-at.out c.args.ids.now (omega arith) (λ k lt. c.loop-at.invariant k (omega (arith, lt)))
