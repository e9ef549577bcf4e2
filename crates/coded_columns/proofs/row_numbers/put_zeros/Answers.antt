use Rattle.std.proofs.Common.{◌∙◌, pos, arith}
use Rattle.std.proofs.lemmas.List.{get_or_default}
use Rattle.coded_columns.proofs.row_numbers.put_zeros.Goals as goal

pub returns : goal.returns
returns c = λ k d lt. get_or_default c.loop-k.out k d (pos 0) lt ∙ c.loop-k.invariant k (omega (arith, lt, c.loop-k-test.false, c.loop-k.auto.out))
