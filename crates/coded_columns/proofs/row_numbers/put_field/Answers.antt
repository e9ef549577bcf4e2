use Rattle.std.proofs.Common.{ap, Some, arith}
use Rattle.group_table.specs.Groups.{number_of}
use Rattle.coded_columns.proofs.NumberSteps.{numbers-coded, numbers-zero}
use Rattle.coded_columns.proofs.row_numbers.put_field.Goals as goal

pub returns-in-Some : goal.returns-in-Some
returns-in-Some c =
    numbers-coded c.args.placed c.put_coded.new.out (omega (arith, c.put_coded.auto.out, c.requires)) c.args.field c.in-Some.column c.in-Some.ensures c.put_coded.ensures.each c.put_coded.ensures.whole

pub returns-in-None : goal.returns-in-None
returns-in-None c =
    numbers-zero c.args.placed c.put_zeros.new.out (omega (arith, c.put_zeros.auto.out, c.requires)) (Some c.args.field) (λ at. ap number_of (c.in-None.ensures at)) c.put_zeros.ensures
