use Rattle.std.proofs.Common.{ℕ, Option, None, refl, sym, subst, arith}
use Rattle.coded_columns.specs.Keyed.{AreNumbersIn, rows_in}
use Rattle.coded_columns.proofs.NumberSteps.{numbers-zero}
use Rattle.coded_columns.proofs.row_numbers.put_numbers.Goals as goal

pub returns-in-Some : goal.returns-in-Some
returns-in-Some c = subst (λ (o : Option ℕ). AreNumbersIn o (rows_in c.args.placed) c.put_field.new.out) (sym c.in-Some.is) c.put_field.ensures

pub returns-in-None : goal.returns-in-None
returns-in-None c =
    subst (λ (o : Option ℕ). AreNumbersIn o (rows_in c.args.placed) c.put_zeros.new.out) (sym c.in-None.is)
    (numbers-zero c.args.placed c.put_zeros.new.out (omega (arith, c.put_zeros.auto.out, c.requires)) None (λ at. refl) c.put_zeros.ensures)
