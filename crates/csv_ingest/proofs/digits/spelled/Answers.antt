use Rattle.csv_ingest.proofs.DigitLemmas.{eight, products-fit, products-sum, sums-fit, sums-small}
use Rattle.csv_ingest.proofs.digits.spelled.Goals as goal
use Rattle.std.proofs.Common.{ℕ, ◌<◌, ◌≤◌, get_or, arith}

pub overflow_mul-result : goal.overflow_mul-result
overflow_mul-result c =
    let at : (k : ℕ) → k < 8 → get_or c.args.digits k 0 ≤ 9 = λ k lt. c.requires.digits k 0 (omega (arith, c.requires.width, lt)) in
    rw (eight c.args.digits c.requires.width) (products-fit c.args.digits at)

pub overflow_add-result : goal.overflow_add-result
overflow_add-result c =
    let at : (k : ℕ) → k < 8 → get_or c.args.digits k 0 ≤ 9 = λ k lt. c.requires.digits k 0 (omega (arith, c.requires.width, lt)) in
    rw (eight c.args.digits c.requires.width) (sums-fit c.args.digits at)

pub returns-clause-spells : goal.returns-clause-spells
returns-clause-spells c = rw (eight c.args.digits c.requires.width) (products-sum _ _ _ _ _ _ _ _)

pub returns-clause-small : goal.returns-clause-small
returns-clause-small c =
    let at : (k : ℕ) → k < 8 → get_or c.args.digits k 0 ≤ 9 = λ k lt. c.requires.digits k 0 (omega (arith, c.requires.width, lt)) in
    rw (eight c.args.digits c.requires.width) (sums-small c.args.digits at)
