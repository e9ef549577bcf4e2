-- The numbers of a pair, one for each row.
use Rattle.std.specs.Prelude.{ℤ, pos, List, replicate}
use Rattle.star_rows.specs.declared.numbers.PairNumbers.{PairNumbers}
use Rattle.star_rows.specs.declared.numbers.PairNumbers.TheVariants as pair

-- those of a column, or so many zeros
abbrev pub numbers_of : PairNumbers → List ℤ
numbers_of (pair.Stored numbers) = numbers.now
numbers_of (pair.Zeros rows) = replicate rows (pos 0)
