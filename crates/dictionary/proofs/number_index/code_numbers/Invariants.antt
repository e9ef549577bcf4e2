use Rattle.std.proofs.Common.{◌≡◌, take, length}
use Rattle.value_ids.specs.Coding.{AreBelow, AreNumbersOf, numbers_at}
use Rattle.dictionary.proofs.number_index.code_numbers.Given as goal

abbrev pub invariant-loop-number : goal.invariant-loop-number
invariant-loop-number l = (numbers_at l.seen.items l.ids.items ≡ take l.number-index l.numbers) × AreBelow (length l.seen.items) l.ids.items × AreNumbersOf l.numbers l.seen.items
