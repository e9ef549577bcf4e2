use Rattle.std.proofs.Common.{[], ap, map}
use Rattle.values.specs.declared.value.Value.TheVariants.{Whole}
use Rattle.dictionary.proofs.Numbers.{none_of, numbers_end, numbers_long, numbers_none}
use Rattle.dictionary.proofs.check.read_numbers.Goals as goal

pub returns-then-body-count-clause-bad : goal.returns-then-body-count-clause-bad
returns-then-body-count-clause-bad c = λ _. numbers_long c.args.kind c.args.count c.args.body.now c.requires.numbers c.if-body-count.true

pub push_numbers-requires-clause-eights : goal.push_numbers-requires-clause-eights
push_numbers-requires-clause-eights c = (c.args.count, c.if-body-count.false)

pub returns-in-Ok-clause-ok : goal.returns-in-Ok-clause-ok
returns-in-Ok-clause-ok c =
    numbers_end c.args.kind c.args.count c.args.body.now (map Whole c.push_numbers.new.numbers.items) c.requires.numbers c.requires.at_most c.if-body-count.false
    (c.in-Ok.ensures.ok [] (none_of c.args.kind (map Whole c.in_ok-numbers.numbers.items) (ap (map Whole) c.in_ok-numbers.ensures.items)))

pub returns-in-Err-clause-bad : goal.returns-in-Err-clause-bad
returns-in-Err-clause-bad c = λ e.
    numbers_none c.args.kind c.args.count c.args.body.now c.requires.numbers
    (c.in-Err.ensures.bad e [] [] (none_of c.args.kind (map Whole c.in_ok-numbers.numbers.items) (ap (map Whole) c.in_ok-numbers.ensures.items)))
