use Rattle.std.proofs.Common.{subst, Option}
use Rattle.std.specs.List.Sorted.{IsStrictlySortedBy}
use Rattle.std.specs.Option.{IfSome}
use Rattle.std.specs.Ordering.{int_cmp}
use Rattle.dictionary.specs.declared.number_index.CodedNumbers.{CodedNumbers}
use Rattle.dictionary.specs.Coded.{SeesNumbers}
use Rattle.dictionary.proofs.RankedValues.{number_ascending}
use Rattle.dictionary.proofs.coded.coded_numbers.Goals as goal

pub returns-in-Some : goal.returns-in-Some
returns-in-Some c =
    let sees = subst (λ (o : Option CodedNumbers). IfSome o (λ coded. SeesNumbers c.args.numbers.now coded.seen.items coded.ids.items)) c.in-Some.is c.in_ok-seen.ensures.sees in
    let rise = subst (λ (o : Option CodedNumbers). IfSome o (λ coded. IsStrictlySortedBy int_cmp coded.seen.items)) c.in-Some.is c.in_ok-seen.ensures.rise in
    number_ascending c.args.numbers.now c.in-Some.field-0.seen.items c.in-Some.field-0.ids.items c.of_numbers.result sees rise c.of_numbers.ensures
