use Rattle.value_ids.proofs.DistinctLemmas.{members_so, stands_so}
use Rattle.dictionary.proofs.dictionary.Dictionary.of_column.Goals as goal

pub invariant_of-result : goal.invariant_of-result
invariant_of-result c =
    let so = c.in_ok-values.ensures in
    stands_so c.args.kind c.args.column.now.values c.in_ok-values.field-0.values c.requires.at_most c.requires.fit so.are so.unicode

pub returns-clause-members : goal.returns-clause-members
returns-clause-members c = members_so c.args.column.now.values c.in_ok-values.field-0.values c.in_ok-values.ensures.are

pub returns-clause-valid : goal.returns-clause-valid
returns-clause-valid c =
    let so = c.in_ok-values.ensures in
    stands_so c.args.kind c.args.column.now.values c.in_ok-values.field-0.values c.requires.at_most c.requires.fit so.are so.unicode
