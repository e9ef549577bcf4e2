use Rattle.std.proofs.Common.{◌∙◌, ap}
use Rattle.value_ids.specs.Dictionary.{distinct}
use Rattle.value_ids.proofs.DistinctLemmas.{members_so, stands_so}
use Rattle.dictionary.proofs.dictionary.Dictionary.build.Goals as goal

pub invariant_of-result : goal.invariant_of-result
invariant_of-result c =
    stands_so c.args.kind c.args.column.now c.in_ok-values.field-0.values c.requires.at_most c.requires.fit (c.in_ok-values.ensures.are ∙ ap distinct (c.in_ok-column.ensures ∙ c.as_slice.ensures)) c.in_ok-values.ensures.unicode

pub returns-clause-distinct : goal.returns-clause-distinct
returns-clause-distinct c = c.in_ok-values.ensures.are ∙ ap distinct (c.in_ok-column.ensures ∙ c.as_slice.ensures)

pub returns-clause-members : goal.returns-clause-members
returns-clause-members c = members_so c.args.column.now c.in_ok-values.field-0.values (c.in_ok-values.ensures.are ∙ ap distinct (c.in_ok-column.ensures ∙ c.as_slice.ensures))

pub returns-clause-valid : goal.returns-clause-valid
returns-clause-valid c =
    stands_so c.args.kind c.args.column.now c.in_ok-values.field-0.values c.requires.at_most c.requires.fit (c.in_ok-values.ensures.are ∙ ap distinct (c.in_ok-column.ensures ∙ c.as_slice.ensures)) c.in_ok-values.ensures.unicode
