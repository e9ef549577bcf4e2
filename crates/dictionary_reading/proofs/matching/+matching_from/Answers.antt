use Rattle.std.proofs.Common.{◌+◌, drop}
use Rattle.std.proofs.lemmas.List.{drop_all}
use Rattle.value_ids.proofs.MatchLemmas.{next_test}
use Rattle.dictionary_reading.proofs.MatchedLemmas.{all_begins, all_ends, all_goes_on, any_begins, any_ends, any_goes_on, between_found, compare_found, members_found}
use Rattle.dictionary_reading.proofs.matching.+matching_from.Goals as goal

pub loop-test-init : goal.loop-test-init
loop-test-init t c = all_begins c.args.test.now c.args.cuts.now c.args.count c.args.at.now c.in-All.tests c.as_slice-test-items.result.now c.in_ok-ids-in-All.ids c.in-All.is c.as_slice-test-items.ensures c.in_ok-ids-in-All.ensures

pub loop-test-preserved : goal.loop-test-preserved
loop-test-preserved t c =
    let items = c.as_slice-test-items.result.now in
    all_goes_on c.args.test.now c.test-item.result c.args.cuts.now c.args.count c.args.at.now c.loop-test.at c.matching_from.new.at (drop c.loop-test.test-index items) (drop (c.loop-test.test-index + 1) items) c.loop-test.ids c.in_ok-own-in-All.own
    c.in_ok-ids-in-All-2.ids (next_test items c.loop-test.test-index c.test-item.result c.loop-test-test.true c.test-item.is) c.loop-test.invariant c.in_ok-own-in-All.ensures.ids c.in_ok-ids-in-All-2.ensures c.in_ok-own-in-All.ensures.past

pub loop-test-2-init : goal.loop-test-2-init
loop-test-2-init t c = any_begins c.args.test.now c.args.cuts.now c.args.count c.args.at.now c.in-Any.tests c.as_slice-test-items-in-Any.result.now c.new-ids.result c.in-Any.is c.as_slice-test-items-in-Any.ensures c.new-ids.ensures

pub loop-test-2-preserved : goal.loop-test-2-preserved
loop-test-2-preserved t c =
    let items = c.as_slice-test-items-in-Any.result.now in
    any_goes_on c.args.test.now c.test-item-in-loop-test-2.result c.args.cuts.now c.args.count c.args.at.now c.loop-test-2.at c.matching_from-in-loop-test-2.new.at (drop c.loop-test-2.test-index items) (drop (c.loop-test-2.test-index + 1) items) c.loop-test-2.ids
    c.in_ok-own-in-Any.own c.in_ok-ids-in-Any.ids (next_test items c.loop-test-2.test-index c.test-item-in-loop-test-2.result c.loop-test-2-test.true c.test-item-in-loop-test-2.is) c.loop-test-2.invariant c.in_ok-own-in-Any.ensures.ids c.in_ok-ids-in-Any.ensures
    c.in_ok-own-in-Any.ensures.past

pub returns-in-Compare-clause-ids : goal.returns-in-Compare-clause-ids
returns-in-Compare-clause-ids t c = compare_found c.args.test.now c.in-Compare.op c.in-Compare.field-1 c.args.cuts.now c.args.count c.args.at.now (record { from = 0; to = 0 }) c.compared.result c.in-Compare.is c.compared.ensures

pub returns-in-Between-clause-ids : goal.returns-in-Between-clause-ids
returns-in-Between-clause-ids t c = between_found c.args.test.now c.in-Between.field-0 c.in-Between.field-1 c.in-Between.negated c.args.cuts.now c.args.count c.args.at.now (record { from = 0; to = 0 }) c.between.result c.in-Between.is c.between.ensures

pub returns-in-OneOf-clause-ids : goal.returns-in-OneOf-clause-ids
returns-in-OneOf-clause-ids t c = members_found c.args.test.now c.in-OneOf.members c.in-OneOf.negated c.args.cuts.now c.args.count c.args.at.now c.len.result c.one_of.result c.in-OneOf.is c.len.ensures c.requires.each c.one_of.ensures

pub returns-after-loop-test-clause-ids : goal.returns-after-loop-test-clause-ids
returns-after-loop-test-clause-ids t c =
    let items = c.as_slice-test-items.result.now in
    all_ends c.args.test.now c.args.cuts.now c.args.count c.args.at.now c.loop-test.at (drop c.loop-test.test-index items) c.loop-test.ids (drop_all c.loop-test.test-index items c.loop-test-test.false) c.loop-test.invariant

pub returns-after-loop-test-2-clause-ids : goal.returns-after-loop-test-2-clause-ids
returns-after-loop-test-2-clause-ids t c =
    let items = c.as_slice-test-items-in-Any.result.now in
    any_ends c.args.test.now c.args.cuts.now c.args.count c.args.at.now c.loop-test-2.at (drop c.loop-test-2.test-index items) c.loop-test-2.ids (drop_all c.loop-test-2.test-index items c.loop-test-2-test.false) c.loop-test-2.invariant
