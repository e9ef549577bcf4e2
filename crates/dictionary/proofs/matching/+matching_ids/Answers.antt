use Rattle.std.proofs.Common.{◌+◌, ℕ, drop, subst}
use Rattle.std.proofs.lemmas.List.{drop_all}
use Rattle.value_ids.specs.Ids.{AreThose, is_in_either, is_within}
use Rattle.value_ids.proofs.MatchLemmas.{all_at_first, all_end, all_more, any_at_first, any_end, any_more, next_test}
use Rattle.dictionary.proofs.matching.+matching_ids.Goals as goal

pub loop-test-init : goal.loop-test-init
loop-test-init t c = all_at_first c.args.test.now c.args.ascending.values.now c.in-All.tests c.as_slice-test-items.result.now c.in_ok-ids-in-All.ids c.in-All.is c.as_slice-test-items.ensures
    (subst (λ (n : ℕ). AreThose (is_within 0 n) c.in_ok-ids-in-All.ids) c.len-count.ensures c.in_ok-ids-in-All.ensures)

pub loop-test-preserved : goal.loop-test-preserved
loop-test-preserved t c =
    all_more c.args.test.now c.test-item.result c.args.ascending.values.now (drop c.loop-test.test-index c.as_slice-test-items.result.now) (drop (c.loop-test.test-index + 1) c.as_slice-test-items.result.now) c.loop-test.ids
    c.in_ok-matching_ids-in-All.field-0 c.in_ok-ids-in-All-2.ids (next_test c.as_slice-test-items.result.now c.loop-test.test-index c.test-item.result c.loop-test-test.true c.test-item.is) c.loop-test.invariant
    c.in_ok-matching_ids-in-All.ensures c.in_ok-ids-in-All-2.ensures

pub loop-test-2-init : goal.loop-test-2-init
loop-test-2-init t c = any_at_first c.args.test.now c.args.ascending.values.now c.in-Any.tests c.as_slice-test-items-in-Any.result.now c.new-ids.result c.in-Any.is c.as_slice-test-items-in-Any.ensures c.new-ids.ensures

pub loop-test-2-preserved : goal.loop-test-2-preserved
loop-test-2-preserved t c =
    any_more c.args.test.now c.test-item-in-loop-test-2.result c.args.ascending.values.now (drop c.loop-test-2.test-index c.as_slice-test-items-in-Any.result.now) (drop (c.loop-test-2.test-index + 1) c.as_slice-test-items-in-Any.result.now)
    c.loop-test-2.ids c.in_ok-matching_ids-in-Any.field-0 c.in_ok-ids-in-Any.ids
    (next_test c.as_slice-test-items-in-Any.result.now c.loop-test-2.test-index c.test-item-in-loop-test-2.result c.loop-test-2-test.true c.test-item-in-loop-test-2.is) c.loop-test-2.invariant c.in_ok-matching_ids-in-Any.ensures
    (subst (λ (n : ℕ). AreThose (is_in_either n c.loop-test-2.ids c.in_ok-matching_ids-in-Any.field-0) c.in_ok-ids-in-Any.ids) c.len-count.ensures c.in_ok-ids-in-Any.ensures)

pub returns-after-loop-test : goal.returns-after-loop-test
returns-after-loop-test t c =
    all_end c.args.test.now c.args.ascending.values.now (drop c.loop-test.test-index c.as_slice-test-items.result.now) c.loop-test.ids (drop_all c.loop-test.test-index c.as_slice-test-items.result.now c.loop-test-test.false) c.loop-test.invariant

pub returns-after-loop-test-2 : goal.returns-after-loop-test-2
returns-after-loop-test-2 t c =
    any_end c.args.test.now c.args.ascending.values.now (drop c.loop-test-2.test-index c.as_slice-test-items-in-Any.result.now) c.loop-test-2.ids (drop_all c.loop-test-2.test-index c.as_slice-test-items-in-Any.result.now c.loop-test-2-test.false)
    c.loop-test-2.invariant
