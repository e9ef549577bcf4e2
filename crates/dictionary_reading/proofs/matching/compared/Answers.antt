use Rattle.std.proofs.Common.{ℕ, subst, sym}
use Rattle.values.specs.declared.test.CompareOp.TheVariants as op
use Rattle.value_ids.specs.Ids.{AreThose, is_outside, is_within}
use Rattle.value_ids.proofs.MatchLemmas.{at_least_run, at_most_run, equal_run, less_run, more_run, unequal_run}
use Rattle.dictionary_reading.proofs.MatchedLemmas.{compared_by}
use Rattle.dictionary_reading.proofs.matching.compared.Goals as goal

pub returns-in-Equal : goal.returns-in-Equal
returns-in-Equal c =
    let cut = c.args.cut in
    compared_by c.args.op op.Equal cut c.args.count c.range_of.result (AreThose (is_within cut.from cut.to)) c.in-Equal.is (λ ids those values bound many at. equal_run values bound cut.from cut.to at ids those) c.range_of.ensures

pub returns-in-Less : goal.returns-in-Less
returns-in-Less c =
    let cut = c.args.cut in
    compared_by c.args.op op.Less cut c.args.count c.range_of-in-Less.result (AreThose (is_within 0 cut.from)) c.in-Less.is (λ ids those values bound many at. less_run values bound cut.from cut.to at ids those) c.range_of-in-Less.ensures

pub returns-in-AtMost : goal.returns-in-AtMost
returns-in-AtMost c =
    let cut = c.args.cut in
    compared_by c.args.op op.AtMost cut c.args.count c.range_of-in-AtMost.result (AreThose (is_within 0 cut.to)) c.in-AtMost.is (λ ids those values bound many at. at_most_run values bound cut.from cut.to at ids those) c.range_of-in-AtMost.ensures

pub returns-in-More : goal.returns-in-More
returns-in-More c =
    let cut = c.args.cut in
    compared_by c.args.op op.More cut c.args.count c.range_of-in-More.result (AreThose (is_within cut.to c.args.count)) c.in-More.is
    (λ ids those values bound many at. more_run values bound cut.from cut.to at ids (subst (λ (n : ℕ). AreThose (is_within cut.to n) ids) (sym many) those)) c.range_of-in-More.ensures

pub returns-in-AtLeast : goal.returns-in-AtLeast
returns-in-AtLeast c =
    let cut = c.args.cut in
    compared_by c.args.op op.AtLeast cut c.args.count c.range_of-in-AtLeast.result (AreThose (is_within cut.from c.args.count)) c.in-AtLeast.is
    (λ ids those values bound many at. at_least_run values bound cut.from cut.to at ids (subst (λ (n : ℕ). AreThose (is_within cut.from n) ids) (sym many) those)) c.range_of-in-AtLeast.ensures

pub returns-in_ok-range_of-in-Unequal : goal.returns-in_ok-range_of-in-Unequal
returns-in_ok-range_of-in-Unequal c =
    let cut = c.args.cut in
    let run = c.in_ok-range_of-in-Unequal.field-0 in
    compared_by c.args.op op.Unequal cut c.args.count c.complement_of-in-Unequal.result (AreThose (is_outside c.args.count run)) c.in-Unequal.is
    (λ ids those values bound many at. unequal_run values bound cut.from cut.to run ids at c.in_ok-range_of-in-Unequal.ensures (subst (λ (n : ℕ). AreThose (is_outside n run) ids) (sym many) those)) c.complement_of-in-Unequal.ensures
