use Rattle.std.proofs.Common.{List, subst}
use Rattle.std.proofs.lemmas.List.{take_all}
use Rattle.table_schema.specs.declared.query.Conjunct.{Conjunct}
use Rattle.segment_plan.specs.Matched.{values_in}
use Rattle.star_answer.specs.Tasks.{AreMatched}
use Rattle.star_answer.proofs.TaskSteps.{loaded_at, matched_more, matched_none}
use Rattle.star_answer.proofs.intersection.matched_ids.Goals as goal

pub loop-conjunct-init : goal.loop-conjunct-init
loop-conjunct-init c = matched_none c.args.column (values_in c.args.head.now c.args.column)

pub intersect_conjunct-requires : goal.intersect_conjunct-requires
intersect_conjunct-requires c = record {
  loaded = loaded_at c.args.conjuncts.now c.args.head.now
      c.loop-conjunct.conjunct-index c.args.column c.conjunct-item.result
      c.loop-conjunct-test.true c.conjunct-item.is c.requires.loaded;
}

pub loop-conjunct-preserved : goal.loop-conjunct-preserved
loop-conjunct-preserved c = matched_more c.args.conjuncts.now c.loop-conjunct.conjunct-index
    c.args.column (values_in c.args.head.now c.args.column) c.loop-conjunct.met
    c.in_ok-met.met c.conjunct-item.result c.loop-conjunct-test.true c.conjunct-item.is
    c.loop-conjunct.invariant c.in_ok-met.ensures

pub returns : goal.returns
returns c = subst (λ (xs : List Conjunct). AreMatched xs c.args.column
    (values_in c.args.head.now c.args.column) c.loop-conjunct.met)
    (take_all c.loop-conjunct.conjunct-index c.args.conjuncts.now c.loop-conjunct-test.false)
    c.loop-conjunct.invariant
