use Rattle.std.proofs.Common.{◌≡◌, ◌∙◌, ◌+◌, ◌&&◌, ◌||◌, ℕ, suc, Bool, List, ap, sym, take, arith}
use Rattle.std.specs.List.{list_all}
use Rattle.std.proofs.lemmas.List.{take_all}
use Rattle.values.specs.Columns.{row_of}
use Rattle.table_schema.specs.Conditions.{all_hold, conjunct_holds}
use Rattle.table_schema.specs.declared.query.Conjunct.{Conjunct}
use Rattle.segment_plan.specs.declared.plans.IndexChoice.{IndexChoice}
use Rattle.coded_columns.specs.Coded.{table_of}
use Rattle.coded_scan.specs.declared.row_filter.RowFilter.{RowFilter}
use Rattle.coded_scan.specs.RowFilters.{all_let, covers}
use Rattle.segment_plan.specs.Served.{is_served, unserved}
use Rattle.segment_plan.proofs.ServedLemmas.{none_unserved, unserved_more}
use Rattle.coded_scan.proofs.coded_filter.row_filters_of.Goals as goal

pub loop-at-init : goal.loop-at-init
loop-at-init c = record {
  lets = λ row lt. ap (λ (l : List RowFilter). all_let row l) c.new-row_filters.ensures.items ∙ ap (λ (l : List Conjunct). all_hold (row_of (table_of c.args.segment.now).columns row) l) (sym (none_unserved c.args.choices.now));
  covers = ap (λ (l : List RowFilter). list_all (covers c.args.segment.now.count) l) c.new-row_filters.ensures.items;
}

pub loop-at-preserved : goal.loop-at-preserved
loop-at-preserved c =
    let columns = (table_of c.args.segment.now).columns in
    let i : ℕ = c.loop-at.at in
    let x : Conjunct = c.index-conjuncts-at.result in
    let choices : List IndexChoice = c.args.choices.now in
    let conjuncts : List Conjunct = c.args.conjuncts.now in
    let more : i + 1 ≡ suc i = omega arith in
    record {
      lets = λ row lt.
          let first : Bool = all_hold (row_of columns row) (unserved choices (take i conjuncts)) in
          c.in_ok-push_unserved.ensures.lets row lt
          ∙ ap (λ b. b && (is_served c.choice_at.result x || conjunct_holds (row_of columns row) x)) (c.loop-at.invariant.lets row lt)
          ∙ ap (λ ch. first && (is_served ch x || conjunct_holds (row_of columns row) x)) c.choice_at.ensures
          ∙ sym (ap (λ n. all_hold (row_of columns row) (unserved choices (take n conjuncts))) more ∙ unserved_more (conjunct_holds (row_of columns row)) choices conjuncts i x c.loop-at-test.true c.index-conjuncts-at.is);
      covers = c.in_ok-push_unserved.ensures.covers;
    }

pub returns-clause-lets : goal.returns-clause-lets
returns-clause-lets c = λ at lt.
    c.loop-at.invariant.lets at lt ∙ ap (λ (l : List Conjunct). all_hold (row_of (table_of c.args.segment.now).columns at) (unserved c.args.choices.now l)) (take_all c.loop-at.at c.args.conjuncts.now (omega (arith, c.loop-at-test.false)))
