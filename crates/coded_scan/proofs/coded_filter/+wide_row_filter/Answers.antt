use Rattle.std.proofs.Common.{◌≡◌, ◌∙◌, ◌&&◌, ◌||◌, ℕ, Bool, List, map, drop, ◌+◌, ap, sym, subst, arith}
use Rattle.values.specs.Columns.{row_of}
use Rattle.values.specs.Tests.{all_true, any_true}
use Rattle.table_schema.specs.Conditions.{wide_holds, wide_step}
use Rattle.table_schema.specs.declared.query.Wide.TheOpen.{Wide-F}
use Rattle.table_schema.specs.declared.query.Wide.TheFolds.{fold-roll-Wide}
use Rattle.table_schema.specs.declared.query.Wide.{Wide}
use Rattle.coded_columns.specs.Coded.{table_of}
use Rattle.coded_scan.specs.declared.row_filter.RowFilter.{RowFilter}
use Rattle.coded_scan.specs.declared.row_filter.RowFilter.TheOpen.{RowFilter-F}
use Rattle.coded_scan.specs.declared.row_filter.RowFilter.TheFolds.{fold-roll-RowFilter}
use Rattle.coded_scan.specs.RowFilters.{covers, lets, lets_step}
use Rattle.coded_scan.proofs.RowFilterLemmas.{all_done, all_member, all_true_push, any_done, any_member, both_true}
use Rattle.coded_scan.proofs.coded_filter.+wide_row_filter.Goals as goal

pub loop-member-preserved : goal.loop-member-preserved
loop-member-preserved t c =
    let count : ℕ = c.args.segment.now.count in
    let xs : List RowFilter = c.loop-member.row_filters in
    let x : RowFilter = c.in_ok-wide_row_filter-in-All.field-0 in
    let ys : List Wide = c.as_slice-member-items.result.now in
    let i : ℕ = c.loop-member.member-index in
    let pushed = c.in_ok-push-in-All.ensures.ok in
    record {
      each = λ at lt.
          let f : Wide → Bool = wide_holds (row_of (table_of c.args.segment.now).columns at) in
          subst (λ (l : List RowFilter). f c.args.wide.now ≡ (all_true (map (lets at) l) && all_true (map f (drop (i + 1) ys)))) (sym pushed)
          (all_member (f c.args.wide.now) (lets at) f xs x ys i c.member-item.result c.loop-member-test.true c.member-item.is (c.in_ok-wide_row_filter-in-All.ensures.lets at lt) (c.loop-member.invariant.each at lt));
      covers = ap (λ (l : List RowFilter). all_true (map (covers count) l)) pushed ∙ all_true_push (covers count) xs x
          ∙ both_true (all_true (map (covers count) xs)) (covers count x) c.loop-member.invariant.covers c.in_ok-wide_row_filter-in-All.ensures.covers;
    }

pub loop-member-2-preserved : goal.loop-member-2-preserved
loop-member-2-preserved t c =
    let count : ℕ = c.args.segment.now.count in
    let xs : List RowFilter = c.loop-member-2.row_filters in
    let x : RowFilter = c.in_ok-wide_row_filter-in-Any.field-0 in
    let ys : List Wide = c.as_slice-member-items-in-Any.result.now in
    let i : ℕ = c.loop-member-2.member-index in
    let pushed = c.in_ok-push-in-Any.ensures.ok in
    record {
      each = λ at lt.
          let f : Wide → Bool = wide_holds (row_of (table_of c.args.segment.now).columns at) in
          subst (λ (l : List RowFilter). f c.args.wide.now ≡ (any_true (map (lets at) l) || any_true (map f (drop (i + 1) ys)))) (sym pushed)
          (any_member (f c.args.wide.now) (lets at) f xs x ys i c.member-item-in-loop-member-2.result c.loop-member-2-test.true c.member-item-in-loop-member-2.is (c.in_ok-wide_row_filter-in-Any.ensures.lets at lt) (c.loop-member-2.invariant.each at lt));
      covers = ap (λ (l : List RowFilter). all_true (map (covers count) l)) pushed ∙ all_true_push (covers count) xs x
          ∙ both_true (all_true (map (covers count) xs)) (covers count x) c.loop-member-2.invariant.covers c.in_ok-wide_row_filter-in-Any.ensures.covers;
    }

pub returns-after-loop-member-clause-lets : goal.returns-after-loop-member-clause-lets
unfolding Rattle.coded_scan.specs.declared.row_filter.RowFilter.TheViews.roll-RowFilter denote.Hole.Carrier.roll
returns-after-loop-member-clause-lets t c = λ at lt.
    let f : Wide → Bool = wide_holds (row_of (table_of c.args.segment.now).columns at) in
    fold-roll-RowFilter Bool (lets_step at) (RowFilter-F.All c.loop-member.row_filters)
    ∙ all_done (f c.args.wide.now) (all_true (map (lets at) c.loop-member.row_filters)) f c.as_slice-member-items.result.now c.loop-member.member-index (omega (arith, c.loop-member-test.false)) (c.loop-member.invariant.each at lt)

pub returns-after-loop-member-2-clause-lets : goal.returns-after-loop-member-2-clause-lets
unfolding Rattle.coded_scan.specs.declared.row_filter.RowFilter.TheViews.roll-RowFilter denote.Hole.Carrier.roll
returns-after-loop-member-2-clause-lets t c = λ at lt.
    let f : Wide → Bool = wide_holds (row_of (table_of c.args.segment.now).columns at) in
    fold-roll-RowFilter Bool (lets_step at) (RowFilter-F.Any c.loop-member-2.row_filters)
    ∙ any_done (f c.args.wide.now) (any_true (map (lets at) c.loop-member-2.row_filters)) f c.as_slice-member-items-in-Any.result.now c.loop-member-2.member-index (omega (arith, c.loop-member-2-test.false)) (c.loop-member-2.invariant.each at lt)

pub returns-in_ok-row_filter-in-Leaf-clause-lets : goal.returns-in_ok-row_filter-in-Leaf-clause-lets
unfolding Rattle.table_schema.specs.declared.query.Wide.TheViews.roll-Wide denote.Hole.Carrier.roll
returns-in_ok-row_filter-in-Leaf-clause-lets t c = λ at lt.
    let row = row_of (table_of c.args.segment.now).columns at in
    c.in_ok-row_filter-in-Leaf.ensures.lets at lt
    ∙ sym (ap (wide_holds row) c.in-Leaf.is ∙ fold-roll-Wide Bool (wide_step row) (Wide-F.Leaf c.in-Leaf.field c.in-Leaf.test))
