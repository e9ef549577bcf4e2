use Rattle.std.proofs.Common.{◌≡◌, ◌∙◌, ◌+◌, ◌&&◌, ◌||◌, ℕ, Bool, List, true, false, drop, get_or, length, map, ap, subst, sym, arith, rules}
use Rattle.values.specs.Tests.{all_true, any_true}
use Rattle.value_ids.specs.Ids.{has_id}
use Rattle.coded_columns.specs.Ids.{seen_ids}
use Rattle.coded_scan.specs.Marks.{AreMarks}
use Rattle.coded_scan.specs.declared.row_filter.RowFilter.{RowFilter}
use Rattle.coded_scan.specs.declared.row_filter.RowFilter.TheOpen.{RowFilter-F}
use Rattle.coded_scan.specs.declared.row_filter.RowFilter.TheFolds.{fold-roll-RowFilter}
use Rattle.coded_scan.specs.RowFilters.{covers, covers_step, lets, lets_step}
use Rattle.coded_scan.proofs.MarkSteps.{are-same}
use Rattle.coded_scan.proofs.RowFilterLemmas.{all_done, all_first, and_assoc, any_done, any_first, both_second, or_assoc}
use Rattle.coded_scan.proofs.block_marks.+mark_rows.Goals as goal

pub loop-member-init : goal.loop-member-init
unfolding Rattle.coded_scan.specs.declared.row_filter.RowFilter.TheViews.roll-RowFilter denote.Hole.Carrier.roll
loop-member-init t c =
    let from : ℕ = c.args.block.from in
    record {
      sofar = λ at. true;
      marks = c.mark_same-in-All.ensures;
      each = λ at. ap (lets (from + at)) c.in-All.is ∙ fold-roll-RowFilter Bool (lets_step (from + at)) (RowFilter-F.All c.in-All.inner)
          ∙ ap (λ (l : List RowFilter). all_true (map (lets (from + at)) l)) (sym c.as_slice-member-items.ensures);
      others = search rules;
      count = c.mark_same-in-All.auto.words;
      covers = ap (λ (l : List RowFilter). all_true (map (covers c.args.count) l)) c.as_slice-member-items.ensures
          ∙ sym (ap (covers c.args.count) c.in-All.is ∙ fold-roll-RowFilter Bool (covers_step c.args.count) (RowFilter-F.All c.in-All.inner)) ∙ c.requires.covers;
    }

pub loop-member-preserved : goal.loop-member-preserved
loop-member-preserved t c =
    let from : ℕ = c.args.block.from in
    let told = c.loop-member.invariant in
    let items : List RowFilter = c.as_slice-member-items.result.now in
    let i : ℕ = c.loop-member.member-index in
    let x : RowFilter = c.member-item.result in
    record {
      sofar = λ at. told.sofar at && lets (from + at) x;
      marks = c.keep_both.ensures c.args.block.length told.sofar (λ at. lets (from + at) x) told.marks c.in_ok-mark_rows-in-All.ensures;
      each = λ at. told.each at
          ∙ ap (λ b. told.sofar at && b) (all_first (lets (from + at)) items i x c.loop-member-test.true c.member-item.is)
          ∙ and_assoc (told.sofar at) (lets (from + at) x) (all_true (map (lets (from + at)) (drop (i + 1) items)));
      others = omega (arith, told.others, c.mark_rows.auto.words, c.keep_both.auto.words);
      count = omega (arith, told.count, c.keep_both.auto.words);
      covers = both_second (covers c.args.count x) (all_true (map (covers c.args.count) (drop (i + 1) items))) (sym (all_first (covers c.args.count) items i x c.loop-member-test.true c.member-item.is) ∙ told.covers);
    }

pub returns-after-loop-member : goal.returns-after-loop-member
returns-after-loop-member t c =
    let from : ℕ = c.args.block.from in
    let told = c.loop-member.invariant in
    are-same c.args.block.length told.sofar (λ at. lets (from + at) c.args.row_filter.now) c.loop-member.words
    (λ row lt. all_done (lets (from + row) c.args.row_filter.now) (told.sofar row) (lets (from + row)) c.as_slice-member-items.result.now c.loop-member.member-index c.loop-member-test.false (told.each row))
    told.marks

pub loop-member-2-init : goal.loop-member-2-init
unfolding Rattle.coded_scan.specs.declared.row_filter.RowFilter.TheViews.roll-RowFilter denote.Hole.Carrier.roll
loop-member-2-init t c =
    let from : ℕ = c.args.block.from in
    record {
      sofar = λ at. false;
      marks = c.mark_same-in-Any.ensures;
      each = λ at. ap (lets (from + at)) c.in-Any.is ∙ fold-roll-RowFilter Bool (lets_step (from + at)) (RowFilter-F.Any c.in-Any.inner)
          ∙ ap (λ (l : List RowFilter). any_true (map (lets (from + at)) l)) (sym c.as_slice-member-items-in-Any.ensures);
      others = search rules;
      count = c.mark_same-in-Any.auto.words;
      covers = ap (λ (l : List RowFilter). all_true (map (covers c.args.count) l)) c.as_slice-member-items-in-Any.ensures
          ∙ sym (ap (covers c.args.count) c.in-Any.is ∙ fold-roll-RowFilter Bool (covers_step c.args.count) (RowFilter-F.Any c.in-Any.inner)) ∙ c.requires.covers;
    }

pub loop-member-2-preserved : goal.loop-member-2-preserved
loop-member-2-preserved t c =
    let from : ℕ = c.args.block.from in
    let told = c.loop-member-2.invariant in
    let items : List RowFilter = c.as_slice-member-items-in-Any.result.now in
    let i : ℕ = c.loop-member-2.member-index in
    let x : RowFilter = c.member-item-in-loop-member-2.result in
    record {
      sofar = λ at. told.sofar at || lets (from + at) x;
      marks = c.keep_either.ensures c.args.block.length told.sofar (λ at. lets (from + at) x) told.marks c.in_ok-mark_rows-in-Any.ensures;
      each = λ at. told.each at
          ∙ ap (λ b. told.sofar at || b) (any_first (lets (from + at)) items i x c.loop-member-2-test.true c.member-item-in-loop-member-2.is)
          ∙ or_assoc (told.sofar at) (lets (from + at) x) (any_true (map (lets (from + at)) (drop (i + 1) items)));
      others = omega (arith, told.others, c.mark_rows-in-loop-member-2.auto.words, c.keep_either.auto.words);
      count = omega (arith, told.count, c.keep_either.auto.words);
      covers = both_second (covers c.args.count x) (all_true (map (covers c.args.count) (drop (i + 1) items))) (sym (all_first (covers c.args.count) items i x c.loop-member-2-test.true c.member-item-in-loop-member-2.is) ∙ told.covers);
    }

pub returns-after-loop-member-2 : goal.returns-after-loop-member-2
returns-after-loop-member-2 t c =
    let from : ℕ = c.args.block.from in
    let told = c.loop-member-2.invariant in
    are-same c.args.block.length told.sofar (λ at. lets (from + at) c.args.row_filter.now) c.loop-member-2.words
    (λ row lt. any_done (lets (from + row) c.args.row_filter.now) (told.sofar row) (lets (from + row)) c.as_slice-member-items-in-Any.result.now c.loop-member-2.member-index c.loop-member-2-test.false (told.each row))
    told.marks

pub returns-in-Ids : goal.returns-in-Ids
unfolding Rattle.coded_scan.specs.declared.row_filter.RowFilter.TheViews.roll-RowFilter denote.Hole.Carrier.roll
returns-in-Ids t c =
    let from : ℕ = c.args.block.from in
    let seen : List ℕ = seen_ids c.between.result in
    let many : length seen ≡ c.args.block.length = c.between.ensures.count in
    subst (λ n. AreMarks n (λ at. lets (from + at) c.args.row_filter.now) c.mark_ids.new.words) many
    (are-same (length seen) (λ row. has_id c.in-Ids.matching (get_or seen row 0)) (λ at. lets (from + at) c.args.row_filter.now) c.mark_ids.new.words
    (λ row lt. ap (has_id c.in-Ids.matching) (c.between.ensures.each row (omega (arith, lt, many)))
    ∙ sym (ap (lets (from + row)) c.in-Ids.is ∙ fold-roll-RowFilter Bool (lets_step (from + row)) (RowFilter-F.Ids c.in-Ids.ids c.in-Ids.matching)))
    c.mark_ids.ensures)

pub returns-in-Fixed : goal.returns-in-Fixed
unfolding Rattle.coded_scan.specs.declared.row_filter.RowFilter.TheViews.roll-RowFilter denote.Hole.Carrier.roll
returns-in-Fixed t c =
    let from : ℕ = c.args.block.from in
    are-same c.args.block.length (λ row. c.in-Fixed.holds) (λ at. lets (from + at) c.args.row_filter.now) c.mark_same.new.words
    (λ row lt. sym (ap (lets (from + row)) c.in-Fixed.is ∙ fold-roll-RowFilter Bool (lets_step (from + row)) (RowFilter-F.Fixed c.in-Fixed.holds)))
    c.mark_same.ensures
