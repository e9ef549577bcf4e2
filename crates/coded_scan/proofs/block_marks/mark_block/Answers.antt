use Rattle.std.proofs.Common.{◌+◌, ◌&&◌, ℕ, List, subst, sym, take, arith}
use Rattle.std.proofs.lemmas.List.{take_all}
use Rattle.scan_engine.proofs.SelectionLemmas.{all-more}
use Rattle.coded_scan.specs.Marks.{AreMarks}
use Rattle.coded_scan.specs.declared.row_filter.RowFilter.{RowFilter}
use Rattle.coded_scan.specs.RowFilters.{all_let, covers, lets}
use Rattle.coded_scan.proofs.MarkSteps.{are-same}
use Rattle.coded_scan.proofs.RowFilterLemmas.{all_at}
use Rattle.coded_scan.proofs.block_marks.mark_block.Goals as goal

pub mark_rows-requires-clause-covers : goal.mark_rows-requires-clause-covers
mark_rows-requires-clause-covers c = all_at (covers c.args.count) c.args.row_filters.now 0 c.index-row_filters-0.result c.requires.some c.index-row_filters-0.is c.requires.covers

pub loop-at-init : goal.loop-at-init
loop-at-init c =
    let from : ℕ = c.args.block.from in
    let x : RowFilter = c.index-row_filters-0.result in
    let row_filters : List RowFilter = c.args.row_filters.now in
    record {
      marks = are-same c.args.block.length (λ row. lets (from + row) x) (λ row. all_let (from + row) (take 1 row_filters)) c.mark_rows.new.words
          (λ row lt. sym (all-more (lets (from + row)) row_filters 0 x c.requires.some c.index-row_filters-0.is))
          c.in_ok-mark_rows.ensures;
      same = omega (arith, c.requires.same, c.mark_rows.auto.words);
    }

pub keep-requires : goal.keep-requires
keep-requires c =
    let told = c.loop-at.invariant in
    record {
      covers = all_at (covers c.args.count) c.args.row_filters.now c.loop-at.at c.index-row_filters-at.result c.loop-at-test.true c.index-row_filters-at.is c.requires.covers;
      within = c.requires.within;
      words = record {
        enough = told.marks.enough;
        few = omega (arith, c.requires.words.few, c.loop-at.auto.words);
      };
      same = told.same;
    }

pub loop-at-preserved : goal.loop-at-preserved
loop-at-preserved c =
    let told = c.loop-at.invariant in
    let from : ℕ = c.args.block.from in
    let i : ℕ = c.loop-at.at in
    let x : RowFilter = c.index-row_filters-at.result in
    let row_filters : List RowFilter = c.args.row_filters.now in
    record {
      marks = are-same c.args.block.length (λ row. all_let (from + row) (take i row_filters) && lets (from + row) x) (λ row. all_let (from + row) (take (i + 1) row_filters)) c.keep.new.words
          (λ row lt. sym (all-more (lets (from + row)) row_filters i x c.loop-at-test.true c.index-row_filters-at.is))
          (c.in_ok-keep.ensures (λ row. all_let (from + row) (take i row_filters)) told.marks);
      same = omega (arith, told.same, c.keep.auto.words, c.keep.auto.others);
    }

pub returns : goal.returns
returns c = record {
  marks = subst (λ (row_filters : List RowFilter). AreMarks c.args.block.length (λ row. all_let (c.args.block.from + row) row_filters) c.loop-at.words)
      (take_all c.loop-at.at c.args.row_filters.now (omega (arith, c.loop-at-test.false))) c.loop-at.invariant.marks;
}
