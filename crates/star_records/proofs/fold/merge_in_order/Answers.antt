use Rattle.std.proofs.Common.{◌≡◌, Bool, ◌∙◌, List, map, take, length, sym, ap, subst, arith}
use Rattle.std.proofs.Math.Seq.{take-length}
use Rattle.std.proofs.lemmas.List.{length-map}
use Rattle.agg_laws.specs.declared.aggregate_kind.AggKind.{AggKind}
use Rattle.agg_laws.specs.Rows.{merged_rows}
use Rattle.agg_laws.specs.Tree.{merged_docs}
use Rattle.star_rows.specs.Columns.{row_count}
use Rattle.star_records.specs.Folding.{AreZero, HasMerged}
use Rattle.star_rows.specs.Words.{row_in}
use Rattle.star_records.proofs.FoldSteps as steps
use Rattle.star_records.proofs.fold.merge_in_order.Goals as goal

pub merge_block-requires-clause-begun : goal.merge_block-requires-clause-begun
merge_block-requires-clause-begun c =
    let merged = c.loop-from.invariant.merged in
    subst (λ (ks : List AggKind). HasMerged ks c.args.dims.now c.args.metrics.now c.args.words.now
    c.loop-from.from c.loop-from.table) (sym merged.kinds) merged

pub merge_block-requires-clause-zeros : goal.merge_block-requires-clause-zeros
merge_block-requires-clause-zeros c =
    subst (λ (l : List Bool). AreZero l c.args.metrics.now) (sym c.as_slice-marks.ensures.value)
    c.in_ok-zeros.ensures

pub merge_block-requires-clause-columns : goal.merge_block-requires-clause-columns
merge_block-requires-clause-columns c =
    record {
      dims = c.requires.columns.dims ∙ sym c.loop-from.invariant.dims;
      metrics = c.requires.columns.metrics ∙ ap length (sym c.loop-from.invariant.merged.kinds);
      ids_long = c.requires.columns.ids_long;
      values_long = c.requires.columns.values_long;
    }

pub loop-from-preserved : goal.loop-from-preserved
loop-from-preserved c =
    let inv = c.loop-from.invariant in
    record {
      dims = c.in_ok-merge_block.ensures.dims ∙ inv.dims;
      within = c.block_end-to.ensures.within;
      merged = subst (λ (ks : List AggKind). HasMerged ks c.args.dims.now c.args.metrics.now
          c.args.words.now c.block_end-to.result c.merge_block.new.table) inv.merged.kinds
          c.in_ok-merge_block.ensures.merged;
    }

pub returns : goal.returns
returns c =
    let words = c.args.words.now in
    let n = row_count c.args.dims.now in
    let l = length-map words row_in in
    let inv = c.loop-from.invariant in
    let count = steps.rows_count n words c.requires.order.all in
    let end : c.loop-from.from ≡ length (map row_in words) =
    omega (arith, c.loop-from-test.false, inv.within, l) in
    record {
      dims = inv.dims;
      kinds = inv.merged.kinds;
      docs_are = inv.merged.docs
          ∙ ap (λ is. merged_docs merged_rows (steps.docs_of c.args.shape.now.kinds c.args.dims.now
          c.args.metrics.now is))
          (ap (λ k. take k (map row_in words)) end ∙ take-length (map row_in words))
          ∙ steps.same_merged c.args.shape.now.kinds c.args.dims.now c.args.metrics.now n
          (map row_in words) c.requires.order.all;
      weight_fits = omega (arith, count, inv.within, inv.merged.weight_fits);
    }
