use Rattle.std.proofs.Common.{◌≡◌, ℕ, ◌+◌, ◌-◌, ◌<◌, ◌≤◌, ◌++◌, ◌∷◌, [], List, All, get_or, length, pos, refl, sym, ap, subst, ◌∙◌, arith, length-append}
use Rattle.state_columns.specs.Docs.{Docs}
use Rattle.agg_laws.specs.Rows.{merged_rows, row_of, row_weight}
use Rattle.star_rows.specs.Columns.{row_at, row_count}
use Rattle.star_records.specs.Folding.{picked}
use Rattle.star_rows.specs.Words.{ids_at, row_in, states_at}
use Rattle.star_records.proofs.BlockSteps as blocks
use Rattle.star_records.proofs.FoldSteps as steps
use Rattle.star_records.proofs.fold.merge_block.Goals as goal
use Rattle.star_records.proofs.fold.merge_block.Goals.{then-repeats+in_ok-merge_row}
use Rattle.star_records.proofs.fold.merge_block.Goals.{else-repeats+in_ok-append_row}

pub numbers_at-requires-clause-below : goal.numbers_at-requires-clause-below
numbers_at-requires-clause-below c =
    let n = row_count c.args.dims.now in
    let words = c.args.words.now in
    blocks.in_columns n c.part.result.now c.args.metrics.now c.requires.columns.values_long
    (subst (All (λ word. row_in word < n)) (sym c.part.ensures)
    (blocks.part_below words c.args.block.from c.args.block.to c.args.block.ordered c.requires.within n
    (blocks.all_below n words c.requires.order.all)))

pub columns_at-requires : goal.columns_at-requires
columns_at-requires c =
    let n = row_count c.args.dims.now in
    let words = c.args.words.now in
    blocks.in_columns n c.as_slice.result.now c.args.dims.now c.requires.columns.ids_long
    (subst (All (λ word. row_in word < n)) (sym c.as_slice.ensures.value)
    (c.in_ok-heads.ensures.among n (blocks.all_below n words c.requires.order.all)))

pub merge_row-requires-clause-metrics : goal.merge_row-requires-clause-metrics
merge_row-requires-clause-metrics c =
    ap length (c.in_ok-numbers.ensures (pos 0))
    ∙ blocks.wide_picked (pos 0) c.part.result.now c.args.metrics.now ∙ c.requires.columns.metrics
    ∙ ap length (sym c.loop-at.invariant.merged.kinds)

pub merge_row-requires-clause-lengths : goal.merge_row-requires-clause-lengths
merge_row-requires-clause-lengths c =
    blocks.block_long (pos 0) c.args.words.now c.args.block.from c.args.block.to c.args.block.ordered
    c.requires.within c.args.metrics.now c.in_ok-numbers.numbers c.part.result.now c.part.ensures
    (c.in_ok-numbers.ensures (pos 0)) c.loop-at.at c.loop-at.auto.at c.loop-at-test.true

pub append_row-requires : goal.append_row-requires
append_row-requires c =
    record {
      dims = ap length (c.in_ok-ids.ensures 0)
          ∙ blocks.wide_picked 0 c.as_slice.result.now c.args.dims.now
          ∙ c.requires.columns.dims ∙ sym c.loop-at.invariant.dims;
      metrics = ap length (c.in_ok-numbers.ensures (pos 0))
          ∙ blocks.wide_picked (pos 0) c.part.result.now c.args.metrics.now
          ∙ c.requires.columns.metrics ∙ ap length (sym c.loop-at.invariant.merged.kinds);
      ids_long = blocks.head_long 0 c.args.words.now c.args.block.from c.args.block.to
          c.args.block.ordered c.requires.within
          c.args.dims.now c.in_ok-ids.ids c.in_ok-heads.heads.words.items
          c.in_ok-heads.heads.slots.items c.in_ok-heads.ensures
          (c.in_ok-ids.ensures 0 ∙ ap (λ ws. picked 0 ws c.args.dims.now) c.as_slice.ensures.value)
          c.loop-at.at (get_or c.as_slice-slots.result.now (c.loop-at.at - c.args.block.from) 0)
          c.loop-at.auto.at c.loop-at-test.true
          (ap (λ (l : List ℕ). get_or l (c.loop-at.at - c.args.block.from) 0)
          c.as_slice-slots.ensures.value)
          (c.repeats.ensures.other c.if-repeats.false);
      values_long = blocks.block_long (pos 0) c.args.words.now c.args.block.from c.args.block.to
          c.args.block.ordered c.requires.within c.args.metrics.now c.in_ok-numbers.numbers
          c.part.result.now c.part.ensures (c.in_ok-numbers.ensures (pos 0)) c.loop-at.at
          c.loop-at.auto.at c.loop-at-test.true;
    }

pub merge_row-requires-clause-some : goal.merge_row-requires-clause-some
merge_row-requires-clause-some c =
    let some = c.repeats.ensures.same c.if-repeats.true in
    let ends = c.loop-at.invariant.merged.last some.0 in
    let a = ap length ends.is in
    let b = length-append ends.front ((
      ids_at c.args.dims.now (row_in (get_or c.args.words.now (c.loop-at.at - 1) 0)),
      ends.states,
    ) ∷ []) in
    omega (arith, a, b)

pub merge_row-requires-clause-weight_fits : goal.merge_row-requires-clause-weight_fits
merge_row-requires-clause-weight_fits c =
    let count = steps.rows_count (row_count c.args.dims.now) c.args.words.now
    c.requires.order.all in
    omega (
      arith,
      count,
      c.loop-at-test.true,
      c.requires.within,
      c.loop-at.invariant.merged.weight_fits,
      c.requires.at_most,
    )

pub loop-at-preserved : goal.loop-at-preserved
loop-at-preserved c =
    let ks = c.args.table.now.kinds in
    let dims = c.args.dims.now in
    let ms = c.args.metrics.now in
    let words = c.args.words.now in
    let from = c.args.block.from in
    let to = c.args.block.to in
    let n = row_count dims in
    let i = c.loop-at.at in
    let row = row_in (get_or words i 0) in
    let old = c.loop-at.table.docs in
    let new = c.if-repeats.table.docs in
    let inv = c.loop-at.invariant.merged in
    let high : i < to = c.loop-at-test.true in
    let low : from ≤ i = omega (arith, c.loop-at.auto.at) in
    let lt : i < length words = omega (arith, high, c.requires.within) in
    let next : i ≡ i + 1 - 1 = omega arith in
    let ids_next : ids_at dims row ≡ ids_at dims (row_in (get_or words (i + 1 - 1) 0)) =
    ap (λ k. ids_at dims (row_in (get_or words k 0))) next in
    let numbers : row_at (pos 0) (i - from) c.in_ok-numbers.numbers ≡ row_at (pos 0) row ms =
    blocks.block_row (pos 0) words from to c.args.block.ordered c.requires.within ms
    c.in_ok-numbers.numbers c.part.result.now c.part.ensures (c.in_ok-numbers.ensures (pos 0)) i low
    high in
    let states : states_at c.loop-at.table.kinds c.in_ok-numbers.numbers (i - from)
    ≡ states_at ks ms row = λ j. row_of (inv.kinds j) (numbers j ∷ []) in
    elim c.if-repeats.branch [
      | then-repeats+in_ok-merge_row w ↦
          let same = c.repeats.ensures.same w.if-repeats.true in
          let ends = inv.last same.0 in
          let before = ids_at dims (row_in (get_or words (i - 1) 0)) in
          let more = steps.merged_more ks dims ms n words c.requires.order i row lt refl old
          inv.docs same.0 same.1 ends in
          let is : new ≡ ends.front ++ ((before, merged_rows ends.states (states_at ks ms row)) ∷ []) =
          ap (λ (t : Docs). t.docs) w.table-is
          ∙ w.in_ok-merge_row.ensures.merged ends.front (before, ends.states) ends.is
          ∙ (λ j. ends.front ++ ((before, merged_rows ends.states (states j)) ∷ [])) in
          record {
            dims = ap (λ (t : Docs). t.dims) w.table-is ∙ w.in_ok-merge_row.ensures.dims
                ∙ c.loop-at.invariant.dims;
            merged = record {
              kinds = ap (λ (t : Docs). t.kinds) w.table-is ∙ w.in_ok-merge_row.ensures.kinds
                  ∙ inv.kinds;
              docs = steps.docs_more ks dims ms n words c.requires.order i row lt refl old inv.docs
                  new (is ∙ more.0);
              weight_fits = steps.light_more ks dims ms n words c.requires.order i row lt refl old inv.docs
                  new (is ∙ more.0) (subst (λ l. row_weight l ≤ 1) states
                  w.in_ok-merge_row.ensures.weighs) inv.weight_fits;
              last = λ _. record {
                front = ends.front;
                states = merged_rows ends.states (states_at ks ms row);
                is = is ∙ (λ j. ends.front ++ ((
                  (more.1 ∙ ids_next) j,
                  merged_rows ends.states (states_at ks ms row),
                ) ∷ []));
              };
            };
          }
      | else-repeats+in_ok-append_row w ↦
          let other = c.repeats.ensures.other w.if-repeats.false in
          let place = get_or c.as_slice-slots.result.now (i - from) 0 in
          let ids : ids_at c.in_ok-ids.ids place ≡ ids_at dims row =
          blocks.head_row 0 words from to c.args.block.ordered c.requires.within dims c.in_ok-ids.ids
          c.in_ok-heads.heads.words.items c.in_ok-heads.heads.slots.items c.in_ok-heads.ensures
          (c.in_ok-ids.ensures 0 ∙ ap (λ ws. picked 0 ws dims) c.as_slice.ensures.value) i
          place low high
          (ap (λ (l : List ℕ). get_or l (i - from) 0) c.as_slice-slots.ensures.value) other in
          let is : new ≡ old ++ ((ids_at dims row, states_at ks ms row) ∷ []) =
          ap (λ (t : Docs). t.docs) w.table-is ∙ w.in_ok-append_row.ensures.appended
          ∙ (λ j. old ++ ((ids j, states j) ∷ [])) in
          let added = is ∙ steps.appended_more ks dims ms n words c.requires.order i row lt refl old
          inv.docs other inv.last in
          record {
            dims = ap (λ (t : Docs). t.dims) w.table-is ∙ w.in_ok-append_row.ensures.dims
                ∙ c.loop-at.invariant.dims;
            merged = record {
              kinds = ap (λ (t : Docs). t.kinds) w.table-is ∙ w.in_ok-append_row.ensures.kinds
                  ∙ inv.kinds;
              docs = steps.docs_more ks dims ms n words c.requires.order i row lt refl old inv.docs
                  new added;
              weight_fits = steps.light_more ks dims ms n words c.requires.order i row lt refl old inv.docs
                  new added (subst (λ l. row_weight l ≤ 1) states
                  w.in_ok-append_row.ensures.weighs) inv.weight_fits;
              last = λ _. record {
                front = old;
                states = states_at ks ms row;
                is = is ∙ (λ j. old ++ ((ids_next j, states_at ks ms row) ∷ []));
              };
            };
          }
    ]
