use Rattle.std.proofs.Common.{◌≡◌, ◌∙◌, ◌+◌, length, sym, ap, subst, take}
use Rattle.values.specs.Columns.{row_pushed}
use Rattle.dictionary.proofs.CodedLemmas.{lent_back}
use Rattle.segment_build.specs.RowColumns.{AreThose, SuitsRow}
use Rattle.segment_build.proofs.RowLemmas.{next_suits, none_yet, row_more}
use Rattle.segment_build.proofs.columns.filled.Goals as goal

pub loop-row-init : goal.loop-row-init
loop-row-init c = none_yet c.args.fields.now c.in_ok-columns.columns.items c.in_ok-columns.ensures.sorts c.in_ok-columns.ensures.counts

pub push_row-requires : goal.push_row-requires
push_row-requires c =
    subst (λ columns. SuitsRow columns c.row-item.result) (sym c.deref_mut.ensures.value)
    (next_suits c.args.fields.now c.args.rows.now (take c.loop-row.row-index c.args.rows.now) c.loop-row.columns.items c.loop-row.row-index c.row-item.result c.requires c.loop-row.invariant c.loop-row-test.true c.row-item.is)

pub loop-row-preserved : goal.loop-row-preserved
loop-row-preserved c =
    let columns = c.loop-row.columns in
    let new = c.push_row.new.columns in
    let wide : length new ≡ length columns.items = c.push_row.auto.columns ∙ ap length c.deref_mut.ensures.value in
    subst (AreThose c.args.fields.now (take (c.loop-row.row-index + 1) c.args.rows.now)) (sym (lent_back columns.items new columns.len (sym columns.ok.0) wide))
    (row_more c.args.fields.now c.args.rows.now columns.items new c.loop-row.row-index c.row-item.result c.requires c.loop-row.invariant c.loop-row-test.true c.row-item.is
    (c.in_ok-push_row.ensures ∙ ap (λ xs. row_pushed xs c.row-item.result) c.deref_mut.ensures.value))
