use Rattle.std.proofs.Common.{◌≡◌, ◌<◌, length, get_or, ap, sym, subst, ◌∙◌, arith}
use Rattle.agg_laws.specs.declared.states.AggState.{AggState}
use Rattle.agg_laws.specs.declared.states.AggState.TheVariants.{Count}
use Rattle.agg_laws.specs.Numbers.{most_values}
use Rattle.agg_laws.specs.States.{merged, Fits}
use Rattle.agg_laws.specs.Rows.{merged_rows}
use Rattle.state_columns.specs.Columns.{Column, replaced, row_at, state_at}
use Rattle.state_columns.proofs.RowPlaces.{fits_at}
use Rattle.state_columns.proofs.EachSteps as steps
use Rattle.state_columns.proofs.column_list.merge_places.Goals as goal

pub merge_at-requires-clause-into : goal.merge_at-requires-clause-into
merge_at-requires-clause-into c =
    let old = c.args.columns.now in
    let i = c.loop-i.i in
    let d = c.index-columns-i.result in
    let lt : i < length old = c.loop-i-test.true in
    let f = replaced c.args.into in
    let us = row_at old c.args.into in
    let bs = row_at old c.args.from in
    let vs = merged_rows us bs in
    let la = steps.length-row_at old c.args.into in
    let lb = steps.length-row_at old c.args.from in
    let ab : length us ≡ length bs = omega (arith, la, lb) in
    let own = steps.own f i c.loop-i.columns old vs c.loop-i.invariant lt d in
    let lengths = steps.long_at c.args.count 0 old i d c.requires.lengths lt in
    let e = ap (λ (c : Column). length c.states) own in
    omega (arith, e, lengths, c.requires.into)

pub merge_at-requires-clause-from : goal.merge_at-requires-clause-from
merge_at-requires-clause-from c =
    let old = c.args.columns.now in
    let i = c.loop-i.i in
    let d = c.index-columns-i.result in
    let lt : i < length old = c.loop-i-test.true in
    let f = replaced c.args.into in
    let us = row_at old c.args.into in
    let bs = row_at old c.args.from in
    let vs = merged_rows us bs in
    let la = steps.length-row_at old c.args.into in
    let lb = steps.length-row_at old c.args.from in
    let ab : length us ≡ length bs = omega (arith, la, lb) in
    let own = steps.own f i c.loop-i.columns old vs c.loop-i.invariant lt d in
    let lengths = steps.long_at c.args.count 0 old i d c.requires.lengths lt in
    let e = ap (λ (c : Column). length c.states) own in
    omega (arith, e, lengths, c.requires.from)

pub merge_at-requires-clause-fits : goal.merge_at-requires-clause-fits
merge_at-requires-clause-fits c =
    let old = c.args.columns.now in
    let i = c.loop-i.i in
    let d = c.index-columns-i.result in
    let lt : i < length old = c.loop-i-test.true in
    let f = replaced c.args.into in
    let us = row_at old c.args.into in
    let bs = row_at old c.args.from in
    let vs = merged_rows us bs in
    let la = steps.length-row_at old c.args.into in
    let lb = steps.length-row_at old c.args.from in
    let ab : length us ≡ length bs = omega (arith, la, lb) in
    let own = steps.own f i c.loop-i.columns old vs c.loop-i.invariant lt d in
    let fits = fits_at us bs most_values i (Count 0) (Count 0) c.requires.fits ab
    (omega (arith, lt, la)) in
    subst (λ (v : AggState). Fits v most_values)
    ((λ j. merged (steps.row_item old c.args.into i d (Count 0) lt j)
    (steps.row_item old c.args.from i d (Count 0) lt j))
    ∙ ap (λ (c' : Column). merged (state_at c' c.args.into) (state_at c' c.args.from)) (sym own))
    fits

pub loop-i-preserved : goal.loop-i-preserved
loop-i-preserved c =
    let old = c.args.columns.now in
    let i = c.loop-i.i in
    let d = c.index-columns-i.result in
    let lt : i < length old = c.loop-i-test.true in
    let f = replaced c.args.into in
    let us = row_at old c.args.into in
    let bs = row_at old c.args.from in
    let vs = merged_rows us bs in
    let la = steps.length-row_at old c.args.into in
    let lb = steps.length-row_at old c.args.from in
    let ab : length us ≡ length bs = omega (arith, la, lb) in
    let own = steps.own f i c.loop-i.columns old vs c.loop-i.invariant lt d in
    let g = λ (c' : Column). merged (state_at c' c.args.into) (state_at c' c.args.from) in
    steps.next f i c.loop-i.columns old vs c.loop-i.invariant lt d
    (Count 0) (g (get_or c.loop-i.columns i d)) c.merge_at.new.self
    (sym (steps.length-merged us bs ab ∙ la))
    (ap g own ∙ (λ j. merged (sym (steps.row_item old c.args.into i d (Count 0) lt) j)
    (sym (steps.row_item old c.args.from i d (Count 0) lt) j))
    ∙ sym (steps.merged_item us bs i (Count 0) (Count 0) (Count 0) ab (omega (arith, lt, la))))
    c.merge_at.ensures

pub returns : goal.returns
returns c =
    let old = c.args.columns.now in
    let f = replaced c.args.into in
    let us = row_at old c.args.into in
    let bs = row_at old c.args.from in
    let vs = merged_rows us bs in
    let la = steps.length-row_at old c.args.into in
    let lb = steps.length-row_at old c.args.from in
    let ab : length us ≡ length bs = omega (arith, la, lb) in
    let end : c.loop-i.i ≡ length old = omega (arith, c.loop-i.auto.i-end, c.loop-i-test.false) in
    c.loop-i.invariant
    ∙ steps.stepped_all f c.loop-i.i old vs end (sym (steps.length-merged us bs ab ∙ la))
