use Rattle.std.proofs.Common.{◌≡◌, ◌<◌, [], ◌∷◌, List, length, get_or, ap, sym, subst, ◌∙◌, arith}
use Rattle.std.proofs.Common.{rules, ℤ, pos, FitsSigned, w64}
use Rattle.std.specs.Int.{cast_signed, cast_unsigned}
use Rattle.std.proofs.lemmas.Int.{to_z-of_z}
use Rattle.agg_laws.specs.declared.aggregate_kind.AggKind.TheVariants as kinds
use Rattle.agg_laws.specs.declared.states.AggState.{AggState}
use Rattle.agg_laws.specs.declared.states.AggState.TheVariants.{Count}
use Rattle.agg_laws.specs.Numbers.{most_values}
use Rattle.agg_laws.specs.States.{state_of, merged, Fits}
use Rattle.agg_laws.specs.Rows.{merged_rows, row_of}
use Rattle.state_columns.specs.Columns.{Column, kinds_in, replaced, row_at, state_at}
use Rattle.state_columns.proofs.RowPlaces.{length-row_of, fits_at}
use Rattle.state_columns.proofs.EachSteps as steps
use Rattle.state_columns.proofs.column_list.add_values_at.Goals as goal

same : (cs : List Column) (xs : List ℤ) → length cs ≡ length (row_of (kinds_in cs) (xs ∷ []))
same cs xs = sym (length-row_of (kinds_in cs) (xs ∷ []) ∙ steps.length-kinds_in cs)

pub add_at-requires-clause-place : goal.add_at-requires-clause-place
add_at-requires-clause-place c =
    let old = c.args.columns.now in
    let i = c.loop-i.i in
    let d = c.index-columns-i.result in
    let lt : i < length old = c.loop-i-test.true in
    let xs = c.args.values.now in
    let ks = kinds_in old in
    let one = row_of ks (xs ∷ []) in
    let f = replaced c.args.place in
    let us = row_at old c.args.place in
    let vs = merged_rows us one in
    let la = steps.length-row_at old c.args.place in
    let lb = same old xs in
    let ab : length us ≡ length one = omega (arith, la, lb) in
    let own = steps.own f i c.loop-i.columns old vs c.loop-i.invariant lt d in
    let lengths = steps.long_at c.args.count 0 old i d c.requires.lengths lt in
    let e = ap (λ (c : Column). length c.states) own in
    omega (arith, e, lengths, c.requires.place)

pub add_at-requires-clause-fits : goal.add_at-requires-clause-fits
add_at-requires-clause-fits c =
    let old = c.args.columns.now in
    let i = c.loop-i.i in
    let d = c.index-columns-i.result in
    let lt : i < length old = c.loop-i-test.true in
    let xs = c.args.values.now in
    let ks = kinds_in old in
    let one = row_of ks (xs ∷ []) in
    let f = replaced c.args.place in
    let us = row_at old c.args.place in
    let vs = merged_rows us one in
    let la = steps.length-row_at old c.args.place in
    let lb = same old xs in
    let ab : length us ≡ length one = omega (arith, la, lb) in
    let lx : i < length xs = omega (arith, lt, c.requires.values) in
    let fits : FitsSigned w64 (get_or xs i (pos 0)) = search rules in
    let cast = to_z-of_z w64 (get_or xs i (pos 0)) fits in
    let x = cast_signed w64 (cast_unsigned w64 (get_or xs i (pos 0))) in
    let item : state_of (get_or old i d).kind (x ∷ []) ≡ get_or one i (Count 0) =
    (λ j. state_of (sym (steps.kind_item old i d kinds.Count lt) j) (cast j ∷ []))
    ∙ sym (steps.value_item ks xs i kinds.Count (pos 0) (Count 0)
    (c.requires.values ∙ sym (steps.length-kinds_in old)) (omega (
      arith,
      lt,
      steps.length-kinds_in
          old,
    ))) in
    let own = steps.own f i c.loop-i.columns old vs c.loop-i.invariant lt d in
    let fits = fits_at us one most_values i (Count 0) (Count 0) c.requires.fits ab
    (omega (arith, lt, la)) in
    subst (λ (v : AggState). Fits v most_values)
    ((λ j. merged (steps.row_item old c.args.place i d (Count 0) lt j) (sym item j))
    ∙ ap (λ (c' : Column). merged (state_at c' c.args.place) (state_of c'.kind (x ∷ []))) (sym own))
    fits

pub loop-i-preserved : goal.loop-i-preserved
loop-i-preserved c =
    let old = c.args.columns.now in
    let i = c.loop-i.i in
    let d = c.index-columns-i.result in
    let lt : i < length old = c.loop-i-test.true in
    let xs = c.args.values.now in
    let ks = kinds_in old in
    let one = row_of ks (xs ∷ []) in
    let f = replaced c.args.place in
    let us = row_at old c.args.place in
    let vs = merged_rows us one in
    let la = steps.length-row_at old c.args.place in
    let lb = same old xs in
    let ab : length us ≡ length one = omega (arith, la, lb) in
    let lx : i < length xs = omega (arith, lt, c.requires.values) in
    let fits : FitsSigned w64 (get_or xs i (pos 0)) = search rules in
    let cast = to_z-of_z w64 (get_or xs i (pos 0)) fits in
    let x = cast_signed w64 (cast_unsigned w64 (get_or xs i (pos 0))) in
    let item : state_of (get_or old i d).kind (x ∷ []) ≡ get_or one i (Count 0) =
    (λ j. state_of (sym (steps.kind_item old i d kinds.Count lt) j) (cast j ∷ []))
    ∙ sym (steps.value_item ks xs i kinds.Count (pos 0) (Count 0)
    (c.requires.values ∙ sym (steps.length-kinds_in old)) (omega (
      arith,
      lt,
      steps.length-kinds_in
          old,
    ))) in
    let own = steps.own f i c.loop-i.columns old vs c.loop-i.invariant lt d in
    let g = λ (c' : Column). merged (state_at c' c.args.place) (state_of c'.kind (x ∷ [])) in
    steps.next f i c.loop-i.columns old vs c.loop-i.invariant lt d
    (Count 0) (g (get_or c.loop-i.columns i d)) c.add_at.new.self
    (sym (steps.length-merged us one ab ∙ la))
    (ap g own ∙ (λ j. merged (sym (steps.row_item old c.args.place i d (Count 0) lt) j) (item j))
    ∙ sym (steps.merged_item us one i (Count 0) (Count 0) (Count 0) ab (omega (arith, lt, la))))
    c.add_at.ensures

pub returns : goal.returns
returns c =
    let old = c.args.columns.now in
    let xs = c.args.values.now in
    let ks = kinds_in old in
    let one = row_of ks (xs ∷ []) in
    let f = replaced c.args.place in
    let us = row_at old c.args.place in
    let vs = merged_rows us one in
    let la = steps.length-row_at old c.args.place in
    let lb = same old xs in
    let ab : length us ≡ length one = omega (arith, la, lb) in
    let end : c.loop-i.i ≡ length old = omega (arith, c.loop-i.auto.i-end, c.loop-i-test.false) in
    c.loop-i.invariant
    ∙ steps.stepped_all f c.loop-i.i old vs end (sym (steps.length-merged us one ab ∙ la))
