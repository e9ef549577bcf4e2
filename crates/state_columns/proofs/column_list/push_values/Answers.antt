use Rattle.std.proofs.Common.{◌≡◌, ◌<◌, [], ◌∷◌, List, length, get_or, ap, sym, ◌∙◌, arith, rules}
use Rattle.std.proofs.Common.{ℤ, pos, FitsSigned, w64}
use Rattle.std.specs.Int.{cast_signed, cast_unsigned}
use Rattle.std.proofs.lemmas.Int.{to_z-of_z}
use Rattle.agg_laws.specs.declared.aggregate_kind.AggKind.TheVariants as kinds
use Rattle.agg_laws.specs.declared.states.AggState.TheVariants.{Count}
use Rattle.agg_laws.specs.States.{state_of}
use Rattle.agg_laws.specs.Rows.{row_of}
use Rattle.state_columns.specs.Columns.{Column, kinds_in, pushed}
use Rattle.state_columns.proofs.RowPlaces.{length-row_of}
use Rattle.state_columns.proofs.EachSteps as steps
use Rattle.state_columns.proofs.column_list.push_values.Goals as goal

same : (cs : List Column) (xs : List ℤ) → length cs ≡ length (row_of (kinds_in cs) (xs ∷ []))
same cs xs = sym (length-row_of (kinds_in cs) (xs ∷ []) ∙ steps.length-kinds_in cs)

pub push_one-requires : goal.push_one-requires
push_one-requires c =
    let old = c.args.columns.now in
    let i = c.loop-i.i in
    let d = c.index-columns-i.result in
    let lt : i < length old = c.loop-i-test.true in
    let xs = c.args.values.now in
    let ks = kinds_in old in
    let one = row_of ks (xs ∷ []) in
    let own = steps.own pushed i c.loop-i.columns old one c.loop-i.invariant lt d in
    let room = steps.room_at c.args.count 1 old i d c.requires.room lt in
    let e = ap (λ (c : Column). c.spare) own in
    omega (arith, e, room)

pub loop-i-preserved : goal.loop-i-preserved
loop-i-preserved c =
    let old = c.args.columns.now in
    let i = c.loop-i.i in
    let d = c.index-columns-i.result in
    let lt : i < length old = c.loop-i-test.true in
    let xs = c.args.values.now in
    let ks = kinds_in old in
    let one = row_of ks (xs ∷ []) in
    let lx : i < length xs = omega (arith, lt, c.requires.values) in
    let fits : FitsSigned w64 (get_or xs i (pos 0)) = search rules in
    let cast = to_z-of_z w64 (get_or xs i (pos 0)) fits in
    let x = cast_signed w64 (cast_unsigned w64 (get_or xs i (pos 0))) in
    let item : state_of (get_or old i d).kind (x ∷ []) ≡ get_or one i (Count 0) =
    (λ j. state_of (sym (steps.kind_item old i d kinds.Count lt) j) (cast j ∷ []))
    ∙ sym (steps.value_item ks xs i kinds.Count (pos 0) (Count 0)
    (c.requires.values ∙ sym (steps.length-kinds_in old)) (omega (
      arith,
      lt,
      steps.length-kinds_in
          old,
    ))) in
    let own = steps.own pushed i c.loop-i.columns old one c.loop-i.invariant lt d in
    steps.next pushed i c.loop-i.columns old one c.loop-i.invariant lt d
    (Count 0) (state_of (get_or c.loop-i.columns i d).kind (x ∷ [])) c.push_one.new.self
    (same old xs) (ap (λ (c' : Column). state_of c'.kind (x ∷ [])) own ∙ item) c.push_one.ensures

pub returns : goal.returns
returns c =
    let old = c.args.columns.now in
    let xs = c.args.values.now in
    let end : c.loop-i.i ≡ length old = omega (arith, c.loop-i.auto.i-end, c.loop-i-test.false) in
    c.loop-i.invariant
    ∙ steps.stepped_all pushed c.loop-i.i old (row_of (kinds_in old) (xs ∷ [])) end (same old xs)
