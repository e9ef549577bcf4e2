use Rattle.std.proofs.Common.{◌≡◌, ℕ, ◌<◌, List, [], ◌∷◌, length, get_or, set, ap, sym, subst, ◌∙◌}
use Rattle.std.proofs.Common.{arith, rules, ℤ, pos, FitsSigned, w64}
use Rattle.std.specs.Int.{cast_signed, cast_unsigned}
use Rattle.std.proofs.lemmas.Int.{to_z-of_z}
use Rattle.agg_laws.specs.declared.states.AggState.{AggState}
use Rattle.agg_laws.specs.declared.states.AggState.TheVariants.{Count}
use Rattle.agg_laws.specs.Numbers.{most_values}
use Rattle.agg_laws.specs.States.{kind_of, state_of, merged, Fits}
use Rattle.agg_laws.specs.Rows.{row_of, kinds_of}
use Rattle.state_columns.proofs.RowPlaces.{mixed, mixed_at, mixed_more, mixed_all, fits_at, row_at}
use Rattle.state_columns.proofs.RowPlaces.{length-row_of, length-kinds_of}
use Rattle.state_columns.proofs.state_row.add_values.Goals as goal

-- the state of one row of numbers
abbrev one : List AggState → List ℤ → List AggState
one vs xs = row_of (kinds_of vs) (xs ∷ [])

same : (vs : List AggState) (xs : List ℤ) → length vs ≡ length (one vs xs)
same vs xs = sym (length-row_of (kinds_of vs) (xs ∷ []) ∙ length-kinds_of vs)

-- what a state gets in the place that the loop has come to
here : (states vs : List AggState) (xs : List ℤ) (i : ℕ) (x : ℤ) → states ≡ mixed i vs (one vs xs)
    → length xs ≡ length vs → i < length vs → x ≡ get_or xs i (pos 0)
    → merged (get_or states i (Count 0)) (state_of (kind_of (get_or states i (Count 0))) (x ∷ []))
    ≡ merged (get_or vs i (Count 0)) (get_or (one vs xs) i (Count 0))
here states vs xs i x is len lt value =
    let at : get_or states i (Count 0) ≡ get_or vs i (Count 0) = ap (λ l. get_or l i (Count 0)) is
    ∙ mixed_at i vs (one vs xs) i (Count 0) (omega arith) in
    (λ k. merged (at k) (state_of (kind_of (at k)) (value k ∷ [])))
    ∙ ap (merged (get_or vs i (Count 0)))
    (sym (row_at vs xs i (Count 0) (Count 0) (pos 0) len lt))

pub add-requires : goal.add-requires
add-requires c =
    let vs = c.args.states.now in
    let xs = c.args.values.now in
    let i = c.loop-i.i in
    let fits : FitsSigned w64 (get_or xs i (pos 0)) = search rules in
    subst (λ v. Fits v most_values)
    (sym (here c.loop-i.states vs xs i
    (cast_signed w64 (cast_unsigned w64
    (get_or xs i (pos 0)))) c.loop-i.invariant c.requires.length c.loop-i-test.true
    (to_z-of_z w64 (get_or xs i (pos 0)) fits)))
    (fits_at vs (one vs xs) most_values i (Count 0) (Count 0) c.requires.fits
    (same vs xs) c.loop-i-test.true)

pub loop-i-preserved : goal.loop-i-preserved
loop-i-preserved c =
    let vs = c.args.states.now in
    let xs = c.args.values.now in
    let i = c.loop-i.i in
    let fits : FitsSigned w64 (get_or xs i (pos 0)) = search rules in
    let new = c.add.ensures
    ∙ here c.loop-i.states vs xs i
    (cast_signed w64 (cast_unsigned w64
    (get_or xs i (pos 0)))) c.loop-i.invariant c.requires.length c.loop-i-test.true
    (to_z-of_z w64 (get_or xs i (pos 0)) fits) in
    (λ k. set (c.loop-i.invariant k) i (new k))
    ∙ mixed_more i vs (one vs xs) (Count 0) (Count 0) c.loop-i-test.true (same vs xs)

pub returns : goal.returns
returns c =
    let vs = c.args.states.now in
    let xs = c.args.values.now in
    let end : c.loop-i.i ≡ length vs = omega (arith, c.loop-i.auto.i-end, c.loop-i-test.false) in
    c.loop-i.invariant ∙ ap (λ n. mixed n vs (one vs xs)) end
    ∙ mixed_all vs (one vs xs) (same vs xs)
