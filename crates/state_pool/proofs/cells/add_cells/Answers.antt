use Rattle.std.proofs.Common.{◌≡◌, ℕ, ◌<◌, List, [], ◌∷◌, length, get_or, ap, sym, subst, ◌∙◌, ◌+◌}
use Rattle.std.proofs.Common.{arith, rules, ℤ, pos, FitsSigned, w64}
use Rattle.std.specs.Int.{cast_signed, cast_unsigned}
use Rattle.std.proofs.lemmas.Int.{to_z-of_z}
use Rattle.agg_laws.specs.declared.states.AggState.{AggState}
use Rattle.agg_laws.specs.declared.states.AggState.TheVariants.{Count}
use Rattle.agg_laws.specs.Numbers.{most_values}
use Rattle.agg_laws.specs.States.{kind_of, state_of, merged, Fits}
use Rattle.agg_laws.specs.Rows.{row_of, kinds_of}
use Rattle.state_columns.proofs.RowPlaces.{fits_at, row_at, length-row_of, length-kinds_of}
use Rattle.state_pool.specs.Kept.{part_of}
use Rattle.state_pool.proofs.PartSteps as steps
use Rattle.state_pool.proofs.cells.add_cells.Goals as goal

-- the state of one row of numbers
abbrev one : List AggState → List ℤ → List AggState
one vs xs = row_of (kinds_of vs) (xs ∷ [])

same : (vs : List AggState) (xs : List ℤ) → length vs ≡ length (one vs xs)
same vs xs = sym (length-row_of (kinds_of vs) (xs ∷ []) ∙ length-kinds_of vs)

-- what a state gets in the place that the loop has come to
here : (own : AggState) (vs : List AggState) (xs : List ℤ) (i : ℕ) (x : ℤ) → own ≡ get_or vs i (Count 0)
    → length xs ≡ length vs → i < length vs → x ≡ get_or xs i (pos 0)
    → merged own (state_of (kind_of own) (x ∷ []))
    ≡ merged (get_or vs i (Count 0)) (get_or (one vs xs) i (Count 0))
here own vs xs i x at len lt value = (λ k. merged (at k) (state_of (kind_of (at k)) (value k ∷ [])))
    ∙ ap (merged (get_or vs i (Count 0))) (sym (row_at vs xs i (Count 0) (Count 0) (pos 0) len lt))

pub add-requires : goal.add-requires
add-requires c =
    let cells = c.args.cells.now in let xs = c.args.values.now in let from = c.args.from in let i = c.loop-i.i in
    let vs = part_of cells from (length xs) in
    let len = steps.length-part cells from (length xs) c.requires.within in
    let lt : i < length vs = omega (arith, len, c.loop-i-test.true) in
    let own = steps.next_here cells from (length xs) c.requires.within (one vs xs) c.loop-i.cells i (Count 0) c.loop-i-test.true c.loop-i.invariant in
    let fits : FitsSigned w64 (get_or xs i (pos 0)) = search rules in
    subst (λ v. Fits v most_values)
    (sym (here (get_or c.loop-i.cells (from + i) (Count 0)) vs xs i (cast_signed w64 (cast_unsigned w64 (get_or xs i (pos 0)))) own (sym len) lt (to_z-of_z w64 (get_or xs i (pos 0)) fits)))
    (fits_at vs (one vs xs) most_values i (Count 0) (Count 0) c.requires.fits (same vs xs) lt)

pub loop-i-init : goal.loop-i-init
loop-i-init c = steps.part_whole c.args.cells.now c.args.from (length c.args.values.now) c.requires.within

pub loop-i-preserved : goal.loop-i-preserved
loop-i-preserved c =
    let cells = c.args.cells.now in let xs = c.args.values.now in let from = c.args.from in let i = c.loop-i.i in
    let vs = part_of cells from (length xs) in
    let len = steps.length-part cells from (length xs) c.requires.within in
    let lt : i < length vs = omega (arith, len, c.loop-i-test.true) in
    let own = steps.next_here cells from (length xs) c.requires.within (one vs xs) c.loop-i.cells i (Count 0) c.loop-i-test.true c.loop-i.invariant in
    let fits : FitsSigned w64 (get_or xs i (pos 0)) = search rules in
    steps.next_merged cells from (length xs) c.requires.within (one vs xs) c.loop-i.cells i (Count 0) c.loop-i-test.true c.loop-i.invariant (Count 0) c.add.new.self
    (sym len ∙ same vs xs)
    (c.add.ensures ∙ here (get_or c.loop-i.cells (from + i) (Count 0)) vs xs i (cast_signed w64 (cast_unsigned w64 (get_or xs i (pos 0)))) own (sym len) lt (to_z-of_z w64 (get_or xs i (pos 0)) fits))

pub returns : goal.returns
returns c =
    let cells = c.args.cells.now in let xs = c.args.values.now in
    let vs = part_of cells c.args.from (length xs) in
    steps.all_merged cells c.args.from (length xs) c.requires.within (one vs xs) c.loop-i.cells c.loop-i.i
    (omega (arith, c.loop-i.auto.i-end, c.loop-i-test.false)) (sym (steps.length-part cells c.args.from (length xs) c.requires.within) ∙ same vs xs) c.loop-i.invariant
