use Rattle.std.proofs.Common.{◌≡◌, ℕ, List, length, get_or, set, ap, sym, subst, ◌∙◌, arith}
use Rattle.agg_laws.specs.declared.states.AggState.{AggState}
use Rattle.agg_laws.specs.declared.states.AggState.TheVariants.{Count}
use Rattle.agg_laws.specs.Numbers.{most_values}
use Rattle.agg_laws.specs.States.{kind_of, merged, Fits}
use Rattle.state_columns.proofs.RowPlaces.{mixed, mixed_at, mixed_more, mixed_all, same_length}
use Rattle.state_columns.proofs.RowPlaces.{kind_at, fits_at}
use Rattle.state_columns.proofs.state_row.merge_states.Goals as goal

-- the state in the place that the loop has come to
here : (into vs ws : List AggState) (i : ℕ) → into ≡ mixed i vs ws → get_or into i (Count 0)
    ≡ get_or vs i (Count 0)
here into vs ws i is = ap (λ l. get_or l i (Count 0)) is
    ∙ mixed_at i vs ws i (Count 0) (omega arith)

pub merge-requires-clause-kinds : goal.merge-requires-clause-kinds
merge-requires-clause-kinds c =
    ap kind_of (here c.loop-i.into c.args.into.now c.args.from.now c.loop-i.i c.loop-i.invariant)
    ∙ kind_at c.args.into.now c.args.from.now c.loop-i.i (Count 0)
    (Count 0) c.requires.kinds c.loop-i-test.true

pub merge-requires-clause-fits : goal.merge-requires-clause-fits
merge-requires-clause-fits c =
    subst (λ v. Fits (merged v (get_or c.args.from.now c.loop-i.i (Count 0))) most_values)
    (sym (here c.loop-i.into c.args.into.now c.args.from.now c.loop-i.i c.loop-i.invariant))
    (fits_at c.args.into.now c.args.from.now most_values c.loop-i.i (Count 0)
    (Count 0) c.requires.fits
    (same_length c.args.into.now c.args.from.now c.requires.kinds) c.loop-i-test.true)

pub loop-i-preserved : goal.loop-i-preserved
loop-i-preserved c =
    let vs = c.args.into.now in
    let ws = c.args.from.now in
    let i = c.loop-i.i in
    let new : c.merge.new.self ≡ merged (get_or vs i (Count 0)) (get_or ws i (Count 0)) =
    c.merge.ensures ∙ ap (λ v. merged v (get_or ws i (Count 0)))
    (here c.loop-i.into vs ws i c.loop-i.invariant) in
    (λ k. set (c.loop-i.invariant k) i (new k))
    ∙ mixed_more i vs ws (Count 0) (Count 0) c.loop-i-test.true
    (same_length vs ws c.requires.kinds)

pub returns : goal.returns
returns c =
    let vs = c.args.into.now in
    let ws = c.args.from.now in
    let end : c.loop-i.i ≡ length vs = omega (arith, c.loop-i.auto.i-end, c.loop-i-test.false) in
    c.loop-i.invariant ∙ ap (λ n. mixed n vs ws) end
    ∙ mixed_all vs ws (same_length vs ws c.requires.kinds)
