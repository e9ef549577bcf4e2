use Rattle.std.proofs.Common.{◌≡◌, ◌<◌, List, length, get_or, ap, sym, ◌∙◌, arith}
use Rattle.agg_laws.specs.declared.aggregate_kind.AggKind.TheVariants as kinds
use Rattle.agg_laws.specs.declared.states.AggState.{AggState}
use Rattle.agg_laws.specs.declared.states.AggState.TheVariants.{Count}
use Rattle.agg_laws.specs.States.{kind_of}
use Rattle.agg_laws.specs.Rows.{kinds_of}
use Rattle.state_columns.specs.Columns.{Column, kinds_in, pushed}
use Rattle.state_columns.proofs.RowPlaces.{length-kinds_of}
use Rattle.std.proofs.lemmas.List.{get_or-map}
use Rattle.state_columns.proofs.EachSteps as steps
use Rattle.state_columns.proofs.column_list.push_states.Goals as goal

same : (vs : List AggState) (cs : List Column) → kinds_of vs ≡ kinds_in cs → length cs ≡ length vs
same vs cs h = sym (sym (length-kinds_of vs) ∙ ap length h ∙ steps.length-kinds_in cs)

pub push-requires-clause-spare : goal.push-requires-clause-spare
push-requires-clause-spare c =
    let old = c.args.columns.now in
    let i = c.loop-i.i in
    let d = c.index-columns-i.result in
    let lt : i < length old = c.loop-i-test.true in
    let own = steps.own pushed i c.loop-i.columns old c.args.states.now c.loop-i.invariant lt d in
    let room = steps.room_at c.args.count 1 old i d c.requires.room lt in
    let e = ap (λ (c : Column). c.spare) own in
    omega (arith, e, room)

pub push-requires-clause-kind : goal.push-requires-clause-kind
push-requires-clause-kind c =
    let old = c.args.columns.now in
    let i = c.loop-i.i in
    let d = c.index-columns-i.result in
    let lt : i < length old = c.loop-i-test.true in
    let own = steps.own pushed i c.loop-i.columns old c.args.states.now c.loop-i.invariant lt d in
    let l = same c.args.states.now old c.requires.kinds in
    sym (get_or-map kind_of c.args.states.now i (Count 0) kinds.Count (omega (arith, lt, l)))
    ∙ ap (λ l. get_or l i kinds.Count) c.requires.kinds
    ∙ steps.kind_item old i d kinds.Count lt ∙ ap (λ (c : Column). c.kind) (sym own)

pub loop-i-preserved : goal.loop-i-preserved
loop-i-preserved c =
    let old = c.args.columns.now in
    let i = c.loop-i.i in
    let d = c.index-columns-i.result in
    let lt : i < length old = c.loop-i-test.true in
    steps.next pushed i c.loop-i.columns old c.args.states.now c.loop-i.invariant lt d
    (Count 0) (get_or c.args.states.now i (Count 0)) c.push.new.self
    (same c.args.states.now old c.requires.kinds) (λ _. get_or c.args.states.now i (Count 0))
    c.push.ensures

pub returns : goal.returns
returns c =
    let old = c.args.columns.now in
    let vs = c.args.states.now in
    let end : c.loop-i.i ≡ length old = omega (arith, c.loop-i.auto.i-end, c.loop-i-test.false) in
    c.loop-i.invariant
    ∙ steps.stepped_all pushed c.loop-i.i old vs end (same vs old c.requires.kinds)
