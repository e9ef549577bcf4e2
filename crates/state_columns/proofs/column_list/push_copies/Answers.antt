use Rattle.std.proofs.Common.{◌≡◌, ◌<◌, length, get_or, ap, sym, ◌∙◌, arith}
use Rattle.agg_laws.specs.declared.states.AggState.TheVariants.{Count}
use Rattle.state_columns.specs.Columns.{Column, pushed, row_at, state_at}
use Rattle.state_columns.proofs.EachSteps as steps
use Rattle.state_columns.proofs.column_list.push_copies.Goals as goal

pub push_copy-requires-clause-spare : goal.push_copy-requires-clause-spare
push_copy-requires-clause-spare c =
    let old = c.args.columns.now in
    let i = c.loop-i.i in
    let d = c.index-columns-i.result in
    let lt : i < length old = c.loop-i-test.true in
    let own = steps.own pushed i c.loop-i.columns old (row_at old c.args.from) c.loop-i.invariant
    lt d in
    let room = steps.room_at c.args.count 1 old i d c.requires.room lt in
    let e = ap (λ (c : Column). c.spare) own in
    omega (arith, e, room)

pub push_copy-requires-clause-from : goal.push_copy-requires-clause-from
push_copy-requires-clause-from c =
    let old = c.args.columns.now in
    let i = c.loop-i.i in
    let d = c.index-columns-i.result in
    let lt : i < length old = c.loop-i-test.true in
    let own = steps.own pushed i c.loop-i.columns old (row_at old c.args.from) c.loop-i.invariant
    lt d in
    let lengths = steps.long_at c.args.count 1 old i d c.requires.room lt in
    let e = ap (λ (c : Column). length c.states) own in
    omega (arith, e, lengths, c.requires.from)

pub loop-i-preserved : goal.loop-i-preserved
loop-i-preserved c =
    let old = c.args.columns.now in
    let i = c.loop-i.i in
    let d = c.index-columns-i.result in
    let lt : i < length old = c.loop-i-test.true in
    let vs = row_at old c.args.from in
    let own = steps.own pushed i c.loop-i.columns old vs c.loop-i.invariant lt d in
    steps.next pushed i c.loop-i.columns old vs c.loop-i.invariant lt d
    (Count 0) (state_at (get_or c.loop-i.columns i d) c.args.from) c.push_copy.new.self
    (sym (steps.length-row_at old c.args.from))
    (ap (λ (c' : Column). state_at c' c.args.from) own
    ∙ sym (steps.row_item old c.args.from i d (Count 0) lt)) c.push_copy.ensures

pub returns : goal.returns
returns c =
    let old = c.args.columns.now in
    let vs = row_at old c.args.from in
    let end : c.loop-i.i ≡ length old = omega (arith, c.loop-i.auto.i-end, c.loop-i-test.false) in
    c.loop-i.invariant
    ∙ steps.stepped_all pushed c.loop-i.i old vs end (sym (steps.length-row_at old c.args.from))
