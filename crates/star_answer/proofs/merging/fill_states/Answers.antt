use Rattle.std.proofs.Common.{◌≡◌, ◌∙◌, ◌<◌, ◌++◌, ◌∷◌, [], List, get_or, length, take, ap, sym, arith}
use Rattle.std.proofs.Math.Seq.{take-length}
use Rattle.std.proofs.lemmas.List.{take_more}
use Rattle.std.proofs.lemmas.Option.{get_or_from_slice_get}
use Rattle.agg_laws.specs.declared.states.AggState.{AggState}
use Rattle.state_columns.specs.Docs.{doc_at}
use Rattle.state_columns.proofs.RowPlaces.{length-kinds_of}
use Rattle.state_columns.proofs.RegionSteps.{shape_at}
use Rattle.star_answer.proofs.merging.fill_states.Goals as goal

pub overflow_cast-pair : goal.overflow_cast-pair
overflow_cast-pair c =
    let same = ap length c.kinds.ensures in
    omega (arith, same, c.requires.at_most, c.loop-pair-test.true, c.len-pair-end.ensures)

pub loop-pair-preserved : goal.loop-pair-preserved
loop-pair-preserved c =
    let t = c.args.selected.now in
    let vs : List AggState = (doc_at t.docs c.args.at).1 in
    let i = c.loop-pair.pair in
    let kinds = (shape_at t.dims t.kinds t.docs c.args.at c.requires.shape c.requires.at).1 in
    let lengths : length vs ≡ length t.kinds = sym (length-kinds_of vs) ∙ ap length kinds in
    let same = ap length c.kinds.ensures in
    let lt : i < length vs =
    omega (arith, lengths, same, c.loop-pair-test.true, c.len-pair-end.ensures) in
    let value : get_or vs i c.state.result ≡ c.state.result =
    get_or_from_slice_get vs i c.state.result c.state.result c.state.ensures in
    c.in_ok-push.ensures.ok ∙ (λ j. c.loop-pair.invariant j ++ sym value j ∷ [])
    ∙ sym (take_more vs i c.state.result lt)

pub returns : goal.returns
returns c =
    let t = c.args.selected.now in
    let vs : List AggState = (doc_at t.docs c.args.at).1 in
    let kinds = (shape_at t.dims t.kinds t.docs c.args.at c.requires.shape c.requires.at).1 in
    let lengths : length vs ≡ length t.kinds = sym (length-kinds_of vs) ∙ ap length kinds in
    let same = ap length c.kinds.ensures in
    let end : c.loop-pair.pair ≡ length vs = omega
    (arith, lengths, same, c.loop-pair-test.false, c.len-pair-end.ensures, c.loop-pair.auto.pair-end) in
    c.loop-pair.invariant ∙ ap (λ n. take n vs) end ∙ take-length vs
