use Rattle.std.proofs.Common.{◌≡◌, ◌<◌, length, sym, ap, ◌∙◌, arith, refl}
use Rattle.std.proofs.lemmas.Option.{get_or_from_slice_get}
use Rattle.agg_laws.specs.States.{spelling}
use Rattle.state_columns.specs.Docs.{doc_at}
use Rattle.state_columns.proofs.RowPlaces.{length-kinds_of}
use Rattle.state_columns.proofs.RegionSteps.{shape_at, stored_at}
use Rattle.star_file.specs.Bytes.{state_bytes}
use Rattle.star_file.proofs.Written as steps
use Rattle.star_file.proofs.writing.push_states.Goals as goal

pub push_state-requires : goal.push_state-requires
push_state-requires c =
    let docs = c.args.docs.now.docs in
    steps.stored_there (doc_at docs c.args.at).1 c.loop-pair.pair c.state.result
    (stored_at docs c.args.at c.requires.stored c.requires.there) c.state.ensures

pub loop-pair-preserved : goal.loop-pair-preserved
loop-pair-preserved c =
    let t = c.args.docs.now in
    let vs = (doc_at t.docs c.args.at).1 in
    let i = c.loop-pair.pair in
    let kinds = (shape_at t.dims t.kinds t.docs c.args.at c.requires.shape c.requires.there).1 in
    let lengths : length vs ≡ length t.kinds = sym (length-kinds_of vs) ∙ ap length kinds in
    let same = ap length c.kinds.ensures in
    let lt : i < length vs =
    omega (arith, lengths, same, c.loop-pair-test.true, c.len-pair-end.ensures) in
    steps.more state_bytes spelling refl steps.state_first vs i c.state.result
    c.args.out.now.items c.loop-pair.out.items c.push_state.new.out.items lt
    (sym (get_or_from_slice_get vs i c.state.result c.state.result c.state.ensures))
    c.loop-pair.invariant c.in_ok-push_state.ensures.ok

pub returns : goal.returns
returns c =
    let t = c.args.docs.now in
    let vs = (doc_at t.docs c.args.at).1 in
    let kinds = (shape_at t.dims t.kinds t.docs c.args.at c.requires.shape c.requires.there).1 in
    let lengths : length vs ≡ length t.kinds = sym (length-kinds_of vs) ∙ ap length kinds in
    let same = ap length c.kinds.ensures in
    let end : c.loop-pair.pair ≡ length vs = omega
    (arith, lengths, same, c.loop-pair-test.false, c.len-pair-end.ensures, c.loop-pair.auto.pair-end) in
    let ok = steps.all state_bytes spelling refl steps.state_first vs c.loop-pair.pair
    c.args.out.now.items c.loop-pair.out.items end c.loop-pair.invariant in
    record { ok = ok; kept = (_, c.loop-pair.invariant) }
