use Rattle.std.proofs.Common.{◌≡◌, ◌∙◌, ◌++◌, ◌∷◌, [], ℕ, get_or, sym}
use Rattle.std.proofs.lemmas.List.{map_more}
use Rattle.std.proofs.lemmas.Option.{get_or_from_slice_get}
use Rattle.agg_laws.specs.declared.states.AggState.TheVariants.{Count}
use Rattle.state_columns.specs.Docs.{doc_at}
use Rattle.star_reader.proofs.selection.put_states.Goals as goal

pub loop-pair-preserved : goal.loop-pair-preserved
loop-pair-preserved c =
    let pairs = c.args.pairs.now in
    let vs = (doc_at c.args.table.now.docs c.args.at).1 in
    let i = c.loop-pair.pair-index in
    let value : get_or vs (get_or pairs i 0) (Count 0) ≡ c.state.result =
    get_or_from_slice_get vs (get_or pairs i 0) c.state.result (Count 0) c.state.ensures in
    let front : c.push.new.self.items ≡ c.loop-pair.states.items ++ c.state.result ∷ [] =
    c.in_ok-push.ensures.items in
    front ∙ (λ j. c.loop-pair.invariant j ++ sym value j ∷ [])
    ∙ sym (map_more (λ (pair : ℕ). get_or vs pair (Count 0)) pairs i 0 c.loop-pair-test.true)
