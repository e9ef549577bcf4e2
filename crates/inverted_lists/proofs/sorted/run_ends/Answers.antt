use Rattle.std.proofs.Common.{◌∙◌, ◌++◌, ◌∷◌, [], ap, sym, append_assoc}
use Rattle.inverted_lists.proofs.CutLemmas.{runs_more}
use Rattle.inverted_lists.proofs.sorted.run_ends.Goals as goal

pub loop-id-preserved : goal.loop-id-preserved
loop-id-preserved c =
    let id = c.loop-id.id in
    let ids = c.args.ids.now in
    let first = c.loop-id.first in
    let end = c.end_of_run-end.result in record {
      ends =
          c.in_ok-push-2.ensures.items ∙ ap (λ xs. xs ++ end ∷ []) c.in_ok-push.ensures.items
          ∙ append_assoc c.loop-id.ends.items (first ∷ []) (end ∷ [])
          ∙ ap (λ xs. xs ++ first ∷ end ∷ []) c.loop-id.invariant.ends
          ∙ sym (runs_more id first end ids c.loop-id.invariant.cut c.end_of_run-end.ensures);
      cut = c.end_of_run-end.ensures;
    }
