use Rattle.std.proofs.Common.{◌∙◌, ◌||◌, ap}
use Rattle.value_ids.specs.Ids.{has_id, is_within}
use Rattle.value_ids.proofs.MaskLemmas.{or_none}
use Rattle.value_ids.proofs.RunLemmas.{has_run}
use Rattle.value_ids.proofs.id_sets.range_of.Goals as goal

pub returns : goal.returns
returns c = λ q.
    let run = is_within c.args.from c.args.to q in
    ap (λ ids. has_id ids q) c.in_ok-push_run.ensures.ok ∙ has_run c.new-ids.result c.args.from c.args.to q ∙ ap (λ ids. run || has_id ids q) c.new-ids.ensures ∙ or_none run
