use Rattle.value_ids.proofs.MaskLemmas.{one_bit}
use Rattle.value_ids.proofs.mask.set_bit.Goals as goal

pub returns : goal.returns
returns c = (λ q. one_bit c.args.mask.now.items c.args.id q c.index_mut.result.now c.requires c.index_mut.ensures.value)
