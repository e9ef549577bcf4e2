use Rattle.std.proofs.Common.{[], sym, subst}
use Rattle.value_ids.specs.Ids.{IsMaskedSet}
use Rattle.value_ids.proofs.MaskLemmas.{no_mask}
use Rattle.value_ids.proofs.id_set.IdSet.new.Goals as goal

pub invariant_of-result : goal.invariant_of-result
invariant_of-result c = subst (λ ids. IsMaskedSet ids c.new-2.result.items) (sym c.new.ensures.items) (subst (λ mask. IsMaskedSet [] mask) (sym c.new-2.ensures.items) no_mask)
