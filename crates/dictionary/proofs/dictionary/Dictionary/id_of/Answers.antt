use Rattle.std.proofs.Common.{◌≡◌, false, Some, List, slice_get, subst}
use Rattle.values.specs.declared.value.Value.{Value}
use Rattle.values.specs.Tests.{is_member}
use Rattle.value_ids.proofs.Found.{cut_absent, cut_here}
use Rattle.dictionary.proofs.dictionary.Dictionary.id_of.Goals as goal

pub returns-then-from-to : goal.returns-then-from-to
returns-then-from-to c =
    subst (λ (vs : List Value). slice_get vs c.cut_at-from.result.from ≡ Some c.args.value.now) c.ascending.ensures
    (cut_here c.ascending.result.values.now c.args.value.now c.cut_at-from.result.from c.cut_at-from.result.to c.cut_at-from.ensures c.if-from-to.true)

pub returns-else-from-to : goal.returns-else-from-to
returns-else-from-to c =
    subst (λ (vs : List Value). is_member vs c.args.value.now ≡ false) c.ascending.ensures
    (cut_absent c.ascending.result.values.now c.args.value.now c.cut_at-from.result.from c.cut_at-from.result.to c.cut_at-from.ensures c.if-from-to.false)
