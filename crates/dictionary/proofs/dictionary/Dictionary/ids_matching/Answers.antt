use Rattle.std.proofs.Common.{◌≡◌, List, subst}
use Rattle.values.specs.declared.value.Value.{Value}
use Rattle.value_ids.specs.Ids.{matching}
use Rattle.value_ids.proofs.MatchLemmas.{ids_so}
use Rattle.dictionary.proofs.dictionary.Dictionary.ids_matching.Goals as goal

pub returns-clause-ids : goal.returns-clause-ids
returns-clause-ids c =
    subst (λ (vs : List Value). c.in_ok-ids.ids ≡ matching c.args.test.now vs) c.ascending.ensures
    (ids_so c.args.test.now c.ascending.result.values.now c.in_ok-ids.ids c.as_slice-list.ensures.valid c.in_ok-ids.ensures)
