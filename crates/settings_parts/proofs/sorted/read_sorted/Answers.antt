use Rattle.std.proofs.Common.{ap, ◌∙◌, option_and_then}
use Rattle.serde_json.specs.View.{view}
use Rattle.json_keys.specs.Faults.{below}
use Rattle.json_keys.specs.Keys.{optional}
use Rattle.settings_parts.specs.Indexes.{SORTED_KEY, sorted_value_finding, sorted_number, sorted_name}
use Rattle.json_keys.proofs.Answered.{Gives-same}
use Rattle.settings_parts.proofs.sorted.read_sorted.Goals as goal

pub returns : goal.returns
returns c =
    let fields = c.args.fields.all.now in
    let v = view c.in-Some.value.now in
    let path = c.as_str.ensures ∙ c.in_ok-path.ensures in
    Gives-same _ _ _ _ c.read_value.result
    (ap (λ p. sorted_value_finding fields p v) path ∙ ap (optional (sorted_value_finding fields (below c.args.base.now SORTED_KEY))) c.in-Some.ensures)
    (ap (option_and_then (λ w. sorted_number fields (sorted_name w))) c.in-Some.ensures)
    c.read_value.ensures
