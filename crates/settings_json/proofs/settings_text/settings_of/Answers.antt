use Rattle.std.proofs.Common.{unwrap_or, ap, ◌∙◌}
use Rattle.serde_json.specs.Data.{null}
use Rattle.serde_json.specs.View.{view}
use Rattle.json_keys.specs.Keys.{optional}
use Rattle.settings_parts.specs.Indexes.{index_finding, indexed}
use Rattle.settings_parts.specs.Heads.{head_finding, table_name}
use Rattle.json_keys.proofs.Answered.{Gives-same, second_of_two}
use Rattle.settings_json.proofs.settings_text.settings_of.Goals as goal

pub returns : goal.returns
returns c =
    let fields = c.args.fields.all.now in
    let d = view c.args.json.now in
    let v = view c.in-Some.index.now in
    let table = c.in_ok-table.ensures ∙ c.in_ok-name.ensures.name in
    Gives-same _ _ _ _ c.read_indexes.result
    (ap (λ t. index_finding fields t v) table ∙ ap (optional (index_finding fields (table_name d))) c.in-Some.ensures
    ∙ second_of_two (head_finding d) _ c.in_ok-name.ensures.ok)
    (ap (λ t. indexed fields t v) table ∙ ap (λ o. indexed fields (table_name d) (unwrap_or o null)) c.in-Some.ensures)
    c.read_indexes.ensures
