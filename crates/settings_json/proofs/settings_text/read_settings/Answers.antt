use Rattle.std.proofs.Common.{subst}
use Rattle.serde_json.specs.View.{view}
use Rattle.json_keys.specs.Faults.{Gives}
use Rattle.settings_json.specs.TableTexts.{settings_finding, settings_of}
use Rattle.settings_json.proofs.SettingsLaw.{gives_valid}
use Rattle.settings_json.proofs.settings_text.read_settings.Goals as goal

pub returns-clause-valid : goal.returns-clause-valid
returns-clause-valid c =
    let d = view c.in_ok-json.json in
    let result = c.settings_of.result in
    let given = subst (λ fields. Gives (settings_finding fields d) (settings_of fields d) result) c.as_slice-all.ensures c.settings_of.ensures in
    gives_valid c.args.schema.now d result c.requires given
