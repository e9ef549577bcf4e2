use Rattle.settings_json.proofs.SettingsLaw.{settings_valid}
use Rattle.settings_json.proofs.laws.settings_law.Goals as goal

pub returns : goal.returns
returns c = record { accepted = settings_valid }
