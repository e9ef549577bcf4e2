use Rattle.command_model.proofs.CreateLemmas.{handed_err, not_read, other_err}
use Rattle.command_model.proofs.new_table.read_settings_file.Goals as goal

pub returns-in_err-text-clause-unchanged : goal.returns-in_err-text-clause-unchanged
returns-in_err-text-clause-unchanged g c = λ other.
    c.in_err-text.ensures.unchanged (other_err c.in_err-text.field-0.0 (not_read c.from_residual.result c.in_err-text.field-0.0 c.from_residual.ensures.1 other))

pub returns-in_err-text-clause-no_schema : goal.returns-in_err-text-clause-no_schema
returns-in_err-text-clause-no_schema g c = λ wrong path e. c.in_err-text.ensures.no_schema wrong path (handed_err c.from_residual.result c.in_err-text.field-0.0 _ c.from_residual.ensures.1 e)

pub returns-in_err-settings-clause-no_schema : goal.returns-in_err-settings-clause-no_schema
returns-in_err-settings-clause-no_schema g c = λ wrong path e. c.in_err-settings.ensures.no_schema wrong path (handed_err c.from_residual-in_err-settings.result c.in_err-settings.field-0.0 _ c.from_residual-in_err-settings.ensures.1 e)
