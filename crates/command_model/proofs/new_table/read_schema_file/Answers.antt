use Rattle.command_model.proofs.CreateLemmas.{not_read, other_err}
use Rattle.command_model.proofs.new_table.read_schema_file.Goals as goal

pub returns-in_err-text-clause-unchanged : goal.returns-in_err-text-clause-unchanged
returns-in_err-text-clause-unchanged g c = λ other.
    c.in_err-text.ensures.unchanged (other_err c.in_err-text.field-0.0 (not_read c.from_residual.result c.in_err-text.field-0.0 c.from_residual.ensures.1 other))
