use Rattle.std.proofs.Common.{◌≡◌, ◌∙◌, IfSome, Ok, option_map, subst}
use Rattle.outside.specs.Counts.{Rose}
use Rattle.command_model.specs.Create.{new_table, settings_in}
use Rattle.command_model.specs.Gives.{StopsBy}
use Rattle.outside.specs.Seen.{seen}
use Rattle.command_model.proofs.CreateLemmas.{earlier, first_alone, handed_err, not_read, other_err}
use Rattle.command_model.proofs.StopsLemmas.{both_read, failed_later, handed_on, no_schema, no_settings}
use Rattle.command_model.proofs.new_table.read_table.Goals as goal

pub returns-in_err-schema_text-clause-stops : goal.returns-in_err-schema_text-clause-stops
returns-in_err-schema_text-clause-stops g c =
    handed_on c.from_residual.result c.in_err-schema_text.field-0.0 (option_map (new_table c.args.schema.now c.args.settings.now) (g.I.Shelf.held c.args.inputs.now)) _ c.from_residual.ensures.1
    (no_schema (g.I.Shelf.held c.args.inputs.now) c.args.schema.now c.args.settings.now _ c.in_err-schema_text.field-0.0 c.in_err-schema_text.ensures.stops)

pub returns-in_err-schema_text-clause-reads : goal.returns-in_err-schema_text-clause-reads
returns-in_err-schema_text-clause-reads g c = first_alone c.args.schema.now c.args.settings.now (seen g.I.Shelf c.args.inputs.now) (seen g.I.Shelf c.read_schema_file.new.inputs) c.in_err-schema_text.ensures.reads

pub returns-in_err-settings_text-clause-stops : goal.returns-in_err-settings_text-clause-stops
returns-in_err-settings_text-clause-stops g c =
    handed_on c.from_residual-in_err-settings_text.result c.in_err-settings_text.field-0.0 (option_map (new_table c.args.schema.now c.args.settings.now) (g.I.Shelf.held c.args.inputs.now)) _ c.from_residual-in_err-settings_text.ensures.1
    (failed_later (option_map (new_table c.args.schema.now c.args.settings.now) (g.I.Shelf.held c.args.inputs.now)) _ _ c.in_err-settings_text.field-0.0
    (earlier (g.I.Shelf.read_faults c.args.inputs.now) (g.I.Shelf.read_faults c.read_schema_file.new.inputs) (g.I.Shelf.read_faults c.read_settings_file.new.inputs) c.in_ok-schema_text.ensures.reads.later)
    (no_settings (g.I.Shelf.held c.args.inputs.now) c.args.schema.now c.args.settings.now c.in_ok-schema_text.schema_text c.in_ok-schema_text.schema _ c.in_err-settings_text.field-0.0 c.in_ok-schema_text.ensures.read
    (subst (λ held. StopsBy (option_map (settings_in c.in_ok-schema_text.schema c.args.settings.now) held) (Rose (g.I.Shelf.read_faults c.read_schema_file.new.inputs) (g.I.Shelf.read_faults c.read_settings_file.new.inputs)) c.in_err-settings_text.field-0.0) c.in_ok-schema_text.ensures.reads.held c.in_err-settings_text.ensures.stops)))

pub returns-clause-made : goal.returns-clause-made
returns-clause-made g c =
    both_read (g.I.Shelf.held c.args.inputs.now) c.args.schema.now c.args.settings.now c.in_ok-schema_text.schema_text c.in_ok-settings_text.settings_text c.in_ok-schema_text.schema c.in_ok-settings_text.settings
    c.in_ok-schema_text.ensures.read
    (subst (λ held. IfSome held (λ files. settings_in c.in_ok-schema_text.schema c.args.settings.now files ≡ Ok (c.in_ok-settings_text.settings_text, c.in_ok-settings_text.settings))) c.in_ok-schema_text.ensures.reads.held c.in_ok-settings_text.ensures.read)

pub returns-in_err-schema_text-clause-unchanged : goal.returns-in_err-schema_text-clause-unchanged
returns-in_err-schema_text-clause-unchanged g c = λ other.
    c.in_err-schema_text.ensures.unchanged (other_err c.in_err-schema_text.field-0.0 (not_read c.from_residual.result c.in_err-schema_text.field-0.0 c.from_residual.ensures.1 other))

pub returns-in_err-settings_text-clause-unchanged : goal.returns-in_err-settings_text-clause-unchanged
returns-in_err-settings_text-clause-unchanged g c = λ other.
    c.in_err-settings_text.ensures.unchanged (other_err c.in_err-settings_text.field-0.0 (not_read c.from_residual-in_err-settings_text.result c.in_err-settings_text.field-0.0 c.from_residual-in_err-settings_text.ensures.1 other))
    ∙ c.in_ok-schema_text.ensures.unchanged (λ e. cc)

pub returns-in_err-settings_text-clause-schema_alone : goal.returns-in_err-settings_text-clause-schema_alone
returns-in_err-settings_text-clause-schema_alone g c = λ wrong path e.
    absurd (c.in_err-settings_text.ensures.no_schema wrong path (handed_err c.from_residual-in_err-settings_text.result c.in_err-settings_text.field-0.0 _ c.from_residual-in_err-settings_text.ensures.1 e))
