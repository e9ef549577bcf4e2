use Rattle.std.proofs.Common.{rules, ◌≡◌, ◌∙◌, Err, Ok, ap, arith, refl, subst, sym}
use Rattle.schema_json.specs.Schemas.{schema_read}
use Rattle.settings_json.specs.TableTexts.{settings_read}
use Rattle.command_words.specs.declared.note.Counted.TheVariants.{Rows}
use Rattle.command_words.specs.declared.note.Note.TheVariants.{TooLarge}
use Rattle.command_model.specs.Generated.{generated_schema, generated_settings}
use Rattle.command_model.proofs.OwnTable.{handed_texts, own_fits, own_made, own_many, schema_stop, settings_stop}
use Rattle.command_model.proofs.new_table.own_table.Goals as goal

pub returns-then-rows-gt-MOST_GENERATED-clause-stops : goal.returns-then-rows-gt-MOST_GENERATED-clause-stops
returns-then-rows-gt-MOST_GENERATED-clause-stops c =
    (refl, own_many c.args.rows (omega arith) ∙ ap (λ n. Err (TooLarge Rows n)) (sym c.from.ensures))

pub returns-in_err-schema-clause-stops : goal.returns-in_err-schema-clause-stops
returns-in_err-schema-clause-stops c =
    let copied : c.in_ok-schema_text.schema_text.items ≡ c.schema_text.result.now = search rules in
    let own : c.as_slice.result.now ≡ generated_schema = c.as_slice.ensures.value ∙ copied ∙ c.schema_text.ensures in
    handed_texts c.args.rows c.from_residual-in_err-schema.result c.in_err-schema.field-0.0 c.from_residual-in_err-schema.ensures.1
    (schema_stop c.args.rows c.as_slice.result.now c.in_err-schema.field-0.0 (omega arith) own c.in_err-schema.ensures.stops)

pub returns-in_err-settings-clause-stops : goal.returns-in_err-settings-clause-stops
returns-in_err-settings-clause-stops c =
    let copied : c.in_ok-schema_text.schema_text.items ≡ c.schema_text.result.now = search rules in
    let own : c.as_slice.result.now ≡ generated_schema = c.as_slice.ensures.value ∙ copied ∙ c.schema_text.ensures in
    let more : c.in_ok-settings_text.settings_text.items ≡ c.settings_text.result.now = search rules in
    let set : c.as_slice-2.result.now ≡ generated_settings = c.as_slice-2.ensures.value ∙ more ∙ c.settings_text.ensures in
    handed_texts c.args.rows c.from_residual-in_err-settings.result c.in_err-settings.field-0.0 c.from_residual-in_err-settings.ensures.1
    (settings_stop c.args.rows c.as_slice.result.now c.as_slice-2.result.now c.in_ok-schema.schema c.in_err-settings.field-0.0 (omega arith) own c.in_ok-schema.ensures.read set c.in_err-settings.ensures.stops)

pub returns-clause-made : goal.returns-clause-made
returns-clause-made c =
    let copied : c.in_ok-schema_text.schema_text.items ≡ c.schema_text.result.now = search rules in
    let own : c.in_ok-schema_text.schema_text.items ≡ generated_schema = copied ∙ c.schema_text.ensures in
    let more : c.in_ok-settings_text.settings_text.items ≡ c.settings_text.result.now = search rules in
    let set : c.in_ok-settings_text.settings_text.items ≡ generated_settings = more ∙ c.settings_text.ensures in
    own_made c.args.rows c.from_vec.result c.from_vec-2.result c.in_ok-schema.schema c.in_ok-settings.settings (omega arith) (c.from_vec.ensures ∙ own)
    (subst (λ t. schema_read t ≡ Ok c.in_ok-schema.schema) (c.as_slice.ensures.value ∙ sym c.from_vec.ensures) c.in_ok-schema.ensures.read)
    (c.from_vec-2.ensures ∙ set)
    (subst (λ t. settings_read c.in_ok-schema.schema.fields t ≡ Ok c.in_ok-settings.settings) (c.as_slice-2.ensures.value ∙ sym c.from_vec-2.ensures) c.in_ok-settings.ensures.read)

pub returns-clause-fits : goal.returns-clause-fits
returns-clause-fits c =
    let copied : c.in_ok-schema_text.schema_text.items ≡ c.schema_text.result.now = search rules in
    let more : c.in_ok-settings_text.settings_text.items ≡ c.settings_text.result.now = search rules in
    own_fits c.from_vec.result c.from_vec-2.result (c.from_vec.ensures ∙ copied ∙ c.schema_text.ensures) (c.from_vec-2.ensures ∙ more ∙ c.settings_text.ensures)
