use Rattle.table_store.specs.State.{Texts}
use Rattle.table_store.proofs.OpenLemmas.{schema_refused, settings_refused}
use Rattle.table_store.proofs.open.read_table.Goals as goal

pub returns-in-Err-clause-err : goal.returns-in-Err-clause-err
returns-in-Err-clause-err c =
    let texts : Texts = record { schema = c.in-Some.schema.now; settings = c.in-Some.settings.now } in
    schema_refused c.args.file.now texts c.in-Err.fault c.of_text.result c.in-Some.ensures.0 c.in-Some.ensures.1 c.in-Err.ensures.err c.of_text.ensures.text c.of_text.ensures.memory

pub returns-in-Err-read_settings-clause-err : goal.returns-in-Err-read_settings-clause-err
returns-in-Err-read_settings-clause-err c =
    let texts : Texts = record { schema = c.in-Some.schema.now; settings = c.in-Some.settings.now } in
    settings_refused c.args.file.now texts c.in-Ok.schema c.in-Err-read_settings.fault c.of_text-in-Err-read_settings.result c.in-Some.ensures.0 c.in-Some.ensures.1 c.in-Ok.ensures.ok
    c.in-Err-read_settings.ensures.err c.of_text-in-Err-read_settings.ensures.text c.of_text-in-Err-read_settings.ensures.memory
