use Rattle.table_store.proofs.TableFileLemmas.{begins, more_following, no_settings, none_left, not_spelled, some_left, spelled_so}
use Rattle.table_store.proofs.table_file.texts_of.Goals as goal

pub returns-in_err-settings : goal.returns-in_err-settings
returns-in_err-settings c =
    let head = begins c.args.file.now c.in_ok-rest.rest.now c.in_ok-rest.ensures.cases.0 c.in_ok-rest.ensures.cases.1 in
    not_spelled c.args.file.now c.from_residual-in_err-settings.result c.from_residual-in_err-settings.ensures
    (λ texts fits. no_settings c.args.file.now c.in_ok-rest.rest.now c.in_ok-schema.rest.now c.in_ok-schema.schema.now texts fits head c.in_ok-schema.ensures.0 c.in_ok-schema.ensures.1 c.in_err-settings.ensures)

pub returns-then-is_empty : goal.returns-then-is_empty
returns-then-is_empty c =
    let head = begins c.args.file.now c.in_ok-rest.rest.now c.in_ok-rest.ensures.cases.0 c.in_ok-rest.ensures.cases.1 in (
      record { schema = c.in_ok-schema.ensures.0; settings = c.in_ok-settings.ensures.0 },
      spelled_so c.args.file.now c.in_ok-rest.rest.now c.in_ok-schema.rest.now c.in_ok-schema.schema.now c.in_ok-settings.settings.now c.in_ok-settings.rest.now
          head c.in_ok-schema.ensures.1 c.in_ok-settings.ensures.1 (none_left c.in_ok-settings.rest.now c.if-is_empty.ensures),
    )

pub returns-else-is_empty : goal.returns-else-is_empty
returns-else-is_empty c = λ texts fits.
    let head = begins c.args.file.now c.in_ok-rest.rest.now c.in_ok-rest.ensures.cases.0 c.in_ok-rest.ensures.cases.1 in
    more_following c.args.file.now c.in_ok-rest.rest.now c.in_ok-schema.rest.now c.in_ok-schema.schema.now c.in_ok-settings.settings.now c.in_ok-settings.rest.now texts fits
    head c.in_ok-schema.ensures.0 c.in_ok-schema.ensures.1 c.in_ok-settings.ensures.0 c.in_ok-settings.ensures.1 (some_left c.in_ok-settings.rest.now c.if-is_empty.ensures)
