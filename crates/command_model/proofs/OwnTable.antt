-- The program's own table is the one that its own texts make.
use Rattle.std.proofs.Common.{◌≡◌, ◌∙◌, ◌≤◌, ◌<◌, ℕ, true, false, nat_lt, List, [], length, Option, Some, Result, Ok, Err, refl, sym, ap, subst, arith}
use Rattle.std.specs.Prelude.{IfErr, IsErrAnd, if◌then◌else◌}
use Rattle.std.proofs.lemmas.Bool.Decides.{nat_tests}
use Rattle.json_keys.specs.declared.fault.KeyKind.TheVariants as key
use Rattle.json_keys.specs.declared.fault.TextFault.{TextFault}
use Rattle.json_keys.specs.declared.fault.TextFault.TheVariants as text
use Rattle.schema_json.specs.Schemas.{schema_read}
use Rattle.settings_json.specs.TableTexts.{settings_read}
use Rattle.table_schema.specs.declared.field.Schema.{Schema}
use Rattle.table_schema.specs.declared.settings.Settings.{Settings}
use Rattle.table_store.specs.TableFile.{FitsTable}
use Rattle.command_words.specs.Command.{GeneratedTexts}
use Rattle.command_words.specs.declared.fault.Fault.TheVariants.{Memory, Read, Write}
use Rattle.command_words.specs.declared.note.Counted.TheVariants.{Rows}
use Rattle.command_words.specs.declared.note.Note.{Note}
use Rattle.command_words.specs.declared.note.Note.TheVariants.{BadSchema, BadSettings, TooLarge}
use Rattle.command_words.specs.declared.stop.Stop.{Stop}
use Rattle.command_words.specs.declared.stop.Stop.TheVariants.{Refused, Fault}
use Rattle.command_model.specs.Create.{Made, beside, own_table, table_of, with_own_settings}
use Rattle.command_model.specs.Generated.{generated_schema, generated_settings}
use Rattle.command_model.specs.Gives.{StopsBy, StopsTexts}
use Rattle.command_model.specs.Profile.{source_refuses}
use Rattle.command_model.proofs.MachineLemmas.{schema_short, settings_short}

own_is : (rows : ℕ) → rows ≤ 1048576 → own_table rows ≡ with_own_settings (beside BadSchema generated_schema (schema_read generated_schema))
unfolding own_table
own_is rows le =
    let few : nat_lt 1048576 rows ≡ false = grind (arith, nat_tests) in
    rw few refl

-- too many rows
pub own_many : (rows : ℕ) → 1048576 < rows → own_table rows ≡ Err (TooLarge Rows 1048576)
unfolding own_table
own_many rows lt =
    let many : nat_lt 1048576 rows ≡ true = grind (arith, nat_tests) in
    rw many refl

-- a text is refused as one of a schema or of settings
schema_line : (rows : ℕ) (b : List ℕ) (r : Result Schema TextFault) (line : Note) → beside BadSchema b r ≡ Err line → source_refuses (GeneratedTexts rows) line ≡ true
schema_line rows b (Ok v) line e = absurd cc
schema_line rows b (Err (text.At wrong path)) line e = let same : BadSchema wrong path ≡ line = cc in subst (λ l. source_refuses (GeneratedTexts rows) l ≡ true) same refl
schema_line rows b (Err text.NoMemory) line e = let same : BadSchema key.NotJson [] ≡ line = cc in subst (λ l. source_refuses (GeneratedTexts rows) l ≡ true) same refl

settings_line : (rows : ℕ) (b : List ℕ) (r : Result Settings TextFault) (line : Note) → beside BadSettings b r ≡ Err line → source_refuses (GeneratedTexts rows) line ≡ true
settings_line rows b (Ok v) line e = absurd cc
settings_line rows b (Err (text.At wrong path)) line e = let same : BadSettings wrong path ≡ line = cc in subst (λ l. source_refuses (GeneratedTexts rows) l ≡ true) same refl
settings_line rows b (Err text.NoMemory) line e = let same : BadSettings key.NotJson [] ≡ line = cc in subst (λ l. source_refuses (GeneratedTexts rows) l ≡ true) same refl

abbrev pub Stops : ℕ → Stop → Type 0
Stops rows why = StopsTexts (GeneratedTexts rows) (Some (own_table rows)) ⊥ why

pub schema_stop : (rows : ℕ) (own : List ℕ) (why : Stop) → rows ≤ 1048576 → own ≡ generated_schema → StopsBy (Some (beside BadSchema own (schema_read own))) ⊥ why → Stops rows why
schema_stop rows own (Refused line) le same (may, is) =
    let so : beside BadSchema generated_schema (schema_read generated_schema) ≡ Err line = subst (λ t. beside BadSchema t (schema_read t) ≡ Err line) same is in
    (schema_line rows generated_schema (schema_read generated_schema) line so, own_is rows le ∙ ap with_own_settings so)
schema_stop rows own (Fault Read) le same by = absurd by
schema_stop rows own (Fault Write) le same by = absurd by
schema_stop rows own (Fault Memory) le same by = tt

-- with a schema it is the table of that and of the settings
of_schema : (rows : ℕ) (own : List ℕ) (schema : Schema) → rows ≤ 1048576 → own ≡ generated_schema → schema_read own ≡ Ok schema
    → own_table rows ≡ table_of generated_schema schema (beside BadSettings generated_settings (settings_read schema.fields generated_settings))
of_schema rows own schema le same read =
    let so : schema_read generated_schema ≡ Ok schema = subst (λ t. schema_read t ≡ Ok schema) same read in
    own_is rows le ∙ ap (λ r. with_own_settings (beside BadSchema generated_schema r)) so

pub settings_stop : (rows : ℕ) (own more : List ℕ) (schema : Schema) (why : Stop) → rows ≤ 1048576 → own ≡ generated_schema → schema_read own ≡ Ok schema → more ≡ generated_settings
    → StopsBy (Some (beside BadSettings more (settings_read schema.fields more))) ⊥ why → Stops rows why
settings_stop rows own more schema (Refused line) le same read is_more (may, is) =
    let so : beside BadSettings generated_settings (settings_read schema.fields generated_settings) ≡ Err line = subst (λ t. beside BadSettings t (settings_read schema.fields t) ≡ Err line) is_more is in
    (settings_line rows generated_settings (settings_read schema.fields generated_settings) line so, of_schema rows own schema le same read ∙ ap (table_of generated_schema schema) so)
settings_stop rows own more schema (Fault Read) le same read is_more by = absurd by
settings_stop rows own more schema (Fault Write) le same read is_more by = absurd by
settings_stop rows own more schema (Fault Memory) le same read is_more by = tt

pub own_made : (rows : ℕ) (own more : List ℕ) (schema : Schema) (settings : Settings) → rows ≤ 1048576 → own ≡ generated_schema → schema_read own ≡ Ok schema → more ≡ generated_settings → settings_read schema.fields more ≡ Ok settings
    → own_table rows ≡ Ok (record { schema = own; settings = more }, record { schema = schema; settings = settings })
own_made rows own more schema settings le same read is_more is =
    let so : settings_read schema.fields generated_settings ≡ Ok settings = subst (λ t. settings_read schema.fields t ≡ Ok settings) is_more is in
    of_schema rows own schema le same read ∙ ap (λ r. table_of generated_schema schema (beside BadSettings generated_settings r)) so
    ∙ (λ k. Ok (record { schema = sym same k; settings = sym is_more k }, record { schema = schema; settings = settings }))

pub own_fits : (own more : List ℕ) → own ≡ generated_schema → more ≡ generated_settings → FitsTable (record { schema = own; settings = more })
own_fits own more same is_more = record { schema = subst (λ t. length t ≤ 1048576) (sym same) schema_short; settings = subst (λ t. length t ≤ 1048576) (sym is_more) settings_short }

pub handed_texts : {A : Type 0} (rows : ℕ) (r : Result A Stop) (why : Stop) → IsErrAnd r (λ s. s ≡ why) → Stops rows why → IfErr r (Stops rows)
handed_texts rows (Ok a) why is by = absurd is
handed_texts rows (Err s) why is by = subst (Stops rows) (sym is) by
