-- What stops the reading of the files of `create` is what is found first in them.
use Rattle.std.proofs.Common.{◌≡◌, ◌∙◌, ◌≤◌, ◌<◌, inl, inr, ℕ, List, length, nat_lt, true, false, IfOk, Option, Some, None, option_map, Result, Ok, Err, IfSome, refl, sym, ap, subst, arith}
use Rattle.std.specs.Prelude.{IfErr, IsErrAnd}
use Rattle.std.proofs.lemmas.Bool.Decides.{nat_tests}
use Rattle.outside.specs.Files.{Files, Lacks}
use Rattle.outside.specs.Whole.{IsTooLong, IsWhole}
use Rattle.table_store.specs.TableFile.{text_limit}
use Rattle.table_schema.specs.declared.field.Schema.{Schema}
use Rattle.table_schema.specs.declared.settings.Settings.{Settings}
use Rattle.command_model.specs.Create.{json_bytes, json_in, new_table, schema_in, settings_in, table_of, with_settings}
use Rattle.command_model.specs.Gives.{StopsBy, StopsRead}
use Rattle.command_words.specs.declared.fault.Fault.TheVariants.{Memory, Read, Write}
use Rattle.command_words.specs.declared.note.Counted.TheVariants.{JsonBytes}
use Rattle.command_words.specs.declared.note.Note.{Note}
use Rattle.command_words.specs.declared.note.Note.TheVariants.{NoInput, TooLarge}
use Rattle.command_words.specs.declared.stop.Stop.{Stop}
use Rattle.command_words.specs.declared.stop.Stop.TheVariants.{Refused, Fault}

-- what stops one reading stops another
told_moved : {A B : Type 0} (held : Option Files) (f : Files → Result A Note) (g : Files → Result B Note) (line : Note) → IfSome held (λ files. f files ≡ Err line → g files ≡ Err line)
    → IfSome (option_map f held) (λ r. r ≡ Err line) → IfSome (option_map g held) (λ r. r ≡ Err line)
told_moved None f g line turn is = tt
told_moved (Some files) f g line turn is = turn is

pub moved : {A B : Type 0} (held : Option Files) (f : Files → Result A Note) (g : Files → Result B Note) (F : Type 0) (stop : Stop) → ((line : Note) → IfSome held (λ files. f files ≡ Err line → g files ≡ Err line))
    → StopsBy (option_map f held) F stop → StopsBy (option_map g held) F stop
moved held f g F (Refused line) turn by = (by.0, told_moved held f g line (turn line) by.1)
moved held f g F (Fault Read) turn by = by
moved held f g F (Fault Write) turn by = by
moved held f g F (Fault Memory) turn by = by

each : (held : Option Files) (P : Files → Type 0) → ((files : Files) → P files) → IfSome held P
each None P all = tt
each (Some files) P all = all files

-- ---- one text

within : (file bytes : List ℕ) → length bytes ≤ 1048576 → json_bytes file (Some bytes) ≡ Ok bytes
within file bytes le =
    let test : nat_lt 1048576 (length bytes) ≡ false = grind (arith, nat_tests) in
    rw test refl

past : (file bytes : List ℕ) → 1048576 < length bytes → json_bytes file (Some bytes) ≡ Err (TooLarge JsonBytes text_limit)
past file bytes lt =
    let test : nat_lt 1048576 (length bytes) ≡ true = grind (arith, nat_tests) in
    rw test refl

whole_json : (held : Option Files) (file bytes : List ℕ) → IsWhole held file 1048576 bytes → IfSome held (λ files. json_in file files ≡ Ok bytes)
whole_json None file bytes whole = tt
whole_json (Some files) file bytes (told, got, (same, le)) = ap (json_bytes file) (got ∙ ap Some (sym same)) ∙ within file bytes (subst (λ bs. length bs ≤ 1048576) (sym same) le)

pub json_read : (file : List ℕ) (held : Option Files) (r : Result (List ℕ) Stop) → IfOk r (IsWhole held file 1048576) → IfOk r (λ bytes. IfSome held (λ files. json_in file files ≡ Ok bytes))
json_read file held (Ok bytes) whole = whole_json held file bytes whole
json_read file held (Err why) whole = tt

missing_json : (held : Option Files) (file : List ℕ) → Lacks held file → IfSome (option_map (json_in file) held) (λ r. r ≡ Err (NoInput file))
missing_json None file lacks = tt
missing_json (Some files) file lacks = ap (json_bytes file) lacks

long_json : (held : Option Files) (file : List ℕ) → IsTooLong held file 1048576 → IfSome (option_map (json_in file) held) (λ r. r ≡ Err (TooLarge JsonBytes text_limit))
long_json None file lengths = tt
long_json (Some files) file (told, got, lt) = ap (json_bytes file) got ∙ past file told lt

json_stop : (file : List ℕ) (held : Option Files) (F : Type 0) (why : Stop) → StopsRead file JsonBytes 1048576 held F why → StopsBy (option_map (json_in file) held) F why
json_stop file held F (Refused line) (inl (is, lacks)) = subst (λ l. StopsBy (option_map (json_in file) held) F (Refused l)) (sym is) (refl, missing_json held file lacks)
json_stop file held F (Refused line) (inr (is, lengths)) = subst (λ l. StopsBy (option_map (json_in file) held) F (Refused l)) (sym is) (refl, long_json held file lengths)
json_stop file held F (Fault Read) by = by
json_stop file held F (Fault Write) by = by
json_stop file held F (Fault Memory) by = by

pub json_stopped : (file : List ℕ) (held : Option Files) (F : Type 0) (r : Result (List ℕ) Stop) → IfErr r (StopsRead file JsonBytes 1048576 held F) → IfErr r (StopsBy (option_map (json_in file) held) F)
json_stopped file held F (Ok bytes) by = tt
json_stopped file held F (Err why) by = json_stop file held F why by

-- ---- both texts

pub no_schema : (held : Option Files) (schema settings : List ℕ) (F : Type 0) (stop : Stop) → StopsBy (option_map (schema_in schema) held) F stop → StopsBy (option_map (new_table schema settings) held) F stop
unfolding new_table
no_schema held schema settings F stop by =
    moved held (schema_in schema) (new_table schema settings) F stop
    (λ line. each held (λ files. schema_in schema files ≡ Err line → new_table schema settings files ≡ Err line) (λ files e. ap (with_settings settings files) e)) by

then_settings : (held : Option Files) (schema settings text : List ℕ) (fields : Schema) (line : Note) → IfSome held (λ files. schema_in schema files ≡ Ok (text, fields))
    → IfSome held (λ files. settings_in fields settings files ≡ Err line → new_table schema settings files ≡ Err line)
unfolding new_table
then_settings None schema settings text fields line read = tt
then_settings (Some files) schema settings text fields line read = λ e. ap (with_settings settings files) read ∙ ap (table_of text fields) e

pub no_settings : (held : Option Files) (schema settings text : List ℕ) (fields : Schema) (F : Type 0) (stop : Stop) → IfSome held (λ files. schema_in schema files ≡ Ok (text, fields))
    → StopsBy (option_map (settings_in fields settings) held) F stop → StopsBy (option_map (new_table schema settings) held) F stop
no_settings held schema settings text fields F stop read by =
    moved held (settings_in fields settings) (new_table schema settings) F stop (λ line. then_settings held schema settings text fields line read) by

pub both_read : (held : Option Files) (schema settings text more : List ℕ) (fields : Schema) (set : Settings) → IfSome held (λ files. schema_in schema files ≡ Ok (text, fields))
    → IfSome held (λ files. settings_in fields settings files ≡ Ok (more, set))
    → IfSome held (λ files. new_table schema settings files ≡ Ok (record { schema = text; settings = more }, record { schema = fields; settings = set }))
unfolding new_table
both_read None schema settings text more fields set first second = tt
both_read (Some files) schema settings text more fields set first second = ap (with_settings settings files) first ∙ ap (table_of text fields) second

-- a stop that is handed on
pub handed_on : {A B : Type 0} (r : Result A Stop) (stop : Stop) (found : Option (Result B Note)) (F : Type 0) → IsErrAnd r (λ s. s ≡ stop) → StopsBy found F stop → IfErr r (StopsBy found F)
handed_on (Ok x) stop found F is by = absurd is
handed_on (Err s) stop found F is by = subst (StopsBy found F) (sym is) by

-- a read that failed did so in a longer stretch too
pub failed_later : {A : Type 0} (found : Option (Result A Note)) (F G : Type 0) (stop : Stop) → (F → G) → StopsBy found F stop → StopsBy found G stop
failed_later found F G (Refused line) f by = by
failed_later found F G (Fault Read) f by = f by
failed_later found F G (Fault Write) f by = by
failed_later found F G (Fault Memory) f by = by
