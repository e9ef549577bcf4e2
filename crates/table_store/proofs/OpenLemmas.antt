-- What a file is told of where one of its texts is refused.
use Rattle.std.proofs.Common.{◌≡◌, ◌≢◌, ◌∙◌, ℕ, List, Option, Some, None, Result, Ok, Err, IfErr, sym, subst}
use Rattle.outside.specs.Files.{Files, OfFile}
use Rattle.outside.specs.Whole.{IsWhole}
use Rattle.schema_json.specs.Schemas.{schema_read}
use Rattle.settings_json.specs.TableTexts.{settings_read}
use Rattle.json_keys.specs.declared.fault.TextFault.{TextFault}
use Rattle.json_keys.specs.declared.fault.TextFault.TheVariants as text
use Rattle.table_schema.specs.declared.field.Schema.{Schema}
use Rattle.table_schema.specs.declared.table.Table as read
use Rattle.table_store.specs.State.{Texts}
use Rattle.table_store.specs.Accepted.{IsAccepted, IsNoTableFile, IsTableFile}
use Rattle.table_store.specs.TableFile.{FitsTable, table_file}
use Rattle.segment_file.specs.declared.part.Part.TheVariants as part
use Rattle.table_store.specs.declared.fault.StoreFault.{StoreFault}
use Rattle.table_store.specs.declared.fault.StoreFault.TheVariants.{NoMemory, NotASegment}
use Rattle.table_store.proofs.TableFileLemmas.{same_table}

pub both_read : {A : Type 0} (r : Result A TextFault) (a b : A) → r ≡ Ok a → r ≡ Ok b → a ≡ b
both_read r a b x y = cc

refused_and_read : {A B : Type 0} (r : Result A TextFault) (a : A) (fault : TextFault) → r ≡ Err fault → r ≡ Ok a → B
refused_and_read r a fault x y = cc

-- the texts of a file are those that it is spelled of
same_texts : (file : List ℕ) (texts : Texts) (table : read.Table) → FitsTable texts → file ≡ table_file texts → (is : IsTableFile file table) → texts ≡ is.texts
same_texts file texts table fits spelled is = same_table texts is.texts fits is.accepted.fits (sym spelled ∙ is.spelled)

accepted_texts : (file : List ℕ) (texts : Texts) (table : read.Table) → FitsTable texts → file ≡ table_file texts → IsTableFile file table → IsAccepted texts table
accepted_texts file texts table fits spelled is = subst (λ t. IsAccepted t table) (sym (same_texts file texts table fits spelled is)) is.accepted

no_schema : (file : List ℕ) (texts : Texts) (fault : TextFault) → FitsTable texts → file ≡ table_file texts → schema_read texts.schema ≡ Err fault → IsNoTableFile file
no_schema file texts fault fits spelled refused = λ table is.
    refused_and_read (schema_read texts.schema) table.schema fault refused (accepted_texts file texts table fits spelled is).schema

no_settings : (file : List ℕ) (texts : Texts) (schema : Schema) (fault : TextFault) → FitsTable texts → file ≡ table_file texts → schema_read texts.schema ≡ Ok schema
    → settings_read schema.fields texts.settings ≡ Err fault → IsNoTableFile file
no_settings file texts schema fault fits spelled accepted refused = λ table is.
    let all = accepted_texts file texts table fits spelled is in
    let same : schema ≡ table.schema = both_read (schema_read texts.schema) schema table.schema accepted all.schema in
    refused_and_read (settings_read schema.fields texts.settings) table.settings fault refused (subst (λ s. settings_read s.fields texts.settings ≡ Ok table.settings) (sym same) all.settings)

-- a text was refused for what it is, where memory did not run out
for_its_text : (fault : TextFault) (store : StoreFault) → (fault ≡ text.NoMemory → store ≡ NoMemory) → store ≢ NoMemory → fault ≢ text.NoMemory
for_its_text fault store memory other same = other (memory same)

pub schema_refused : (file : List ℕ) (texts : Texts) (fault : TextFault) (store : StoreFault) → FitsTable texts → file ≡ table_file texts
    → (fault ≢ text.NoMemory → schema_read texts.schema ≡ Err fault) → (fault ≢ text.NoMemory → store ≡ NotASegment part.Table) → (fault ≡ text.NoMemory → store ≡ NoMemory)
    → store ≢ NoMemory → (store ≡ NotASegment part.Table) × IsNoTableFile file
schema_refused file texts fault store fits spelled refused other memory free =
    let cause = for_its_text fault store memory free in
    (other cause, no_schema file texts fault fits spelled (refused cause))

pub settings_refused : (file : List ℕ) (texts : Texts) (schema : Schema) (fault : TextFault) (store : StoreFault) → FitsTable texts → file ≡ table_file texts → schema_read texts.schema ≡ Ok schema
    → (fault ≢ text.NoMemory → settings_read schema.fields texts.settings ≡ Err fault) → (fault ≢ text.NoMemory → store ≡ NotASegment part.Table) → (fault ≡ text.NoMemory → store ≡ NoMemory)
    → store ≢ NoMemory → (store ≡ NotASegment part.Table) × IsNoTableFile file
settings_refused file texts schema fault store fits spelled accepted refused other memory free =
    let cause = for_its_text fault store memory free in
    (other cause, no_settings file texts schema fault fits spelled accepted (refused cause))

-- what holds of the bytes that were read holds of the file
pub of_whole : (held : Option Files) (name bytes : List ℕ) (limit : ℕ) (P : List ℕ → Type 0) → IsWhole held name limit bytes → P bytes → OfFile held name P
of_whole None name bytes limit P whole p = tt
of_whole (Some files) name bytes limit P (file, got, (same, le)) p = (file, got, subst P same p)

pub is_no_table : {A : Type 0} (r : Result A StoreFault) (file : List ℕ) → IfErr r (λ fault. fault ≢ NoMemory → (fault ≡ NotASegment part.Table) × IsNoTableFile file)
    → r ≡ Err (NotASegment part.Table) → IsNoTableFile file
is_no_table (Ok x) file refused e = absurd cc
is_no_table (Err fault) file refused e =
    let is : fault ≡ NotASegment part.Table = cc in
    (refused (λ same. let no : NotASegment part.Table ≡ NoMemory = sym is ∙ same in cc)).1
