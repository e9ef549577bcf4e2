-- The rows of the CSV file of `build`.
use Rattle.std.proofs.Common.{◌≡◌, ◌≢◌, ◌∙◌, ◌≤◌, ◌<◌, inl, inr, ℕ, suc, List, [], ◌∷◌, length, All, nat_lt, Bool, true, false, cond, Option, Some, None, Result, Ok, Err, IfOk, IfSome, IsErrAnd, refl, sym, ap, subst, arith}
use Rattle.std.specs.Prelude.{IfErr, if◌then◌else◌}
use Rattle.std.specs.FinMap as tree
use Rattle.std.specs.List.{AllByRecursion}
use Rattle.std.proofs.lemmas.Bool.Decides.{nat_tests}
use Rattle.std.proofs.lemmas.List.Elements.{All-cons, All-nil}
use Rattle.outside.specs.Files.{Files, Lacks}
use Rattle.outside.specs.Whole.{IsTooLong, IsWhole}
use Rattle.values.specs.declared.value.Value.{Value}
use Rattle.values.specs.declared.value.Value.TheVariants.{Whole, Text}
use Rattle.segment_build.specs.Growing.{trees_fit}
use Rattle.table_schema.specs.declared.field.Field.{Field}
use Rattle.table_schema.specs.declared.table.Table.{Table}
use Rattle.table_store.specs.Images as dictionary
use Rattle.csv_ingest.specs.Blocks.{RowsOrFault}
use Rattle.csv_row.specs.Row.{csv_limits}
use Rattle.csv_ingest.specs.Rows.{records_of, rows_in}
use Rattle.csv_ingest.specs.Unicode.{IsUnicode}
use Rattle.csv_row.specs.declared.fault.CsvFault.{CsvFault}
use Rattle.csv_row.specs.declared.fault.CsvFault.TheVariants as csv
use Rattle.csv_ingest.proofs.FaultLemmas.{any_columns}
use Rattle.csv_ingest.proofs.UnicodeRows.{rows_are_unicode}
use Rattle.csv_row.specs.declared.fault.CsvKind.TheVariants.{WrongLength}
use Rattle.command_words.specs.Command.{CsvFile, GeneratedRows, RowSource}
use Rattle.command_model.specs.Build.{csv_rows, fitting, noted, rows_from, segment_rows}
use Rattle.command_model.specs.Generated.{are_generated, generated_rows, most_generated, rows_generated}
use Rattle.command_model.specs.Gives.{StopsRead, StopsRows, StopsText}
use Rattle.command_words.specs.Notes.{csv_note}
use Rattle.command_model.specs.Profile.{csv_limit, rows_refuse, tree_limit}
use Rattle.command_words.specs.declared.fault.Fault.TheVariants as fault
use Rattle.command_words.specs.declared.note.Counted.TheVariants as counted
use Rattle.command_words.specs.declared.note.Note.{Note}
use Rattle.command_words.specs.declared.note.Note.TheVariants as note
use Rattle.command_words.specs.declared.stop.Stop.{Stop}
use Rattle.command_words.specs.declared.stop.Stop.TheVariants as stop

-- ---- texts are UTF-8

by_recursion : {A : Type 0} (P : A → Type 0) (xs : List A) → All P xs → AllByRecursion P xs
by_recursion P [] all = tt
by_recursion P (x ∷ xs) all = (all 0 x (omega arith), by_recursion P xs (λ k d lt. all (suc k) d (omega (arith, lt))))

value_unicode : (value : Value) → IsUnicode value → dictionary.IsUnicode value
value_unicode (Whole n) is = tt
value_unicode (Text text) is = is

row_unicode : (row : List Value) → AllByRecursion IsUnicode row → All dictionary.IsUnicode row
row_unicode [] all = All-nil dictionary.IsUnicode
row_unicode (value ∷ row) all = All-cons dictionary.IsUnicode value row (value_unicode value all.0) (row_unicode row all.1)

each_unicode : (rows : List (List Value)) → AllByRecursion (AllByRecursion IsUnicode) rows → All (λ row. All dictionary.IsUnicode row) rows
each_unicode [] all = All-nil (λ row. All dictionary.IsUnicode row)
each_unicode (row ∷ rows) all = All-cons (λ r. All dictionary.IsUnicode r) row rows (row_unicode row all.0) (each_unicode rows all.1)

-- the rows of a text, where the defaults are UTF-8
pub rows_unicode : (fields : List Field) (records : List (List (List ℕ))) (rows : List (List Value)) → All (λ field. IsUnicode field.default) fields → rows_in csv_limits fields records ≡ Ok rows
    → All (λ row. All dictionary.IsUnicode row) rows
rows_unicode fields records rows defaults is = each_unicode rows (rows_are_unicode fields records rows (by_recursion (λ field. IsUnicode field.default) fields defaults) is)

-- ---- by what is told of the file

within_limit : (fields : List Field) (file bytes : List ℕ) → length bytes ≤ 134217728 → csv_rows fields file (Some bytes) ≡ noted (rows_in csv_limits fields (records_of bytes))
unfolding csv_rows
within_limit fields file bytes le =
    let test : nat_lt 134217728 (length bytes) ≡ false = grind (arith, nat_tests) in
    rw test refl

past_limit : (fields : List Field) (file bytes : List ℕ) → 134217728 < length bytes → csv_rows fields file (Some bytes) ≡ Err (note.TooLarge counted.CsvBytes csv_limit)
unfolding csv_rows
past_limit fields file bytes lt =
    let test : nat_lt 134217728 (length bytes) ≡ true = grind (arith, nat_tests) in
    rw test refl

not_there : (fields : List Field) (file : List ℕ) → csv_rows fields file None ≡ Err (note.NoInput file)
unfolding csv_rows
not_there fields file = refl

abbrev AreOf : List Field → List ℕ → Result (List (List Value)) Note → Files → Type 0
AreOf fields file rows files = csv_rows fields file (tree.get files file) ≡ rows

of_whole : (held : Option Files) (fields : List Field) (file bytes : List ℕ) → IsWhole held file 134217728 bytes → IfSome held (AreOf fields file (noted (rows_in csv_limits fields (records_of bytes))))
of_whole None fields file bytes whole = tt
of_whole (Some files) fields file bytes (told, got, (same, le)) =
    ap (csv_rows fields file) (got ∙ ap Some (sym same)) ∙ within_limit fields file bytes (subst (λ bs. length bs ≤ 134217728) (sym same) le)

-- the rows of the file, where they were read
pub rows_read : (held : Option Files) (fields : List Field) (file bytes : List ℕ) (rows : List (List Value)) → IsWhole held file 134217728 bytes → rows_in csv_limits fields (records_of bytes) ≡ Ok rows → IfSome held (AreOf fields file (Ok rows))
rows_read held fields file bytes rows whole is = subst (λ r. IfSome held (AreOf fields file (noted r))) is (of_whole held fields file bytes whole)

of_missing : (held : Option Files) (fields : List Field) (file : List ℕ) → Lacks held file → IfSome held (AreOf fields file (Err (note.NoInput file)))
of_missing None fields file lacks = tt
of_missing (Some files) fields file lacks = ap (csv_rows fields file) lacks ∙ not_there fields file

of_long : (held : Option Files) (fields : List Field) (file : List ℕ) → IsTooLong held file 134217728 → IfSome held (AreOf fields file (Err (note.TooLarge counted.CsvBytes csv_limit)))
of_long None fields file lengths = tt
of_long (Some files) fields file (told, got, lt) = ap (csv_rows fields file) got ∙ past_limit fields file told lt

-- the file was not read
pub rows_unread : (held : Option Files) (fields : List Field) (file : List ℕ) (F : Type 0) (why : Stop) → StopsRead file counted.CsvBytes csv_limit held F why → StopsRows fields file held F why
rows_unread held fields file F (stop.Refused line) (inl (is, lacks)) = subst (λ l. StopsRows fields file held F (stop.Refused l)) (sym is) (refl, of_missing held fields file lacks)
rows_unread held fields file F (stop.Refused line) (inr (is, lengths)) = subst (λ l. StopsRows fields file held F (stop.Refused l)) (sym is) (refl, of_long held fields file lengths)
rows_unread held fields file F (stop.Fault fault.Read) by = by
rows_unread held fields file F (stop.Fault fault.Write) by = by
rows_unread held fields file F (stop.Fault fault.Memory) by = by

-- over a schema a text is refused by a fault in a record, or by its rows
refused_so : (fields : List Field) (records : List (List (List ℕ))) (wrong : CsvFault) → rows_in csv_limits fields records ≡ Err wrong → rows_refuse (csv_note wrong) ≡ true
refused_so fields records (csv.At kind row column) is = refl
refused_so fields records (csv.TooManyRows most) is = refl
refused_so fields records csv.TooManyColumns is = absurd (any_columns fields records csv.TooManyColumns is refl)
refused_so fields records csv.NoMemory is = refl

-- the text has no rows
pub rows_refused : (held : Option Files) (fields : List Field) (file bytes : List ℕ) (F : Type 0) (why : Stop) → IsWhole held file 134217728 bytes → StopsText (rows_in csv_limits fields (records_of bytes)) why → StopsRows fields file held F why
rows_refused held fields file bytes F (stop.Refused line) whole (wrong, is, line_is) =
    subst (λ l. StopsRows fields file held F (stop.Refused l)) (sym line_is)
    (refused_so fields (records_of bytes) wrong is, subst (λ r. IfSome held (AreOf fields file (noted r))) is (of_whole held fields file bytes whole))
rows_refused held fields file bytes F (stop.Fault why) whole memory = subst (λ w. StopsRows fields file held F (stop.Fault w)) (sym memory) tt

-- a refusal of a file that is not there is of the one that is named
noted_missing : (r : Result (List (List Value)) CsvFault) (file : List ℕ) → noted r ≡ Err (note.NoInput file) → ⊥
noted_missing (Ok rows) file e = cc
noted_missing (Err (csv.At kind row column)) file e = cc
noted_missing (Err (csv.TooManyRows most)) file e = cc
noted_missing (Err csv.TooManyColumns) file e = cc
noted_missing (Err csv.NoMemory) file e = cc

long_missing : (t : Bool) (rows : Result (List (List Value)) Note) (file : List ℕ) → (rows ≡ Err (note.NoInput file) → ⊥) → (cond t (Err (note.TooLarge counted.CsvBytes csv_limit)) rows) ≡ Err (note.NoInput file) → ⊥
long_missing true rows file other e = cc
long_missing false rows file other e = other e

missing_of : (fields : List Field) (named file : List ℕ) (files : Files) (o : Option (List ℕ)) → tree.get files named ≡ o → csv_rows fields named o ≡ Err (note.NoInput file) → tree.get files file ≡ None
unfolding csv_rows
missing_of fields named file files None got e = let same : named ≡ file = cc in subst (λ n. tree.get files n ≡ None) same got
missing_of fields named file files (Some bytes) got e =
    absurd (long_missing (nat_lt 134217728 (length bytes)) (noted (rows_in csv_limits fields (records_of bytes))) file (noted_missing (rows_in csv_limits fields (records_of bytes)) file) e)

pub rows_missing : (fields : List Field) (named file : List ℕ) (files : Files) → csv_rows fields named (tree.get files named) ≡ Err (note.NoInput file) → tree.get files file ≡ None
rows_missing fields named file files e = missing_of fields named file files (tree.get files named) refl e

-- ---- the trees of rows

-- what has no rows has none of which the trees are few
pub fitting_none : (table : Table) (found : Result (List (List Value)) Note) (line : Note) → found ≡ Err line → fitting table found ≡ Err line
unfolding fitting
fitting_none table found line is = ap (fitting table) is

pub fitting_all : (table : Table) (found : Result (List (List Value)) Note) (rows : List (List Value)) → found ≡ Ok rows → trees_fit table rows ≡ true → fitting table found ≡ Ok rows
unfolding fitting
fitting_all table found rows is fit = ap (fitting table) is ∙ rw fit refl

pub fitting_large : (table : Table) (found : Result (List (List Value)) Note) (rows : List (List Value)) → found ≡ Ok rows → trees_fit table rows ≡ false
    → fitting table found ≡ Err (note.TooLarge counted.TreeBytes tree_limit)
unfolding fitting
fitting_large table found rows is large = ap (fitting table) is ∙ rw large refl

large_missing : (t : Bool) (rows : List (List Value)) (file : List ℕ) → cond t (Ok rows) (Err (note.TooLarge counted.TreeBytes tree_limit)) ≡ Err (note.NoInput file) → ⊥
large_missing true rows file e = cc
large_missing false rows file e = cc

fitting_missing : (table : Table) (found : Result (List (List Value)) Note) (file : List ℕ) → fitting table found ≡ Err (note.NoInput file) → found ≡ Err (note.NoInput file)
unfolding fitting
fitting_missing table (Ok rows) file e = absurd (large_missing (trees_fit table rows) rows file e)
fitting_missing table (Err line) file e = e

pub segment_missing : (table : Table) (named file : List ℕ) (files : Files) → segment_rows table named (tree.get files named) ≡ Err (note.NoInput file) → tree.get files file ≡ None
segment_missing table named file files e =
    rows_missing table.schema.fields named file files (fitting_missing table (csv_rows table.schema.fields named (tree.get files named)) file e)

-- rows that are generated are refused for no file
none_missing : (of_them many : Bool) (rows : List (List Value)) (file : List ℕ) → (if of_them then (if many then Err (note.TooLarge counted.Rows most_generated) else Ok rows) else Err (note.BadCsv WrongLength 0 0)) ≡ Err (note.NoInput file) → ⊥
none_missing true true rows file e = cc
none_missing true false rows file e = cc
none_missing false many rows file e = cc

pub source_missing : (table : Table) (source : RowSource) (file : List ℕ) (files : Files) → rows_from table source files ≡ Err (note.NoInput file) → tree.get files file ≡ None
source_missing table (CsvFile csv) file files e = segment_missing table csv file files e
source_missing table (GeneratedRows rows) file files e =
    absurd (none_missing (are_generated table.schema.fields) (nat_lt most_generated rows) (generated_rows rows) file (fitting_missing table (rows_generated table.schema.fields rows) file e))

-- ---- results

pub read_ok : {A : Type 0} (rows : A → List (List Value)) (held : Option Files) (fields : List Field) (file bytes : List ℕ) (r : Result A Stop) → IsWhole held file 134217728 bytes
    → IfOk r (λ a. rows_in csv_limits fields (records_of bytes) ≡ Ok (rows a)) → IfOk r (λ a. IfSome held (λ files. csv_rows fields file (tree.get files file) ≡ Ok (rows a)))
read_ok rows held fields file bytes (Ok a) whole is = rows_read held fields file bytes (rows a) whole is
read_ok rows held fields file bytes (Err why) whole is = tt

pub read_err : {A : Type 0} (held : Option Files) (fields : List Field) (file bytes : List ℕ) (F : Type 0) (r : Result A Stop) → IsWhole held file 134217728 bytes
    → IfErr r (StopsText (rows_in csv_limits fields (records_of bytes))) → IfErr r (StopsRows fields file held F)
read_err held fields file bytes F (Ok a) whole by = tt
read_err held fields file bytes F (Err why) whole by = rows_refused held fields file bytes F why whole by

pub handed_rows : {A : Type 0} (held : Option Files) (fields : List Field) (file : List ℕ) (F : Type 0) (r : Result A Stop) (why : Stop) → IsErrAnd r (λ s. s ≡ why) → StopsRows fields file held F why → IfErr r (StopsRows fields file held F)
handed_rows held fields file F (Ok a) why is by = absurd is
handed_rows held fields file F (Err s) why is by = subst (StopsRows fields file held F) (sym is) by

-- a fault of the text, or want of memory
pub stops-by : (whole : RowsOrFault) (wrong : CsvFault) (why : Stop) → (wrong ≢ csv.NoMemory → why ≡ stop.Refused (csv_note wrong)) → (wrong ≡ csv.NoMemory → why ≡ stop.Fault fault.Memory)
    → (wrong ≢ csv.NoMemory → whole ≡ Err wrong) → StopsText whole why
stops-by whole (csv.At kind row column) why refused memory is = subst (StopsText whole) (sym (refused (λ e. cc))) (csv.At kind row column, is (λ e. cc), refl)
stops-by whole (csv.TooManyRows most) why refused memory is = subst (StopsText whole) (sym (refused (λ e. cc))) (csv.TooManyRows most, is (λ e. cc), refl)
stops-by whole csv.TooManyColumns why refused memory is = subst (StopsText whole) (sym (refused (λ e. cc))) (csv.TooManyColumns, is (λ e. cc), refl)
stops-by whole csv.NoMemory why refused memory is = subst (StopsText whole) (sym (memory refl)) refl
