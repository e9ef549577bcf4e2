-- What `dump` prints of a segment is built to the same file.
use Rattle.std.proofs.Common.{◌≡◌, ◌∙◌, ℕ, false, true, List, length, Some, Result, Ok, Err, sym, ap}
use Rattle.std.specs.Prelude.{if◌then◌else◌, nat_lt}
use Rattle.std.proofs.lemmas.Bool.{le-ltb}
use Rattle.values.specs.declared.value.Value.{Value}
use Rattle.table_schema.specs.declared.table.Table.{Table}
use Rattle.csv_row.specs.Row.{csv_limits}
use Rattle.csv_ingest.specs.Rows.{records_of, rows_in}
use Rattle.csv_text.proofs.ReadBack.{reads_back}
use Rattle.segment_build.specs.Growing.{trees_fit}
use Rattle.segment_build.proofs.FitTests.{fit_tested}
use Rattle.command_words.specs.declared.note.Counted.TheVariants as counted
use Rattle.command_words.specs.declared.note.Note.{Note}
use Rattle.command_words.specs.declared.note.Note.TheVariants as note
use Rattle.command_model.specs.Build.{csv_rows, fitting, noted}
use Rattle.command_model.specs.DumpBuild.{DumpBuild}
use Rattle.command_model.specs.Look.{dumped_text}
use Rattle.command_model.specs.Profile.{csv_limit, tree_limit}

-- the rows of a text within the limit
text_rows : (table : Table) (file text : List ℕ) (rows : List (List Value)) → nat_lt csv_limit (length text) ≡ false → rows_in csv_limits table.schema.fields (records_of text) ≡ Ok rows → csv_rows table.schema.fields file (Some text) ≡ Ok rows
unfolding csv_rows
text_rows table file text rows within read =
    ap (λ b. if b then Err (note.TooLarge counted.CsvBytes csv_limit) else noted (rows_in csv_limits table.schema.fields (records_of text))) within
    ∙ ap noted read

-- rows whose trees fit
rows_fit : (table : Table) (rows : List (List Value)) → trees_fit table rows ≡ true → fitting table (Ok rows) ≡ Ok rows
unfolding fitting
rows_fit table rows fit = ap (λ b. if b then Ok rows else Err (note.TooLarge counted.TreeBytes tree_limit)) fit

pub dump_build : DumpBuild
dump_build table name file bytes rows valid is kept le =
    let text : List ℕ = dumped_text table rows in
    let read = reads_back table.schema rows valid.schema is.can.fit is.can.unicode kept in
    let found = text_rows table file text rows (le-ltb csv_limit (length text) le) read in
    (ap (fitting table) found ∙ rows_fit table rows ((fit_tested table rows).1 is.can.trees), sym is.image_is)
