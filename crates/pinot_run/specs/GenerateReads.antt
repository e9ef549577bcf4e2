-- What `generate` reads of its segment, and the numbers that it prints of this.
use Rattle.std.specs.Prelude.{◌≡◌, ◌≤◌, ◌+◌, ◌*◌, ◌++◌, ℕ, List, Some, codes, length, slice_get}
use Rattle.std.specs.FinMap as tree
use Rattle.std.specs.Fmt.{decimal}
use Rattle.outside.specs.Files.{Files}
use Rattle.outside.specs.Reads.{Entry}
use Rattle.outside.specs.Sink.{appended}
use Rattle.values.specs.declared.value.Value.{Value}
use Rattle.table_schema.specs.declared.settings.TreeSetting.{TreeSetting}
use Rattle.table_schema.specs.declared.table.Table.{Table}
use Rattle.segment_file.specs.Image.{section_of}
use Rattle.segment_file.specs.declared.part.Part.TheVariants.{Forward}
use Rattle.star_file.specs.Reading.{doc_width}
use Rattle.segment_head.specs.Stored.{live}
use Rattle.segment_reads.specs.Reads.{Grown, bytes_read, column_span, star_span}
use Rattle.table_store.specs.Accepted.{IsAccepted}
use Rattle.table_store.specs.Stands.{Stands}
use Rattle.table_store.specs.State.{HasTable, Segment, Segments, State, Texts}
use Rattle.command_words.specs.Command.{Ask}
use Rattle.command_words.specs.declared.about.About.TheVariants.{RowsAndPlans}
use Rattle.command_words.specs.declared.status.Status.TheVariants as status
use Rattle.command_model.specs.Generated.{generated_name, generated_rows, generated_schema, generated_settings, scan_query, tree_query}
use Rattle.command_model.specs.Through.{generate_step}
use Rattle.command_model.specs.World.{World}
use Rattle.pinot_run.specs.Generate.{Generates}
use Rattle.pinot_run.specs.Promise.{Promise}
use Rattle.pinot_run.specs.ScriptReads.{docs_of}

-- how many bytes the documents take that a query is to read of a star-tree of the segment
abbrev pub tree_bytes : Table → List (List Value) → ℕ → TreeSetting → List ℕ → ℕ
tree_bytes table rows n setting sql =
    docs_of table rows n (Some (Ask RowsAndPlans sql)) * doc_width setting.shape

-- of each star-tree of the segment just the documents were read that the two queries are to read
abbrev pub TreesRead : Table → List (List Value) → List Entry → Type 0
TreesRead table rows entries = (n : ℕ) (setting : TreeSetting)
    → slice_get table.settings.trees n ≡ Some setting
    → bytes_read entries (live generated_name) (star_span table generated_name rows n)
    ≡ tree_bytes table rows n setting tree_query + tree_bytes table rows n setting scan_query

-- so it is of the segment that is left, where rows were generated over a store that stands for a
-- state, and all was done
abbrev pub GenerateReads : Type 0
GenerateReads = (rows : ℕ) (files kept : Files) (state : State) (texts : Texts)
    (segments : Segments) (table : Table) (segment : Segment) (old new : World)
    → old.devices.inputs.held ≡ Some files → old.devices.depot.held ≡ Some kept
    → Stands kept state → Generates Promise rows old status.Done new
    → (generate_step state rows files).state ≡ HasTable texts segments
    → IsAccepted texts table → tree.get segments generated_name ≡ Some segment
    → Grown (TreesRead table segment.rows) old.devices.depot.log new.devices.depot.log

-- ---- the numbers that are printed

-- the texts of the program's own table
abbrev pub own_texts : Texts
own_texts = record { schema = generated_schema; settings = generated_settings }

-- the number of its column c, by which both queries filter
abbrev pub filtered : ℕ
filtered = 2

-- the line for so many rows, with these numbers of groups, and of documents that were looked at of
-- the star-tree and by the scan
abbrev pub numbers_line : ℕ → ℕ → ℕ → ℕ → List ℕ
numbers_line rows groups docs scanned = codes "rows " ++ decimal rows ++ codes ", groups "
    ++ decimal groups ++ codes ", tree " ++ decimal docs ++ codes ", scan " ++ decimal scanned
    ++ codes "\n"

-- of the star-tree of so many generated rows just so many documents were read, and of the forward
-- index of column c all bytes
pub record DocsRead (rows : ℕ) (table : Table) (docs : ℕ) (entries : List Entry) : Type 0 where
  pub setting : TreeSetting
  pub first : slice_get table.settings.trees 0 ≡ Some setting
  pub tree : bytes_read entries (live generated_name)
      (star_span table generated_name (generated_rows rows) 0) ≡ docs * doc_width setting.shape
  pub scan : length (section_of table (generated_rows rows) (Forward filtered))
      ≤ bytes_read entries (live generated_name)
      (column_span table generated_name (generated_rows rows) filtered)

-- the line was printed: of the star-tree it has the number of documents that were read, and of the
-- scan that of the rows, of which column c was read whole
pub record PrintsRead (rows : ℕ) (table : Table) (old new : World) : Type 0 where
  pub groups : ℕ
  pub docs : ℕ
  pub printed : new.out.written ≡ appended (numbers_line rows groups docs rows) old.out.written
  pub read : Grown (DocsRead rows table docs) old.devices.depot.log new.devices.depot.log

-- so it is of the program's own table, where rows were generated over a store that stands for a
-- state, and all was done
abbrev pub GeneratePrints : Type 0
GeneratePrints = (rows : ℕ) (files kept : Files) (state : State) (old new : World)
    → old.devices.inputs.held ≡ Some files → old.devices.depot.held ≡ Some kept
    → Stands kept state → Generates Promise rows old status.Done new
    → (table : Table) × IsAccepted own_texts table × PrintsRead rows table old new
