-- The table and the rows that the program generates, and what is said of them.
use Rattle.std.specs.Prelude.{ℕ, zero, suc, pos, ◌+◌, ◌-◌, ◌*◌, ◌/◌, ◌%◌, ℤ, neg_ℤ, Bool, false, not, ◌&&◌, ◌==◌, nat_lt, List, [], ◌∷◌, ◌++◌, codes, get_or, if◌then◌else◌, Option, Some, None, Result, Ok, Err}
use Rattle.std.specs.Fmt.{decimal}
use Rattle.values.specs.Columns.{is_text}
use Rattle.values.specs.declared.value.Value.{Value}
use Rattle.values.specs.declared.value.Value.TheVariants as value
use Rattle.table_schema.specs.ValidTable.{most_rows}
use Rattle.table_schema.specs.declared.field.Field.{Field}
use Rattle.command_words.specs.Command.{Ask, Build, Command, Create, GeneratedRows, GeneratedTexts}
use Rattle.command_words.specs.declared.about.About.TheVariants.{RowsAndPlans}
use Rattle.command_words.specs.declared.note.Counted.TheVariants.{Rows}
use Rattle.command_words.specs.declared.note.Note.{Note}
use Rattle.command_words.specs.declared.note.Note.TheVariants.{BadCsv, TooLarge}
use Rattle.csv_row.specs.declared.fault.CsvKind.TheVariants.{WrongLength}

-- ---- the table

-- the text of its schema
unfoldable pub generated_schema : List ℕ
generated_schema = codes "{\"schemaName\":\"gen\",\"dimensionFieldSpecs\":["
    ++ codes "{\"name\":\"a\",\"dataType\":\"STRING\"},"
    ++ codes "{\"name\":\"b\",\"dataType\":\"LONG\"},"
    ++ codes "{\"name\":\"c\",\"dataType\":\"LONG\"}],"
    ++ codes "\"metricFieldSpecs\":[{\"name\":\"m\",\"dataType\":\"LONG\"}]}"

-- and that of its settings: one star-tree over all three dimensions
unfoldable pub generated_settings : List ℕ
generated_settings = codes "{\"tableName\":\"gen\",\"tableType\":\"OFFLINE\","
    ++ codes "\"tableIndexConfig\":{\"starTreeIndexConfigs\":[{"
    ++ codes "\"dimensionsSplitOrder\":[\"a\",\"b\",\"c\"],"
    ++ codes "\"functionColumnPairs\":[\"COUNT__*\",\"SUM__m\"],\"maxLeafRecords\":100}]}}"

-- the most rows that are generated: those that a segment of four fields may have
abbrev pub most_generated : ℕ
most_generated = most_rows 4

-- ---- the rows

-- a number less 500
abbrev pub less_half : ℕ → ℤ
less_half number = if nat_lt number 500 then neg_ℤ (pos (500 - number)) else pos (number - 500)

-- one of them, from 0
abbrev pub generated_row : ℕ → List Value
generated_row i = value.Text (97 ∷ (48 + i % 7) ∷ []) ∷ value.Whole (pos (i * i % 11))
    ∷ value.Whole (pos (i / 3 % 50)) ∷ value.Whole (less_half (31 * i % 1000)) ∷ []

-- so many of them
abbrev pub generated_rows : ℕ → List (List Value)
generated_rows zero = []
generated_rows (suc n) = generated_rows n ++ generated_row n ∷ []

-- whether a field is one of numbers, as its default tells
abbrev pub has_numbers : Field → Bool
has_numbers field = not (is_text field.default)

-- whether the rows are of these fields: one of texts, and three of numbers
abbrev pub are_generated : List Field → Bool
are_generated (a ∷ b ∷ c ∷ m ∷ []) = is_text a.default && has_numbers b && has_numbers c
    && has_numbers m
are_generated fields = false

-- so many rows of these fields, where they are of them and no more than there may be
abbrev pub rows_generated : List Field → ℕ → Result (List (List Value)) Note
rows_generated fields rows =
    if are_generated fields then
    (if nat_lt most_generated rows then Err (TooLarge Rows most_generated)
    else Ok (generated_rows rows)) else Err (BadCsv WrongLength 0 0)

-- ---- the commands

-- the name of the segment
abbrev pub generated_name : List ℕ
generated_name = codes "g1"

-- the query of it, which its star-tree answers, and the same without a star-tree
unfoldable pub tree_query : List ℕ
tree_query = codes "SELECT a, COUNT(*), SUM(m) FROM gen "
    ++ codes "WHERE c < 10 GROUP BY a ORDER BY a LIMIT 100"

unfoldable pub scan_query : List ℕ
scan_query = codes "SET useStarTree = false; " ++ tree_query

-- what is done for so many rows: the table is made, then its segment, and then it is asked twice
abbrev pub generate_commands : ℕ → List (Option Command)
generate_commands rows = Some (Create (GeneratedTexts rows))
    ∷ Some (Build generated_name (GeneratedRows rows)) ∷ Some (Ask RowsAndPlans tree_query)
    ∷ Some (Ask RowsAndPlans scan_query) ∷ []

-- ---- what is printed

-- how many lines end in a text
abbrev pub line_ends : List ℕ → ℕ
line_ends [] = 0
line_ends (byte ∷ bytes) = line_ends bytes + (if byte == 10 then 1 else 0)

-- what is kept of a text's last cell so far, with one byte more
abbrev pub cell_with : List ℕ → ℕ → List ℕ
cell_with cell byte = if byte == 44 then [] else if byte == 10 then cell else cell ++ byte ∷ []

-- what comes after the last comma of a text, without line ends
abbrev pub last_cell : List ℕ → List ℕ → List ℕ
last_cell cell [] = cell
last_cell cell (byte ∷ bytes) = last_cell (cell_with cell byte) bytes

-- what is printed of so many rows, by the reply of the first `stats`, which has besides its groups
-- a header, an empty line and the line of the segment, and by the documents in the lines of both
abbrev pub generated_line : ℕ → List ℕ → List ℕ → List ℕ
generated_line rows tree scan = codes "rows " ++ decimal rows ++ codes ", groups "
    ++ decimal (line_ends tree - 3) ++ codes ", tree " ++ last_cell [] tree ++ codes ", scan "
    ++ last_cell [] scan ++ codes "\n"

-- the same by the replies of all commands
abbrev pub generated_text : ℕ → List (List ℕ) → List ℕ
generated_text rows texts = generated_line rows (get_or texts 2 []) (get_or texts 3 [])
