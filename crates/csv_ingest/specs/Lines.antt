-- Lines in a text, whose cells have no quotes.
use Rattle.std.specs.Prelude.{◌≡◌, ◌<◌, ◌≤◌, ◌+◌, ◌∷◌, ◌⊎◌, ℕ, List, Bool, false, not, nat_lt, ◌==◌, ◌&&◌, length, take, drop, true, get_or}
use Rattle.std.specs.List.{list_all}
use Rattle.csv.specs.Reading.{default_config, records_from}
use Rattle.csv.specs.declared.parser.State.{State}
use Rattle.csv.specs.declared.parser.State.TheVariants as st
use Rattle.values.specs.Columns.{ListedColumns, rows_of}
use Rattle.table_schema.specs.declared.field.Field.{Field}
use Rattle.csv_row.specs.InOrder.{after}
use Rattle.csv_ingest.specs.Blocks.{rows_from}

-- the text does not start with the end of a line
abbrev pub StartsCell : List ℕ → Type 0
StartsCell text = ((get_or text 0 0 == 10) ≡ false) × ((get_or text 0 0 == 13) ≡ false)

-- the text starts with the end of a line
abbrev pub AtLineEnd : List ℕ → Type 0
AtLineEnd text = (rest : List ℕ) × (text ≡ 10 ∷ rest)

-- a comma, a line feed or a carriage return
abbrev pub EndsCell : ℕ → Type 0
EndsCell byte = (byte ≡ 44) ⊎ (byte ≡ 10) ⊎ (byte ≡ 13)

-- a field of this text starts in the state
abbrev pub IsStart : List ℕ → State → Type 0
IsStart text s = ((s ≡ st.StartRecord) × StartsCell text) ⊎ (s ≡ st.StartField)

-- whether a byte of a header stands for itself or is a comma, and is ASCII
abbrev pub is_bare : ℕ → Bool
is_bare byte = nat_lt byte 128 && not (byte == 34) && not (byte == 13) && not (byte == 10)

-- a line ends at this place, and its line feed is at that one
pub record IsFeedAfter (text : List ℕ) (at end : ℕ) : Type 0 where
  pub within : end < length text
  pub line_feed : get_or text end 0 ≡ 10
  pub here : (end ≡ at) ⊎ ((end ≡ at + 1) × (get_or text at 0 ≡ 13))

-- the first line of a text has some bytes and no quotes, and its line feed is at this place
pub record IsHeaderEnd (text : List ℕ) (end : ℕ) : Type 0 where
  pub len : ℕ
  pub some : 0 < len
  pub bare : list_all is_bare (take len text) ≡ true
  pub feed : IsFeedAfter text len end

-- the rows of lines are the first that the records of a text give, of which this much is before the
-- records that are left
pub record AreLines (fields : List Field) (header : List (List ℕ)) (before : ℕ) (text : List ℕ)
    (columns : ListedColumns) (taken : ℕ) : Type 0 where
  pub within : taken ≤ length text
  pub at_end : AtLineEnd text → AtLineEnd (drop taken text)
  pub each : (n : ℕ) → rows_from before fields header (records_from default_config
      (n + columns.count) st.StartRecord text)
      ≡ after (rows_of columns) (rows_from (before + columns.count) fields header
      (records_from default_config n st.StartRecord (drop taken text)))
