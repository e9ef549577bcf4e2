-- The records that a reader of a text has left.
use Rattle.std.specs.Prelude.{◌≡◌, ℕ, List, Option, Some}
use Rattle.std.specs.Borrow.{Bor}
use Rattle.csv.specs.Reading.{Ready, default_config, reader_config, reader_state, reader_trim, records_from, source_of}
use Rattle.csv.specs.declared.reader.Reader.{Reader}
use Rattle.csv.specs.declared.reader.Trim.TheVariants as trim

-- a reader of a text in memory
abbrev pub TextReader : Type 0
TextReader = Reader (Bor (List ℕ))

-- the bytes that a text has
abbrev pub in_memory : Bor (List ℕ) → Option (List ℕ)
in_memory text = Some text.now

-- the reader reads records by the defaults, of any lengths and with no header row of its own, and
-- what it has left is known
pub record Reads (reader : TextReader) (rest : List ℕ) : Type 0 where
  pub trims_nothing : reader_trim reader ≡ trim.None
  pub ready : Ready reader
  pub by_defaults : reader_config reader ≡ default_config
  pub rest_is : source_of in_memory reader ≡ Some rest

-- at most n records that are left
abbrev pub records_left : ℕ → TextReader → List ℕ → List (List (List ℕ))
records_left n reader rest = records_from default_config n (reader_state reader) rest
