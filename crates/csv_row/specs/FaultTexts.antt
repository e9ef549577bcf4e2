-- The names of what is wrong with a CSV text, as note lines have them.
use Rattle.std.specs.Prelude.{ℕ, List, codes}
use Rattle.csv_row.specs.declared.fault.CsvKind.{CsvKind}
use Rattle.csv_row.specs.declared.fault.CsvKind.TheVariants as kind

-- the name of what is wrong with a CSV text
abbrev pub kind_text : CsvKind → List ℕ
kind_text kind.NoHeader = codes "NoHeader"
kind_text kind.NotUtf8 = codes "NotUtf8"
kind_text kind.BadHeader = codes "BadHeader"
kind_text kind.DuplicateHeader = codes "DuplicateHeader"
kind_text kind.WrongLength = codes "WrongLength"
kind_text kind.NotANumber = codes "NotANumber"
kind_text kind.OutOfRange = codes "OutOfRange"
kind_text kind.TooLong = codes "TooLong"
