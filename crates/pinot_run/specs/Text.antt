-- The lines of a script, and the words of a line.
use Rattle.std.specs.Prelude.{ℕ, Bool, List, Option, ◌==◌, filter, length, nat_lt}
use Rattle.std.specs.List.{slice_split}
use Rattle.std.specs.Str.Lines.{lines}
use Rattle.command_words.specs.Command.{Command, Request, command_of, request_of}

-- whether a line has any byte
abbrev pub has_bytes : List ℕ → Bool
has_bytes line = nat_lt 0 (length line)

-- the lines of a text that are not empty: each ends in LF or CR LF, which the last may lack
abbrev pub lines_of : List ℕ → List (List ℕ)
lines_of text = filter has_bytes (lines text)

-- the words of a line, which tabs part
abbrev pub words_of : List ℕ → List (List ℕ)
words_of line = slice_split (λ b. b == 9) line

-- what a line asks for
abbrev pub line_request : List ℕ → Request
line_request line = request_of (words_of line)

-- the command that a line spells, if it spells one
abbrev pub line_command : List ℕ → Option Command
line_command line = command_of (words_of line)
