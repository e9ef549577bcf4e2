-- What the code's lines of `serve` say.
use Rattle.segment_file.specs.Names.{IsSegmentName}
use Rattle.command_words.specs.ServeLine as spec
use Rattle.command_words.specs.declared.serve_line.ServeLine.{ServeLine}
use Rattle.command_words.specs.declared.serve_line.ServeLine.TheVariants as code

-- the line that a value of the code stands for
abbrev pub line_view : ServeLine → spec.ServeLine
line_view (code.Open cursor sql) = spec.Open cursor.now sql.now
line_view (code.Step cursor) = spec.Step cursor.now
line_view (code.Fetch cursor) = spec.Fetch cursor.now
line_view (code.Close cursor) = spec.Close cursor.now
line_view (code.Build name csv) = spec.Build name.now csv.now
line_view (code.Drop name) = spec.Drop name.now
line_view (code.Replace name csv) = spec.Replace name.now csv.now

-- the name in a line is that of a segment, or formed as one
abbrev pub IsNamedLine : ServeLine → Type 0
IsNamedLine (code.Open cursor sql) = IsSegmentName cursor.now
IsNamedLine (code.Step cursor) = IsSegmentName cursor.now
IsNamedLine (code.Fetch cursor) = IsSegmentName cursor.now
IsNamedLine (code.Close cursor) = IsSegmentName cursor.now
IsNamedLine (code.Build name csv) = IsSegmentName name.now
IsNamedLine (code.Drop name) = IsSegmentName name.now
IsNamedLine (code.Replace name csv) = IsSegmentName name.now
