-- What the code's commands say.
use Rattle.segment_file.specs.Names.{IsSegmentName}
use Rattle.command_words.specs.Command as spec
use Rattle.command_words.specs.declared.command.Batch.{Batch}
use Rattle.command_words.specs.declared.command.Batch.TheVariants as batch
use Rattle.command_words.specs.declared.command.Command.{Command}
use Rattle.command_words.specs.declared.command.Command.TheVariants as code

-- the command that a value of the code stands for
abbrev pub command_view : Command → spec.Command
command_view (code.Scan file sql) = spec.Scan file.now sql.now
command_view (code.Create schema settings) = spec.Create (spec.TextFiles schema.now settings.now)
command_view (code.Build name csv) = spec.Build name.now (spec.CsvFile csv.now)
command_view (code.Drop name) = spec.Drop name.now
command_view (code.Look aim name) = spec.Look aim name.now
command_view (code.Attach name file) = spec.Attach name.now file.now
command_view code.List = spec.Listing
command_view (code.Ask about sql) = spec.Ask about sql.now

-- the name of the segment that a command makes, drops or looks at is one
abbrev pub IsNamed : Command → Type 0
IsNamed (code.Build name csv) = IsSegmentName name.now
IsNamed (code.Drop name) = IsSegmentName name.now
IsNamed (code.Look aim name) = IsSegmentName name.now
IsNamed (code.Attach name file) = IsSegmentName name.now
IsNamed other = Unit {0}

-- what is asked for by a file of lines
abbrev pub batch_view : Batch → spec.Request
batch_view (batch.Script file) = spec.Script file.now
batch_view (batch.Serve file) = spec.Serve file.now
