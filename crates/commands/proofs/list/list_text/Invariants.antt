use Rattle.std.proofs.Common.{◌≡◌, ◌++◌, drop}
use Rattle.command_model.specs.Stored.{list_text, segment_lines}
use Rattle.commands.proofs.list.list_text.Given as goal

abbrev pub invariant-lines : goal.invariant-lines
invariant-lines l = l.text.items ++ segment_lines (drop l.at l.names) (drop l.at l.counts) ≡ list_text l.names l.counts
