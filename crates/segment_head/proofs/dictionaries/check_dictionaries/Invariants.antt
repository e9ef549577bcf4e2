use Rattle.std.specs.List.{range_with_len}
use Rattle.segment_head.specs.Reading.{heads_read}
use Rattle.segment_file.specs.Rules.{AreSpelled}
use Rattle.segment_head.proofs.dictionaries.check_dictionaries.Given as goal

abbrev pub invariant-loop-column : goal.invariant-loop-column
invariant-loop-column l = AreSpelled l.table l.rows (heads_read l.table l.sections l.bytes) (range_with_len 0 l.column) l.dictionaries.items
