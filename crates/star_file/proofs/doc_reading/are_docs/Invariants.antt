use Rattle.std.proofs.Common.{List}
use Rattle.state_columns.specs.Docs.{Doc}
use Rattle.star_file.specs.Reading.{SpellDocs}
use Rattle.star_file.proofs.doc_reading.are_docs.Given as goal

abbrev pub invariant-loop-i : goal.invariant-loop-i
invariant-loop-i l = (docs : List Doc) × SpellDocs l.shape l.counts l.i l.bytes docs
