use Rattle.std.proofs.Common.{take, map, flat_map}
use Rattle.std.specs.Io.KnownBytes.{Appends}
use Rattle.csv.specs.Writing.{default_writer, row_text, text_written}
use Rattle.broker_merge.specs.Answer.{cell_text}
use Rattle.broker_merge.specs.Written.{IsBetween}
use Rattle.broker_merge.proofs.text.write_rows.Given as goal

abbrev pub invariant-loop-row : goal.invariant-loop-row
invariant-loop-row g l = record {
  between : IsBetween l.writer;
  text : Appends (text_written g.W.Write.contents l.initial.writer) (text_written g.W.Write.contents l.writer)
      (flat_map (λ row. row_text default_writer (map cell_text row)) (take l.row-index l.rows));
}
