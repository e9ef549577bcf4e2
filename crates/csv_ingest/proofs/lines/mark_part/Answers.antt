use Rattle.std.proofs.Common.{◌∙◌, ◌++◌, take, ap}
use Rattle.csv_ingest.specs.Places.{is_separator, places}
use Rattle.csv_ingest.proofs.PlaceLemmas.{first-marks}
use Rattle.csv_ingest.proofs.lines.mark_part.Goals as goal

pub returns : goal.returns
returns c =
    first-marks c.args.text.now c.push_separators.new.out.items c.part_len.result
    (c.in_ok-push_separators.ensures ∙ ap (λ l. l ++ places is_separator 0 (take c.part_len.result c.args.text.now)) c.clear.ensures.items)
