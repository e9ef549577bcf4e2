use Rattle.std.proofs.Common.{Ok}
use Rattle.csv_ingest.specs.Parts.{AddsValues}
use Rattle.csv_ingest.proofs.part_columns.push_defaults.Given as goal

abbrev pub invariant-rows : goal.invariant-rows
invariant-rows l = AddsValues (λ _. Ok l.value) l._i l.fn.column l.column
