use Rattle.std.proofs.Common.{◌≡◌, ◌<◌, ◌*◌, ℕ}
use Rattle.csv_ingest.specs.Parts.{IsLineAt}
use Rattle.csv_ingest.proofs.parts.rows_of.Given as goal

abbrev pub invariant-rows : goal.invariant-rows
invariant-rows l = record {
  at : l.at ≡ l.i * l.step;
  lines : (r : ℕ) → r < l.i → IsLineAt l.text l.places l.width l.step (r * l.step);
}
