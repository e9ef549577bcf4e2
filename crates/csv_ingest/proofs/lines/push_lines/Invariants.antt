use Rattle.std.proofs.Common.{◌-◌, map}
use Rattle.csv_ingest.specs.Parts.{AddsLines}
use Rattle.csv_ingest.proofs.lines.push_lines.Given as goal

abbrev pub invariant-parts : goal.invariant-parts
invariant-parts l = AddsLines l.layout.fields.now (map (λ f. f.now) l.layout.names.now) l.text l.columns.items l.most (record { rows = l.rows; bytes = l.bytes })

abbrev pub decreases-parts : goal.decreases-parts
decreases-parts l = l.most - l.rows
