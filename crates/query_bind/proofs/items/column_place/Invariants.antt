use Rattle.std.proofs.Common.{◌≡◌, ◌==◌, ◌+◌, drop}
use Rattle.std.specs.List.{position_or_len}
use Rattle.query_bind.proofs.items.column_place.Given as goal

abbrev pub invariant-loop-place : goal.invariant-loop-place
invariant-loop-place l = position_or_len (λ g. g == l.column) l.groups ≡ l.place + position_or_len (λ g. g == l.column) (drop l.place l.groups)
