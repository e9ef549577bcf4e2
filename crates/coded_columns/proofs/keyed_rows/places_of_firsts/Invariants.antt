use Rattle.std.proofs.Common.{◌≡◌, ◌+◌, get_or, map, take}
use Rattle.coded_columns.proofs.keyed_rows.places_of_firsts.Given as goal

abbrev pub invariant-loop-first : goal.invariant-loop-first
invariant-loop-first l = l.own.items ≡ map (λ first. get_or l.places first 0 + 1) (take l.first-index l.firsts)
