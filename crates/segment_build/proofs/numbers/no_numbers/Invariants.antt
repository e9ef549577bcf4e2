use Rattle.std.proofs.Common.{◌≡◌, map, replicate, []}
use Rattle.segment_build.proofs.numbers.no_numbers.Given as goal

-- so many empty lists
abbrev pub invariant-columns : goal.invariant-columns
invariant-columns l = map (λ v. v.items) l.made.items ≡ replicate l.counter []
