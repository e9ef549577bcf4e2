use Rattle.std.proofs.Common.{◌≤◌, ◌^◌}
use Rattle.dictionary.proofs.RankLemmas.{ArePlaced}
use Rattle.dictionary.proofs.ranking.placed_numbers.Given as goal

abbrev pub invariant-numbers : goal.invariant-numbers
invariant-numbers l = record { placed : ArePlaced l.numbers l.items.items l.at; few : l.at ≤ 2 ^ 32 }
