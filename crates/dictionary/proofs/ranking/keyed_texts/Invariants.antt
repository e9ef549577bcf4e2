use Rattle.std.proofs.Common.{◌≤◌, ◌^◌}
use Rattle.dictionary.proofs.RankLemmas.{ArePlaced}
use Rattle.dictionary.proofs.ranking.keyed_texts.Given as goal

abbrev pub invariant-texts : goal.invariant-texts
invariant-texts l = record { placed : ArePlaced l.texts l.items.items l.at; few : l.at ≤ 2 ^ 32 }
