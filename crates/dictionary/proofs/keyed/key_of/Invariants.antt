use Rattle.std.proofs.Common.{◌≡◌}
use Rattle.dictionary.specs.Keys.{head}
use Rattle.dictionary.proofs.keyed.key_of.Given as goal

abbrev pub invariant-bytes : goal.invariant-bytes
invariant-bytes l = l.key ≡ head l.i l.text
