use Rattle.std.proofs.Common.{◌≡◌, ◌-◌, length, drop}
use Rattle.query_tokens.specs.Lex.{quoted, value_of}
use Rattle.query_tokens.proofs.Quotes.{value_after}
use Rattle.query_tokens.proofs.lex.quoted_bytes.Given as goal

abbrev pub invariant-loop-at : goal.invariant-loop-at
invariant-loop-at l = value_of (quoted l.quote l.z) ≡ value_after l.value.items (quoted l.quote (drop l.at l.z))

abbrev pub decreases-loop-at : goal.decreases-loop-at
decreases-loop-at l = length l.z - l.at
