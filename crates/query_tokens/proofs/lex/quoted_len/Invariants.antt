use Rattle.std.proofs.Common.{◌≡◌, ◌-◌, ◌≤◌, length, drop}
use Rattle.query_tokens.specs.Lex.{quoted, lengths}
use Rattle.query_tokens.proofs.Quotes.{lengths_after}
use Rattle.query_tokens.proofs.lex.quoted_len.Given as goal

abbrev pub invariant-loop-at : goal.invariant-loop-at
invariant-loop-at l = (lengths (quoted l.quote l.z) ≡ lengths_after l.value l.at (quoted l.quote (drop l.at l.z))) × (l.at ≤ length l.z) × (l.value ≤ l.at)

abbrev pub decreases-loop-at : goal.decreases-loop-at
decreases-loop-at l = length l.z - l.at
