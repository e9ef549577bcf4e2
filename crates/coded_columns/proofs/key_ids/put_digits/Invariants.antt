use Rattle.std.proofs.Common.{◌≡◌, ◌<◌, ◌≤◌, ℕ, get_or, length, take}
use Rattle.coded_columns.specs.Coded.{column_of}
use Rattle.coded_columns.specs.Keys.{IsIdAt, key_at}
use Rattle.coded_columns.proofs.key_ids.put_digits.Given as goal

-- what is left is the key by the first columns, and the ids in the others are put
abbrev pub invariant-loop-left : goal.invariant-loop-left
invariant-loop-left l = record {
  within : l.left ≤ length l.groups;
  rest : (row : ℕ) → row < l.segment.count → key_at l.segment l.groups row ≡ l.key → key_at l.segment (take l.left l.groups) row ≡ l.rest;
  put : (row : ℕ) → row < l.segment.count → key_at l.segment l.groups row ≡ l.key
      → (j : ℕ) → l.left ≤ j → j < length l.groups → IsIdAt (column_of l.segment (get_or l.groups j 0)) row (get_or l.ids j 0);
}

abbrev pub decreases-loop-left : goal.decreases-loop-left
decreases-loop-left l = l.left
