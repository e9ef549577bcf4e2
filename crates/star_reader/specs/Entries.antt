-- Keys with states, merged into groups.
use Rattle.std.specs.Prelude.{◌≡◌, ℕ, ◌+◌, List}
use Rattle.group_table.specs.Groups.{Group, with_entries}
use Rattle.group_table.specs.Kept.{KeptGroups, groups_in}
use Rattle.scan_engine.specs.Scanned.{HaveAtMost}

-- the table with these states merged in, which stand for so many rows
pub record MergesEntries (rows : ℕ) (entries : List Group) (old new : KeptGroups) : Type 0 where
  pub columns : new.columns ≡ old.columns
  pub kinds : new.kinds ≡ old.kinds
  pub most : new.most ≡ old.most
  pub groups : groups_in new ≡ with_entries (groups_in old) entries
  pub fits : (n : ℕ) → HaveAtMost n (groups_in old) → HaveAtMost (n + rows) (groups_in new)
