-- A cursor of whose slots nothing has changed.
use Rattle.std.proofs.Common.{◌≡◌, ◌≢◌, ◌*◌, ℕ, sym, subst, arith}
use Rattle.state_pool.specs.Pool.{Pool}
use Rattle.group_table.specs.Kept.{IsTableOf, KeptGroups, groups_in}
use Rattle.group_table.specs.Pooled.{in_pool}
use Rattle.scan_engine.specs.Scanned.{HaveAtMost}
use Rattle.cursors.specs.Kept.{IsCursorIn, KeepsAside, cursor_in, keeper}
use Rattle.cursors.specs.declared.cursor.Cursor.{Cursor}
use Rattle.cursors.proofs.PoolLemmas.{same_in, still_in}

-- a cursor whose owner has what it had
module _ (one two : ℕ) (old new : Pool) (keeps : KeepsAside one two old new) (d : Cursor) (ne : d.groups.owner ≢ one) (no : d.groups.owner ≢ two) (own : IsCursorIn old d) where
  pub same_by : in_pool d.groups new ≡ in_pool d.groups old
  same_by = same_in d.groups old new keeps.quotas (keeps.kinds d.groups.owner ne no) (keeps.slots d.groups.owner ne no) own.table.holds

  pub still_by : IsCursorIn new d
  still_by = record {
    owner = own.owner;
    owner_is = own.owner_is;
    table = still_in d.groups old new keeps.quotas (keeps.kinds d.groups.owner ne no) (keeps.slots d.groups.owner ne no) own.table;
    of_query = subst (IsTableOf d.query) (sym same_by) own.of_query;
    fits = subst (λ (k : KeptGroups). HaveAtMost (d.answered * 1048576) (groups_in k)) (sym same_by) own.fits;
    answered = own.answered;
    few = own.few;
    files = own.files;
    there = own.there;
  }

  pub seen_by_same : cursor_in new d ≡ cursor_in old d
  seen_by_same = λ i. record {
    name = d.name;
    query = d.query;
    segments = d.segments;
    answered = d.answered;
    files = d.files.items;
    groups = groups_in (same_by i);
  }

-- the owner of a cursor is not that of the states that are saved
pub no_keeper : (pool : Pool) (d : Cursor) → IsCursorIn pool d → d.groups.owner ≢ keeper
no_keeper pool d own is = let lt = own.owner in omega (arith, lt, is)

-- where no owner of a cursor has changed anything
pub still_cursor : (old new : Pool) → KeepsAside keeper keeper old new → (d : Cursor) → IsCursorIn old d → IsCursorIn new d
still_cursor old new keeps d own = let no = no_keeper old d own in still_by keeper keeper old new keeps d no no own
