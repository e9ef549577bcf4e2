-- The lock of a folder.
use Rattle.std.specs.Prelude.{◌≡◌}
use Rattle.host_devices.specs.declared.folder_lock.FolderLock.{FolderLock}
use Rattle.host_devices.specs.declared.folder_lock.FolderLock.TheVariants.{Held}

-- this program has it
abbrev pub IsHeld : {F : Type 0} → FolderLock F → Type 0
IsHeld (Held folder) = Unit {0}
IsHeld other = ⊥

-- a call that writes under the lock keeps it, and says of no file that it is missing
pub record KeepsLock {F : Type 0} (Missing : Type 0) (old new : FolderLock F) : Type 0 where
  pub there : ¬ Missing
  pub lock : new ≡ old
