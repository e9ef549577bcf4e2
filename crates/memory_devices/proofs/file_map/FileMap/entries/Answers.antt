use Rattle.memory_devices.proofs.Held.{entries_held}
use Rattle.memory_devices.proofs.file_map.FileMap.entries.Goals as goal

pub returns : goal.returns
returns c = rw (← c.self.view_is, entries_held c.self.inside.files.items c.self.invariant, ← c.as_slice.ensures.value) c.copy_files.ensures
