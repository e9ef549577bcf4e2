-- What the calls of devices in memory promise: which state they leave, when they fail, and what
-- such a call of any device promises.
use Rattle.std.specs.Prelude.{◌≡◌, ◌≤◌, ◌↔◌, ℕ, Bool, List, Result, OnOk, OnErr, IfOk, IsErrOf, IsTrue, if◌then◌else◌}
use Rattle.outside.specs.Counts.{next}
use Rattle.outside.specs.Calls.{GivesNames, GivesLength, GivesBytes}
use Rattle.outside.specs.declared.shelf.ShelfFault.{ShelfFault}
use Rattle.outside.specs.declared.shelf.ShelfFault.TheVariants as shelf
use Rattle.outside.specs.declared.depot.DepotFault.{DepotFault}
use Rattle.outside.specs.declared.depot.DepotFault.TheVariants as depot
use Rattle.memory_devices.specs.Memory.{Memory, fails, read_called, read_logged, write_called, told}

-- the fault of a call is counted where the call fails
pub record CountsFault (failed : Bool) (old new : ℕ) : Type 0 where
  pub faults : new ≡ (if failed then next old else old)
  pub later : old ≤ new

-- a call that gives the names of the files
pub record MemoryNames (result : Result (List (List ℕ)) ShelfFault) (old new : Memory) : Type 0
  where
    pub after : new ≡ read_called old
    pub fails : IsErrOf result shelf.Failed ↔ IsTrue (fails old)
    pub gives : GivesNames result (told old) (told new)

-- a call that gives the length of a file, which takes no memory
pub record MemoryLength (name : List ℕ) (result : Result ℕ ShelfFault) (old new : Memory) : Type 0
  where
    pub after : new ≡ read_called old
    pub fails : IsErrOf result shelf.Failed ↔ IsTrue (fails old)
    pub gives : GivesLength name result (told old) (told new)
    pub no_memory : ¬ IsErrOf result shelf.NoMemory

-- a call that reads a file from an offset on into the front of a buffer, which was `room` and is
-- `into`
pub record MemoryBytes (name : List ℕ) (offset : ℕ) (room into : List ℕ)
    (result : Result ℕ ShelfFault) (old new : Memory) : Type 0 where
  pub after : IfOk result (λ n. new ≡ read_logged name offset n (read_called old))
  pub after_fault : OnErr result (new ≡ read_called old)
  pub fails : IsErrOf result shelf.Failed ↔ IsTrue (fails old)
  pub gives : GivesBytes name offset room into result (told old) (told new)

-- a call that writes, and changes so what is there once the call is counted
pub record MemoryWrite (change : Memory → Memory) (result : Result (Unit {0}) DepotFault)
    (old new : Memory) : Type 0 where
  pub after : OnOk result (new ≡ change (write_called old))
  pub after_failed : IsErrOf result depot.Failed → new ≡ write_called old
  pub fails : IsErrOf result depot.Failed ↔ IsTrue (fails old)
