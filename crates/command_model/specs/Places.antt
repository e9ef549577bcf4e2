-- What a fault of a look for a place for a segment is for a command.
use Rattle.std.specs.Prelude.{◌≡◌, ℕ, List}
use Rattle.table_store.specs.Segments.{most_segments}
use Rattle.table_store.specs.declared.fault.StoreFault.{StoreFault}
use Rattle.table_store.specs.declared.fault.StoreFault.TheVariants as store
use Rattle.command_model.specs.Gives.{IsTakenStop}
use Rattle.command_words.specs.declared.fault.Fault.TheVariants as fault
use Rattle.command_words.specs.declared.note.Counted.TheVariants as counted
use Rattle.command_words.specs.declared.note.Note.TheVariants as note
use Rattle.command_words.specs.declared.stop.Stop.{Stop}
use Rattle.command_words.specs.declared.stop.Stop.TheVariants as stop

-- a fault of a look for a place: the name is taken, there are the most segments, a read failed, or
-- memory ran out
abbrev pub IsPlaceFault : StoreFault → Type 0
IsPlaceFault store.NameTaken = Unit {0}
IsPlaceFault store.TooManySegments = Unit {0}
IsPlaceFault store.ReadFault = Unit {0}
IsPlaceFault store.NoMemory = Unit {0}
IsPlaceFault other = ⊥

-- what such a fault is for a command
abbrev pub IsPlaceStop : List ℕ → StoreFault → Stop → Type 0
IsPlaceStop name store.NameTaken s = IsTakenStop name s
IsPlaceStop name store.TooManySegments s = s
    ≡ stop.Refused (note.TooLarge counted.Segments most_segments)
IsPlaceStop name store.ReadFault s = s ≡ stop.Fault fault.Read
IsPlaceStop name store.NoMemory s = s ≡ stop.Fault fault.Memory
IsPlaceStop name other s = ⊥
