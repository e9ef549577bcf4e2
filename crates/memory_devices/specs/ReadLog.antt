-- The reads that a device in memory keeps.
use Rattle.std.specs.Prelude.{List, map}
use Rattle.outside.specs.Reads.{Entry, entry_of}
use Rattle.memory_devices.specs.declared.read_log.ReadMade.{ReadMade}

-- the reads as a log tells them
abbrev pub entries_of : List ReadMade → List Entry
entries_of reads = map (λ read. entry_of read.file read.offset read.count) reads
