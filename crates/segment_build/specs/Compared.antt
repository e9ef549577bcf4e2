-- Bytes that are compared with those of a file, from a place on.
use Rattle.std.specs.Prelude.{◌≡◌, ◌≢◌, ◌<◌, ◌≤◌, ◌+◌, ◌^◌, ℕ, List, length, take, drop, slice_get, Some, Result, OnOk, IfSome, IsErrOf}
use Rattle.outside.specs.Files.{bytes_of}
use Rattle.outside.specs.Seen.{OnlyReads, Seen}
use Rattle.segment_build.specs.declared.fault.CompareFault.{CompareFault}
use Rattle.segment_build.specs.declared.fault.CompareFault.TheVariants.{Differs, Failed}
use Rattle.segment_build.specs.FileReads.{LogsFile, LogsOnce}

-- the file that is compared, and the place up to which it was found the same
pub record Compared : Type 0 where
  pub file : List ℕ
  pub at : ℕ

-- two lists are the same up to this place, and not at it
pub record DifferAt {A : Type 0} (xs ys : List A) (at : ℕ) : Type 0 where
  pub same : take at xs ≡ take at ys
  pub other : slice_get xs at ≢ slice_get ys at

-- so many of these bytes, from the first on, are those of the list, and no more
pub record IsCommon (bytes list : List ℕ) (count : ℕ) : Type 0 where
  pub at_most : count ≤ length bytes
  pub same : take count bytes ≡ take count list
  pub other : count < length bytes → slice_get bytes count ≢ slice_get list count

-- the bytes were found in the file at the place and after it, or the place is that of the first
-- that is another, or not there; no other file was read. The place does not count past 64 bits
pub record Compares (bytes : List ℕ) (result : Result (Unit {0}) CompareFault)
    (old : Compared) (before : Seen) (new : Compared) (after : Seen) : Type 0 where
  pub file : new.file ≡ old.file
  pub moved : old.at + length bytes < 2 ^ 64 → OnOk result (new.at ≡ old.at + length bytes)
  pub same : old.at + length bytes < 2 ^ 64 → OnOk result (IfSome before.held (λ files.
      take (length bytes) (drop old.at (bytes_of (Some files) old.file)) ≡ bytes))
  pub differs : old.at + length bytes < 2 ^ 64 → IsErrOf result Differs
      → IfSome before.held (λ files. (n : ℕ) × (new.at ≡ old.at + n) × (n < length bytes)
      × DifferAt bytes (drop old.at (bytes_of (Some files) old.file)) n)
  pub only_reads : OnlyReads (IsErrOf result Failed) before after
  pub log : LogsFile old.file before.log after.log
  pub once : old.at + length bytes < 2 ^ 64
      → LogsOnce old.file old.at (old.at + length bytes) before.log after.log
