-- How the part that files are published by becomes a copy of a file.
use Rattle.std.specs.Prelude.{◌≡◌, ◌≤◌, ℕ, List, ◌++◌, length, Some, IfSome}
use Rattle.outside.specs.Files.{bytes_at, bytes_of, with_file}
use Rattle.outside.specs.Seen.{Seen}
use Rattle.segment_build.specs.Publishing.{incoming}

-- the part grew by n bytes, which are those of the file from an offset on, so many or up to its end
pub record IsGrown (file : List ℕ) (offset count n : ℕ) (old new : Seen) : Type 0 where
  pub bytes : List ℕ
  pub count_is : n ≡ length bytes
  pub within : n ≤ count
  pub told : IfSome old.held (λ files. bytes ≡ bytes_at files file offset count)
  pub parts : new.parts ≡ with_file incoming (bytes_of old.parts incoming ++ bytes) old.parts

-- the part has the bytes of the file
pub record IsCopied (file : List ℕ) (old new : Seen) : Type 0 where
  pub bytes : List ℕ
  pub told : IfSome old.held (λ files. bytes ≡ bytes_of (Some files) file)
  pub parts : new.parts ≡ with_file incoming bytes old.parts
