-- What a command reads and changes on the devices, by its profile.
use Rattle.std.specs.Prelude.{◌≡◌, ◌≤◌, ◌⊎◌, ℕ, List, [], ◌∷◌, ◌++◌, All, Option, option_map}
use Rattle.outside.specs.Reads.{Entry}
use Rattle.outside.specs.Whole.{LogsFront}
use Rattle.segment_file.specs.Names.{IsSegmentName, file_of}
use Rattle.segment_build.specs.FileReads.{LogsFile}
use Rattle.segment_build.specs.Publishing.{incoming}
use Rattle.table_store.specs.TableFile.{table_name}
use Rattle.command_words.specs.Command.{Command}
use Rattle.command_model.specs.Profile.{AnyPlace, Apart, Front, Looks, NoFile, Opens, Portion, SegmentFile, Store, StoreFiles, TableFile, Writes, profile}
use Rattle.outside.specs.Seen.{Seen}
use Rattle.command_model.specs.World.{Devices, SameButThese}

-- the front of one file was read, and nothing else
pub record ReadsFront (file : List ℕ) (limit : ℕ) (old new : Seen) : Type 0 where
  pub held : new.held ≡ old.held
  pub parts : new.parts ≡ old.parts
  pub writes : new.write_faults ≡ old.write_faults
  pub later : old.read_faults ≤ new.read_faults
  pub log : LogsFront file limit old.log new.log

-- one file was read, and nothing else
pub record ReadsFile (file : List ℕ) (old new : Seen) : Type 0 where
  pub held : new.held ≡ old.held
  pub parts : new.parts ≡ old.parts
  pub writes : new.write_faults ≡ old.write_faults
  pub later : old.read_faults ≤ new.read_faults
  pub log : LogsFile file old.log new.log

-- these bytes of one file were read, and nothing else
abbrev pub ReadsPortion : List ℕ → Portion → Seen → Seen → Type 0
ReadsPortion file (Front limit) old new = ReadsFront file limit old new
ReadsPortion file AnyPlace old new = ReadsFile file old new

-- these bytes of files were read, in their order; where there are none, all is as it was
abbrev pub Reads : List (List ℕ × Portion) → Seen → Seen → Type 0
Reads [] old new = new ≡ old
Reads (file ∷ others) old new = (mid : Seen) × ReadsPortion file.0 file.1 old mid
    × Reads others mid new

-- the table's file, or a segment's
abbrev pub IsStoreFile : List ℕ → Type 0
IsStoreFile file = (file ≡ table_name) ⊎ ((name : List ℕ) × IsSegmentName name
    × (file ≡ file_of name))

-- the table's file, or that of the segment of this name
abbrev pub IsFileFor : List ℕ → List ℕ → Type 0
IsFileFor name file = (file ≡ table_name) ⊎ (file ≡ file_of name)

-- a told log grew by reads of such files
abbrev pub LogsOpened : Opens → Option (List Entry) → Option (List Entry) → Type 0
LogsOpened NoFile old new = new ≡ old
LogsOpened TableFile old new = (entries : List Entry) × (new
    ≡ option_map (λ before. before ++ entries) old) × All (λ entry. entry.file ≡ table_name) entries
LogsOpened (SegmentFile name) old new = (entries : List Entry) × (new
    ≡ option_map (λ before. before ++ entries) old)
    × All (λ entry. IsFileFor name entry.file) entries
LogsOpened StoreFiles old new = (entries : List Entry) × (new
    ≡ option_map (λ before. before ++ entries) old) × All (λ entry. IsStoreFile entry.file) entries

-- a store was looked at, and such files of it opened
pub record OnlyLooks (opens : Opens) (old new : Seen) : Type 0 where
  pub held : new.held ≡ old.held
  pub parts : new.parts ≡ old.parts
  pub writes : new.write_faults ≡ old.write_faults
  pub later : old.read_faults ≤ new.read_faults
  pub log : LogsOpened opens old.log new.log

-- a store was written under these names alone, by way of the one part
pub record WritesThese (opens : Opens) (names : List (List ℕ)) (old new : Seen) : Type 0 where
  pub held : SameButThese names old.held new.held
  pub parts : SameButThese (incoming ∷ []) old.parts new.parts
  pub reads_later : old.read_faults ≤ new.read_faults
  pub writes_later : old.write_faults ≤ new.write_faults
  pub log : LogsOpened opens old.log new.log

-- what a command leaves of the store, by its row
abbrev pub Keeps : Store → Seen → Seen → Type 0
Keeps Apart old new = new ≡ old
Keeps (Looks opens) old new = OnlyLooks opens old new
Keeps (Writes opens names) old new = WritesThese opens names old new

-- what a command read and changed, by its row
pub record Touched (command : Option Command) (old new : Devices) : Type 0 where
  pub inputs : Reads (profile command).files old.inputs new.inputs
  pub depot : Keeps (profile command).store old.depot new.depot
