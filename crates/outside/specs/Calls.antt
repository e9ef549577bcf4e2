-- What devices tell of themselves, each as one record, and what each call of theirs promises over
-- what is told before it and after it.
use Rattle.std.specs.Prelude.{◌≡◌, ◌≤◌, ℕ, List, [], ◌++◌, Option, Result, OnOk, OnErr, IfOk, IsErrOf, length}
use Rattle.outside.specs.Counts.{Rose}
use Rattle.outside.specs.Files.{Files, Has, Lacks, IsNames, IsLengthOf, SameBut, bytes_of, with_file, without_file}
use Rattle.outside.specs.Reads.{Entry, ReadsAt, logged}
use Rattle.outside.specs.Sink.{appended, AppendsPrefix}
use Rattle.outside.specs.declared.shelf.ShelfFault.{ShelfFault}
use Rattle.outside.specs.declared.shelf.ShelfFault.TheVariants as shelf
use Rattle.outside.specs.declared.depot.DepotFault.{DepotFault}
use Rattle.outside.specs.declared.depot.DepotFault.TheVariants as depot
use Rattle.outside.specs.declared.sink.SinkFault.{SinkFault}

-- what a shelf or a depot tells
pub record Seen : Type 0 where
  pub held : Option Files
  pub parts : Option Files
  pub log : Option (List Entry)
  pub read_faults : ℕ
  pub write_faults : ℕ

-- what a sink tells
pub record Heard : Type 0 where
  pub written : Option (List ℕ)
  pub faults : ℕ

-- a shelf or a depot, seen through what it tells
abbrev pub seen_by : {A : Type 0} → (A → Option Files) → (A → Option Files)
    → (A → Option (List Entry)) → (A → ℕ) → (A → ℕ) → A → Seen
seen_by held parts log read_faults write_faults s = record {
  held = held s;
  parts = parts s;
  log = log s;
  read_faults = read_faults s;
  write_faults = write_faults s;
}

-- a sink, through what it tells
abbrev pub heard_by : {A : Type 0} → (A → Option (List ℕ)) → (A → ℕ) → A → Heard
heard_by written faults s = record { written = written s; faults = faults s }

-- what a call that only reads leaves of a shelf; its count of faults rose just where the call
-- failed
pub record OnlyReads (Fails : Type 0) (old new : Seen) : Type 0 where
  pub held : new.held ≡ old.held
  pub parts : new.parts ≡ old.parts
  pub writes : new.write_faults ≡ old.write_faults
  pub later : old.read_faults ≤ new.read_faults
  pub rose : Fails → Rose old.read_faults new.read_faults
  pub unchanged : ¬ Fails → new.read_faults ≡ old.read_faults

-- what a call that writes leaves of a depot beside its files and parts; its count of faults rose
-- just where the call failed
pub record Writes (Fails : Type 0) (old new : Seen) : Type 0 where
  pub log : new.log ≡ old.log
  pub reads : new.read_faults ≡ old.read_faults
  pub later : old.write_faults ≤ new.write_faults
  pub rose : Fails → Rose old.write_faults new.write_faults
  pub unchanged : ¬ Fails → new.write_faults ≡ old.write_faults

-- what a call that writes one part leaves of the rest of a depot; its count of faults rose just
-- where the call failed
pub record OnlyWrites (Fails : Type 0) (part : List ℕ) (old new : Seen) : Type 0 where
  pub parts : SameBut part old.parts new.parts
  pub log : new.log ≡ old.log
  pub reads : new.read_faults ≡ old.read_faults
  pub later : old.write_faults ≤ new.write_faults
  pub rose : Fails → Rose old.write_faults new.write_faults
  pub unchanged : ¬ Fails → new.write_faults ≡ old.write_faults

-- a call that gives the names of the files
pub record GivesNames (result : Result (List (List ℕ)) ShelfFault) (old new : Seen) : Type 0 where
  pub names : IfOk result (IsNames old.held)
  pub only_reads : OnlyReads (IsErrOf result shelf.Failed) old new
  pub log : new.log ≡ old.log
  pub never_missing : ¬ IsErrOf result shelf.Missing

-- a call that gives the length of a file
pub record GivesLength (name : List ℕ) (result : Result ℕ ShelfFault) (old new : Seen) : Type 0
  where
    pub length : IfOk result (IsLengthOf old.held name)
    pub only_reads : OnlyReads (IsErrOf result shelf.Failed) old new
    pub log : new.log ≡ old.log
    pub missing : IsErrOf result shelf.Missing → Lacks old.held name
    pub present : IsErrOf result shelf.NoMemory → Has old.held name

-- a call that reads a file from an offset on into the front of a buffer, which was `room` and is
-- `into`
pub record GivesBytes (name : List ℕ) (offset : ℕ) (room into : List ℕ)
    (result : Result ℕ ShelfFault) (old new : Seen) : Type 0 where
  pub bound : IfOk result (λ n. n ≤ length room)
  pub bytes : IfOk result (λ n. ReadsAt old.held name offset n room into)
  pub only_reads : OnlyReads (IsErrOf result shelf.Failed) old new
  pub logged : IfOk result (λ n. new.log ≡ logged name offset n old.log)
  pub not_logged : OnErr result (new.log ≡ old.log)
  pub missing : IsErrOf result shelf.Missing → Lacks old.held name
  pub present : IsErrOf result shelf.NoMemory → Has old.held name

-- a call that makes a part, or empties it
pub record BeginsPart (part : List ℕ) (result : Result (Unit {0}) DepotFault) (old new : Seen)
    : Type 0 where
  pub begun : OnOk result (new.parts ≡ with_file part [] old.parts)
  pub unknown : OnErr result (SameBut part old.parts new.parts)
  pub held : new.held ≡ old.held
  pub writes : Writes (IsErrOf result depot.Failed) old new
  pub never_missing : ¬ IsErrOf result depot.Missing

-- a call that adds bytes at the end of a part
pub record AppendsToPart (part bytes : List ℕ) (result : Result (Unit {0}) DepotFault)
    (old new : Seen) : Type 0 where
  pub appended : OnOk result (new.parts ≡ with_file part (bytes_of old.parts part ++ bytes)
      old.parts)
  pub unknown : OnErr result (SameBut part old.parts new.parts)
  pub held : new.held ≡ old.held
  pub writes : Writes (IsErrOf result depot.Failed) old new
  pub never_missing : ¬ IsErrOf result depot.Missing

-- a call that puts the bytes of a part under a name
pub record PublishesPart (part name : List ℕ) (result : Result (Unit {0}) DepotFault)
    (old new : Seen) : Type 0 where
  pub published : OnOk result (new.held ≡ with_file name (bytes_of old.parts part) old.held)
  pub gone : OnOk result (new.parts ≡ without_file part old.parts)
  pub held : OnErr result (new.held ≡ old.held)
  pub unknown : OnErr result (SameBut part old.parts new.parts)
  pub writes : Writes (IsErrOf result depot.Failed) old new
  pub never_missing : ¬ IsErrOf result depot.Missing

-- a call that takes a published file away
pub record RemovesFile (name : List ℕ) (result : Result (Unit {0}) DepotFault) (old new : Seen)
    : Type 0 where
  pub removed : OnOk result (new.held ≡ without_file name old.held)
  pub held : OnErr result (new.held ≡ old.held)
  pub parts : new.parts ≡ old.parts
  pub writes : Writes (IsErrOf result depot.Failed) old new
  pub missing : IsErrOf result depot.Missing → Lacks old.held name
  pub there : OnOk result (Has old.held name)
  pub present : IsErrOf result depot.NoMemory → Has old.held name

-- a call that writes bytes at the end of a sink
pub record PutsBytes (bytes : List ℕ) (result : Result (Unit {0}) SinkFault) (old new : Heard)
    : Type 0 where
  pub all : OnOk result (new.written ≡ appended bytes old.written)
  pub prefix : OnErr result (AppendsPrefix bytes old.written new.written)
  pub later : old.faults ≤ new.faults
  pub failed : OnErr result (Rose old.faults new.faults)
  pub unchanged : OnOk result (new.faults ≡ old.faults)
