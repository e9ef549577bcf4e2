-- What a call reads of a section that tells where ids are, and when it refuses the section.
use Rattle.std.specs.Prelude.{◌<◌, List, ℕ, Bool, All, Option, Result, IfOk, IfSome, IsErrOf, OnErr}
use Rattle.outside.specs.Files.{Files}
use Rattle.outside.specs.Reads.{Entry}
use Rattle.outside.specs.Seen.{OnlyReads, Seen}
use Rattle.outside.specs.declared.place.Place.{Place}
use Rattle.bit_column.specs.Sections.{section}
use Rattle.doc_lists.specs.Sets.{AreThose}
use Rattle.index_reader.specs.declared.fault.ListFault.{ListFault}
use Rattle.index_reader.specs.declared.fault.ListFault.TheVariants.{BadList, ReadFault}

-- no keys have this section, where a section has keys as it is told
abbrev pub NoneTells : (List ℕ → List ℕ → Type 0) → Place → Files → Type 0
NoneTells Tells place files = (told : List ℕ) → Tells (section files place) told → ⊥

-- where the call answers, its reads are all of these, and where it is refused, some of them; it
-- refuses a section only where there is no such one
pub record ReadsSection {A : Type 0} (result : Result A ListFault)
    (Reads Partly : Option (List Entry) → Option (List Entry) → Type 0) (Refused : Files → Type 0)
    (old new : Seen) : Type 0 where
  pub only_reads : OnlyReads (IsErrOf result ReadFault) old new
  pub log : IfOk result (λ _. Reads old.log new.log)
  pub log_of_fault : OnErr result (Partly old.log new.log)
  pub bad : IsErrOf result BadList → IfSome old.held Refused

-- these are the documents that pass a test by the keys of a section, where the section has keys as
-- it is told, and each is one of the rows
pub record FindsDocs (result : Result (List ℕ) ListFault) (Tells : List ℕ → List ℕ → Type 0)
    (test : List ℕ → ℕ → Bool) (place : Place) (rows : ℕ) (held : Option Files) : Type 0 where
  pub docs : IfOk result (λ docs. IfSome held (λ files. (told : List ℕ)
      → Tells (section files place) told → AreThose (test told) docs))
  pub within : IfOk result (λ docs. All (λ doc. doc < rows) docs)
