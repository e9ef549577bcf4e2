-- What a call that reads of a dictionary in a file leaves.
use Rattle.std.specs.Prelude.{ℕ, Result, IsErrOf}
use Rattle.outside.specs.Seen.{OnlyReads, Seen}
use Rattle.dictionary_reading.specs.InFile.{LogsInside, OfDictionary}
use Rattle.dictionary_reading.specs.declared.in_file.FileDictionary.{FileDictionary}
use Rattle.dictionary_reading.specs.declared.fault.LookupFault.{LookupFault}
use Rattle.dictionary_reading.specs.declared.fault.LookupFault.TheVariants.{NoDictionary, ReadFault}

-- the dictionary alone was read, at most so many bytes of it; where it is refused, there is none
pub record Looks {A : Type 0} (at : FileDictionary) (most : ℕ) (old new : Seen)
    (result : Result A LookupFault) : Type 0 where
  pub refused : IsErrOf result NoDictionary → OfDictionary at old.held (λ _. ⊥)
  pub only_reads : OnlyReads (IsErrOf result ReadFault) old new
  pub log : LogsInside at.place most old.log new.log
