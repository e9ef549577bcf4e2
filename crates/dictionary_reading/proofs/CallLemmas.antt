-- What calls leave that read of a dictionary one after another.
use Rattle.std.proofs.Common.{◌≡◌, ◌≤◌, ◌+◌, ℕ, Result, Ok, Err, IsErrOf, Option, ap, subst}
use Rattle.outside.specs.Reads.{Entry}
use Rattle.outside.specs.Seen.{OnlyReads, Seen}
use Rattle.dictionary_reading.specs.declared.fault.LookupFault.{LookupFault}
use Rattle.dictionary_reading.specs.declared.fault.LookupFault.TheVariants as fault
use Rattle.dictionary_reading.specs.declared.in_file.FileDictionary.{FileDictionary}
use Rattle.dictionary_reading.specs.Calls.{Looks}
use Rattle.dictionary_reading.specs.InFile.{LogsInside, OfDictionary}
use Rattle.dictionary_reading.proofs.Faults.{err_same, no_dictionary, reads_ended, reads_err, reads_other, well_fault}
use Rattle.dictionary_reading.proofs.LogLemmas.{logs_more, logs_then}

-- a call that answered
pub looks_ok : {A : Type 0} (l : FileDictionary) (most : ℕ) (x : A) (old new : Seen) → OnlyReads ⊥ old new → LogsInside l.place most old.log new.log → Looks {A = A} l most old new (Ok x)
looks_ok {A} l most x old new reads log = record { refused = λ e. absurd (well_fault {T = A} x fault.NoDictionary e); only_reads = reads_ended {T = A} x old new reads; log = log }

-- a call after others that answered, whose fault is handed on
pub looks_after : {A B : Type 0} (l : FileDictionary) (k m most : ℕ) (f : LookupFault) (first old new : Seen) → OnlyReads ⊥ first old → LogsInside l.place k first.log old.log → k + m ≤ most → Looks {A = A} l m old new (Err f) → Looks {A = B} l most first new (Err f)
looks_after {A} {B} l k m most f first old new before log le now = record {
  refused = λ e. subst (λ held. OfDictionary l held (λ _. ⊥)) before.held (now.refused (ap Err (err_same {T = B} f fault.NoDictionary e)));
  only_reads = reads_err {T = A} {U = B} f first old new before now.only_reads;
  log = logs_more l.place (k + m) most first.log new.log le (logs_then l.place k m first.log old.log new.log log now.log);
}

-- bytes that spell none
pub looks_bad : {A : Type 0} (l : FileDictionary) (most : ℕ) (old new : Seen) → OnlyReads ⊥ old new → LogsInside l.place most old.log new.log → OfDictionary l old.held (λ _. ⊥) → Looks {A = A} l most old new (Err fault.NoDictionary)
looks_bad {A} l most old new reads log none = record { refused = λ _. none; only_reads = reads_other {T = A} fault.NoDictionary old new no_dictionary reads; log = log }
