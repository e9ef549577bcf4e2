-- Calls that only read, by their answers and faults.
use Rattle.std.proofs.Common.{◌≡◌, Result, Ok, Err, IsErrOf, ap, subst}
use Rattle.outside.specs.Seen.{OnlyReads, Seen}
use Rattle.outside.proofs.SeenLemmas.{reads_after, reads_so}
use Rattle.index_reader.specs.declared.fault.ListFault.{ListFault}
use Rattle.index_reader.specs.declared.fault.ListFault.TheVariants.{BadList, NoMemory, ReadFault}

abbrev IsAnswer : {T : Type 0} → Result T ListFault → Type 0
IsAnswer (Ok value) = Unit {0}
IsAnswer (Err fault) = ⊥

no_fault : (T : Type 0) (value : T) (cause : ListFault) → IsErrOf {T = T} {E = ListFault} (Ok value) cause → ⊥
no_fault T value cause is = subst IsAnswer is tt

abbrev pub IsOther : ListFault → Type 0
IsOther ReadFault = ⊥
IsOther BadList = Unit {0}
IsOther NoMemory = Unit {0}

-- a fault is the same beside answers of another type
pub same_fault : (T U : Type 0) (fault cause : ListFault) → IsErrOf {T = T} {E = ListFault} (Err fault) cause → IsErrOf {T = U} {E = ListFault} (Err fault) cause
same_fault T U fault cause is = let same : fault ≡ cause = cc is in ap (λ (f : ListFault). Err f) same

-- a call that failed
pub reads_failed : (T U : Type 0) (fault cause : ListFault) (first between last : Seen) → OnlyReads ⊥ first between → OnlyReads (IsErrOf {T = T} {E = ListFault} (Err fault) cause) between last
    → OnlyReads (IsErrOf {T = U} {E = ListFault} (Err fault) cause) first last
reads_failed T U fault cause first between last before now =
    reads_after (IsErrOf {T = U} {E = ListFault} (Err fault) cause) first between last before
    (reads_so (IsErrOf {T = T} {E = ListFault} (Err fault) cause) (IsErrOf {T = U} {E = ListFault} (Err fault) cause) between last (same_fault U T fault cause) (same_fault T U fault cause) now)

-- a call that answered
pub reads_well : (T : Type 0) (value : T) (cause : ListFault) (between last : Seen) → OnlyReads (IsErrOf {T = T} {E = ListFault} (Ok value) cause) between last → OnlyReads ⊥ between last
reads_well T value cause between last now = reads_so (IsErrOf {T = T} {E = ListFault} (Ok value) cause) ⊥ between last (λ no. absurd no) (no_fault T value cause) now

-- an answer after calls that answered
pub reads_answer : (T : Type 0) (value : T) (cause : ListFault) (first last : Seen) → OnlyReads ⊥ first last → OnlyReads (IsErrOf {T = T} {E = ListFault} (Ok value) cause) first last
reads_answer T value cause first last reads = reads_so ⊥ (IsErrOf {T = T} {E = ListFault} (Ok value) cause) first last (no_fault T value cause) (λ no. absurd no) reads

-- a refusal after calls that answered
pub reads_refused : (U : Type 0) (fault : ListFault) (first last : Seen) → IsOther fault → OnlyReads ⊥ first last → OnlyReads (IsErrOf {T = U} {E = ListFault} (Err fault) ReadFault) first last
reads_refused U fault first last other reads =
    reads_so ⊥ (IsErrOf {T = U} {E = ListFault} (Err fault) ReadFault) first last (λ is. let same : fault ≡ ReadFault = cc is in subst IsOther same other) (λ no. absurd no) reads
