-- Calls that only read, by their answers and faults.
use Rattle.std.proofs.Common.{◌≡◌, ◌∙◌, Result, Ok, Err, IsErrOf, ap, refl, subst, sym}
use Rattle.outside.specs.Seen.{OnlyReads, Seen}
use Rattle.outside.proofs.SeenLemmas.{reads_after, reads_so}
use Rattle.star_file.specs.declared.docs_fault.DocsFault.{DocsFault}
use Rattle.star_file.specs.declared.docs_fault.DocsFault.TheVariants as docs
use Rattle.star_reader.specs.declared.fault.AnswerFault.{AnswerFault}
use Rattle.star_reader.specs.declared.fault.AnswerFault.TheVariants.{BadDocs, NoMemory, ReadFault}
use Rattle.star_reader.specs.declared.fault.AnswerFault.TheVariants.{TooManyGroups}
use Rattle.star_reader.specs.Selected.{fault_of}

-- a fault is the same beside answers of another type
pub same_fault : (T U E : Type 0) (fault cause : E) → IsErrOf {T = T} {E = E} (Err fault) cause
    → IsErrOf {T = U} {E = E} (Err fault) cause
same_fault T U E fault cause is = let same : fault ≡ cause = cc is in ap (λ (f : E). Err f) same

pub is_read : (fault : DocsFault) → fault_of fault ≡ ReadFault → fault ≡ docs.ReadFault
is_read docs.ReadFault is = refl
is_read docs.BadDocs is = cc
is_read docs.NoMemory is = cc

pub is_bad : (fault : DocsFault) → fault_of fault ≡ BadDocs → fault ≡ docs.BadDocs
is_bad docs.ReadFault is = cc
is_bad docs.BadDocs is = refl
is_bad docs.NoMemory is = cc

pub never_full : (fault : DocsFault) → fault_of fault ≡ TooManyGroups → ⊥
never_full docs.ReadFault is = cc
never_full docs.BadDocs is = cc
never_full docs.NoMemory is = cc

-- the fault of documents, as one of an answer
module _ (T U : Type 0) (fault : DocsFault) (other : AnswerFault) (is : other ≡ fault_of fault) where
  own : (cause : AnswerFault) → IsErrOf {T = U} {E = AnswerFault} (Err other) cause → fault_of fault ≡ cause
  own cause so = let same : other ≡ cause = cc so in sym is ∙ same

  pub bad_too : IsErrOf {T = U} {E = AnswerFault} (Err other) BadDocs
      → IsErrOf {T = T} {E = DocsFault} (Err fault) docs.BadDocs
  bad_too so = ap (λ (f : DocsFault). Err f) (is_bad fault (own BadDocs so))

  pub full_never : IsErrOf {T = U} {E = AnswerFault} (Err other) TooManyGroups → ⊥
  full_never so = never_full fault (own TooManyGroups so)

  read_too : IsErrOf {T = U} {E = AnswerFault} (Err other) ReadFault
      → IsErrOf {T = T} {E = DocsFault} (Err fault) docs.ReadFault
  read_too so = ap (λ (f : DocsFault). Err f) (is_read fault (own ReadFault so))

  read_back : IsErrOf {T = T} {E = DocsFault} (Err fault) docs.ReadFault
      → IsErrOf {T = U} {E = AnswerFault} (Err other) ReadFault
  read_back so =
      let same : fault ≡ docs.ReadFault = cc so in
      ap (λ (f : AnswerFault). Err f) (is ∙ ap fault_of same)

  pub reads_failed : (first between last : Seen) → OnlyReads ⊥ first between
      → OnlyReads (IsErrOf {T = T} {E = DocsFault} (Err fault) docs.ReadFault) between last
      → OnlyReads (IsErrOf {T = U} {E = AnswerFault} (Err other) ReadFault) first last
  reads_failed first between last before now =
      reads_after (IsErrOf {T = U} {E = AnswerFault} (Err other) ReadFault) first between last before
      (reads_so (IsErrOf {T = T} {E = DocsFault} (Err fault) docs.ReadFault)
      (IsErrOf {T = U} {E = AnswerFault} (Err other) ReadFault) between last read_too read_back now)

abbrev IsAnswer : {T E : Type 0} → Result T E → Type 0
IsAnswer (Ok value) = Unit {0}
IsAnswer (Err fault) = ⊥

no_fault : (T E : Type 0) (value : T) (cause : E) → IsErrOf {T = T} {E = E} (Ok value) cause → ⊥
no_fault T E value cause is = subst (IsAnswer {T = T} {E = E}) is tt

-- a call that answered
pub reads_well : (T E : Type 0) (value : T) (cause : E) (between last : Seen)
    → OnlyReads (IsErrOf {T = T} {E = E} (Ok value) cause) between last → OnlyReads ⊥ between last
reads_well T E value cause between last now =
    reads_so (IsErrOf {T = T} {E = E} (Ok value) cause) ⊥ between last (λ no. absurd no)
    (no_fault T E value cause) now

-- an answer after calls that answered
pub reads_answer : (T E : Type 0) (value : T) (cause : E) (first last : Seen)
    → OnlyReads ⊥ first last → OnlyReads (IsErrOf {T = T} {E = E} (Ok value) cause) first last
reads_answer T E value cause first last reads =
    reads_so ⊥ (IsErrOf {T = T} {E = E} (Ok value) cause) first last (no_fault T E value cause)
    (λ no. absurd no) reads

abbrev pub IsOther : AnswerFault → Type 0
IsOther ReadFault = ⊥
IsOther TooManyGroups = Unit {0}
IsOther BadDocs = Unit {0}
IsOther NoMemory = Unit {0}

-- a refusal after calls that answered
pub reads_refused : (U : Type 0) (fault : AnswerFault) (first last : Seen) → IsOther fault
    → OnlyReads ⊥ first last
    → OnlyReads (IsErrOf {T = U} {E = AnswerFault} (Err fault) ReadFault) first last
reads_refused U fault first last other reads =
    reads_so ⊥ (IsErrOf {T = U} {E = AnswerFault} (Err fault) ReadFault) first last
    (λ is. let same : fault ≡ ReadFault = cc is in subst IsOther same other) (λ no. absurd no) reads
