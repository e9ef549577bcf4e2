-- Calls that only read, by their answers and faults.
use Rattle.std.proofs.Common.{◌≡◌, ◌∙◌, ℕ, Bool, false, get_or, Result, Ok, Err, IsErrOf, List, Option, Some, None, IfSome, ap, sym, subst, refl}
use Rattle.std.specs.Prelude.{OnErr}
use Rattle.outside.specs.Files.{Files}
use Rattle.outside.specs.Seen.{OnlyReads, Seen}
use Rattle.outside.specs.declared.place.Place.{Place}
use Rattle.outside.proofs.SeenLemmas.{reads_after, reads_so}
use Rattle.bit_column.specs.Column.{width_of}
use Rattle.bit_column.specs.Sections.{Readable, section}
use Rattle.bit_column.specs.declared.fault.ColumnFault.{ColumnFault}
use Rattle.bit_column.specs.declared.fault.ColumnFault.TheVariants as columns
use Rattle.segment_head.specs.Heads as heads
use Rattle.segment_file.specs.declared.part.Part.TheVariants.{Forward}
use Rattle.column_reader.specs.Faults.{fault_of}
use Rattle.column_reader.specs.Forward.{HasIds, IsFaultAt, IsFaultIn}
use Rattle.segment_plan.specs.Matched.{count_in}
use Rattle.segment_head.specs.declared.fault.EngineFault.{EngineFault}
use Rattle.segment_head.specs.declared.fault.EngineFault.TheVariants.{NotASegment, NoMemory, ReadFault, TooManyGroups}

is_read : (fault : ColumnFault) (column : ℕ) → fault_of fault column ≡ ReadFault → fault ≡ columns.ReadFault
is_read columns.ReadFault column is = refl
is_read columns.BadId column is = absurd cc
is_read columns.NoMemory column is = absurd cc

is_bad : (fault : ColumnFault) (column : ℕ) → fault_of fault column ≡ NotASegment (Forward column) → fault ≡ columns.BadId
is_bad columns.ReadFault column is = absurd cc
is_bad columns.BadId column is = refl
is_bad columns.NoMemory column is = absurd cc

-- a column that was not read
pub column_failed : (T U : Type 0) (fault : ColumnFault) (column : ℕ) (given : EngineFault) (first between last : Seen) → given ≡ fault_of fault column → OnlyReads ⊥ first between → OnlyReads (IsErrOf {T = T} {E = ColumnFault} (Err fault) columns.ReadFault) between last
    → OnlyReads (IsErrOf {T = U} {E = EngineFault} (Err given) ReadFault) first last
column_failed T U fault column given first between last same before now =
    reads_after (IsErrOf {T = U} {E = EngineFault} (Err given) ReadFault) first between last before
    (reads_so (IsErrOf {T = T} {E = ColumnFault} (Err fault) columns.ReadFault) (IsErrOf {T = U} {E = EngineFault} (Err given) ReadFault) between last
    (λ is. let e : given ≡ ReadFault = cc in ap (λ (f : ColumnFault). Err f) (is_read fault column (sym same ∙ e)))
    (λ is. let e : fault ≡ columns.ReadFault = cc in ap (λ (f : EngineFault). Err f) (same ∙ ap (λ f. fault_of f column) e)) now)

-- a column with an id that is out of range
pub column_bad : (T U : Type 0) (fault : ColumnFault) (column : ℕ) (given : EngineFault) → given ≡ fault_of fault column → IsErrOf {T = U} {E = EngineFault} (Err given) (NotASegment (Forward column)) → IsErrOf {T = T} {E = ColumnFault} (Err fault) columns.BadId
column_bad T U fault column given same is = let e : given ≡ NotASegment (Forward column) = cc in ap (λ (f : ColumnFault). Err f) (is_bad fault column (sym same ∙ e))

-- a forward section without an id below the count for each row
pub not_ids : (held : Option Files) (head : heads.Seen) (column : ℕ) (place : Place) (width values : ℕ) → Some place ≡ heads.place_in head.sections (Forward column) → values ≡ count_in head column → width ≡ width_of values
    → IfSome held (λ files. ¬ Readable width values 0 head.rows (section files place)) → IfSome held (λ files. ¬ HasIds files head column)
not_ids None head column place width values at count is bad = tt
not_ids (Some files) head column place width values at count is bad = λ has.
    bad (subst (λ w. Readable w values 0 head.rows (section files place)) (sym is)
    (subst (λ v. Readable (width_of v) v 0 head.rows (section files place)) (sym count)
    (subst (λ o. Readable (width_of (count_in head column)) (count_in head column) 0 head.rows (heads.bytes_in files o)) (sym at) has)))

-- the fault of one column is that of columns
pub fault_in : (held now : Option Files) (head : heads.Seen) (named : List Bool) (column : ℕ) (fault : EngineFault) → now ≡ held → IsFaultAt now head column (get_or named column false) fault → IsFaultIn held head named fault
fault_in held now head named column TooManyGroups same is = is
fault_in held now head named column ReadFault same is = tt
fault_in held now head named column NoMemory same is = tt
fault_in held now head named column (NotASegment part) same is = (column, is.0, is.1, subst (λ h. IfSome h (λ files. ¬ HasIds files head column)) same is.2)
