-- What a call leaves where it hands on a fault, or where a growth was refused.
use Rattle.std.proofs.Common.{◌≡◌, ◌≢◌, Err, Ok, Result, ap}
use Rattle.std.specs.Result.{IfErr, IfOk, IsErr, IsErrAnd, IsErrOf}
use Rattle.outside.specs.declared.shelf.ShelfFault.{ShelfFault}
use Rattle.outside.specs.declared.shelf.ShelfFault.TheVariants as shelf
use Rattle.outside.specs.Seen.{OnlyReads, Seen}
use Rattle.outside.proofs.SeenLemmas.{reads_after, reads_so}
use Rattle.segment_file.specs.declared.fault.HeadFault.{HeadFault}
use Rattle.segment_file.specs.declared.fault.HeadFault.TheVariants as fault
use Rattle.segment_file.specs.declared.part.Part.{Part}

-- a growth that was refused
abbrev pub IsGrowth : {T : Type 0} → Result T HeadFault → Type 0
IsGrowth r = IsErr r × IsErrAnd r (λ f. f ≡ fault.NoMemory)

pub growth_ok : {T : Type 0} (P : T → Type 0) (r : Result T HeadFault) → IsGrowth r → IfOk r P
growth_ok P (Ok x) h = absurd h.1
growth_ok P (Err y) h = tt

pub growth_bad : {T : Type 0} (P : Part → Type 0) (r : Result T HeadFault) → IsGrowth r → IfErr r (λ f. (p : Part) → f ≡ fault.NotASegment p → P p)
growth_bad P (Ok x) h = tt
growth_bad P (Err y) h = λ p is. let no : y ≡ fault.NoMemory = h.1 in absurd cc

pub growth_reads : {T : Type 0} (r : Result T HeadFault) (old new : Seen) → IsGrowth r → OnlyReads ⊥ old new → OnlyReads (IsErrOf r fault.ReadFault) old new
growth_reads (Ok x) old new h reads = absurd h.1
growth_reads {T} (Err y) old new h reads = let no : y ≡ fault.NoMemory = h.1 in reads_so ⊥ (IsErrOf {T = T} {E = HeadFault} (Err y) fault.ReadFault) old new (λ e. absurd cc) (λ e. absurd e) reads

err_same : {T : Type 0} (a b : HeadFault) → IsErrOf {T = T} {E = HeadFault} (Err a) b → a ≡ b
err_same a b e = cc

-- a fault that is handed on
pub reads_handed : {T U : Type 0} (a : HeadFault) (old new : Seen) → OnlyReads (IsErrOf {T = T} {E = HeadFault} (Err a) fault.ReadFault) old new → OnlyReads (IsErrOf {T = U} {E = HeadFault} (Err a) fault.ReadFault) old new
reads_handed {T} {U} a old new reads =
    reads_so (IsErrOf {T = T} {E = HeadFault} (Err a) fault.ReadFault) (IsErrOf {T = U} {E = HeadFault} (Err a) fault.ReadFault) old new (λ e. ap Err (err_same {T = U} a fault.ReadFault e)) (λ e. ap Err (err_same {T = T} a fault.ReadFault e)) reads

-- a call that ended well
pub reads_well : {T : Type 0} (x : T) (old new : Seen) → OnlyReads (IsErrOf {T = T} {E = HeadFault} (Ok x) fault.ReadFault) old new → OnlyReads ⊥ old new
reads_well {T} x old new reads = reads_so (IsErrOf {T = T} {E = HeadFault} (Ok x) fault.ReadFault) ⊥ old new (λ e. absurd e) (λ e. absurd cc) reads

pub reads_ended : {T : Type 0} (x : T) (old new : Seen) → OnlyReads ⊥ old new → OnlyReads (IsErrOf {T = T} {E = HeadFault} (Ok x) fault.ReadFault) old new
reads_ended {T} x old new reads = reads_so ⊥ (IsErrOf {T = T} {E = HeadFault} (Ok x) fault.ReadFault) old new (λ e. absurd cc) (λ e. absurd e) reads

-- a fault after a call that ended well
pub reads_err : {T U : Type 0} (a : HeadFault) (old between new : Seen) → OnlyReads ⊥ old between → OnlyReads (IsErrOf {T = T} {E = HeadFault} (Err a) fault.ReadFault) between new → OnlyReads (IsErrOf {T = U} {E = HeadFault} (Err a) fault.ReadFault) old new
reads_err {T} {U} a old between new before after = reads_after (IsErrOf {T = U} {E = HeadFault} (Err a) fault.ReadFault) old between new before (reads_handed {T = T} {U = U} a between new after)

-- ---- what follows from an end of a call

pub ok_so : {T E : Type 0} (P Q : T → Type 0) (r : Result T E) → ((x : T) → P x → Q x) → IfOk r P → IfOk r Q
ok_so P Q (Ok x) so is = so x is
ok_so P Q (Err y) so is = tt

pub err_so : {T E : Type 0} (P Q : E → Type 0) (r : Result T E) → ((y : E) → P y → Q y) → IfErr r P → IfErr r Q
err_so P Q (Ok x) so is = tt
err_so P Q (Err y) so is = so y is

-- a fault that is none of the device
pub reads_other : {T : Type 0} (a : HeadFault) (old new : Seen) → a ≢ fault.ReadFault → OnlyReads ⊥ old new → OnlyReads (IsErrOf {T = T} {E = HeadFault} (Err a) fault.ReadFault) old new
reads_other {T} a old new other reads = reads_so ⊥ (IsErrOf {T = T} {E = HeadFault} (Err a) fault.ReadFault) old new (λ e. other (err_same {T = T} a fault.ReadFault e)) (λ e. absurd e) reads

pub growth_read : {T : Type 0} (r : Result T HeadFault) → IsGrowth r → ¬ IsErrOf r fault.ReadFault
growth_read (Ok x) h = absurd h.1
growth_read (Err y) h = λ e. let no : y ≡ fault.NoMemory = h.1 in cc

pub read_handed : {T U : Type 0} (a : HeadFault) → ¬ IsErrOf {T = T} {E = HeadFault} (Err a) fault.ReadFault → ¬ IsErrOf {T = U} {E = HeadFault} (Err a) fault.ReadFault
read_handed {T} {U} a none e = none (ap Err (err_same {T = U} a fault.ReadFault e))

pub same_part : (a b : Part) → fault.NotASegment a ≡ fault.NotASegment b → a ≡ b
same_part a b e = cc

pub no_read : {T : Type 0} (p : Part) → ¬ IsErrOf {T = T} {E = HeadFault} (Err (fault.NotASegment p)) fault.ReadFault
no_read p e = cc

pub well_read : {T : Type 0} (x : T) → ¬ IsErrOf {T = T} {E = HeadFault} (Ok x) fault.ReadFault
well_read x e = cc

pub other_fault : (p : Part) → fault.NotASegment p ≢ fault.ReadFault
other_fault p e = cc

-- ---- what a fault of a shelf is for a head

shelf_same : {T : Type 0} (a b : ShelfFault) → IsErrOf {T = T} {E = ShelfFault} (Err a) b → a ≡ b
shelf_same a b e = cc

pub shelf_well : {T : Type 0} (x : T) (old new : Seen) → OnlyReads (IsErrOf {T = T} {E = ShelfFault} (Ok x) shelf.Failed) old new → OnlyReads ⊥ old new
shelf_well {T} x old new reads = reads_so (IsErrOf {T = T} {E = ShelfFault} (Ok x) shelf.Failed) ⊥ old new (λ e. absurd e) (λ e. absurd cc) reads

pub shelf_handed : {T U : Type 0} (a : ShelfFault) (b : HeadFault) (old new : Seen) → (b ≡ fault.ReadFault → a ≡ shelf.Failed) → (a ≡ shelf.Failed → b ≡ fault.ReadFault) → OnlyReads (IsErrOf {T = T} {E = ShelfFault} (Err a) shelf.Failed) old new → OnlyReads (IsErrOf {T = U} {E = HeadFault} (Err b) fault.ReadFault) old new
shelf_handed {T} {U} a b old new from to reads =
    reads_so (IsErrOf {T = T} {E = ShelfFault} (Err a) shelf.Failed) (IsErrOf {T = U} {E = HeadFault} (Err b) fault.ReadFault) old new (λ e. ap Err (from (err_same {T = U} b fault.ReadFault e))) (λ e. ap Err (to (shelf_same {T = T} a shelf.Failed e))) reads

pub shelf_ok : {T : Type 0} (x : T) → ¬ IsErrOf {T = T} {E = ShelfFault} (Ok x) shelf.Failed
shelf_ok x e = cc

pub shelf_other : {T : Type 0} (a : ShelfFault) → a ≢ shelf.Failed → ¬ IsErrOf {T = T} {E = ShelfFault} (Err a) shelf.Failed
shelf_other {T} a other e = other (shelf_same {T = T} a shelf.Failed e)
