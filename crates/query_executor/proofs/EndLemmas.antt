-- The ends of a function whose calls may fail: what it says of the fault that it passes on, and of what it read.
use Rattle.std.proofs.Common.{◌≡◌, ◌≢◌, ◌∙◌, Result, Ok, Err, IfOk, sym, ap, subst}
use Rattle.std.specs.Prelude.{IsErrAnd, OnOk}
use Rattle.outside.specs.Seen as outside
use Rattle.outside.specs.Seen.{OnlyReads}
use Rattle.segment_file.specs.declared.fault.HeadFault.{HeadFault}
use Rattle.segment_file.specs.declared.fault.HeadFault.TheVariants as head
use Rattle.segment_file.specs.declared.part.Part.{Part}
use Rattle.segment_head.specs.declared.fault.EngineFault.{EngineFault}
use Rattle.segment_head.specs.declared.fault.EngineFault.TheVariants as engine
use Rattle.segment_head.specs.Faults.{fault_of}
use Rattle.sql_reply.specs.declared.fault.SqlFault.{SqlFault}
use Rattle.sql_reply.specs.declared.fault.SqlFault.TheVariants as sql
use Rattle.query_executor.specs.declared.fault.ExecutorFault.{ExecutorFault}
use Rattle.query_executor.specs.declared.fault.ExecutorFault.TheVariants.{Sql}
use Rattle.query_executor.proofs.FaultLemmas.{own_refusal}
use Rattle.segment_head.proofs.FaultLemmas.{read_head}
use Rattle.segment_reads.proofs.LogLemmas.{reads_as, reads_none}

-- nothing was read
pub reads_unread : (F : Type 0) (a : outside.Seen) → (F → ⊥) → OnlyReads F a a
reads_unread F a none = reads_as a a (reads_none a) none (λ e. absurd e)

module _ {E : Type 0} where
  abbrev pub Done : {T : Type 0} → T → Result T E
  Done x = Ok x

  abbrev pub Failed : (T : Type 0) → E → Result T E
  Failed T f = Err f

  pub own_fault : (T : Type 0) (f g : E) → Failed T f ≡ Failed T g → f ≡ g
  own_fault T f g e = cc

  pub no_fault : (T : Type 0) (x : T) (g : E) → Done x ≢ Failed T g
  no_fault T x g = λ e. absurd cc

  -- a fault that is passed on
  pub reads_failed : (T U : Type 0) (f g : E) (a b : outside.Seen) → OnlyReads (Failed T f ≡ Failed T g) a b → OnlyReads (Failed U f ≡ Failed U g) a b
  reads_failed T U f g a b o = reads_as a b o (λ e. ap Err (own_fault U f g e)) (λ e. ap Err (own_fault T f g e))

  -- an end without a fault, after a call without one
  pub reads_done : (T U : Type 0) (x : T) (y : U) (g : E) (a b : outside.Seen) → OnlyReads (Done x ≡ Failed T g) a b → OnlyReads (Done y ≡ Failed U g) a b
  reads_done T U x y g a b o = reads_as a b o (λ e. absurd (no_fault U y g e)) (λ e. absurd (no_fault T x g e))

  -- a call without a fault, before others
  pub reads_still : (T : Type 0) (x : T) (g : E) (a b : outside.Seen) → OnlyReads (Done x ≡ Failed T g) a b → OnlyReads ⊥ a b
  reads_still T x g a b o = reads_as a b o (λ e. absurd e) (λ e. no_fault T x g e)

  -- an end with another fault, after a call without one
  pub reads_other : (T U : Type 0) (x : T) (f g : E) (a b : outside.Seen) → f ≢ g → OnlyReads (Done x ≡ Failed T g) a b → OnlyReads (Failed U f ≡ Failed U g) a b
  reads_other T U x f g a b ne o = reads_as a b o (λ e. absurd (ne (own_fault U f g e))) (λ e. absurd (no_fault T x g e))

  -- a result that is known to be a fault
  module _ (T : Type 0) (r : Result T E) (f : E) where
    pub gives_fault : IsErrAnd r (λ g. g ≡ f) → r ≡ Err f
    gives_fault is = by r is
      where
        by : (r : Result T E) → IsErrAnd r (λ g. g ≡ f) → r ≡ Err f
        by (Ok x) is = absurd is
        by (Err g) is = ap Err is

    pub fault_ok : (P : Type 0) → r ≡ Err f → OnOk r P
    fault_ok P is = subst (λ r. OnOk r P) (sym is) tt

    pub fault_if : (P : T → Type 0) → r ≡ Err f → IfOk r P
    fault_if P is = subst (λ r. IfOk r P) (sym is) tt

    pub fault_not : (g : E) → f ≢ g → r ≡ Err f → r ≢ Err g
    fault_not g ne is = λ e. ne (own_fault T f g (sym is ∙ e))

-- the fault of a head, as that of its segment
pub reads_headed : (T U : Type 0) (f : HeadFault) (g : EngineFault) (a b : outside.Seen) → g ≡ fault_of f → OnlyReads (Failed T f ≡ Failed T head.ReadFault) a b → OnlyReads (Failed U g ≡ Failed U engine.ReadFault) a b
reads_headed T U f g a b is o = reads_as a b o (λ e. ap Err (read_head f (sym is ∙ own_fault U g engine.ReadFault e))) (λ e. ap Err (is ∙ ap fault_of (own_fault T f head.ReadFault e)))

pub memory_not_full : engine.NoMemory ≢ engine.TooManyGroups
memory_not_full = λ e. absurd cc

pub memory_not_bad : (part : Part) → engine.NoMemory ≢ engine.NotASegment part
memory_not_bad part = λ e. absurd cc

pub memory_not_read : engine.NoMemory ≢ engine.ReadFault
memory_not_read = λ e. absurd cc

-- a fault other than that of a read, after reads without one
pub reads_lacking : (F : Type 0) (a b : outside.Seen) → (F → ⊥) → OnlyReads ⊥ a b → OnlyReads F a b
reads_lacking F a b none o = reads_as a b o none (λ e. absurd e)

-- a query's result that is known to be a want of memory
pub memory_refused : (T : Type 0) (r : Result T ExecutorFault) (fault : SqlFault) → r ≡ Err (Sql sql.NoMemory) → r ≡ Err (Sql fault) → fault ≢ sql.NoMemory → ⊥
memory_refused T r fault is e real = real (sym (own_refusal sql.NoMemory fault (own_fault T (Sql sql.NoMemory) (Sql fault) (sym is ∙ e))))

pub found_so : {T E : Type 0} (r : Result T E) (P Q : T → Type 0) → ((t : T) → P t → Q t) → IfOk r P → IfOk r Q
found_so (Ok t) P Q f h = f t h
found_so (Err e) P Q f h = tt
