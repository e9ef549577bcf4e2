-- What calls leave of a depot, one after another, and what the faults of the store are for a call of cursors.
use Rattle.std.proofs.Common.{◌≡◌, ◌≢◌, ◌∙◌, Result, Ok, Err, refl, sym, ap, subst, arith}
use Rattle.std.specs.Prelude.{◌↔◌, IsErrOf, List, ℕ}
use Rattle.outside.specs.Counts.{Rose}
use Rattle.outside.specs.Files.{SameBut}
use Rattle.outside.specs.Seen.{Seen}
use Rattle.segment_build.specs.FileReads.{file_unread}
use Rattle.segment_build.specs.FileLaws.{same_but}
use Rattle.segment_build.specs.Publishing.{incoming}
use Rattle.table_store.specs.Calls.{CopiesFile, OnlyPublishes, OnlyRemoves}
use Rattle.table_store.specs.declared.fault.StoreFault.{StoreFault}
use Rattle.table_store.specs.declared.fault.StoreFault.TheVariants as store
use Rattle.table_store.proofs.CopyLemmas.{copies_after, copies_so}
use Rattle.query_executor.proofs.EndLemmas.{Done, Failed, own_fault}
use Rattle.serving.specs.Faults.{of_store}
use Rattle.serving.specs.declared.fault.ServeFault.{ServeFault}
use Rattle.serving.specs.declared.fault.ServeFault.TheVariants as fault

-- ---- files that are taken away

pub removes_after : (W : Type 0) (a b d : Seen) → OnlyRemoves ⊥ ⊥ a b → OnlyRemoves ⊥ W b d → OnlyRemoves ⊥ W a d
removes_after W a b d first next =
    let reads : b.read_faults ≡ a.read_faults = first.reads_still (λ fails. fails) in
    let writes : b.write_faults ≡ a.write_faults = first.writes_still (λ fails. fails) in
    record {
      parts = next.parts ∙ first.parts;
      log = next.log ∙ first.log;
      reads_later = omega (arith, reads, next.reads_later);
      read_failed = λ fails. absurd fails;
      reads_still = λ fine. next.reads_still fine ∙ reads;
      writes_later = omega (arith, writes, next.writes_later);
      write_failed = λ fails. subst (λ n. Rose n d.write_faults) writes (next.write_failed fails);
      writes_still = λ fine. next.writes_still fine ∙ writes;
    }

pub removes_so : (R W R' W' : Type 0) (a b : Seen) → R ↔ R' → W ↔ W' → OnlyRemoves R W a b → OnlyRemoves R' W' a b
removes_so R W R' W' a b r w is = record {
  parts = is.parts;
  log = is.log;
  reads_later = is.reads_later;
  read_failed = λ fails. is.read_failed (r.1 fails);
  reads_still = λ fine. is.reads_still (λ fails. fine (r.0 fails));
  writes_later = is.writes_later;
  write_failed = λ fails. is.write_failed (w.1 fails);
  writes_still = λ fine. is.writes_still (λ fails. fine (w.0 fails));
}

-- where a call did not fail so
pub removes_not : (W W' : Type 0) (a b : Seen) → ¬ W → ¬ W' → OnlyRemoves ⊥ W a b → OnlyRemoves ⊥ W' a b
removes_not W W' a b none still is = removes_so ⊥ W ⊥ W' a b ((λ e. e), (λ e. e)) ((λ e. absurd (none e)), (λ e. absurd (still e))) is

-- ---- a file is copied, and then one taken away or put

pub of_removes : (file : List ℕ) (R W : Type 0) (a b : Seen) → OnlyRemoves R W a b → CopiesFile file R W a b
of_removes file R W a b is = record {
  parts = subst (SameBut incoming a.parts) (sym is.parts) (same_but incoming a.parts);
  log = file_unread file a.log b.log is.log;
  reads_later = is.reads_later;
  read_failed = is.read_failed;
  reads_still = is.reads_still;
  writes_later = is.writes_later;
  write_failed = is.write_failed;
  writes_still = is.writes_still;
}

pub of_publishes : (file : List ℕ) (R W : Type 0) (a b : Seen) → OnlyPublishes R W a b → CopiesFile file R W a b
of_publishes file R W a b is = record {
  parts = is.parts;
  log = file_unread file a.log b.log is.log;
  reads_later = is.reads_later;
  read_failed = is.read_failed;
  reads_still = is.reads_still;
  writes_later = is.writes_later;
  write_failed = is.write_failed;
  writes_still = is.writes_still;
}

-- ---- which faults they are

pub no_err : {A E : Type 0} (x : A) (e : E) → Ok x ≡ Err e → ⊥
no_err x e is = cc

to_read : (why : StoreFault) → of_store why ≡ fault.ReadFault → why ≡ store.ReadFault
to_read store.TableExists e = absurd cc
to_read store.NoTable e = absurd cc
to_read store.NameTaken e = absurd cc
to_read store.NoSegment e = absurd cc
to_read store.TooManySegments e = absurd cc
to_read store.TooLarge e = absurd cc
to_read (store.NotASegment part) e = absurd cc
to_read store.ReadFault e = refl
to_read store.WriteFault e = absurd cc
to_read store.NoMemory e = absurd cc

to_write : (why : StoreFault) → of_store why ≡ fault.WriteFault → why ≡ store.WriteFault
to_write store.TableExists e = absurd cc
to_write store.NoTable e = absurd cc
to_write store.NameTaken e = absurd cc
to_write store.NoSegment e = absurd cc
to_write store.TooManySegments e = absurd cc
to_write store.TooLarge e = absurd cc
to_write (store.NotASegment part) e = absurd cc
to_write store.ReadFault e = absurd cc
to_write store.WriteFault e = refl
to_write store.NoMemory e = absurd cc

module _ (T U : Type 0) where
  pub fails_to_read : (why : StoreFault) (own : ServeFault) → own ≡ of_store why → IsErrOf (Failed T why) store.ReadFault ↔ IsErrOf (Failed U own) fault.ReadFault
  fails_to_read why own is = (
    λ e. ap Err (is ∙ ap of_store (own_fault T why store.ReadFault e)),
    λ e. ap Err (to_read why (sym is ∙ own_fault U own fault.ReadFault e)),
  )

  pub fails_to_write : (why : StoreFault) (own : ServeFault) → own ≡ of_store why → IsErrOf (Failed T why) store.WriteFault ↔ IsErrOf (Failed U own) fault.WriteFault
  fails_to_write why own is = (
    λ e. ap Err (is ∙ ap of_store (own_fault T why store.WriteFault e)),
    λ e. ap Err (to_write why (sym is ∙ own_fault U own fault.WriteFault e)),
  )

-- ---- what a drop or a replace leaves of a depot

-- a call failed to read, or to write
abbrev pub FailsToRead : {T : Type 0} → Result T StoreFault → Type 0
FailsToRead r = IsErrOf r store.ReadFault

abbrev pub FailsToWrite : {T : Type 0} → Result T StoreFault → Type 0
FailsToWrite r = IsErrOf r store.WriteFault

abbrev pub Copies : List ℕ → {T : Type 0} → Result T StoreFault → Seen → Seen → Type 0
Copies file r a b = CopiesFile file (FailsToRead r) (FailsToWrite r) a b

abbrev pub CopiesSo : List ℕ → {U : Type 0} → Result U ServeFault → Seen → Seen → Type 0
CopiesSo file r a b = CopiesFile file (IsErrOf r fault.ReadFault) (IsErrOf r fault.WriteFault) a b

neither : {P Q : Type 0} → ¬ P → ¬ Q → P ↔ Q
neither p q = ((λ e. absurd (p e)), (λ e. absurd (q e)))

-- a call that did not fail so
pub quiet : (file : List ℕ) (M : Type 0) (x : M) (a b : Seen) → Copies file (Done {E = StoreFault} x) a b → CopiesFile file ⊥ ⊥ a b
quiet file M x a b is =
    copies_so file (FailsToRead (Done {E = StoreFault} x)) (FailsToWrite (Done {E = StoreFault} x)) ⊥ ⊥ a b (neither (λ e. no_err x store.ReadFault e) (λ e. e)) (neither (λ e. no_err x store.WriteFault e) (λ e. e)) is

read_not_large : store.TooLarge ≢ store.ReadFault
read_not_large e = absurd cc

write_not_large : store.TooLarge ≢ store.WriteFault
write_not_large e = absurd cc

pub quiet_large : (file : List ℕ) (T : Type 0) (a b : Seen) → Copies file (Failed T store.TooLarge) a b → CopiesFile file ⊥ ⊥ a b
quiet_large file T a b is =
    copies_so file (FailsToRead (Failed T store.TooLarge)) (FailsToWrite (Failed T store.TooLarge)) ⊥ ⊥ a b
    (neither (λ e. read_not_large (own_fault T store.TooLarge store.ReadFault e)) (λ e. e)) (neither (λ e. write_not_large (own_fault T store.TooLarge store.WriteFault e)) (λ e. e)) is

module _ (file : List ℕ) (a b : Seen) (U : Type 0) where
  pub fails_so : (T : Type 0) (why : StoreFault) (own : ServeFault) → own ≡ of_store why → Copies file (Failed T why) a b → CopiesSo file (Failed U own) a b
  fails_so T why own is it =
      copies_so file (FailsToRead (Failed T why)) (FailsToWrite (Failed T why)) (IsErrOf (Failed U own) fault.ReadFault) (IsErrOf (Failed U own) fault.WriteFault) a b
      (fails_to_read T U why own is) (fails_to_write T U why own is) it

serve_read_not_large : fault.TooLarge ≢ fault.ReadFault
serve_read_not_large e = absurd cc

serve_write_not_large : fault.TooLarge ≢ fault.WriteFault
serve_write_not_large e = absurd cc

-- it was refused in the end, and what was copied was taken away
pub ends_large : (file : List ℕ) (U : Type 0) (a b : Seen) → CopiesFile file ⊥ ⊥ a b → CopiesSo file (Failed U fault.TooLarge) a b
ends_large file U a b is =
    copies_so file ⊥ ⊥ (IsErrOf (Failed U fault.TooLarge) fault.ReadFault) (IsErrOf (Failed U fault.TooLarge) fault.WriteFault) a b
    (neither (λ e. e) (λ e. serve_read_not_large (own_fault U fault.TooLarge fault.ReadFault e))) (neither (λ e. e) (λ e. serve_write_not_large (own_fault U fault.TooLarge fault.WriteFault e))) is

-- what was copied could not be taken away
pub fails_back : (file : List ℕ) (T U : Type 0) (why : StoreFault) (own : ServeFault) (a b : Seen) → own ≡ of_store why → why ≢ store.ReadFault → OnlyRemoves ⊥ (FailsToWrite (Failed T why)) a b → CopiesSo file (Failed U own) a b
fails_back file T U why own a b is unread it =
    copies_so file ⊥ (FailsToWrite (Failed T why)) (IsErrOf (Failed U own) fault.ReadFault) (IsErrOf (Failed U own) fault.WriteFault) a b
    (neither (λ e. e) (λ e. unread (to_read why (sym is ∙ own_fault U own fault.ReadFault e)))) (fails_to_write T U why own is)
    (of_removes file ⊥ (FailsToWrite (Failed T why)) a b it)

pub fails_back_after : (file : List ℕ) (T U : Type 0) (why : StoreFault) (own : ServeFault) (a d e : Seen) → own ≡ of_store why → why ≢ store.ReadFault → CopiesFile file ⊥ ⊥ a d → OnlyRemoves ⊥ (FailsToWrite (Failed T why)) d e
    → CopiesSo file (Failed U own) a e
fails_back_after file T U why own a d e is unread first next =
    copies_after file (IsErrOf (Failed U own) fault.ReadFault) (IsErrOf (Failed U own) fault.WriteFault) a d e first (fails_back file T U why own d e is unread next)
