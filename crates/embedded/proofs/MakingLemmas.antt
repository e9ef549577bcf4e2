-- What is done where a store is made or opened, by what the parts of that did.
use Rattle.std.proofs.Common.{◌≡◌, ◌⊎◌, inl, inr, Result, Err, IsErrOf, sym, subst}
use Rattle.std.specs.FinMap as map
use Rattle.outside.specs.Files.{Lacks, OfFile, with_file}
use Rattle.outside.specs.Seen.{OnlyReads, Seen}
use Rattle.segment_file.specs.declared.part.Part.TheVariants as parts
use Rattle.table_schema.specs.declared.table.Table.{Table}
use Rattle.table_store.specs.Accepted.{IsAccepted, IsNoTableFile, IsTableFile}
use Rattle.table_store.specs.Calls.{OnlyPublishes}
use Rattle.table_store.specs.State.{Texts}
use Rattle.table_store.specs.TableFile.{table_file, table_name}
use Rattle.table_store.specs.declared.fault.StoreFault.{StoreFault}
use Rattle.table_store.specs.declared.fault.StoreFault.TheVariants as store
use Rattle.table_store.proofs.CallLemmas.{publishes_so}
use Rattle.command_model.proofs.StoredLemmas.{reads_as}
use Rattle.embedded.specs.Making.{IsMade, IsNotOpened, IsOpened, WhyNotOpened}
use Rattle.embedded.specs.Stores.{over}
use Rattle.embedded.specs.declared.fault.Fault.TheVariants.{Store}
use Rattle.embedded.proofs.StateLemmas.{Kept, lacking_so, made_so, opened_so, wrong_so}

-- ---- a table is made

pub made : {R W : Type 0} (texts : Texts) (table : Table) (a d : Seen) → IsAccepted texts table → d.held ≡ with_file table_name (table_file texts) a.held → ¬ R → ¬ W → OnlyPublishes R W a d → IsMade texts a (over table d)
made {R = R} {W = W} texts table a d accepted now unread unwritten leaves = record {
  table = accepted;
  keeps = λ none. subst (Kept table map.empty) (sym now) (made_so texts table a.held accepted none);
  leaves = publishes_so R W ⊥ ⊥ a d (λ e. absurd e) unread (λ e. absurd e) unwritten leaves;
}

-- ---- a store is opened

abbrev Unopened : StoreFault → Result Table StoreFault
Unopened f = Err f

unopened_as : (f e : StoreFault) → IsErrOf (Unopened f) e → f ≡ e
unopened_as f e is = cc

pub opened : {R : Type 0} (table : Table) (a b : Seen) → OfFile a.held table_name (λ bytes. IsTableFile bytes table) → ¬ R → OnlyReads R a b → IsOpened a (over table b)
opened {R = R} table a b is unread reads = record {
  keeps = λ texts segments stands. subst (Kept table segments) (sym reads.held) (opened_so texts segments table a.held is stands);
  leaves = reads_as a b reads (λ e. absurd e) unread;
}

module _ (f : StoreFault) (a b : Seen) where
  abbrev OpenOnly : Type 0
  OpenOnly = IsErrOf (Unopened f) store.NoTable ⊎ IsErrOf (Unopened f) (store.NotASegment parts.Table) ⊎ IsErrOf (Unopened f) store.ReadFault ⊎ IsErrOf (Unopened f) store.NoMemory

  open_cause : (IsErrOf (Unopened f) store.NoTable → Lacks a.held table_name) → (IsErrOf (Unopened f) (store.NotASegment parts.Table) → OfFile a.held table_name IsNoTableFile) → OpenOnly → WhyNotOpened a (Store f)
  open_cause none other (inl e) = subst (λ g. WhyNotOpened a (Store g)) (sym (unopened_as f store.NoTable e)) (λ texts segments stands. lacking_so texts segments a.held (none e) stands)
  open_cause none other (inr (inl e)) =
      subst (λ g. WhyNotOpened a (Store g)) (sym (unopened_as f (store.NotASegment parts.Table) e)) (λ texts segments stands. wrong_so texts segments a.held (other e) stands)
  open_cause none other (inr (inr (inl e))) = subst (λ g. WhyNotOpened a (Store g)) (sym (unopened_as f store.ReadFault e)) tt
  open_cause none other (inr (inr (inr e))) = subst (λ g. WhyNotOpened a (Store g)) (sym (unopened_as f store.NoMemory e)) tt

  pub not_opened : (IsErrOf (Unopened f) store.NoTable → Lacks a.held table_name) → (IsErrOf (Unopened f) (store.NotASegment parts.Table) → OfFile a.held table_name IsNoTableFile) → OpenOnly → OnlyReads (IsErrOf (Unopened f) store.ReadFault) a b
      → IsNotOpened a b (Store f)
  not_opened none other only reads = record { cause = open_cause none other only; leaves = reads_as a b reads (λ e. cc) (λ e. cc) }
