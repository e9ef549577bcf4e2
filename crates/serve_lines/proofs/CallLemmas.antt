-- Each call of cursors as the line that asks for it.
use Rattle.std.proofs.Common.{◌≡◌, ◌≢◌, ◌<◌, ◌^◌, ℕ, List, Result, Ok, Err, arith, subst, sym}
use Rattle.std.specs.Prelude.{IsSomeAnd}
use Rattle.outside.specs.Files.{Lacks}
use Rattle.outside.specs.Seen.{Seen}
use Rattle.table_schema.specs.declared.query.BoundQuery.{BoundQuery}
use Rattle.table_schema.specs.declared.table.Table.{Table}
use Rattle.table_store.specs.Kept.{kept_name}
use Rattle.table_store.specs.Stands.{Stands}
use Rattle.table_store.specs.State.{HasTable, Texts}
use Rattle.cursor_serve.specs.Machine.{Machine, closed, dropped, fetched, opened, stepped}
use Rattle.cursor_serve.specs.ServingStands.{OpenCursor, ServingStands, segments_of}
use Rattle.serving.specs.Calls.{IsAnsweredAs, Serves}
use Rattle.serving.specs.Faults.{IsCloseFault, IsOpenFault, IsStepFault}
use Rattle.serving.specs.declared.fault.ServeFault.{ServeFault}
use Rattle.serving.specs.declared.fault.ServeFault.TheVariants as serve
use Rattle.command_words.specs.declared.stop.Stop.{Stop}
use Rattle.command_model.specs.Drop.{dropped_text}
use Rattle.serve_lines.specs.Calls.{AnswersBy}
use Rattle.serve_lines.specs.Step.{closed_text, opened_text, stepped_text}
use Rattle.serve_lines.proofs.MachineLemmas.{before_still, closed_before, closed_live, dropped_before, dropped_still, fetched_still, opened_still, stepped_still}
use Rattle.serve_lines.proofs.FreshLemmas.{kept_lacks}
use Rattle.serve_lines.proofs.OverLemmas.{HasCounts, Says, call_as, call_so, told_at}

module _ (number : ℕ) (name : List ℕ) (table : Table) (olds news : List OpenCursor) (i d e : Seen) where
  pub open_so : (query : BoundQuery) (r : Result ℕ ServeFault) (answer : Result (List ℕ) Stop) → Serves (opened name query) table olds news d.held e.held r → HasCounts d e r → Says (opened_text name) name (opened name query) r answer
      → AnswersBy number (opened_text name) name (opened name query) table (record { inputs = i; depot = d }) (record { inputs = i; depot = e }) olds news answer
  open_so query = call_so number (opened_text name) name (opened name query) table olds news (λ m all. before_still number m (opened name query m).machine (opened_still name query m) all) (λ m why is. (opened_still name query m).0) i d e

  pub step_so : (r : Result ℕ ServeFault) (answer : Result (List ℕ) Stop) → Serves (stepped name) table olds news d.held e.held r → HasCounts d e r → Says (stepped_text name) name (stepped name) r answer
      → AnswersBy number (stepped_text name) name (stepped name) table (record { inputs = i; depot = d }) (record { inputs = i; depot = e }) olds news answer
  step_so = call_so number (stepped_text name) name (stepped name) table olds news (λ m all. before_still number m (stepped name m).machine (stepped_still name m) all) (λ m why is. (stepped_still name m).0) i d e

  pub fetch_so : (r : Result (List ℕ) ServeFault) (answer : Result (List ℕ) Stop) → Serves (fetched name) table olds news d.held e.held r → HasCounts d e r → Says (λ text. text) name (fetched name) r answer
      → AnswersBy number (λ text. text) name (fetched name) table (record { inputs = i; depot = d }) (record { inputs = i; depot = e }) olds news answer
  fetch_so = call_so number (λ text. text) name (fetched name) table olds news (λ m all. before_still number m (fetched name m).machine (fetched_still name m) all) (λ m why is. (fetched_still name m).0) i d e

  pub close_so : (r : Result (Unit {0}) ServeFault) (answer : Result (List ℕ) Stop) → Serves (closed name) table olds news d.held e.held r → HasCounts d e r → Says (λ _. closed_text name) name (closed name) r answer
      → AnswersBy number (λ _. closed_text name) name (closed name) table (record { inputs = i; depot = d }) (record { inputs = i; depot = e }) olds news answer
  close_so = call_so number (λ _. closed_text name) name (closed name) table olds news (closed_before number name) (λ m why is. closed_live name m) i d e

  pub drop_so : number < 2 ^ 32 → (r : Result (Unit {0}) ServeFault) (answer : Result (List ℕ) Stop) → (Lacks d.held (kept_name name number) → Serves (dropped number name) table olds news d.held e.held r) → HasCounts d e r
      → Says (λ _. dropped_text name) name (dropped number name) r answer
      → AnswersBy number (λ _. dropped_text name) name (dropped number name) table (record { inputs = i; depot = d }) (record { inputs = i; depot = e }) olds news answer
  drop_so small r answer serves = call_as number (λ _. dropped_text name) name (dropped number name) table olds news (dropped_before number name) (dropped_still number name) i d e r answer
      (λ kept told texts m stands all.
      told_at d.held kept (λ files. (texts : Texts) (m : Machine) → ServingStands olds files texts table m → IsSomeAnd e.held (λ left. IsAnsweredAs (dropped number name m) (ServingStands news left texts table) (Stands left (HasTable texts (segments_of m.live))) r)) told
      (serves (subst (λ o. Lacks o (kept_name name number)) (sym told) (kept_lacks number name olds kept texts table m (omega (arith, small)) stands all))) texts m stands)

-- ---- faults that a call does not answer

one_fault : {A : Type 0} (x y : ServeFault) (r : Result A ServeFault) → r ≡ Err x → r ≡ Err y → x ≡ y
one_fault x y r p q = cc

pub open_writes : {A : Type 0} (f : ServeFault) (r : Result A ServeFault) → r ≡ Err f → IsOpenFault f → r ≢ Err serve.WriteFault
open_writes f r same is e = subst IsOpenFault (one_fault f serve.WriteFault r same e) is

pub step_writes : {A : Type 0} (f : ServeFault) (r : Result A ServeFault) → r ≡ Err f → IsStepFault f → r ≢ Err serve.WriteFault
step_writes f r same is e = subst IsStepFault (one_fault f serve.WriteFault r same e) is

pub close_reads : {A : Type 0} (f : ServeFault) (r : Result A ServeFault) → r ≡ Err f → IsCloseFault f → r ≢ Err serve.ReadFault
close_reads f r same is e = subst IsCloseFault (one_fault f serve.ReadFault r same e) is
