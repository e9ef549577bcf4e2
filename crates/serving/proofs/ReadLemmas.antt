-- What a step or a fetch reads, from what the answering of its segments reads.
use Rattle.std.proofs.Common.{◌≡◌, ◌∙◌, ◌<◌, ◌-◌, ℕ, zero, suc, List, [], true, false, drop, get_or, length, take, Option, Some, None, Result, Ok, Err, refl, sym, ap, subst, arith, slice_get}
use Rattle.std.proofs.lemmas.List.{drop_all}
use Rattle.outside.specs.Files.{Files}
use Rattle.outside.specs.Reads.{Entry}
use Rattle.outside.specs.Seen.{Seen}
use Rattle.values.specs.declared.value.Value.{Value}
use Rattle.table_schema.specs.declared.query.BoundQuery.{BoundQuery}
use Rattle.table_schema.specs.declared.table.Table.{Table}
use Rattle.segment_head.specs.declared.stored.Stored.{Stored}
use Rattle.segment_reads.specs.Logs.{IsFileOf}
use Rattle.segment_reads.specs.Reads.{LogsEach, ReadsPlanned}
use Rattle.segment_reads.proofs.GrownLemmas.{each_as}
use Rattle.segment_reads.proofs.LogLemmas.{logs_none}
use Rattle.segment_reads.proofs.SpanLemmas.{planned_less}
use Rattle.query_executor.specs.Passes.{PassReads}
use Rattle.query_executor.proofs.EndLemmas.{Done, Failed}
use Rattle.query_executor.specs.declared.fault.ExecutorFault.{ExecutorFault}
use Rattle.cursors.specs.Answered.{next_stored}
use Rattle.serving.specs.Calls.{ReadsOf}
use Rattle.cursors.specs.Added.{stored_in}
use Rattle.cursors.specs.Kept.{place_under}
use Rattle.cursors.specs.declared.cursor.Cursor.{Cursor}
use Rattle.serving.specs.declared.fault.ServeFault.{ServeFault}
use Rattle.serving.proofs.ClosedLemmas.{got_at}
use Rattle.serving.proofs.PlaceLemmas.{place_within}

module _ (query : BoundQuery) (table : Table) (stored : List Stored) (T U : Type 0) (a b : Seen) where
  pub reads_done : (x : T) (y : U) → PassReads query table stored a b (Done {E = ExecutorFault} x) → ReadsOf query table stored a b (Done {E = ServeFault} y)
  reads_done x y p = record { log = p.log; reads = p.reads; reads_of_fault = tt }

  pub reads_failed : (fault : ExecutorFault) (why : ServeFault) → PassReads query table stored a b (Failed T fault) → ReadsOf query table stored a b (Failed U why)
  reads_failed fault why p = record { log = p.log; reads = tt; reads_of_fault = p.reads_of_fault }

  -- a fault after all was read
  pub reads_lacking : (x : T) (why : ServeFault) → PassReads query table stored a b (Done {E = ExecutorFault} x) → ReadsOf query table stored a b (Failed U why)
  reads_lacking x why p = record {
    log = p.log;
    reads = tt;
    reads_of_fault = each_as (ReadsPlanned query table true) (ReadsPlanned query table false) table a.held stored (length stored) a.log b.log (planned_less query table) p.reads;
  }

  -- whatever comes after all was read
  pub reads_whole : (x : T) (r : Result U ServeFault) → PassReads query table stored a b (Done {E = ExecutorFault} x) → ReadsOf query table stored a b r
  reads_whole x (Ok y) p = reads_done x y p
  reads_whole x (Err why) p = reads_lacking x why p

-- with none left nothing is read
each_none : (P : Stored → List (List Value) → List Entry → Type 0) (table : Table) (held : Option Files) (old new : Option (List Entry)) → LogsEach P table held [] 0 old new
each_none P table None old new before entries is now = tt
each_none P table (Some files) old new before entries is now = λ segments zip apart k lt. absurd (omega (arith, lt))

none_in : (names : List (List ℕ)) (files : List (Option (List ℕ))) → names ≡ [] → stored_in names files ≡ []
none_in names files is = ap (λ names. stored_in names files) is

pub reads_none : (query : BoundQuery) (table : Table) (stored : List Stored) (a : Seen) (U : Type 0) (y : U) → stored ≡ [] → ReadsOf query table stored a a (Done {E = ServeFault} y)
reads_none query table stored a U y is = subst (λ stored. ReadsOf query table stored a a (Done {E = ServeFault} y)) (sym is) (record {
  log = logs_none (IsFileOf []) a.log;
  reads = each_none (ReadsPlanned query table true) table a.held a.log a.log;
  reads_of_fault = tt;
})

take_none : (k : ℕ) (names : List (List ℕ)) → names ≡ [] → take k names ≡ []
take_none k names is = ap (take k) is ∙ by k
  where
    by : (k : ℕ) → take {A = List ℕ} k [] ≡ []
    by zero = refl
    by (suc k) = refl

pub none_next : (own : Cursor) (to : ℕ) → length own.segments - own.answered ≡ 0 → next_stored own to ≡ []
none_next own to none =
    none_in (take (to - own.answered) (drop own.answered own.segments)) (take (to - own.answered) (drop own.answered own.files.items))
    (take_none (to - own.answered) (drop own.answered own.segments) (drop_all own.answered own.segments (omega (arith, none))))

-- the cursor of a name is the one that was found
pub own_is : (ds : List Cursor) (name : List ℕ) (at : ℕ) (own : Cursor) (other : ℕ) (it : Cursor) → place_under name ds ≡ Some at → get_or ds at own ≡ own → place_under name ds ≡ Some other → slice_get ds other ≡ Some it → own ≡ it
own_is ds name at own other it place is found got =
    let places : Some at ≡ Some other = sym place ∙ found in
    let same : at ≡ other = cc in
    let lt : at < length ds = place_within name ds at place in
    let both : Some own ≡ Some it = sym (got_at ds at own own lt is) ∙ ap (slice_get ds) same ∙ got in
    cc
