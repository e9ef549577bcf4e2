-- What a look at the file of a segment is for a command.
use Rattle.std.proofs.Common.{◌≡◌, ◌≢◌, ℕ, List, Result, Ok, Err, inl, inr, refl, subst, sym}
use Rattle.outside.specs.Files.{Files}
use Rattle.outside.specs.Seen.{Seen}
use Rattle.table_schema.specs.declared.table.Table.{Table}
use Rattle.segment_file.specs.declared.part.Part.{Part}
use Rattle.table_store.specs.Calls.{LooksAtSegment}
use Rattle.table_store.specs.declared.fault.StoreFault.{StoreFault}
use Rattle.table_store.specs.declared.fault.StoreFault.TheVariants as store
use Rattle.command_model.specs.Gives.{FindsSegment, IsCheckStop, StopsSegment}
use Rattle.command_model.specs.Look.{IsFileOfNone, IsSaid}
use Rattle.command_model.specs.Stored.{part_text}
use Rattle.command_words.specs.declared.aim.Aim.{Aim}
use Rattle.command_words.specs.declared.fault.Fault.TheVariants as fault
use Rattle.command_words.specs.declared.note.Note.TheVariants as note
use Rattle.command_words.specs.declared.stop.Stop.{Stop}
use Rattle.command_words.specs.declared.stop.Stop.TheVariants as stop
use Rattle.command_model.proofs.StoredLemmas.{reads_as, told_each}

module _ (aim : Aim) (old new : Seen) (table : Table) (name : List ℕ) where
  abbrev Checks : Result (List ℕ) StoreFault → Type 0
  Checks result = LooksAtSegment (λ files text. IsSaid aim table files name text) (λ files part. IsFileOfNone aim table files name part) name old new result

  abbrev Finds : Stop → Type 0
  Finds s = FindsSegment aim table name old new (Err s)

  -- an end that is no fault of the device
  ended : (f : StoreFault) (s : Stop) → f ≢ store.ReadFault → s ≢ stop.Fault fault.Read → Checks (Err f) → StopsSegment aim table name old.held s → Finds s
  ended f s well fine c stops = record {
    reads = reads_as old new c.only_reads (λ e. absurd (fine e)) (λ e. absurd (well cc));
    log = c.log;
    unread = c.unread;
    there = tt;
    found = tt;
    stops = stops;
  }

  memory : (f : StoreFault) (s : Stop) → f ≢ store.ReadFault → s ≡ stop.Fault fault.Memory → Checks (Err f) → Finds s
  memory f s well is c = subst Finds (sym is) (ended f (stop.Fault fault.Memory) well (λ e. cc) c tt)

  pub not_found : (f : StoreFault) (s : Stop) → IsCheckStop name table.schema.fields f s → Checks (Err f) → Finds s
  not_found store.TableExists s is c = absurd is
  not_found store.NoTable s is c = absurd is
  not_found store.NameTaken s is c = absurd is
  not_found store.NoSegment s (inl is) c = subst Finds (sym is) (ended store.NoSegment (stop.Refused (note.NoSegment name)) (λ e. cc) (λ e. cc) c (refl, c.missing refl))
  not_found store.NoSegment s (inr is) c = memory store.NoSegment s (λ e. cc) is c
  not_found store.TooManySegments s is c = absurd is
  not_found store.TooLarge s is c = absurd is
  not_found (store.NotASegment p) s (inl is) c =
      let (there, wrong) = c.refused p refl in
      let told = told_each old.held (λ files. IsFileOfNone aim table files name p) (λ files. (q : Part) × IsFileOfNone aim table files name q × (part_text table.schema.fields p ≡ part_text table.schema.fields q)) (λ files w. (p, w, refl)) wrong in
      subst Finds (sym is) (ended (store.NotASegment p) (stop.Refused (note.NotASegment name (part_text table.schema.fields p))) (λ e. cc) (λ e. cc) c (refl, there, told))
  not_found (store.NotASegment p) s (inr is) c = memory (store.NotASegment p) s (λ e. cc) is c
  not_found store.ReadFault s is c =
      subst Finds (sym is) (record { reads = reads_as old new c.only_reads (λ e. refl) (λ e. refl); log = c.log; unread = c.unread; there = tt; found = tt; stops = tt })
  not_found store.WriteFault s is c = absurd is
  not_found store.NoMemory s is c = memory store.NoMemory s (λ e. cc) is c

  pub found_text : (text : List ℕ) → Checks (Ok text) → FindsSegment aim table name old new (Ok text)
  found_text text c = record {
    reads = reads_as old new c.only_reads (λ e. absurd e) (λ e. absurd cc);
    log = c.log;
    unread = c.unread;
    there = c.there;
    found = c.image;
    stops = tt;
  }
