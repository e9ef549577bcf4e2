-- A command for which there is no memory may do nothing.
use Rattle.std.proofs.Common.{◌≡◌, ◌∷◌, ℕ, List, [], Option, Some, None, Err, refl, le_refl}
use Rattle.std.proofs.lemmas.List.Elements.{All-nil}
use Rattle.outside.specs.Reads.{Entry}
use Rattle.outside.specs.Seen.{Seen}
use Rattle.segment_file.specs.Names.{file_of}
use Rattle.segment_build.specs.Publishing.{incoming}
use Rattle.segment_reads.proofs.LogLemmas.{same_log}
use Rattle.star_answer.specs.DocLaws.{DocsAreBounded}
use Rattle.table_store.specs.Segments.{LacksSegment}
use Rattle.table_store.specs.TableFile.{table_name}
use Rattle.command_words.specs.Command.{Ask, Attach, Build, Command, Create, Drop, Listing, Look, Open, Scan}
use Rattle.command_words.specs.declared.fault.Fault.TheVariants as fault
use Rattle.command_words.specs.declared.stop.Stop.TheVariants as stop
use Rattle.command_model.specs.Consulted.{AtMostRead}
use Rattle.command_model.specs.Profile.{NoFile, Opens, SegmentFile, StoreFiles, TableFile, csv_limit, script_limit}
use Rattle.command_model.specs.Ran.{Ran}
use Rattle.command_model.specs.Touched.{IsFileFor, IsStoreFile, LogsOpened, OnlyLooks, Touched, WritesThese}
use Rattle.command_model.specs.World.{Devices}
use Rattle.command_model.proofs.CreateLemmas.{names_same, no_front, no_texts}
use Rattle.command_model.proofs.BuildLemmas.{not_read}
use Rattle.command_model.proofs.StoredLemmas.{told_all}
use Rattle.commands.proofs.AttachLemmas.{no_file}
use Rattle.commands.proofs.ReadLemmas.{stored_heads, stored_table, unread}

-- nothing is opened
none_opened : (opens : Opens) (log : Option (List Entry)) → LogsOpened opens log log
none_opened NoFile log = refl
none_opened TableFile log = ([], same_log log, All-nil (λ entry. entry.file ≡ table_name))
none_opened (SegmentFile name) log = ([], same_log log, All-nil (λ entry. IsFileFor name entry.file))
none_opened StoreFiles log = ([], same_log log, All-nil (λ entry. IsStoreFile entry.file))

looks : (opens : Opens) (s : Seen) → OnlyLooks opens s s
looks opens s = record { held = refl; parts = refl; writes = refl; later = le_refl _; log = none_opened opens s.log }

writes : (opens : Opens) (names : List (List ℕ)) (s : Seen) → WritesThese opens names s s
writes opens names s = record { held = names_same names s.held; parts = names_same (incoming ∷ []) s.parts; reads_later = le_refl _; writes_later = le_refl _; log = none_opened opens s.log }

touched : (command : Option Command) (now : Devices) → Touched command now now
touched None now = record { inputs = refl; depot = refl }
touched (Some (Scan file sql)) now = record { inputs = (now.inputs, no_front file csv_limit now.inputs, refl); depot = refl }
touched (Some (Create texts)) now = record { inputs = no_texts texts now.inputs; depot = writes NoFile (table_name ∷ []) now.depot }
touched (Some (Build name source)) now = record { inputs = not_read source now.inputs; depot = writes TableFile (file_of name ∷ []) now.depot }
touched (Some (Attach name file)) now = record { inputs = (now.inputs, no_file file now.inputs, refl); depot = writes TableFile (file_of name ∷ []) now.depot }
touched (Some (Drop name)) now = record { inputs = refl; depot = writes TableFile (file_of name ∷ []) now.depot }
touched (Some (Look aim name)) now = record { inputs = refl; depot = looks (SegmentFile name) now.depot }
touched (Some Listing) now = record { inputs = refl; depot = looks StoreFiles now.depot }
touched (Some (Ask about sql)) now = record { inputs = refl; depot = looks StoreFiles now.depot }
touched (Some (Open file)) now = record { inputs = (now.inputs, no_front file script_limit now.inputs, refl); depot = refl }

at_most : DocsAreBounded → (command : Option Command) (now : Devices) → AtMostRead command now now
at_most law None now = tt
at_most law (Some (Scan file sql)) now = tt
at_most law (Some (Create texts)) now = tt
at_most law (Some (Build name source)) now = tt
at_most law (Some (Attach name file)) now = tt
at_most law (Some (Drop name)) now = tt
at_most law (Some (Look aim name)) now = told_all now.depot.held (λ files. LacksSegment (Some files) name → LogsOpened TableFile now.depot.log now.depot.log) (λ files lacks. none_opened TableFile now.depot.log)
at_most law (Some Listing) now = stored_heads now.depot.held now.depot.log now.depot.log (unread now.depot.log now.depot.log refl)
at_most law (Some (Ask about sql)) now = stored_table law about sql now.depot.held now.depot.log now.depot.log (unread now.depot.log now.depot.log refl)
at_most law (Some (Open file)) now = tt

pub idle : DocsAreBounded → (command : Option Command) (now : Devices) → Ran command now now (Err (stop.Fault fault.Memory))
idle law command now = record {
  touched = touched command now;
  reads = at_most law command now;
  counted = record { inputs = refl; depot_reads = refl; depot_writes = refl };
  ended = record { kept = refl; cause = tt };
}
