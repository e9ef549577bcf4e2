-- What the opening of a script did, by what its parts did.
use Rattle.std.proofs.Common.{◌≡◌, ◌≢◌, ◌≤◌, ◌<◌, ◌∙◌, inl, inr, IsErrAnd, ℕ, Bool, List, [], length, true, false, nat_lt, Option, Some, None, Result, Ok, Err, IfOk, IfSome, refl, sym, ap, subst, arith}
use Rattle.std.proofs.lemmas.Bool.Decides.{nat_tests}
use Rattle.std.specs.FinMap as map
use Rattle.std.specs.Str.{IsUtf8, is_utf8}
use Rattle.std.proofs.lemmas.Str.{IsUtf8-from_is_utf8}
use Rattle.outside.specs.Counts.{Rose}
use Rattle.outside.specs.Files.{Files, Lacks}
use Rattle.outside.specs.Whole.{IsTooLong, IsWhole}
use Rattle.outside.specs.Seen.{Seen}
use Rattle.command_words.specs.Command.{Open}
use Rattle.command_words.specs.declared.fault.Fault.TheVariants as fault
use Rattle.command_words.specs.declared.note.Counted.TheVariants as counted
use Rattle.command_words.specs.declared.note.Note.TheVariants as note
use Rattle.command_words.specs.declared.stop.Stop.{Stop}
use Rattle.command_words.specs.declared.stop.Stop.TheVariants as stop
use Rattle.command_model.specs.Gives.{OpensBytes, StopsRead}
use Rattle.command_model.specs.Profile.{script_limit}
use Rattle.command_model.specs.Ran.{Acted, Counts, Ended, IsAllowed, NoFaults, Over, Ran, opening}
use Rattle.command_model.specs.Step.{Answer, Refuses, Replies, opened, script_answer}
use Rattle.command_model.specs.Touched.{ReadsFront}
use Rattle.command_model.specs.World.{Devices}
use Rattle.command_model.proofs.MachineLemmas.{steps_over}
use Rattle.commands.proofs.ScanLemmas.{told_each}

-- ---- the answer by what is told of the file

within_limit : (file bytes : List ℕ) → length bytes ≤ 16777216 → opened (is_utf8 bytes) ≡ script_answer file (Some bytes)
unfolding script_answer
within_limit file bytes le =
    let test : nat_lt 16777216 (length bytes) ≡ false = grind (arith, nat_tests) in
    rw test refl

past_limit : (file bytes : List ℕ) → 16777216 < length bytes → Refuses (note.TooLarge counted.ScriptBytes script_limit) ≡ script_answer file (Some bytes)
unfolding script_answer
past_limit file bytes lt =
    let test : nat_lt 16777216 (length bytes) ≡ true = grind (arith, nat_tests) in
    rw test refl

not_there : (file : List ℕ) → Refuses (note.NoInput file) ≡ script_answer file None
unfolding script_answer
not_there file = refl

abbrev IsOf : List ℕ → Answer → Files → Type 0
IsOf file answer files = answer ≡ script_answer file (map.get files file)

of_whole : (held : Option Files) (file bytes : List ℕ) → IsWhole held file 16777216 bytes → IfSome held (IsOf file (opened (is_utf8 bytes)))
of_whole None file bytes whole = tt
of_whole (Some files) file bytes (told, got, (same, le)) =
    within_limit file bytes (subst (λ bs. length bs ≤ 16777216) (sym same) le) ∙ ap (λ bs. script_answer file (Some bs)) same ∙ ap (script_answer file) (sym got)

of_missing : (held : Option Files) (file : List ℕ) → Lacks held file → IfSome held (IsOf file (Refuses (note.NoInput file)))
of_missing None file lacks = tt
of_missing (Some files) file lacks = not_there file ∙ ap (script_answer file) (sym lacks)

of_long : (held : Option Files) (file : List ℕ) → IsTooLong held file 16777216 → IfSome held (IsOf file (Refuses (note.TooLarge counted.ScriptBytes script_limit)))
of_long None file lengths = tt
of_long (Some files) file (told, got, lt) = past_limit file told lt ∙ ap (script_answer file) (sym got)

-- where the file was read, this is its text
whole_text : (held : Option Files) (file bytes text : List ℕ) → IsWhole held file 16777216 bytes → text ≡ bytes → IfSome held (λ files. (told : List ℕ) × (map.get files file ≡ Some told) × (told ≡ text))
whole_text None file bytes text whole is = tt
whole_text (Some files) file bytes text (told, got, (same, le)) is = (told, got, sym same ∙ sym is)

-- ---- the clause

module _ (file : List ℕ) (inputs inputs_new depot : Seen) (reads : ReadsFront file script_limit inputs inputs_new) where
  abbrev Old : Devices
  Old = record { inputs = inputs; depot = depot }

  abbrev New : Devices
  New = record { inputs = inputs_new; depot = depot }

  abbrev Of : Result (List ℕ) Stop → Type 0
  Of result = Ran (Some (Open file)) Old New result

  acted : (answer : Answer) → IfSome inputs.held (IsOf file answer) → IsAllowed (Some (Open file)) Old New answer → Acted (Some (Open file)) Old New answer
  acted answer told allowed =
      let over = told_each inputs.held (IsOf file answer) (λ files. Over (Some (Open file)) files depot.held answer depot.held) (λ files is. (is, refl)) told in
      record { step = steps_over (Some (Open file)) inputs.held depot.held answer depot.held over; over = over; allowed = allowed }

  ran : (result : Result (List ℕ) Stop) → Counts result Old New → Ended (Some (Open file)) Old New result → Of result
  ran result counted ended = record { reads = tt; touched = record { inputs = (inputs_new, reads, refl); depot = refl }; counted = counted; ended = ended }

  none : inputs_new.read_faults ≡ inputs.read_faults → NoFaults Old New
  none unchanged = record { inputs = unchanged; depot_reads = refl; depot_writes = refl }

  ran_missing : inputs_new.read_faults ≡ inputs.read_faults → Lacks inputs.held file → Of (Err (stop.Refused (note.NoInput file)))
  ran_missing unchanged lacks = ran _ (none unchanged) (acted (Refuses (note.NoInput file)) (of_missing inputs.held file lacks) (refl, lacks, refl, tt))

  ran_long : inputs_new.read_faults ≡ inputs.read_faults → IsTooLong inputs.held file 16777216 → Of (Err (stop.Refused (note.TooLarge counted.ScriptBytes script_limit)))
  ran_long unchanged lengths =
      let told = of_long inputs.held file lengths in
      ran _ (none unchanged) (acted (Refuses (note.TooLarge counted.ScriptBytes script_limit)) told (refl, told_each inputs.held _ _ (λ files is. sym is) told, refl, tt))

  -- the file was not read
  ran_unread : (why : Stop) → StopsRead file counted.ScriptBytes script_limit inputs.held (Rose inputs.read_faults inputs_new.read_faults) why → (why ≢ stop.Fault fault.Read → inputs_new.read_faults ≡ inputs.read_faults) → Of (Err why)
  ran_unread (stop.Refused line) (inl (is, lacks)) unchanged = subst (λ l. Of (Err (stop.Refused l))) (sym is) (ran_missing (unchanged (λ e. cc)) lacks)
  ran_unread (stop.Refused line) (inr (is, lengths)) unchanged = subst (λ l. Of (Err (stop.Refused l))) (sym is) (ran_long (unchanged (λ e. cc)) lengths)
  ran_unread (stop.Fault fault.Read) rose unchanged = ran (Err (stop.Fault fault.Read)) refl (record { kept = refl; cause = (refl, inl rose) })
  ran_unread (stop.Fault fault.Write) by unchanged = absurd by
  ran_unread (stop.Fault fault.Memory) by unchanged = ran (Err (stop.Fault fault.Memory)) (none (unchanged (λ e. cc))) (record { kept = refl; cause = tt })

  -- a stop on the way is the one of the whole
  pub ran_halted : (result : Result (List ℕ) Stop) (why : Stop) → IsErrAnd result (λ s. s ≡ why) → StopsRead file counted.ScriptBytes script_limit inputs.held (Rose inputs.read_faults inputs_new.read_faults) why → (why ≢ stop.Fault fault.Read → inputs_new.read_faults ≡ inputs.read_faults) → Of (opening result)
  ran_halted (Ok text) why is stops unchanged = absurd is
  ran_halted (Err other) why is stops unchanged = subst (λ s. Of (Err s)) (sym is) (ran_unread why stops unchanged)

  -- the file was read, and its bytes are a text, or none
  pub ran_opened : (bytes : List ℕ) (result : Result (List ℕ) Stop) → inputs_new.read_faults ≡ inputs.read_faults → IsWhole inputs.held file 16777216 bytes → OpensBytes bytes result → Of (opening result)
  ran_opened bytes (Ok text) unchanged whole (is, valid) =
      ran (Ok []) (none unchanged) (acted (Replies []) (subst (λ b. IfSome inputs.held (IsOf file (opened b))) valid (of_whole inputs.held file bytes whole)) (refl, tt))
  ran_opened bytes (Err (stop.Refused line)) unchanged whole (is, invalid) =
      let told = subst (λ b. IfSome inputs.held (IsOf file (opened b))) invalid (of_whole inputs.held file bytes whole) in
      subst (λ l. Of (Err (stop.Refused l))) (sym is)
      (ran (Err (stop.Refused note.BadWords)) (none unchanged) (acted (Refuses note.BadWords) told (refl, told_each inputs.held _ _ (λ files is. sym is) told, refl, tt)))
  ran_opened bytes (Err (stop.Fault why)) unchanged whole is =
      subst (λ w. Of (Err (stop.Fault w))) (sym is) (ran (Err (stop.Fault fault.Memory)) (none unchanged) (record { kept = refl; cause = tt }))

-- a text that was opened is that of the file
pub opened_text : (held : Option Files) (file bytes : List ℕ) (result : Result (List ℕ) Stop) → IsWhole held file 16777216 bytes → OpensBytes bytes result → IfOk result (λ text. IfSome held (λ files. (told : List ℕ) × (map.get files file ≡ Some told) × (told ≡ text)))
opened_text held file bytes (Ok text) whole (is, valid) = whole_text held file bytes text whole is
opened_text held file bytes (Err why) whole opens = tt

-- it is not longer than the file
pub opened_short : (bytes : List ℕ) (result : Result (List ℕ) Stop) → length bytes ≤ 16777216 → OpensBytes bytes result → IfOk result (λ text. length text ≤ 16777216)
opened_short bytes (Ok text) le (is, valid) = subst (λ t. length t ≤ 16777216) (sym is) le
opened_short bytes (Err why) le opens = tt

-- bytes that are no UTF-8 are told so
pub not_text : (test : Bool) (bytes : List ℕ) → is_utf8 bytes ≡ test → (IsUtf8 bytes → ⊥) → is_utf8 bytes ≡ false
not_text true bytes is never = absurd (never (IsUtf8-from_is_utf8 bytes is))
not_text false bytes is never = is
