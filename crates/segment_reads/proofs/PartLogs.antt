-- Reads of parts of a segment's file are reads of that file.
use Rattle.std.proofs.Common.{◌≡◌, ◌<◌, ◌∷◌, [], ℕ, zero, suc, Bool, true, false, List, All, Option, Some, None, IfSome, inl, inr, length, slice_get, cond, refl, sym, subst, arith}
use Rattle.std.specs.Prelude.{option_map}
use Rattle.std.specs.List.{find}
use Rattle.std.proofs.lemmas.List.Elements.{All-head, All-tail}
use Rattle.outside.specs.Reads.{Entry}
use Rattle.outside.specs.Stretches.{LogsOver, LogsPartly, Stretch}
use Rattle.segment_file.specs.declared.part.Part.{Part}
use Rattle.segment_file.specs.declared.section.Section.{Section}
use Rattle.segment_file.specs.Parts.{is_same}
use Rattle.segment_head.specs.Heads.{AreIn, place_in}
use Rattle.segment_reads.specs.Logs.{LogsIn}
use Rattle.segment_reads.proofs.LogLemmas.{logs_none, logs_on, logs_then, logs_through}

pub place_file : (file : List ℕ) (sections : List Section) (p : Part) → AreIn file sections → IfSome (place_in sections p) (λ place. place.file ≡ file)
place_file file [] p within = tt
place_file file (s ∷ ss) p within =
    let P : Section → Type 0 = λ x. x.place.file ≡ file in
    by (All-head P s ss within) (place_file file ss p (All-tail P s ss within)) (is_same s.part p)
  where
    by : s.place.file ≡ file → IfSome (place_in ss p) (λ place. place.file ≡ file) → (b : Bool) → IfSome (option_map (λ x. x.place) (cond b (Some s) (find (λ x. is_same x.part p) ss))) (λ place. place.file ≡ file)
    by here later true = here
    by here later false = later

-- ---- parts of a file, one after the other

module _ (file : List ℕ) where
  pub over_in_file : (parts : List Stretch) (old new : Option (List Entry)) → LogsOver file parts old new → LogsIn file old new
  over_in_file [] old new logs = subst (LogsIn file old) (sym logs) (logs_none (λ other. other ≡ file) old)
  over_in_file (part ∷ parts) old new (between, first, rest) = logs_then (λ other. other ≡ file) old between new (logs_on file part.from part.to old between first) (over_in_file parts between new rest)

  pub some_in_file : (parts : List Stretch) (old new : Option (List Entry)) → LogsPartly file parts old new → LogsIn file old new
  some_in_file [] old new logs = subst (LogsIn file old) (sym logs) (logs_none (λ other. other ≡ file) old)
  some_in_file (part ∷ parts) old new (inl (to, le, through)) = logs_through file part.from to old new through
  some_in_file (part ∷ parts) old new (inr (between, first, rest)) = logs_then (λ other. other ≡ file) old between new (logs_on file part.from part.to old between first) (some_in_file parts between new rest)

-- ---- an item at a place

pub at_place : {X : Type 0} (xs : List X) (at : ℕ) → at < length xs → (x : X) × (slice_get xs at ≡ Some x)
at_place [] at lt = absurd (omega (arith, lt))
at_place (x ∷ xs) zero lt = (x, refl)
at_place (x ∷ xs) (suc at) lt = at_place xs at (omega (arith, lt))
