-- What was logged where a scan ended early.
use Rattle.std.proofs.Common.{◌≡◌, ◌<◌, ◌+◌, ℕ, suc, Bool, false, List, Option, Some, IfSome, Result, Ok, Err, inl, length, get_or, refl, subst, arith}
use Rattle.std.specs.Prelude.{OnErr}
use Rattle.outside.specs.Reads.{Entry, LogsOn, LogsUpTo}
use Rattle.outside.specs.Seen as told
use Rattle.outside.specs.declared.place.Place.{Place}
use Rattle.bit_column.specs.Column.{width_of}
use Rattle.bit_column.specs.Sections.{end_byte, first_byte}
use Rattle.segment_head.specs.Heads.{Seen, place_in}
use Rattle.segment_head.specs.declared.fault.EngineFault.{EngineFault}
use Rattle.segment_file.specs.declared.part.Part.TheVariants.{Forward}
use Rattle.segment_plan.specs.Matched.{count_in}
use Rattle.column_reader.specs.Calls.{ReadsSections}
use Rattle.column_reader.specs.Forward.{LogsColumns, LogsForward, LogsNamed, LogsPart, LogsPartly, LogsSome, width_in}

-- nothing was read
pub logs_none : (head : Seen) (named : List Bool) (log : Option (List Entry)) → LogsSome head named log log
logs_none head named log = record { upto = 0; within = omega arith; between = log; before = refl; rest = inl refl }

-- of this column a part was read
pub logs_part : (head : Seen) (named : List Bool) (n : ℕ) (old mid new : Option (List Entry)) → n < length named → LogsColumns head named n old mid → LogsPartly head n (get_or named n false) mid new → LogsSome head named old new
logs_part head named n old mid new lt first rest = record { upto = n; within = omega (arith, lt); between = mid; before = first; rest = rest }

-- this column too was read
pub logs_more : (head : Seen) (named : List Bool) (n : ℕ) (old mid new : Option (List Entry)) → n < length named → LogsColumns head named n old mid → LogsNamed head n (get_or named n false) mid new → LogsSome head named old new
logs_more head named n old mid new lt first more = record { upto = suc n; within = omega (arith, lt); between = new; before = (mid, first, more); rest = inl refl }

-- all columns were read
pub logs_all : (head : Seen) (named : List Bool) (old new : Option (List Entry)) → LogsColumns head named (length named) old new → LogsSome head named old new
logs_all head named old new first = record { upto = length named; within = omega arith; between = new; before = first; rest = inl refl }

-- the same marks
pub logs_as : (head : Seen) (named others : List Bool) (old new : Option (List Entry)) → named ≡ others → LogsSome head named old new → LogsSome head others old new
logs_as head named others old new is logs = subst (λ (l : List Bool). LogsSome head l old new) is logs

-- what follows from what holds of a fault
pub err_so : {T E : Type 0} (r : Result T E) (A B : Type 0) → (A → B) → OnErr r A → OnErr r B
err_so (Ok x) A B f h = tt
err_so (Err e) A B f h = f h

-- the reads of a place are those of the forward section that is there
pub forward_reads : {A : Type 0} (result : Result A EngineFault) (head : Seen) (column values rows : ℕ) (place : Place) (old new : told.Seen) → Some place ≡ place_in head.sections (Forward column) → values ≡ count_in head column → rows ≡ head.rows
    → ReadsSections result (λ _. LogsOn place.file (place.offset + first_byte (width_of values) 0) (place.offset + end_byte (width_of values) 0 rows)) (LogsUpTo place.file (place.offset + first_byte (width_of values) 0) (place.offset + end_byte (width_of values) 0 rows)) old new
    → ReadsSections result (λ _. LogsForward head column) (LogsPart head column) old new
forward_reads {A} result head column values rows place old new at count all reads =
    let own : ℕ → ℕ → Type 0 = λ v r.
    ReadsSections result (λ _. LogsOn place.file (place.offset + first_byte (width_of v) 0) (place.offset + end_byte (width_of v) 0 r)) (LogsUpTo place.file (place.offset + first_byte (width_of v) 0) (place.offset + end_byte (width_of v) 0 r)) old new in
    subst (λ (o : Option Place). ReadsSections result (λ _ a b. IfSome o (λ p. LogsOn p.file (p.offset + first_byte (width_in head column) 0) (p.offset + end_byte (width_in head column) 0 head.rows) a b)) (λ a b. IfSome o (λ p. LogsUpTo p.file (p.offset + first_byte (width_in head column) 0) (p.offset + end_byte (width_in head column) 0 head.rows) a b)) old new) at
    (subst (λ v. own v head.rows) count (subst (λ r. own values r) all reads))
