-- Ids that are read as they are packed.
use Rattle.std.proofs.Common.{◌≡◌, ◌∙◌, ◌<◌, ◌≤◌, ◌+◌, ◌-◌, ◌*◌, ◌/◌, ◌%◌, ℕ, List, [], ◌∷◌, ◌++◌, length, All, Option, Some, IfSome, OnOk, OnErr, IfErr, Result, Ok, Err, refl, sym, ap, subst, arith, le_refl}
use Rattle.outside.specs.Files.{Files}
use Rattle.outside.specs.Reads.{Entry}
use Rattle.outside.specs.Seen.{Seen}
use Rattle.outside.specs.declared.place.Place.{Place}
use Rattle.std.specs.Result.{IsErr, IsErrAnd}
use Rattle.outside.proofs.ReadLemmas.{LogsOn-through, logs-none, logs-up}
use Rattle.outside.proofs.SeenLemmas.{reads_none, reads_so}
use Rattle.bit_column.specs.Bits.{bits_of, pieces}
use Rattle.bit_column.specs.Column.{ids_between}
use Rattle.bit_column.specs.Reading.{ReadsBytes, ReadsRange}
use Rattle.bit_column.specs.Sections.{AppendsRange, end_byte, first_byte}
use Rattle.bit_column.specs.declared.fault.ColumnFault.{ColumnFault}
use Rattle.bit_column.specs.declared.fault.ColumnFault.TheVariants.{BadId, NoMemory, ReadFault}
use Rattle.bit_column.proofs.RangeSteps.{bits-held, bytes-appended, bytes-reads, none-appended}
use Rattle.bit_column.proofs.Ranges.{on-both}
use Rattle.segment_file.specs.declared.part.Part.{Part}
use Rattle.segment_head.specs.Heads as heads
use Rattle.segment_head.specs.Heads.{AreIn, place_in}
use Rattle.segment_build.specs.FileReads.{LogsFile, LogsOnce, file_up}
use Rattle.segment_build.specs.FileLaws.{on_ok_then}
use Rattle.segment_check.proofs.HeadLemmas.{placed_in, range_read}
use Rattle.segment_check.proofs.Once.{range_once}

-- nothing is read where there is no room for the ids
pub growth_range : {A : Type 0} (r : Result A ColumnFault) (place : Place) (width count rows : ℕ) (old : Seen) → IsErr r × IsErrAnd r (λ f. f ≡ NoMemory) → ReadsRange r place width count 0 rows old old
growth_range (Ok x) place width count rows old h = absurd h.1
growth_range (Err e) place width count rows old h =
    let no : e ≡ NoMemory = h.1 in
    let none : 0 * width ≡ 0 = omega arith in
    let first : first_byte width 0 ≡ 0 = ap (λ n. n / 8) none in
    record {
      only_reads = reads_so ⊥ _ old old (λ err. absurd cc) (λ b. absurd b) (reads_none old);
      log = tt;
      log_of_fault = logs-none place.file (place.offset + first_byte width 0) (place.offset + end_byte width 0 rows) old.log old.log (omega (arith, first)) refl;
      past = λ _ _. refl;
      bad = λ is. absurd cc;
    }

-- ---- ids in the bytes that were read

pub on_ok : {A E P : Type 0} (r : Result A E) → P → OnOk r P
on_ok (Ok x) p = p
on_ok (Err e) p = tt

start_none : (from width : ℕ) → from ≡ 0 → 0 ≡ from * width % 8
start_none from width none =
    let e : 0 * width ≡ 0 = omega arith in
    let m : from * width ≡ 0 * width = ap (λ f. f * width) none in
    omega (arith, e, m)

-- a list with place for the ids of a range from the first of a section on, and the bytes of these
module _ (u : Unit {0}) (place : Place) (width from to long : ℕ) (read bytes : List ℕ) (old new : Seen)
    (first : from ≡ 0) (room : long ≡ to) (same : bytes ≡ read) (reads : ReadsBytes (Ok u) place width from to read old new) where
  between : to - from ≡ long
  between = omega (arith, first, room)

  pub list_held : from ≤ to → 0 + long * width ≤ 8 * length bytes
  list_held order = subst (λ n. 0 + n * width ≤ 8 * length bytes) between (bits-held u place width from to 0 read bytes old new (start_none from width first) same reads order)

  pub list_bytes : from ≤ to → to * width ≤ 8 * length read
  list_bytes order =
      let e : long * width ≡ to * width = ap (λ n. n * width) room in
      omega (arith, list_held order, e, ap length same)

  pub list_is : (r : Result (Unit {0}) ColumnFault) (list : List ℕ) → OnOk r (list ≡ pieces width 0 long (bits_of 8 bytes)) → OnOk r (list ≡ ids_between width 0 to read)
  list_is r list is =
      let none : 0 ≡ 0 * width = omega arith in
      let all : long ≡ to - 0 = omega (arith, room) in
      on_ok_then r (λ e. e ∙ (λ i. pieces width (none i) (all i) (bits_of 8 (same i)))) is

  pub list_appended : (r : Result (Unit {0}) ColumnFault) (count : ℕ) (list : List ℕ) → 1 ≤ width → from < to
      → OnOk r (list ≡ pieces width 0 long (bits_of 8 bytes)) → OnOk r (All (λ id. id < count) list) → OnOk r (AppendsRange old.held place width count from to [] list)
  list_appended r count list wide some is below =
      let there : OnOk r (list ≡ pieces width 0 (to - from) (bits_of 8 bytes)) = on_ok_then r (λ e. e ∙ ap (λ n. pieces width 0 n (bits_of 8 bytes)) (sym between)) is in
      bytes-appended u place width from to 0 read bytes old new (start_none from width first) same reads r count [] list wide some there
      (on-both r (list ≡ pieces width 0 (to - from) (bits_of 8 bytes)) (All (λ id. id < count) list) (All (λ id. id < count) (pieces width 0 (to - from) (bits_of 8 bytes)))
      (λ e all. subst (All (λ id. id < count)) e all) there below)

  pub list_reads : (r : Result (Unit {0}) ColumnFault) (count : ℕ) → 1 ≤ width → from < to
      → OnErr r (¬ All (λ id. id < count) (pieces width 0 long (bits_of 8 bytes))) → IfErr r (λ fault. fault ≡ BadId) → ReadsRange r place width count from to old new
  list_reads r count wide some bad only =
      bytes-reads u place width from to 0 read bytes old new (start_none from width first) same reads r count wide some
      (is_bad r (subst (λ n. OnErr r (¬ All (λ id. id < count) (pieces width 0 n (bits_of 8 bytes)))) (sym between) bad)) (is_other r only)
    where
      is_bad : {P : Type 0} (r : Result (Unit {0}) ColumnFault) → OnErr r (¬ P) → r ≡ Err BadId → P → ⊥
      is_bad (Ok x) h is = absurd cc
      is_bad (Err e) h is = h

      is_other : (r : Result (Unit {0}) ColumnFault) → IfErr r (λ fault. fault ≡ BadId) → r ≡ Err ReadFault → ⊥
      is_other (Ok x) h is = absurd cc
      is_other (Err e) h is = let own : e ≡ BadId = h in absurd cc

-- ---- ids that are copied after they were read

pub copied_reads : {A : Type 0} (u : Unit {0}) (r : Result A ColumnFault) (place : Place) (width count from to : ℕ) (old new : Seen) → IfErr r (λ fault. fault ≡ NoMemory)
    → ReadsRange (Ok u) place width count from to old new → ReadsRange r place width count from to old new
copied_reads u (Ok x) place width count from to old new only reads = record {
  only_reads = reads_so _ _ old new (λ err. absurd cc) (λ err. absurd cc) reads.only_reads;
  log = reads.log;
  log_of_fault = tt;
  past = reads.past;
  bad = λ err. absurd cc;
}
copied_reads u (Err e) place width count from to old new only reads =
    let no : e ≡ NoMemory = only in
    record {
      only_reads = reads_so _ _ old new (λ err. absurd cc) (λ err. absurd cc) reads.only_reads;
      log = tt;
      log_of_fault = logs-up place.file (place.offset + first_byte width from) (place.offset + end_byte width from to) (place.offset + end_byte width from to) old.log new.log new.log (le_refl _) reads.log refl;
      past = reads.past;
      bad = λ err. absurd cc;
    }

-- ---- the reads of a column

pub column_log : {A : Type 0} (r : Result A ColumnFault) (file : List ℕ) (head : heads.Seen) (p : Part) (place : Place) (width count rows : ℕ) (old new : Seen) → AreIn file head.sections → Some place ≡ place_in head.sections p
    → ReadsRange r place width count 0 rows old new → LogsFile file old.log new.log
column_log (Ok x) file head p place width count rows old new within at reads =
    subst (λ f. LogsFile f old.log new.log) (placed_in file head.sections p within place (sym at)) (range_read place.file _ _ old.log new.log reads.log)
column_log (Err e) file head p place width count rows old new within at reads =
    subst (λ f. LogsFile f old.log new.log) (placed_in file head.sections p within place (sym at)) (file_up place.file _ _ old.log new.log reads.log_of_fault)

pub column_once : {A : Type 0} (r : Result A ColumnFault) (head : heads.Seen) (p : Part) (place : Place) (width count rows : ℕ) (old new : Seen) → Some place ≡ place_in head.sections p
    → ReadsRange r place width count 0 rows old new → IfSome (place_in head.sections p) (λ (q : Place). LogsOnce q.file q.offset (q.offset + q.length) old.log new.log)
column_once (Ok x) head p place width count rows old new at reads =
    subst (λ o. IfSome o (λ (q : Place). LogsOnce q.file q.offset (q.offset + q.length) old.log new.log)) at
    (range_once place width rows old.log new.log (place.offset + end_byte width 0 rows, omega arith, LogsOn-through place.file (place.offset + first_byte width 0) (place.offset + end_byte width 0 rows) old.log new.log reads.log) reads.past)
column_once (Err e) head p place width count rows old new at reads =
    subst (λ o. IfSome o (λ (q : Place). LogsOnce q.file q.offset (q.offset + q.length) old.log new.log)) at (range_once place width rows old.log new.log reads.log_of_fault reads.past)
