-- A range of ids is appended out of the bytes that were read for it.
use Rattle.std.proofs.Common.{◌≡◌, ◌≤◌, ◌<◌, ℕ, ◌+◌, ◌-◌, ◌*◌, ◌/◌, ◌%◌, List, [], ◌++◌, All, length, Option, IfOk, OnOk, Result, Ok, Err, refl, sym, ap, subst, arith, le_refl, append-nil}
use Rattle.std.proofs.lemmas.List.Elements.{All-nil}
use Rattle.outside.specs.Files.{Files}
use Rattle.outside.specs.Reads.{LogsOn}
use Rattle.outside.specs.Seen.{Seen}
use Rattle.outside.specs.declared.place.Place.{Place}
use Rattle.outside.proofs.ReadLemmas.{logs-up, on-err}
use Rattle.bit_column.specs.Bits.{bits_of, pieces}
use Rattle.bit_column.specs.Reading.{ReadsBytes, ReadsRange}
use Rattle.bit_column.specs.Sections.{AppendsRange, IsPart, end_byte, first_byte}
use Rattle.bit_column.specs.declared.fault.ColumnFault.{ColumnFault}
use Rattle.bit_column.specs.declared.fault.ColumnFault.TheVariants.{BadId, ReadFault}
use Rattle.bit_column.proofs.Ranges.{none-read, on-both, range-appended, range-bad, range-held}

-- no ids are appended
pub none-appended : (held : Option Files) (place : Place) (width count from to : ℕ) (ids : List ℕ) → from ≡ to → AppendsRange held place width count from to ids ids
none-appended held place width count from to ids none = record {
  ids = [];
  appended = sym (append-nil ids);
  number = omega arith;
  below = All-nil (λ id. id < count);
  told = none-read held place width count from to none;
}

if-ok-all : (r : Result (Unit {0}) ColumnFault) {P : Type 0} → P → IfOk r (λ _. P)
if-ok-all (Ok x) h = h
if-ok-all (Err e) h = tt

-- the bytes that were read have the bits of the ids, from the bit on with which the range begins
module _ (u : Unit {0}) (place : Place) (width from to bit : ℕ) (read bytes : List ℕ) (old new : Seen)
    (start : bit ≡ from * width % 8) (same : bytes ≡ read) (reads : ReadsBytes (Ok u) place width from to read old new) where
  pub bits-held : from ≤ to → bit + (to - from) * width ≤ 8 * length bytes
  bits-held order = omega (arith, start, ap length same, range-held width from to (length read) order reads.number)

  part : IsPart old.held place.file (place.offset + from * width / 8) (place.offset + (to * width + 7) / 8) bytes
  part = subst (λ xs. IsPart old.held place.file (place.offset + from * width / 8) (place.offset + (to * width + 7) / 8) xs) (sym same) reads.part

  pub bytes-appended : (r : Result (Unit {0}) ColumnFault) (count : ℕ) (before after : List ℕ) → 1 ≤ width → from < to
      → OnOk r (after ≡ before ++ pieces width bit (to - from) (bits_of 8 bytes))
      → OnOk r (All (λ id. id < count) (pieces width bit (to - from) (bits_of 8 bytes)))
      → OnOk r (AppendsRange old.held place width count from to before after)
  bytes-appended r count before after wide some is below =
      on-both r (after ≡ before ++ pieces width bit (to - from) (bits_of 8 bytes)) (All (λ id. id < count) (pieces width bit (to - from) (bits_of 8 bytes))) (AppendsRange old.held place width count from to before after)
      (λ a b.
      range-appended old.held place width count from to bytes before after wide some reads.within part
      (subst (λ k. after ≡ before ++ pieces width k (to - from) (bits_of 8 bytes)) start a)
      (subst (λ k. All (λ id. id < count) (pieces width k (to - from) (bits_of 8 bytes))) start b))
      is below

  pub bytes-reads : (r : Result (Unit {0}) ColumnFault) (count : ℕ) → 1 ≤ width → from < to
      → (r ≡ Err BadId → All (λ id. id < count) (pieces width bit (to - from) (bits_of 8 bytes)) → ⊥)
      → (r ≡ Err ReadFault → ⊥)
      → ReadsRange r place width count from to old new
  bytes-reads r count wide some bad never =
      let all : ReadsRange {A = Unit {0}} (Ok u) place width count from to old new = reads.reads count in
      let log : LogsOn place.file (place.offset + first_byte width from) (place.offset + end_byte width from to) old.log new.log = all.log in
      record {
        only_reads = record {
          held = all.only_reads.held;
          parts = all.only_reads.parts;
          writes = all.only_reads.writes;
          later = all.only_reads.later;
          rose = λ fails. absurd (never fails);
          unchanged = λ _. all.only_reads.unchanged (λ e. cc);
        };
        log = if-ok-all r log;
        log_of_fault = on-err r _ (logs-up place.file (place.offset + first_byte width from) (place.offset + end_byte width from to) (place.offset + end_byte width from to) old.log new.log new.log (le_refl _) log refl);
        past = all.past;
        bad = λ e. range-bad old.held place width count from to bytes wide some reads.within part (λ fine. bad e (subst (λ k. All (λ id. id < count) (pieces width k (to - from) (bits_of 8 bytes))) (sym start) fine));
      }
