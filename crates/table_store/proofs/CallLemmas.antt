-- What calls on a store leave of its depot, one after another.
use Rattle.std.proofs.Common.{◌≡◌, ◌∙◌, sym, subst, arith}
use Rattle.outside.specs.Counts.{Rose}
use Rattle.outside.specs.Files.{SameBut}
use Rattle.outside.specs.Seen.{OnlyWrites, Seen}
use Rattle.segment_build.specs.Publishing.{incoming}
use Rattle.segment_build.specs.FileLaws.{same_but}
use Rattle.table_store.specs.Calls.{OnlyPublishes, ReadsNoByte}

-- a look alone: nothing was written
pub looked : (R W : Type 0) (a b : Seen) → ¬ W → ReadsNoByte R a b → OnlyPublishes R W a b
looked R W a b unwritten looks = record {
  parts = subst (SameBut incoming a.parts) (sym looks.reads.parts) (same_but incoming a.parts);
  log = looks.log;
  reads_later = looks.reads.later;
  read_failed = looks.reads.rose;
  reads_still = looks.reads.unchanged;
  writes_later = omega (arith, looks.reads.writes);
  write_failed = λ writes. absurd (unwritten writes);
  writes_still = λ _. looks.reads.writes;
}

-- a look that ended well, and then a part that was written
pub looked_then : (F R W : Type 0) (a b d : Seen) → ¬ F → ¬ R → ReadsNoByte F a b → OnlyWrites W incoming b d → OnlyPublishes R W a d
looked_then F R W a b d fine unread looks writes =
    let unchanged : b.read_faults ≡ a.read_faults = looks.reads.unchanged fine in
    record {
      parts = subst (λ parts. SameBut incoming parts d.parts) looks.reads.parts writes.parts;
      log = writes.log ∙ looks.log;
      reads_later = omega (arith, unchanged, writes.reads);
      read_failed = λ fails. absurd (unread fails);
      reads_still = λ _. writes.reads ∙ unchanged;
      writes_later = omega (arith, looks.reads.writes, writes.later);
      write_failed = λ fails. subst (λ n. Rose n d.write_faults) looks.reads.writes (writes.rose fails);
      writes_still = λ none. writes.unchanged none ∙ looks.reads.writes;
    }

-- the same by other names of the failures
pub publishes_so : (R W R' W' : Type 0) (a b : Seen) → (R' → R) → (R → R') → (W' → W) → (W → W') → OnlyPublishes R W a b → OnlyPublishes R' W' a b
publishes_so R W R' W' a b to_r from_r to_w from_w p = record {
  parts = p.parts;
  log = p.log;
  reads_later = p.reads_later;
  read_failed = λ r. p.read_failed (to_r r);
  reads_still = λ none. p.reads_still (λ r. none (from_r r));
  writes_later = p.writes_later;
  write_failed = λ w. p.write_failed (to_w w);
  writes_still = λ none. p.writes_still (λ w. none (from_w w));
}
