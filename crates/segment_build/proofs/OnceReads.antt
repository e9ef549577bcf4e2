-- Reads back to back give each byte once.
use Rattle.std.proofs.Common.{◌≡◌, ◌≤◌, ◌+◌, ℕ, List, Option, refl, arith}
use Rattle.outside.specs.Reads.{Entry, LogsFilled, LogsOn, LogsThrough, LogsUpTo, overlap, read_in}
use Rattle.outside.proofs.ReadLemmas.{LogsFilled-through, LogsOn-through, read_in-through}
use Rattle.segment_build.specs.FileReads.{LogsOnce, once_wider}

pub once_through : (file : List ℕ) (from to : ℕ) (old new : Option (List Entry)) → LogsThrough file from to old new → LogsOnce file from to old new
once_through file from to old new (entries, is, each) = record {
  entries = entries;
  grown = is;
  each = λ a b. (let whole : read_in entries file a b ≡ overlap from to a b = read_in-through entries file from to a b each in omega (arith, whole));
}

pub once_up : (file : List ℕ) (from limit : ℕ) (old new : Option (List Entry)) → LogsUpTo file from limit old new → LogsOnce file from limit old new
once_up file from limit old new (to, le, through) =
    once_wider file from to from limit old new (once_through file from to old new through) (omega arith) le

pub once_on : (file : List ℕ) (from to : ℕ) (old new : Option (List Entry)) → LogsOn file from to old new → LogsOnce file from to old new
once_on file from to old new on = once_through file from to old new (LogsOn-through file from to old new on)

pub once_filled : (file : List ℕ) (from to end last : ℕ) (old new : Option (List Entry)) → LogsFilled file from to end old new → to ≤ last → LogsOnce file from last old new
once_filled file from to end last old new filled le =
    once_wider file from to from last old new (once_through file from to old new (LogsFilled-through file from to end old new filled)) (omega arith) le
