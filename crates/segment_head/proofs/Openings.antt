-- A head that is read by its front and what is after it.
use Rattle.std.proofs.Common.{◌≡◌, ◌≤◌, ℕ, List, length, take, Option, Some, None, IfSome, inl, inr, sym, subst, arith}
use Rattle.outside.specs.Files.{Files, bytes_of}
use Rattle.outside.specs.Reads.{Entry, LogsThrough, LogsUpTo}
use Rattle.outside.proofs.ReadLemmas.{LogsThrough-append, LogsThrough-none}
use Rattle.table_schema.specs.declared.table.Table.{Table}
use Rattle.table_schema.specs.ValidTable.{most_rows}
use Rattle.segment_file.specs.declared.part.Part.{Part}
use Rattle.segment_file.specs.declared.part.Part.TheVariants as parts
use Rattle.segment_file.specs.Front.{Front, front_size, head_end}
use Rattle.segment_head.specs.Heads.{IsHeadOf, IsPlaced, IsWithin, LogsWithin, Seen}
use Rattle.segment_file.specs.Rules.{KeepsRules, FailsAt, HasFront}
use Rattle.segment_file.specs.Reading.{IsFrontOf}
use Rattle.segment_file.proofs.Openings.{has_front}

-- a head with the front that was read is one of the table
pub head_of : (table : Table) (name file bytes : List ℕ) (held : Option Files) (front : Front) (head : Seen) → IsFrontOf table name file held bytes front → IsPlaced table name file front head → IsHeadOf table head
head_of table name file bytes held front head is has =
    let front_is = is.front_is in
    record { name = name; file = file; front = front; at_most = front_is.at_most; each = front_is.each; small = omega (arith, front_is.whole, front_is.small); has = has }

-- ---- the log

within : (end : Table → List ℕ → Front → ℕ) (table : Table) (name file bytes : List ℕ) (held : Option Files) (front : Front) (to : ℕ) → IsFrontOf table name file held bytes front → to ≤ end table name front → IfSome held (λ files. IsWithin end table name (bytes_of (Some files) file) to)
within end table name file bytes None front to is le = tt
within end table name file bytes (Some files) front to is le = inr (front, has_front table name file bytes files front is, le)

pub logs_within : (end : Table → List ℕ → Front → ℕ) (table : Table) (name file bytes : List ℕ) (held : Option Files) (front : Front) (first between last : Option (List Entry)) → IsFrontOf table name file held bytes front
    → LogsThrough file 0 (front_size table name) first between → LogsUpTo file (front_size table name) (end table name front) between last → LogsWithin end table name file held first last
logs_within end table name file bytes held front first between last is before (to, le, on) =
    (to, LogsThrough-append file 0 (front_size table name) to first between last before on, within end table name file bytes held front to is le)

-- reads that do not go past the front
pub logs_front : (end : Table → List ℕ → Front → ℕ) (table : Table) (name file : List ℕ) (held : Option Files) (old new : Option (List Entry)) → LogsUpTo file 0 (front_size table name) old new → LogsWithin end table name file held old new
logs_front end table name file None old new (to, le, on) = (to, on, tt)
logs_front end table name file (Some files) old new (to, le, on) = (to, on, inl le)

pub logs_still : (end : Table → List ℕ → Front → ℕ) (table : Table) (name file : List ℕ) (held : Option Files) (log : Option (List Entry)) → LogsWithin end table name file held log log
logs_still end table name file held log = logs_front end table name file held log log (0, omega arith, LogsThrough-none file 0 log)

-- a told file that has no front keeps no rules
pub frontless : (table : Table) (name file : List ℕ) (held : Option Files) → IfSome held (λ files. (front : Front) → ¬ HasFront table name (bytes_of (Some files) file) front) → IfSome held (λ files. ¬ KeepsRules table name (bytes_of (Some files) file))
frontless table name file None none = tt
frontless table name file (Some files) none = λ rules. none rules.0 rules.2.front_is

-- the first of them to fail is that of the head
pub head_fails : (table : Table) (name file : List ℕ) (held : Option Files) (p : Part) → p ≡ parts.Head → IfSome held (λ files. (front : Front) → ¬ HasFront table name (bytes_of (Some files) file) front) → IfSome held (λ files. FailsAt table name (bytes_of (Some files) file) p)
head_fails table name file None p is none = tt
head_fails table name file (Some files) p is none = subst (FailsAt table name (bytes_of (Some files) file)) (sym is) none

-- where no file is told, whatever is said of one holds
pub untold : (P : Files → Type 0) (held : Option Files) → held ≡ None → IfSome held P
untold P None is = tt
untold P (Some files) is = absurd cc

-- what holds of each file with this front and these bytes of its head holds of the told one
pub told_head : (P : List ℕ → Type 0) (table : Table) (name file bytes cut : List ℕ) (held : Option Files) (front : Front) → IsFrontOf table name file held bytes front → IfSome held (λ files. cut ≡ take (head_end table name front) (bytes_of (Some files) file))
    → ((whole : List ℕ) → HasFront table name whole front → cut ≡ take (head_end table name front) whole → P whole) → IfSome held (λ files. P (bytes_of (Some files) file))
told_head P table name file bytes cut None front is cut_is each = tt
told_head P table name file bytes cut (Some files) front is cut_is each = each (bytes_of (Some files) file) (has_front table name file bytes files front is) cut_is

-- ---- the sizes that are allowed

pub few_rows : (table : Table) (rows : ℕ) → rows ≤ most_rows (length table.schema.fields) → rows ≤ 1048576
few_rows table rows at_most = grind arith
