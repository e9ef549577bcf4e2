-- The front of a file and the rest of its head, as they are read.
use Rattle.std.proofs.Common.{◌≡◌, ◌∙◌, ◌≤◌, ◌<◌, ◌+◌, ℕ, ◌-◌, List, ◌++◌, length, take, drop, replicate, sum, Option, Some, None, IfSome, refl, leb-true, append_assoc, sym, ap, ap₂, subst, arith}
use Rattle.std.proofs.lemmas.List.{length-append, length-replicate, take_at}
use Rattle.std.proofs.Math.Seq.{take-add}
use Rattle.std.proofs.lemmas.List.Sums.{sum_by-take-le}
use Rattle.outside.specs.Files.{Files, bytes_at, bytes_of}
use Rattle.outside.specs.Reads.{Entry, LogsThrough, LogsUpTo}
use Rattle.table_schema.specs.declared.table.Table.{Table}
use Rattle.segment_file.specs.Front.{Front, front_size, head_end}
use Rattle.segment_file.specs.Rules.{HasFront, IsFront}
use Rattle.segment_file.specs.Names.{IsSegmentName}
use Rattle.segment_file.specs.Parts.{head_sections}
use Rattle.segment_file.specs.Reading.{IsFrontOf, IsHeadCut}
use Rattle.segment_file.proofs.Counts.{head_count, some_sections}
use Rattle.segment_file.proofs.Fronts.{front_bytes_size}

-- a front has a size for each section of the head
pub has_heads : (table : Table) (name bytes : List ℕ) (size : ℕ) (front : Front) → IsFront table name bytes size front → length table.schema.fields + length table.settings.trees < length front.sizes
has_heads table name bytes size front is = omega (arith, is.each, some_sections table, head_count table)

pub front_length : (table : Table) (name bytes : List ℕ) (size : ℕ) (front : Front) → IsFront table name bytes size front → length bytes ≡ front_size table name
front_length table name bytes size front is = ap length is.spelled ∙ front_bytes_size table name front is.each

-- the head is within its file
pub head_within : (table : Table) (name bytes : List ℕ) (size : ℕ) (front : Front) → IsFront table name bytes size front → head_end table name front ≤ size
head_within table name bytes size front is = omega (arith, is.whole, sum_by-take-le (λ n. n) front.sizes (length (head_sections table)))

-- a told file has the front that was read
pub has_front : (table : Table) (name file bytes : List ℕ) (files : Files) (front : Front) → IsFrontOf table name file (Some files) bytes front → HasFront table name (bytes_of (Some files) file) front
has_front table name file bytes files front is =
    let whole : List ℕ = bytes_of (Some files) file in
    subst (λ n. IsFront table name (take (front_size table name) whole) n front) is.told.0 (subst (λ b. IsFront table name b is.size front) is.told.1 is.front_is)

-- the front, and then the rest of the head
pub head_bytes : (table : Table) (name file bytes : List ℕ) (held : Option Files) (front : Front) (start rest : ℕ) (more all : List ℕ) → IsFrontOf table name file held bytes front
    → start ≡ front_size table name → rest ≡ sum (take (length (head_sections table)) front.sizes) → IfSome held (λ files. more ≡ bytes_at files file start rest) → all ≡ bytes ++ more
    → IfSome held (λ files. all ≡ take (head_end table name front) (bytes_of (Some files) file))
head_bytes table name file bytes None front start rest more all is starts sizes read both = tt
head_bytes table name file bytes (Some files) front start rest more all is starts sizes read both =
    let whole : List ℕ = bytes_of (Some files) file in
    both
    ∙ ap₂ ◌++◌ is.told.1 (read ∙ (λ i. take (sizes i) (drop (starts i) whole)))
    ∙ sym (take-add (front_size table name) (sum (take (length (head_sections table)) front.sizes)) whole)

-- whatever a device tells, these are the bytes of a head: the rest of its file may be any
pub head_cut : (table : Table) (name file bytes : List ℕ) (held : Option Files) (front : Front) (rest : ℕ) (more all : List ℕ) → IsFrontOf table name file held bytes front
    → rest ≡ sum (take (length (head_sections table)) front.sizes) → length more ≡ rest → all ≡ bytes ++ more → IsHeadCut table name front all
head_cut table name file bytes held front rest more all is sizes long both =
    let own = is.front_is in
    let start : length bytes ≡ front_size table name = front_length table name bytes is.size front own in
    let end : length all ≡ head_end table name front = ap length both ∙ length-append bytes more ∙ (λ i. start i + (long ∙ sizes) i) in
    let zeros : List ℕ = replicate (is.size - length all) 0 in
    let within : head_end table name front ≤ is.size = head_within table name bytes is.size front own in
    let whole : length (all ++ zeros) ≡ is.size = omega (arith, length-append all zeros, length-replicate {A = ℕ} (is.size - length all) 0, end, within) in
    let begins : take (front_size table name) (all ++ zeros) ≡ bytes =
    ap (λ l. take (front_size table name) (l ++ zeros)) both ∙ ap (take (front_size table name)) (append_assoc bytes more zeros) ∙ take_at bytes (more ++ zeros) (front_size table name) start in
    record {
      whole = all ++ zeros;
      front_is = subst (λ n. IsFront table name (take (front_size table name) (all ++ zeros)) n front) (sym whole) (subst (λ b. IsFront table name b is.size front) (sym begins) own);
      cut_is = sym (take_at all zeros (head_end table name front) end);
    }

-- ---- the log

pub rest_through : (file : List ℕ) (start rest from limit : ℕ) (old new : Option (List Entry)) → start ≡ from → start + rest ≡ limit → LogsThrough file start (start + rest) old new → LogsUpTo file from limit old new
rest_through file start rest from limit old new starts ends on =
    (start + rest, omega (arith, ends), subst (λ n. LogsThrough file n (start + rest) old new) starts on)

pub rest_up : (file : List ℕ) (start rest from limit : ℕ) (old new : Option (List Entry)) → start ≡ from → start + rest ≡ limit → LogsUpTo file start (start + rest) old new → LogsUpTo file from limit old new
rest_up file start rest from limit old new starts ends (to, le, on) = (to, omega (arith, le, ends), subst (λ n. LogsThrough file n to old new) starts on)

-- ---- the sizes that are allowed

pub few_bytes : (name : List ℕ) → IsSegmentName name → length name ≤ 64
few_bytes name is = leb-true (length name) 64 is.at_most

-- ---- the reading of the front

pub front_log : (file : List ℕ) (count limit : ℕ) (old between new : Option (List Entry)) → 0 + count ≡ limit → between ≡ old → LogsThrough file 0 (0 + count) between new → LogsThrough file 0 limit old new
front_log file count limit old between new e same on = subst (λ l. LogsThrough file 0 limit l new) same (subst (λ n. LogsThrough file 0 n between new) e on)

pub front_up : (file : List ℕ) (count limit : ℕ) (old between new : Option (List Entry)) → 0 + count ≡ limit → between ≡ old → LogsUpTo file 0 (0 + count) between new → LogsUpTo file 0 limit old new
front_up file count limit old between new e same on = subst (λ l. LogsUpTo file 0 limit l new) same (subst (λ n. LogsUpTo file 0 n between new) e on)

-- a file that ends before its front would end has none
pub front_short : (table : Table) (name file : List ℕ) (held : Option Files) (count : ℕ) → 0 + count ≡ front_size table name → IfSome held (λ files. length (bytes_of (Some files) file) < 0 + count) → IfSome held (λ files. (front : Front) → ¬ HasFront table name (bytes_of (Some files) file) front)
front_short table name file None count e lt = tt
front_short table name file (Some files) count e lt = λ front has. omega (arith, has.whole, lt, e)

-- a told file is not too short for the head that its front tells of
pub rest_short : (table : Table) (name file bytes : List ℕ) (held : Option Files) (front : Front) (start rest : ℕ) → IsFrontOf table name file held bytes front → start + rest ≡ head_end table name front → IfSome held (λ files. length (bytes_of (Some files) file) < start + rest) → held ≡ None
rest_short table name file bytes None front start rest is end lt = refl
rest_short table name file bytes (Some files) front start rest is end lt = absurd (omega (arith, lt, end, is.told.0, head_within table name bytes is.size front is.front_is))
