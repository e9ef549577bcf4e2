-- Reads of one file, and how often they give a byte of it.
use Rattle.std.proofs.Common.{◌≡◌, ◌∙◌, ◌≤◌, ◌+◌, ◌-◌, ℕ, List, [], ◌∷◌, ◌++◌, append-nil, append_assoc, All, Option, None, Some, option_map, refl, sym, ap, arith}
use Rattle.std.specs.Prelude.{max, min}
use Rattle.std.proofs.lemmas.List.Sums.{sum_by-append}
use Rattle.std.proofs.lemmas.List.Elements.{All-append, All-cons, All-nil}
use Rattle.outside.specs.Reads.{Consecutive, Entry, LogsThrough, LogsUpTo, overlap, read_by, read_in}

-- the told log grew by reads of this file
abbrev pub LogsFile : List ℕ → Option (List Entry) → Option (List Entry) → Type 0
LogsFile file old new = (entries : List Entry) × (new
    ≡ option_map (λ before. before ++ entries) old) × All (λ entry. entry.file ≡ file) entries

-- the told log grew by reads that gave no byte of this file more often
pub record LogsAtMost (most : ℕ) (file : List ℕ) (old new : Option (List Entry)) : Type 0 where
  pub entries : List Entry
  pub grown : new ≡ option_map (λ before. before ++ entries) old
  pub each : (at : ℕ) → read_in entries file at (at + 1) ≤ most

-- it grew by reads that gave bytes of this file between two offsets alone, and none of them twice
pub record LogsOnce (file : List ℕ) (from to : ℕ) (old new : Option (List Entry)) : Type 0 where
  pub entries : List Entry
  pub grown : new ≡ option_map (λ before. before ++ entries) old
  pub each : (a b : ℕ) → read_in entries file a b ≤ overlap from to a b

-- ---- no reads, reads after reads, and reads back to back

pub file_unread : (file : List ℕ) (old new : Option (List Entry)) → new ≡ old
    → LogsFile file old new
file_unread file None new is = ([], is, All-nil (λ entry. entry.file ≡ file))
file_unread file (Some entries) new is =
    ([], is ∙ ap Some (sym (append-nil entries)), All-nil (λ entry. entry.file ≡ file))

joined : (old : Option (List Entry)) (x y : List Entry)
    → option_map (λ before. before ++ y) (option_map (λ before. before ++ x) old)
    ≡ option_map (λ before. before ++ (x ++ y)) old
joined None x y = refl
joined (Some entries) x y = ap Some (append_assoc entries x y)

pub file_then : (file : List ℕ) (old between new : Option (List Entry)) → LogsFile file old between
    → LogsFile file between new → LogsFile file old new
file_then file old between new (x, is_x, each_x) (y, is_y, each_y) = (
  x ++ y,
  is_y ∙ ap (option_map (λ before. before ++ y)) is_x ∙ joined old x y,
  All-append (λ entry. entry.file ≡ file) x y each_x each_y,
)

each_of : (file : List ℕ) (from to : ℕ) (entries : List Entry) → Consecutive file from to entries
    → All (λ entry. entry.file ≡ file) entries
each_of file from to [] h = All-nil (λ entry. entry.file ≡ file)
each_of file from to (entry ∷ entries) h =
    All-cons (λ entry. entry.file ≡ file) entry entries h.0
    (each_of file (from + entry.count) to entries h.2)

pub file_through : (file : List ℕ) (from to : ℕ) (old new : Option (List Entry))
    → LogsThrough file from to old new → LogsFile file old new
file_through file from to old new (entries, is, each) =
    (entries, is, each_of file from to entries each)

pub file_up : (file : List ℕ) (from limit : ℕ) (old new : Option (List Entry))
    → LogsUpTo file from limit old new → LogsFile file old new
file_up file from limit old new (to, le, through) = file_through file from to old new through

-- ---- no byte twice

pub once_none : (file : List ℕ) (from to : ℕ) (old new : Option (List Entry)) → new ≡ old
    → LogsOnce file from to old new
once_none file from to None new is = record {
  entries = [];
  grown = is;
  each = λ a b. (let none : read_in [] file a b ≡ 0 = refl in omega (arith, none));
}
once_none file from to (Some entries) new is = record {
  entries = [];
  grown = is ∙ ap Some (sym (append-nil entries));
  each = λ a b. (let none : read_in [] file a b ≡ 0 = refl in omega (arith, none));
}

wider : (from to a b first last : ℕ) → first ≤ from → to ≤ last
    → overlap from to a b ≤ overlap first last a b
wider from to a b first last down up = omega (arith, down, up)

pub once_wider : (file : List ℕ) (from to first last : ℕ) (old new : Option (List Entry))
    → LogsOnce file from to old new → first ≤ from → to ≤ last → LogsOnce file first last old new
once_wider file from to first last old new once down up = record {
  entries = once.entries;
  grown = once.grown;
  each = λ a b. (let these = once.each a b in let more = wider from to a b first last down up in
      omega (arith, these, more));
}

apart : (a b c d x y : ℕ) → a ≤ c → b ≤ c → b ≤ d
    → overlap a b x y + overlap c d x y ≤ overlap a d x y
apart a b c d x y first between last = omega (arith, first, between, last)

pub once_then : (file : List ℕ) (a b c d : ℕ) (old between new : Option (List Entry)) → a ≤ c
    → b ≤ c → b ≤ d → LogsOnce file a b old between → LogsOnce file c d between new
    → LogsOnce file a d old new
once_then file a b c d old between new first then last one two = record {
  entries = one.entries ++ two.entries;
  grown = two.grown ∙ ap (option_map (λ before. before ++ two.entries)) one.grown
      ∙ joined old one.entries two.entries;
  each = λ x y.
      (let all : read_in (one.entries ++ two.entries) file x y ≡ read_in one.entries file x y
      + read_in two.entries file x y = sum_by-append (λ entry. read_by entry file x y)
      one.entries two.entries in
      let p = one.each x y in
      let q = two.each x y in
      let sum = apart a b c d x y first then last in
      omega (arith, all, p, q, sum));
}

single : (from to at : ℕ) → overlap from to at (at + 1) ≤ 1
single from to at = omega arith

-- reads of each byte once
pub at_most_once : (file : List ℕ) (from to : ℕ) (old new : Option (List Entry))
    → LogsOnce file from to old new → LogsAtMost 1 file old new
at_most_once file from to old new once = record {
  entries = once.entries;
  grown = once.grown;
  each = λ at. (let these = once.each at (at + 1) in let one = single from to at in
      omega (arith, these, one));
}

-- and reads of each once more
pub at_most_twice : (file : List ℕ) (a b c d : ℕ) (old between new : Option (List Entry))
    → LogsOnce file a b old between → LogsOnce file c d between new → LogsAtMost 2 file old new
at_most_twice file a b c d old between new one two = record {
  entries = one.entries ++ two.entries;
  grown = two.grown ∙ ap (option_map (λ before. before ++ two.entries)) one.grown
      ∙ joined old one.entries two.entries;
  each = λ at.
      (let all : read_in (one.entries ++ two.entries) file at (at + 1) ≡ read_in one.entries file at
      (at + 1) + read_in two.entries file at (at + 1) = sum_by-append
      (λ entry. read_by entry file at (at + 1)) one.entries two.entries in
      let p = one.each at (at + 1) in
      let q = two.each at (at + 1) in
      let first = single a b at in
      let second = single c d at in
      omega (arith, all, p, q, first, second));
}

pub more_often : (most more : ℕ) (file : List ℕ) (old new : Option (List Entry)) → most ≤ more
    → LogsAtMost most file old new → LogsAtMost more file old new
more_often most more file old new le is = record {
  entries = is.entries;
  grown = is.grown;
  each = λ at. (let these = is.each at in omega (arith, these, le));
}
