-- Reads that lie between two places of a file, and how many bytes they give together.
use Rattle.std.proofs.Common.{◌≡◌, ◌∙◌, ◌+◌, ◌-◌, ◌*◌, ◌/◌, ◌<◌, ◌≤◌, ◌⊎◌, [], ◌∷◌, ℕ, zero, suc, Bool, true, false, nat_lt, List, All, Option, inl, inr, length, map, take, get_or, refl, sym, ap, subst, arith, length-append}
use Rattle.std.specs.Prelude.{if◌then◌else◌}
use Rattle.std.specs.List.{AllByRecursion, sum_by}
use Rattle.std.proofs.lemmas.Bool.{false≢true, lt-ltb}
use Rattle.std.proofs.lemmas.List.Elements.{All-cons, All-head, All-nil, All-tail}
use Rattle.std.proofs.lemmas.List.FromFn.{length-range_with_len}
use Rattle.std.proofs.lemmas.List.Sums.{sum_by-cons}
use Rattle.std.proofs.lemmas.Nat.{mul-le}
use Rattle.outside.specs.Reads.{Consecutive, Entry, LogsOn, LogsThrough, LogsUpTo, overlap, read_by, read_in}
use Rattle.outside.proofs.ReadLemmas.{Consecutive-le, LogsOn-through, read_by-apart, read_in-cons}
use Rattle.bit_column.specs.Sections.{end_byte, first_byte}
use Rattle.doc_lists.specs.Docs.{Apart, docs_of, docs_of_run}
use Rattle.doc_lists.specs.declared.run.Run.{Run}
use Rattle.outside.specs.Stretches.{LogsOver, LogsPartly, Stretch}
use Rattle.column_reader.specs.Bytes.{GrowsBy, column_bytes, most_bytes}
use Rattle.column_reader.specs.Picked.{ids_of_run}
use Rattle.outside.specs.Series.{Logs, LogsPartOf, LogsTo}
use Rattle.column_reader.proofs.ByteLemmas.{grows_both, grows_on, grows_same}
use Rattle.segment_reads.specs.Logs.{EndsBy, LogsThat}
use Rattle.segment_reads.specs.Reads.{marked_count}
use Rattle.segment_reads.proofs.LogLemmas.{entries_as, entries_none, entries_then}

-- ---- reads between two places

-- a read of this file, of nothing before the one place and of nothing past the other
pub record LiesIn (file : List ℕ) (from to : ℕ) (entry : Entry) : Type 0 where
  pub file_is : entry.file ≡ file
  pub begins : from ≤ entry.offset
  pub ends : entry.offset + entry.count ≤ to

-- a stretch between two places
pub record IsWithin (from to : ℕ) (s : Stretch) : Type 0 where
  pub begins : from ≤ s.from
  pub ends : s.to ≤ to

module _ (file : List ℕ) (from to : ℕ) where
  all_lie : (a b : ℕ) (entries : List Entry) → from ≤ a → b ≤ to → Consecutive file a b entries → All (LiesIn file from to) entries
  all_lie a b [] first last h = All-nil (LiesIn file from to)
  all_lie a b (entry ∷ entries) first last h =
      let further = Consecutive-le file (a + entry.count) b entries h.2 in
      let here = h.1 in
      All-cons (LiesIn file from to) entry entries (record { file_is = h.0; begins = omega (arith, here, first); ends = omega (arith, further, here, last) }) (all_lie (a + entry.count) b entries (omega (arith, first)) last h.2)

  pub through_lies : (a b : ℕ) (old new : Option (List Entry)) → from ≤ a → b ≤ to → LogsThrough file a b old new → LogsThat (LiesIn file from to) old new
  through_lies a b old new first last (entries, is, each) = (entries, is, all_lie a b entries first last each)

  pub on_lies : (a b : ℕ) (old new : Option (List Entry)) → from ≤ a → b ≤ to → LogsOn file a b old new → LogsThat (LiesIn file from to) old new
  on_lies a b old new first last logs = through_lies a b old new first last (LogsOn-through file a b old new logs)

  pub up_lies : (a b : ℕ) (old new : Option (List Entry)) → from ≤ a → b ≤ to → LogsUpTo file a b old new → LogsThat (LiesIn file from to) old new
  up_lies a b old new first last (end, le, through) = through_lies a end old new first (omega (arith, le, last)) through

  pub same_lies : (old new : Option (List Entry)) → new ≡ old → LogsThat (LiesIn file from to) old new
  same_lies old new same = subst (LogsThat (LiesIn file from to) old) (sym same) (entries_none (LiesIn file from to) old)

  pub over_lies : (parts : List Stretch) (old new : Option (List Entry)) → AllByRecursion (IsWithin from to) parts → LogsOver file parts old new → LogsThat (LiesIn file from to) old new
  over_lies [] old new all same = same_lies old new same
  over_lies (part ∷ parts) old new (here, rest) (between, first, logs) =
      entries_then (LiesIn file from to) old between new (on_lies part.from part.to old between here.begins here.ends first) (over_lies parts between new rest logs)

  pub partly_lies : (parts : List Stretch) (old new : Option (List Entry)) → AllByRecursion (IsWithin from to) parts → LogsPartly file parts old new → LogsThat (LiesIn file from to) old new
  partly_lies [] old new all same = same_lies old new same
  partly_lies (part ∷ parts) old new (here, rest) (inl up) = up_lies part.from part.to old new here.begins here.ends up
  partly_lies (part ∷ parts) old new (here, rest) (inr (between, first, logs)) =
      entries_then (LiesIn file from to) old between new (on_lies part.from part.to old between here.begins here.ends first) (partly_lies parts between new rest logs)

-- reads that end before a place, or begin after it
pub lies_end : (file : List ℕ) (from to : ℕ) (old new : Option (List Entry)) → LogsThat (LiesIn file from to) old new → LogsThat (EndsBy file to) old new
lies_end file from to old new logs = entries_as (LiesIn file from to) (EndsBy file to) old new (λ entry l. record { file_is = l.file_is; ends = l.ends }) logs

-- reads after a part gave nothing of it
pub after_part : (file : List ℕ) (low from to end : ℕ) (x : List Entry) → to ≤ low → All (LiesIn file low end) x → read_in x file from to ≡ 0
after_part file low from to end [] le all = refl
after_part file low from to end (entry ∷ x) le all =
    let here = All-head (LiesIn file low end) entry x all in
    let begins = here.begins in
    read_in-cons entry x file from to
    ∙ (λ i. read_by-apart entry file from to (inr (omega (arith, begins, le))) i + after_part file low from to end x le (All-tail (LiesIn file low end) entry x all) i)

-- ---- bytes of reads

few_by : (b : Bool) (x most : ℕ) → x ≤ most → (if b then x else 0) ≤ most
few_by true x most le = le
few_by false x most le = omega arith

-- reads give of a part no more than they gave together
pub read_few : (x : List Entry) (file : List ℕ) (from to : ℕ) → read_in x file from to ≤ sum_by (λ entry. entry.count) x
read_few [] file from to = omega arith
read_few (entry ∷ x) file from to =
    let here : read_by entry file from to ≤ entry.count = few_by _ (overlap entry.offset (entry.offset + entry.count) from to) entry.count (omega arith) in
    let rest = read_few x file from to in
    let sum = read_in-cons entry x file from to in
    let counts = sum_by-cons (λ e. e.count) entry x in
    omega (arith, here, rest, sum, counts)

given_few : (file : List ℕ) (a b : ℕ) (entries : List Entry) → Consecutive file a b entries → a + sum_by (λ entry. entry.count) entries ≡ b
given_few file a b [] h = omega (arith, h)
given_few file a b (entry ∷ entries) h =
    let rest = given_few file (a + entry.count) b entries h.2 in
    let counts = sum_by-cons (λ e. e.count) entry entries in
    omega (arith, rest, counts)

-- reads up to a limit
pub grows_up : (file : List ℕ) (from limit most : ℕ) (old new : Option (List Entry)) → limit - from ≤ most → LogsUpTo file from limit old new → GrowsBy most old new
grows_up file from limit most old new le (to, before, (entries, is, through)) = (entries, is, let sum = given_few file from to entries through in omega (arith, sum, before, le))

pub grows_less : (less most : ℕ) (old new : Option (List Entry)) → less ≤ most → GrowsBy less old new → GrowsBy most old new
grows_less less most old new le (entries, is, at_most) = (entries, is, omega (arith, at_most, le))

-- ---- bytes of documents

-- a run of documents has at most four bytes a document
run_few : (b : Bool) (a c n from : ℕ) → b ≡ true → 1 ≤ n → c ≤ n * 25 → (if b then (a + c + 7) / 8 else from) - a / 8 ≤ 4 * n
run_few true a c n from is some small = omega (arith, some, small)
run_few false a c n from is some small = absurd (false≢true is)

sum_times : (a n w : ℕ) → (a + n) * w ≡ a * w + n * w
sum_times a n w = omega arith

pub run_bytes : (width first last : ℕ) → first ≤ last → width ≤ 25 → end_byte width first (last + 1) - first_byte width first ≤ 4 * (last + 1 - first)
run_bytes width first last order small =
    let n : ℕ = last + 1 - first in
    let whole : last + 1 ≡ first + n = omega (arith, order) in
    let most : n * width ≤ n * 25 = mul-le n width n 25 (omega arith) small in
    subst (λ m. (if nat_lt first (last + 1) then (m + 7) / 8 else first * width / 8) - first * width / 8 ≤ 4 * n) (sym (ap (λ k. k * width) whole ∙ sum_times first n width))
    (run_few (nat_lt first (last + 1)) (first * width) (n * width) n (first * width / 8) (lt-ltb first (last + 1) (omega (arith, order))) (omega (arith, order)) most)

pub grows_partly : (file : List ℕ) (width offset key : ℕ) (runs : List Run) (old new : Option (List Entry)) → width ≤ 25 → Apart key runs → LogsPartly file (map (ids_of_run width offset) runs) old new → GrowsBy (4 * length (docs_of runs)) old new
grows_partly file width offset key [] old new small apart logs = grows_same old new logs
grows_partly file width offset key (run ∷ runs) old new small apart logs = by logs (λ between rest. grows_partly file width offset (run.last + 2) runs between new small apart.3 rest)
  where
    own : end_byte width run.first (run.last + 1) - first_byte width run.first ≤ 4 * (run.last + 1 - run.first)
    own = run_bytes width run.first run.last apart.1 small

    total : length (docs_of (run ∷ runs)) ≡ run.last + 1 - run.first + length (docs_of runs)
    total = omega (arith, length-append (docs_of_run run) (docs_of runs), length-range_with_len run.first (run.last + 1 - run.first))

    by : LogsPartly file (map (ids_of_run width offset) (run ∷ runs)) old new → ((between : Option (List Entry)) → LogsPartly file (map (ids_of_run width offset) runs) between new → GrowsBy (4 * length (docs_of runs)) between new)
        → GrowsBy (4 * length (docs_of (run ∷ runs))) old new
    by (inl up) later = grows_up file (offset + first_byte width run.first) (offset + end_byte width run.first (run.last + 1)) (4 * length (docs_of (run ∷ runs))) old new (omega (arith, own, total)) up
    by (inr (between, first, rest)) later =
        grows_both (4 * (run.last + 1 - run.first)) (4 * length (docs_of runs)) (4 * length (docs_of (run ∷ runs))) old between new (omega (arith, total))
        (grows_on file (offset + first_byte width run.first) (offset + end_byte width run.first (run.last + 1)) (4 * (run.last + 1 - run.first)) old between (omega (arith, own)) first)
        (later between rest)

-- ---- marked columns

-- one for a column that is marked
abbrev pub one_if : Bool → ℕ
one_if true = 1
one_if false = 0

pub marks_more : (named : List Bool) (i : ℕ) → i < length named → marked_count (take i named) + one_if (get_or named i false) ≡ marked_count (take (suc i) named)
marks_more [] i lt = absurd (omega (arith, lt))
marks_more (true ∷ bs) zero lt = refl
marks_more (false ∷ bs) zero lt = refl
marks_more (true ∷ bs) (suc i) lt = let rest = marks_more bs i (omega (arith, lt)) in omega (arith, rest)
marks_more (false ∷ bs) (suc i) lt = marks_more bs i (omega (arith, lt))

pub marks_few : (named : List Bool) (i : ℕ) → marked_count (take i named) ≤ marked_count named
marks_few [] zero = omega arith
marks_few [] (suc i) = omega arith
marks_few (b ∷ bs) zero = omega arith
marks_few (true ∷ bs) (suc i) = let rest = marks_few bs i in omega (arith, rest)
marks_few (false ∷ bs) (suc i) = marks_few bs i

pub marks_bytes : (named : List Bool) (docs : List ℕ) → most_bytes named docs ≡ 4 * length docs * marked_count named
marks_bytes [] docs = omega arith
marks_bytes (true ∷ bs) docs = let sum = sum_by-cons (column_bytes docs) true bs in let rest = marks_bytes bs docs in omega (arith, sum, rest)
marks_bytes (false ∷ bs) docs = let sum = sum_by-cons (column_bytes docs) false bs in let rest = marks_bytes bs docs in omega (arith, sum, rest)

-- ---- reads that are made one after the other

module _ (P : Entry → Type 0) (each : ℕ → Logs) (count : ℕ) (of_each : (at : ℕ) → at < count → (old new : Option (List Entry)) → each at old new → LogsThat P old new) where
  none_that : (old new : Option (List Entry)) → new ≡ old → LogsThat P old new
  none_that old new same = subst (LogsThat P old) (sym same) (entries_none P old)

  pub series_that : (n : ℕ) → n ≤ count → (old new : Option (List Entry)) → LogsTo each n old new → LogsThat P old new
  series_that zero at_most old new logs = none_that old new logs
  series_that (suc n) at_most old new (between, before, last) = entries_then P old between new (series_that n (omega (arith, at_most)) old between before) (of_each n (omega (arith, at_most)) between new last)

  pub part_that : (partly : ℕ → Logs) → ((at : ℕ) → at < count → (old new : Option (List Entry)) → partly at old new → LogsThat P old new) → (old new : Option (List Entry)) → LogsPartOf each partly count old new → LogsThat P old new
  part_that partly of_part old new s = entries_then P old s.between new (series_that s.upto s.at_most old s.between s.before) (rest s.rest)
    where
      rest : (new ≡ s.between) ⊎ ((s.upto < count) × partly s.upto s.between new) → LogsThat P s.between new
      rest (inl same) = none_that s.between new same
      rest (inr (lt, part)) = of_part s.upto lt s.between new part

-- at most so many bytes a column that is marked
module _ (most : ℕ) (named : List Bool) (each : ℕ → Logs) (of_each : (at : ℕ) → at < length named → (old new : Option (List Entry)) → each at old new → GrowsBy (most * one_if (get_or named at false)) old new) where
  pub series_grows : (n : ℕ) → n ≤ length named → (old new : Option (List Entry)) → LogsTo each n old new → GrowsBy (most * marked_count (take n named)) old new
  series_grows zero at_most old new logs = grows_less 0 (most * marked_count (take zero named)) old new (omega arith) (grows_same old new logs)
  series_grows (suc n) at_most old new (between, before, last) =
      let more = marks_more named n (omega (arith, at_most)) in
      grows_both (most * marked_count (take n named)) (most * one_if (get_or named n false)) (most * marked_count (take (suc n) named)) old between new (joined (marked_count (take n named)) (one_if (get_or named n false)) (marked_count (take (suc n) named)) more)
      (series_grows n (omega (arith, at_most)) old between before) (of_each n (omega (arith, at_most)) between new last)
    where
      joined : (a b c : ℕ) → a + b ≡ c → most * a + most * b ≤ most * c
      joined a b c is = subst (λ m. most * a + most * b ≤ most * m) is (omega arith)

  pub part_grows : (partly : ℕ → Logs) → ((at : ℕ) → at < length named → (old new : Option (List Entry)) → partly at old new → GrowsBy (most * one_if (get_or named at false)) old new) → (old new : Option (List Entry)) → LogsPartOf each partly (length named) old new
      → GrowsBy (most * marked_count named) old new
  part_grows partly of_part old new s = rest s.rest
    where
      fewer : (n : ℕ) → most * marked_count (take n named) ≤ most * marked_count named
      fewer n = mul-le most (marked_count (take n named)) most (marked_count named) (omega arith) (marks_few named n)

      rest : (new ≡ s.between) ⊎ ((s.upto < length named) × partly s.upto s.between new) → GrowsBy (most * marked_count named) old new
      rest (inl same) = subst (GrowsBy (most * marked_count named) old) (sym same) (grows_less (most * marked_count (take s.upto named)) (most * marked_count named) old s.between (fewer s.upto) (series_grows s.upto s.at_most old s.between s.before))
      rest (inr (lt, part)) =
          grows_less (most * marked_count (take (suc s.upto) named)) (most * marked_count named) old new (fewer (suc s.upto))
          (grows_both (most * marked_count (take s.upto named)) (most * one_if (get_or named s.upto false)) (most * marked_count (take (suc s.upto) named)) old s.between new
          (joined (marked_count (take s.upto named)) (one_if (get_or named s.upto false)) (marked_count (take (suc s.upto) named)) (marks_more named s.upto lt))
          (series_grows s.upto s.at_most old s.between s.before) (of_part s.upto lt s.between new part))
        where
          joined : (a b c : ℕ) → a + b ≡ c → most * a + most * b ≤ most * c
          joined a b c is = subst (λ m. most * a + most * b ≤ most * m) is (omega arith)
