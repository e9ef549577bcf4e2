-- The documents of runs of ids, run by run.
use Rattle.std.proofs.Common.{◌≡◌, ◌∙◌, ℕ, zero, suc, ◌+◌, ◌-◌, ◌*◌, ◌<◌, ◌≤◌, ◌^◌, ◌⊎◌, inl, inr, List, [], ◌∷◌, ◌++◌, All, Option, Some, None, IfSome, length, map, get_or, refl, sym, ap, subst, arith, append_assoc, append-nil}
use Rattle.std.specs.List.{range_with_len}
use Rattle.std.proofs.lemmas.List.Elements.{All-nil, All-cons, All-head, All-tail, All-append}
use Rattle.outside.specs.Files.{Files}
use Rattle.outside.specs.Reads.{Entry, LogsOn, LogsUpTo}
use Rattle.outside.specs.Seen.{OnlyReads, Seen}
use Rattle.outside.specs.declared.place.Place.{Place}
use Rattle.outside.proofs.SeenLemmas.{reads_after, reads_none}
use Rattle.bit_column.specs.Column.{spelled}
use Rattle.bit_column.specs.Sections.{section}
use Rattle.bit_column.specs.SortedRuns.{first_place}
use Rattle.bit_column.specs.SortedRuns as sorted
use Rattle.doc_lists.specs.Docs.{Apart}
use Rattle.doc_lists.specs.declared.run.Run.{Run}
use Rattle.index_reader.specs.Documents.{TellsSorted}
use Rattle.index_reader.specs.Runs.{docs_at, docs_in, ends_of}
use Rattle.outside.specs.Stretches.{LogsOver, LogsPartly}
use Rattle.index_reader.proofs.FirstPlaces.{both_at, firsts_ascend, runs_below, runs_reach}

-- what is known between two runs: those that are left, the place after the last one so far, and the documents so far
pub record SortedStep (count rows : ℕ) (place : Place) (runs left : List Run) (first now : Seen) (end : ℕ) (docs : List ℕ) : Type 0 where
  pub reads : OnlyReads ⊥ first now
  pub whole : (last : Option (List Entry)) → LogsOver place.file (map (ends_of place.offset) left) now.log last → LogsOver place.file (map (ends_of place.offset) runs) first.log last
  pub partly : (last : Option (List Entry)) → LogsPartly place.file (map (ends_of place.offset) left) now.log last → LogsPartly place.file (map (ends_of place.offset) runs) first.log last
  pub after : (key : ℕ) × Apart key left × IfSome first.held (λ files. (ids : List ℕ) → TellsSorted count rows (section files place) ids → end ≤ first_place ids key)
  pub within : All (λ run. run.last < count) left
  pub below : All (λ doc. doc < end) docs
  pub bound : end ≤ rows
  pub told : IfSome first.held (λ files. (ids : List ℕ) → TellsSorted count rows (section files place) ids → docs ++ docs_in ids left ≡ docs_in ids runs)

start_after : (held : Option Files) (place : Place) (count rows : ℕ) → IfSome held (λ files. (ids : List ℕ) → TellsSorted count rows (section files place) ids → 0 ≤ first_place ids 0)
start_after None place count rows = tt
start_after (Some files) place count rows = λ ids tells. omega arith

start_told : (held : Option Files) (place : Place) (count rows : ℕ) (runs : List Run) → IfSome held (λ files. (ids : List ℕ) → TellsSorted count rows (section files place) ids → [] ++ docs_in ids runs ≡ docs_in ids runs)
start_told None place count rows runs = tt
start_told (Some files) place count rows runs = λ ids tells. refl

pub sorted_start : (count rows : ℕ) (place : Place) (runs left : List Run) (shelf : Seen) (docs : List ℕ) → left ≡ runs → docs ≡ [] → Apart 0 runs → All (λ run. run.last < count) runs
    → SortedStep count rows place runs left shelf shelf 0 docs
sorted_start count rows place runs left shelf docs all none apart within =
    subst (λ ds. SortedStep count rows place runs left shelf shelf 0 ds) (sym none)
    (subst (λ rs. SortedStep count rows place runs rs shelf shelf 0 []) (sym all) (record {
      reads = reads_none shelf;
      whole = λ last logs. logs;
      partly = λ last logs. logs;
      after = (0, apart, start_after shelf.held place count rows);
      within = within;
      below = All-nil (λ doc. doc < 0);
      bound = omega arith;
      told = start_told shelf.held place count rows runs;
    }))

-- ---- what the numbers of a run are

abbrev EndsRead : Option Files → Place → ℕ → ℕ → ℕ → ℕ → Type 0
EndsRead held place from to a b = IfSome held (λ files. (list : List ℕ) →
    All (λ n. n < 2 ^ 32) list → to ≤ length list → section files place ≡ spelled 32 list → (a ≡ get_or list from 0) × (b ≡ get_or list (to - 1) 0))

abbrev EndsBad : Option Files → Place → ℕ → ℕ → Type 0
EndsBad held place limit to = IfSome held (λ files. (list : List ℕ) →
    All (λ n. n < 2 ^ 32) list → All (λ n. n < limit) list → to ≤ length list → section files place ≡ spelled 32 list → ⊥)

-- the places of a run of ids
pub ends_are : (held : Option Files) (place : Place) (count rows a b : ℕ) (run : Run) → run.first ≤ run.last → run.last < count → rows ≤ 1048576 → EndsRead held place (2 * run.first) (2 * run.last + 2) a b
    → IfSome held (λ files. (ids : List ℕ) → TellsSorted count rows (section files place) ids → (a ≡ first_place ids run.first) × (b ≡ first_place ids (run.last + 1)))
ends_are None place count rows a b run order within at_most read = tt
ends_are (Some files) place count rows a b run order within at_most read = λ ids tells.
    let small : length ids < 2 ^ 32 = omega (arith, tells.0.1, at_most) in
    let both = read (sorted.runs count ids) (runs_below ids (2 ^ 32) small count) (runs_reach count ids run.last within) tells.2 in
    let last : 2 * run.last + 2 - 1 ≡ 2 * run.last + 1 = omega arith in (
      both.0 ∙ (both_at ids run.first count (omega (arith, order, within))).0,
      both.1 ∙ ap (λ n. get_or (sorted.runs count ids) n 0) last ∙ (both_at ids run.last count within).1,
    )

-- they are there
pub ends_bad : (held : Option Files) (place : Place) (count rows : ℕ) (run : Run) → run.last < count → rows ≤ 1048576 → EndsBad held place (rows + 1) (2 * run.last + 2)
    → IfSome held (λ files. (ids : List ℕ) → TellsSorted count rows (section files place) ids → ⊥)
ends_bad None place count rows run within at_most bad = tt
ends_bad (Some files) place count rows run within at_most bad = λ ids tells.
    let small : length ids < 2 ^ 32 = omega (arith, tells.0.1, at_most) in
    let fits : length ids < rows + 1 = omega (arith, tells.0.1) in
    bad (sorted.runs count ids) (runs_below ids (2 ^ 32) small count) (runs_below ids (rows + 1) fits count) (runs_reach count ids run.last within) tells.2

-- they are in order
pub ends_order : (held : Option Files) (place : Place) (count rows end key a b : ℕ) (run : Run) → run.first ≤ run.last → key ≤ run.first
    → IfSome held (λ files. (ids : List ℕ) → TellsSorted count rows (section files place) ids → end ≤ first_place ids key)
    → IfSome held (λ files. (ids : List ℕ) → TellsSorted count rows (section files place) ids → (a ≡ first_place ids run.first) × (b ≡ first_place ids (run.last + 1)))
    → (a < end) ⊎ (b < a)
    → IfSome held (λ files. (ids : List ℕ) → TellsSorted count rows (section files place) ids → ⊥)
ends_order None place count rows end key a b run order more before are wrong = tt
ends_order (Some files) place count rows end key a b run order more before are (inl less) = λ ids tells.
    omega (arith, before ids tells, firsts_ascend ids key run.first more, (are ids tells).0, less)
ends_order (Some files) place count rows end key a b run order more before are (inr less) = λ ids tells.
    omega (arith, firsts_ascend ids run.first (run.last + 1) (omega (arith, order)), (are ids tells).0, (are ids tells).1, less)

-- ---- a run more

next_after : (held : Option Files) (place : Place) (count rows a b : ℕ) (run : Run)
    → IfSome held (λ files. (ids : List ℕ) → TellsSorted count rows (section files place) ids → (a ≡ first_place ids run.first) × (b ≡ first_place ids (run.last + 1)))
    → IfSome held (λ files. (ids : List ℕ) → TellsSorted count rows (section files place) ids → b ≤ first_place ids (run.last + 2))
next_after None place count rows a b run are = tt
next_after (Some files) place count rows a b run are = λ ids tells. omega (arith, (are ids tells).1, firsts_ascend ids (run.last + 1) (run.last + 2) (omega arith))

next_told : (held : Option Files) (place : Place) (count rows a b : ℕ) (run : Run) (runs left : List Run) (old new : List ℕ)
    → IfSome held (λ files. (ids : List ℕ) → TellsSorted count rows (section files place) ids → (a ≡ first_place ids run.first) × (b ≡ first_place ids (run.last + 1)))
    → new ≡ old ++ range_with_len a (b - a)
    → IfSome held (λ files. (ids : List ℕ) → TellsSorted count rows (section files place) ids → old ++ docs_in ids (run ∷ left) ≡ docs_in ids runs)
    → IfSome held (λ files. (ids : List ℕ) → TellsSorted count rows (section files place) ids → new ++ docs_in ids left ≡ docs_in ids runs)
next_told None place count rows a b run runs left old new are is told = tt
next_told (Some files) place count rows a b run runs left old new are is told = λ ids tells.
    let both = are ids tells in
    ap (λ ds. ds ++ docs_in ids left) (is ∙ ap (λ n. old ++ range_with_len n (b - n)) both.0 ∙ ap (λ n. old ++ range_with_len (first_place ids run.first) (n - first_place ids run.first)) both.1)
    ∙ append_assoc old (docs_at ids run) (docs_in ids left) ∙ told ids tells

pub range_below : (a n limit : ℕ) → a + n ≤ limit → All (λ doc. doc < limit) (range_with_len a n)
range_below a zero limit le = All-nil (λ doc. doc < limit)
range_below a (suc n) limit le = All-cons (λ doc. doc < limit) a (range_with_len (a + 1) n) (omega (arith, le)) (range_below (a + 1) n limit (omega (arith, le)))

pub all_less : (docs : List ℕ) (low high : ℕ) → low ≤ high → All (λ doc. doc < low) docs → All (λ doc. doc < high) docs
all_less docs low high le all = λ j d lt. let own = all j d lt in omega (arith, own, le)

pub sorted_next : (count rows : ℕ) (place : Place) (runs left rest : List Run) (run : Run) (first now next : Seen) (end a b : ℕ) (old new : List ℕ)
    → SortedStep count rows place runs left first now end old → left ≡ run ∷ rest
    → OnlyReads ⊥ now next → LogsOn place.file (place.offset + 4 * (2 * run.first)) (place.offset + 4 * (2 * run.last + 2)) now.log next.log
    → EndsRead now.held place (2 * run.first) (2 * run.last + 2) a b → rows ≤ 1048576 → b ≤ rows → end ≤ a → a ≤ b → new ≡ old ++ range_with_len a (b - a)
    → SortedStep count rows place runs rest first next b new
sorted_next count rows place runs left rest run first now next end a b old new step is reads logs read at_most fits more order added =
    let at : SortedStep count rows place runs (run ∷ rest) first now end old = subst (λ rs. SortedStep count rows place runs rs first now end old) is step in
    let apart = at.after.1 in
    let held : now.held ≡ first.held = at.reads.held in
    let own : run.last < count = All-head (λ r. r.last < count) run rest at.within in
    let are = ends_are first.held place count rows a b run apart.1 own at_most (subst (λ h. EndsRead h place (2 * run.first) (2 * run.last + 2) a b) held read) in
    let from : place.offset + 4 * (2 * run.first) ≡ place.offset + 8 * run.first = omega arith in
    let to : place.offset + 4 * (2 * run.last + 2) ≡ place.offset + 8 * (run.last + 1) = omega arith in
    let log : LogsOn place.file (place.offset + 8 * run.first) (place.offset + 8 * (run.last + 1)) now.log next.log =
    subst (λ n. LogsOn place.file (place.offset + 8 * run.first) n now.log next.log) to (subst (λ n. LogsOn place.file n (place.offset + 4 * (2 * run.last + 2)) now.log next.log) from logs) in
    record {
      reads = reads_after ⊥ first now next at.reads reads;
      whole = λ last over. at.whole last (next.log, log, over);
      partly = λ last over. at.partly last (inr (next.log, log, over));
      after = (run.last + 2, apart.3, next_after first.held place count rows a b run are);
      within = All-tail (λ r. r.last < count) run rest at.within;
      below = subst (All (λ doc. doc < b)) (sym added)
          (All-append (λ doc. doc < b) old (range_with_len a (b - a)) (all_less old end b (omega (arith, more, order)) at.below) (range_below a (b - a) b (omega (arith, order))));
      bound = fits;
      told = next_told first.held place count rows a b run runs rest old new are added at.told;
    }

-- what is known of the run that comes next
pub run_known : (count rows : ℕ) (place : Place) (runs left rest : List Run) (run : Run) (first now : Seen) (end : ℕ) (docs : List ℕ)
    → SortedStep count rows place runs left first now end docs → left ≡ run ∷ rest → (run.first ≤ run.last) × (run.last < count)
run_known count rows place runs left rest run first now end docs step is =
    let at : SortedStep count rows place runs (run ∷ rest) first now end docs = subst (λ rs. SortedStep count rows place runs rs first now end docs) is step in
    (at.after.1.1, All-head (λ r. r.last < count) run rest at.within)

-- ---- what comes of a run that is refused, and of the last one

pub sorted_partly : (count rows : ℕ) (place : Place) (runs left rest : List Run) (run : Run) (first now next : Seen) (end : ℕ) (docs : List ℕ)
    → SortedStep count rows place runs left first now end docs → left ≡ run ∷ rest
    → LogsUpTo place.file (place.offset + 4 * (2 * run.first)) (place.offset + 4 * (2 * run.last + 2)) now.log next.log
    → LogsPartly place.file (map (ends_of place.offset) runs) first.log next.log
sorted_partly count rows place runs left rest run first now next end docs step is logs =
    let at : SortedStep count rows place runs (run ∷ rest) first now end docs = subst (λ rs. SortedStep count rows place runs rs first now end docs) is step in
    let from : place.offset + 4 * (2 * run.first) ≡ place.offset + 8 * run.first = omega arith in
    let to : place.offset + 4 * (2 * run.last + 2) ≡ place.offset + 8 * (run.last + 1) = omega arith in
    at.partly next.log (inl (subst (λ n. LogsUpTo place.file (place.offset + 8 * run.first) n now.log next.log) to (subst (λ n. LogsUpTo place.file n (place.offset + 4 * (2 * run.last + 2)) now.log next.log) from logs)))

pub sorted_read_bad : (count rows : ℕ) (place : Place) (runs left rest : List Run) (run : Run) (first now : Seen) (end : ℕ) (docs : List ℕ)
    → SortedStep count rows place runs left first now end docs → left ≡ run ∷ rest → rows ≤ 1048576
    → EndsBad now.held place (rows + 1) (2 * run.last + 2)
    → IfSome first.held (λ files. (ids : List ℕ) → TellsSorted count rows (section files place) ids → ⊥)
sorted_read_bad count rows place runs left rest run first now end docs step is at_most bad =
    let within = subst (All (λ r. r.last < count)) is step.within in
    ends_bad first.held place count rows run (All-head (λ r. r.last < count) run rest within) at_most (subst (λ h. EndsBad h place (rows + 1) (2 * run.last + 2)) step.reads.held bad)

pub sorted_order_bad : (count rows : ℕ) (place : Place) (runs left rest : List Run) (run : Run) (first now : Seen) (end a b : ℕ) (docs : List ℕ)
    → SortedStep count rows place runs left first now end docs → left ≡ run ∷ rest → rows ≤ 1048576
    → EndsRead now.held place (2 * run.first) (2 * run.last + 2) a b → (a < end) ⊎ (b < a)
    → IfSome first.held (λ files. (ids : List ℕ) → TellsSorted count rows (section files place) ids → ⊥)
sorted_order_bad count rows place runs left rest run first now end a b docs step is at_most read wrong =
    let at : SortedStep count rows place runs (run ∷ rest) first now end docs = subst (λ rs. SortedStep count rows place runs rs first now end docs) is step in
    let apart = at.after.1 in
    let own : run.last < count = All-head (λ r. r.last < count) run rest at.within in
    let are = ends_are first.held place count rows a b run apart.1 own at_most (subst (λ h. EndsRead h place (2 * run.first) (2 * run.last + 2) a b) at.reads.held read) in
    ends_order first.held place count rows end at.after.0 a b run apart.1 apart.0 at.after.2 are wrong

end_told : (held : Option Files) (place : Place) (count rows : ℕ) (runs : List Run) (docs : List ℕ)
    → IfSome held (λ files. (ids : List ℕ) → TellsSorted count rows (section files place) ids → docs ++ docs_in ids [] ≡ docs_in ids runs)
    → IfSome held (λ files. (ids : List ℕ) → TellsSorted count rows (section files place) ids → docs ≡ docs_in ids runs)
end_told None place count rows runs docs told = tt
end_told (Some files) place count rows runs docs told = λ ids tells. sym (append-nil docs) ∙ told ids tells

pub sorted_docs_told : (count rows : ℕ) (place : Place) (runs left : List Run) (first now : Seen) (end : ℕ) (docs : List ℕ) → SortedStep count rows place runs left first now end docs → left ≡ []
    → IfSome first.held (λ files. (ids : List ℕ) → TellsSorted count rows (section files place) ids → docs ≡ docs_in ids runs)
sorted_docs_told count rows place runs left first now end docs step is =
    let at : SortedStep count rows place runs [] first now end docs = subst (λ rs. SortedStep count rows place runs rs first now end docs) is step in
    end_told first.held place count rows runs docs at.told

pub sorted_log : (count rows : ℕ) (place : Place) (runs left : List Run) (first now : Seen) (end : ℕ) (docs : List ℕ) → SortedStep count rows place runs left first now end docs → left ≡ []
    → LogsOver place.file (map (ends_of place.offset) runs) first.log now.log
sorted_log count rows place runs left first now end docs step is =
    let at : SortedStep count rows place runs [] first now end docs = subst (λ rs. SortedStep count rows place runs rs first now end docs) is step in
    at.whole now.log refl
