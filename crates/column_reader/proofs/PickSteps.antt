-- The ids of documents, run by run.
use Rattle.std.proofs.Common.{◌≡◌, ◌∙◌, ℕ, ◌+◌, ◌-◌, ◌*◌, ◌<◌, ◌≤◌, inl, inr, List, [], ◌∷◌, ◌++◌, All, Option, Some, None, IfSome, length, map, get_or, refl, sym, ap, subst, arith, append_assoc, append-nil}
use Rattle.std.specs.List.{range_with_len}
use Rattle.std.proofs.lemmas.List.{ext_get_or, length-append, map-append}
use Rattle.std.proofs.lemmas.List.Elements.{All-append, All-head, All-nil, All-tail}
use Rattle.std.proofs.lemmas.List.FromFn.{get_or-map-range_with_len, length-map-range_with_len, length-range_with_len}
use Rattle.std.proofs.lemmas.Nat.{mul-le}
use Rattle.outside.specs.Files.{Files}
use Rattle.outside.specs.Reads.{Entry, LogsOn, LogsUpTo}
use Rattle.outside.specs.Seen.{OnlyReads, Seen}
use Rattle.outside.specs.declared.place.Place.{Place}
use Rattle.outside.proofs.SeenLemmas.{reads_after, reads_none}
use Rattle.bit_column.specs.Bits.{bits_of, field}
use Rattle.bit_column.specs.Column.{id_at, ids_between}
use Rattle.bit_column.specs.Sections.{Readable, end_byte, first_byte, section}
use Rattle.doc_lists.specs.Docs.{Apart, docs_of, docs_of_run}
use Rattle.doc_lists.specs.declared.run.Run.{Run}
use Rattle.outside.specs.Stretches.{LogsOver, LogsPartly}
use Rattle.column_reader.specs.Picked.{ids_at, ids_of_run}

-- ---- ids by their places

places_add : (a b width : ℕ) → a * width + b * width ≡ (a + b) * width
places_add a b width = omega arith

-- the ids of a range are those at its places
pub ids_of_range : (width from to : ℕ) (bytes : List ℕ) → ids_between width from to bytes ≡ ids_at width (range_with_len from (to - from)) bytes
ids_of_range width from to bytes =
    let n : ℕ = to - from in
    let f : ℕ → ℕ = λ piece. field width (from * width + piece * width) (bits_of 8 bytes) in
    let g : ℕ → ℕ = λ doc. id_at width doc bytes in
    ext_get_or 0 (map f (range_with_len 0 n)) (map g (range_with_len from n)) (length-map-range_with_len f 0 n ∙ sym (length-map-range_with_len g from n)) (λ i lt.
    let less : i < n = omega (arith, lt, length-map-range_with_len f 0 n) in
    get_or-map-range_with_len f 0 n i i 0 less (omega arith)
    ∙ ap (λ first. field width first (bits_of 8 bytes)) (places_add from i width)
    ∙ sym (get_or-map-range_with_len g from n i (from + i) 0 less refl))

-- a part of ids that can be read can be read
pub part_readable : (width count rows from to : ℕ) (bytes : List ℕ) → to ≤ rows → Readable width count 0 rows bytes → Readable width count from to bytes
part_readable width count rows from to bytes within readable = (
  λ some. let reach = readable.0 (omega (arith, some, within)) in let most = mul-le to width rows width within (omega arith) in omega (arith, reach, most),
  subst (All (λ id. id < count)) (sym (ids_of_range width from to bytes)) (λ j d lt.
      let n : ℕ = to - from in
      let g : ℕ → ℕ = λ doc. id_at width doc bytes in
      let less : j < n = omega (arith, lt, length-map-range_with_len g from n) in
      let there : from + j < rows - 0 = omega (arith, less, within) in
      let lengths : length (map g (range_with_len 0 (rows - 0))) ≡ rows - 0 = length-map-range_with_len g 0 (rows - 0) in
      let all : All (λ id. id < count) (map g (range_with_len 0 (rows - 0))) = subst (All (λ id. id < count)) (ids_of_range width 0 rows bytes) readable.1 in
      let own : get_or (map g (range_with_len 0 (rows - 0))) (from + j) d < count = all (from + j) d (omega (arith, there, lengths)) in
      subst (λ x. x < count) (get_or-map-range_with_len g 0 (rows - 0) (from + j) (from + j) d there (omega arith) ∙ sym (get_or-map-range_with_len g from n j (from + j) d less refl)) own),
)

-- ---- run by run

-- what is known between two runs: those that are left, and the ids so far
pub record PickStep (place : Place) (width values rows : ℕ) (runs left : List Run) (first now : Seen) (ids : List ℕ) : Type 0 where
  pub reads : OnlyReads ⊥ first now
  pub whole : (last : Option (List Entry)) → LogsOver place.file (map (ids_of_run width place.offset) left) now.log last → LogsOver place.file (map (ids_of_run width place.offset) runs) first.log last
  pub partly : (last : Option (List Entry)) → LogsPartly place.file (map (ids_of_run width place.offset) left) now.log last → LogsPartly place.file (map (ids_of_run width place.offset) runs) first.log last
  pub apart : (key : ℕ) × Apart key left
  pub within : All (λ run. run.last < rows) left
  pub count : length ids + length (docs_of left) ≡ length (docs_of runs)
  pub below : All (λ id. id < values) ids
  pub told : IfSome first.held (λ files. ids ++ ids_at width (docs_of left) (section files place) ≡ ids_at width (docs_of runs) (section files place))

start_told : (held : Option Files) (place : Place) (width : ℕ) (runs : List Run) → IfSome held (λ files. [] ++ ids_at width (docs_of runs) (section files place) ≡ ids_at width (docs_of runs) (section files place))
start_told None place width runs = tt
start_told (Some files) place width runs = refl

pub pick_start : (place : Place) (width values rows : ℕ) (runs left : List Run) (shelf : Seen) (ids : List ℕ) → left ≡ runs → ids ≡ [] → Apart 0 runs → All (λ run. run.last < rows) runs
    → PickStep place width values rows runs left shelf shelf ids
pick_start place width values rows runs left shelf ids all none apart within =
    subst (λ xs. PickStep place width values rows runs left shelf shelf xs) (sym none)
    (subst (λ rs. PickStep place width values rows runs rs shelf shelf []) (sym all) (record {
      reads = reads_none shelf;
      whole = λ last logs. logs;
      partly = λ last logs. logs;
      apart = (0, apart);
      within = within;
      count = omega arith;
      below = All-nil (λ id. id < values);
      told = start_told shelf.held place width runs;
    }))

-- what is known of the run that comes next
pub pick_known : (place : Place) (width values rows : ℕ) (runs left rest : List Run) (run : Run) (first now : Seen) (ids : List ℕ) → PickStep place width values rows runs left first now ids → left ≡ run ∷ rest
    → (run.first ≤ run.last) × (run.last < rows)
pick_known place width values rows runs left rest run first now ids step is =
    let at : PickStep place width values rows runs (run ∷ rest) first now ids = subst (λ rs. PickStep place width values rows runs rs first now ids) is step in
    (at.apart.1.1, All-head (λ r. r.last < rows) run rest at.within)

-- the ids of a run, where files are told
abbrev pub IsRunRead : Option Files → Place → ℕ → ℕ → Run → List ℕ → Type 0
IsRunRead held place width values run more =
    IfSome held (λ files. Readable width values run.first (run.last + 1) (section files place) × (more ≡ ids_between width run.first (run.last + 1) (section files place)))

next_told : (held now : Option Files) (place : Place) (width values : ℕ) (run : Run) (runs rest : List Run) (old more new : List ℕ) → now ≡ held → IsRunRead now place width values run more → new ≡ old ++ more
    → IfSome held (λ files. old ++ ids_at width (docs_of_run run ++ docs_of rest) (section files place) ≡ ids_at width (docs_of runs) (section files place))
    → IfSome held (λ files. new ++ ids_at width (docs_of rest) (section files place) ≡ ids_at width (docs_of runs) (section files place))
next_told None now place width values run runs rest old more new same read added told = tt
next_told (Some files) now place width values run runs rest old more new same read added told =
    let own = subst (λ h. IsRunRead h place width values run more) same read in
    let ids : more ≡ ids_at width (docs_of_run run) (section files place) = own.1 ∙ ids_of_range width run.first (run.last + 1) (section files place) in
    let f : ℕ → ℕ = λ doc. id_at width doc (section files place) in
    ap (λ (l : List ℕ). l ++ map f (docs_of rest)) (added ∙ ap (λ (l : List ℕ). old ++ l) ids)
    ∙ append_assoc old (map f (docs_of_run run)) (map f (docs_of rest))
    ∙ ap (λ (l : List ℕ). old ++ l) (sym (map-append f (docs_of_run run) (docs_of rest)))
    ∙ told

pub pick_next : (place : Place) (width values rows : ℕ) (runs left rest : List Run) (run : Run) (first now next : Seen) (old more new : List ℕ) → PickStep place width values rows runs left first now old → left ≡ run ∷ rest
    → OnlyReads ⊥ now next → LogsOn place.file (place.offset + first_byte width run.first) (place.offset + end_byte width run.first (run.last + 1)) now.log next.log
    → IsRunRead now.held place width values run more → length more ≡ run.last + 1 - run.first → All (λ id. id < values) more → new ≡ old ++ more
    → PickStep place width values rows runs rest first next new
pick_next place width values rows runs left rest run first now next old more new step is reads logs read lengths small added =
    let at : PickStep place width values rows runs (run ∷ rest) first now old = subst (λ rs. PickStep place width values rows runs rs first now old) is step in
    record {
      reads = reads_after ⊥ first now next at.reads reads;
      whole = λ last over. at.whole last (next.log, logs, over);
      partly = λ last over. at.partly last (inr (next.log, logs, over));
      apart = (run.last + 2, at.apart.1.3);
      within = All-tail (λ r. r.last < rows) run rest at.within;
      count = omega (arith, at.count, length-append (docs_of_run run) (docs_of rest), length-range_with_len run.first (run.last + 1 - run.first), ap length added, length-append old more, lengths);
      below = subst (All (λ id. id < values)) (sym added) (All-append (λ id. id < values) old more at.below small);
      told = next_told first.held now.held place width values run runs rest old more new at.reads.held read added at.told;
    }

-- a run was read in part
pub pick_partly : (place : Place) (width values rows : ℕ) (runs left rest : List Run) (run : Run) (first now next : Seen) (ids : List ℕ) → PickStep place width values rows runs left first now ids → left ≡ run ∷ rest
    → LogsUpTo place.file (place.offset + first_byte width run.first) (place.offset + end_byte width run.first (run.last + 1)) now.log next.log
    → LogsPartly place.file (map (ids_of_run width place.offset) runs) first.log next.log
pick_partly place width values rows runs left rest run first now next ids step is logs =
    let at : PickStep place width values rows runs (run ∷ rest) first now ids = subst (λ rs. PickStep place width values rows runs rs first now ids) is step in
    at.partly next.log (inl logs)

bad_told : (held now : Option Files) (place : Place) (width values rows : ℕ) (run : Run) → now ≡ held → run.last < rows → IfSome now (λ files. ¬ Readable width values run.first (run.last + 1) (section files place))
    → IfSome held (λ files. ¬ Readable width values 0 rows (section files place))
bad_told None now place width values rows run same lt bad = tt
bad_told (Some files) now place width values rows run same lt bad = λ readable.
    subst (λ h. IfSome h (λ files. ¬ Readable width values run.first (run.last + 1) (section files place))) same bad (part_readable width values rows run.first (run.last + 1) (section files place) (omega (arith, lt)) readable)

-- a run that cannot be read is one of a section that cannot be
pub pick_bad : (place : Place) (width values rows : ℕ) (runs left rest : List Run) (run : Run) (first now : Seen) (ids : List ℕ) → PickStep place width values rows runs left first now ids → left ≡ run ∷ rest
    → IfSome now.held (λ files. ¬ Readable width values run.first (run.last + 1) (section files place)) → IfSome first.held (λ files. ¬ Readable width values 0 rows (section files place))
pick_bad place width values rows runs left rest run first now ids step is bad =
    let known = pick_known place width values rows runs left rest run first now ids step is in
    bad_told first.held now.held place width values rows run step.reads.held known.1 bad

end_told : (held : Option Files) (place : Place) (width : ℕ) (runs : List Run) (ids : List ℕ) → IfSome held (λ files. ids ++ [] ≡ ids_at width (docs_of runs) (section files place)) → IfSome held (λ files. ids ≡ ids_at width (docs_of runs) (section files place))
end_told None place width runs ids told = tt
end_told (Some files) place width runs ids told = sym (append-nil ids) ∙ told

-- all runs were read
pub record IsPickedAll (place : Place) (width values : ℕ) (runs : List Run) (first now : Seen) (ids : List ℕ) : Type 0 where
  pub count : length ids ≡ length (docs_of runs)
  pub below : All (λ id. id < values) ids
  pub told : IfSome first.held (λ files. ids ≡ ids_at width (docs_of runs) (section files place))
  pub log : LogsOver place.file (map (ids_of_run width place.offset) runs) first.log now.log

pub pick_end : (place : Place) (width values rows : ℕ) (runs left : List Run) (first now : Seen) (ids : List ℕ) → PickStep place width values rows runs left first now ids → left ≡ [] → IsPickedAll place width values runs first now ids
pick_end place width values rows runs left first now ids step is =
    let at : PickStep place width values rows runs [] first now ids = subst (λ rs. PickStep place width values rows runs rs first now ids) is step in
    record {
      count = omega (arith, at.count);
      below = at.below;
      told = end_told first.held place width runs ids at.told;
      log = at.whole now.log refl;
    }
