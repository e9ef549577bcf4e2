-- The parts of runs of keys, run by run, and the documents that their entries are, part by part.
use Rattle.std.proofs.Common.{◌≡◌, ◌∙◌, ℕ, zero, suc, ◌+◌, ◌-◌, ◌*◌, ◌<◌, ◌≤◌, ◌^◌, ◌⊎◌, ◌++◌, Bool, true, false, cond, ◌==◌, inl, inr, List, [], ◌∷◌, All, Option, Some, None, IfSome, length, map, take, drop, get_or, refl, sym, ap, subst, arith, append_assoc, append-nil, length-append, Result, Ok, Err, OnErr}
use Rattle.std.specs.List.{enumerate_from, filter, range_with_len}
use Rattle.std.proofs.Math.Seq.{drop-append-add}
use Rattle.std.proofs.lemmas.List.{get_or_append_left}
use Rattle.std.proofs.lemmas.List.Elements.{All-nil, All-cons, All-head, All-tail, All-append, All-drop, All-take}
use Rattle.std.proofs.lemmas.List.FromFn.{length-map-range_with_len, get_or-map-range_with_len}
use Rattle.outside.specs.Files.{Files}
use Rattle.outside.specs.Reads.{Entry, LogsOn, LogsUpTo}
use Rattle.outside.specs.Seen.{OnlyReads, Seen}
use Rattle.outside.specs.declared.place.Place.{Place}
use Rattle.outside.proofs.ReadLemmas.{logs-none, logs-up}
use Rattle.outside.proofs.SeenLemmas.{reads_after, reads_none}
use Rattle.bit_column.specs.Column.{spelled}
use Rattle.bit_column.specs.Postings.{entries, offset, offsets, places_from, places_of}
use Rattle.bit_column.specs.Sections.{section}
use Rattle.bit_column.proofs.PostingLaws.{all_entries, offset_few}
use Rattle.doc_lists.specs.Docs.{Apart, has_doc}
use Rattle.doc_lists.specs.Sets.{AreThose}
use Rattle.doc_lists.specs.declared.run.Run.{Run}
use Rattle.index_reader.specs.Entries.{ArePartsOf, Rising, TellsPostings, entries_at, entries_in, entries_of, offsets_of, part_of}
use Rattle.outside.specs.Stretches.{LogsOver, LogsPartly, Stretch}
use Rattle.index_reader.specs.declared.ends.Ends.{Ends}
use Rattle.index_reader.proofs.PostingEntries.{offsets_ascend}

-- ---- the numbers of the section

-- the offsets of keys and their entries
abbrev pub numbers : ℕ → List ℕ → List ℕ
numbers count keys = offsets count keys ++ entries count keys

places_below_by : (b : Bool) (place k limit : ℕ) (rest : List (ℕ × ℕ)) → place < limit → All (λ p. p < limit) (map (λ e. e.0) rest) → All (λ p. p < limit) (map (λ e. e.0) (cond b ((place, k) ∷ rest) rest))
places_below_by true place k limit rest own all = All-cons (λ p. p < limit) place (map (λ e. e.0) rest) own all
places_below_by false place k limit rest own all = all

places_below : (place key limit : ℕ) (keys : List ℕ) → place + length keys ≤ limit → All (λ p. p < limit) (places_from place key keys)
places_below place key limit [] le = All-nil (λ p. p < limit)
places_below place key limit (k ∷ ks) le = places_below_by (k == key) place k limit (filter (λ e. e.1 == key) (enumerate_from (place + 1) ks)) (omega (arith, le))
    (places_below (place + 1) key limit ks (omega (arith, le)))

entries_below : (count limit : ℕ) (keys : List ℕ) → length keys ≤ limit → All (λ p. p < limit) (entries count keys)
entries_below zero limit keys le = All-nil (λ p. p < limit)
entries_below (suc key) limit keys le = All-append (λ p. p < limit) (entries key keys) (places_of key keys) (entries_below key limit keys le) (places_below 0 key limit keys (omega (arith, le)))

offsets_below : (limit : ℕ) (keys : List ℕ) → length keys < limit → (a n : ℕ) → All (λ p. p < limit) (map (offset keys) (range_with_len a n))
offsets_below limit keys lt a zero = All-nil (λ p. p < limit)
offsets_below limit keys lt a (suc n) = All-cons (λ p. p < limit) (offset keys a) (map (offset keys) (range_with_len (a + 1) n)) (omega (arith, offset_few keys a, lt)) (offsets_below limit keys lt (a + 1) n)

pub numbers_below : (count limit : ℕ) (keys : List ℕ) → length keys < limit → All (λ p. p < limit) (numbers count keys)
numbers_below count limit keys lt = All-append (λ p. p < limit) (offsets count keys) (entries count keys) (offsets_below limit keys lt 0 (count + 1)) (entries_below count limit keys (omega (arith, lt)))

offsets_long : (count : ℕ) (keys : List ℕ) → length (offsets count keys) ≡ count + 1
offsets_long count keys = length-map-range_with_len (offset keys) 0 (count + 1)

pub numbers_long : (count : ℕ) (keys : List ℕ) → All (λ key. key < count) keys → length (numbers count keys) ≡ count + 1 + length keys
numbers_long count keys all = omega (arith, length-append (offsets count keys) (entries count keys), offsets_long count keys, all_entries count keys all)

pub offset_at : (count : ℕ) (keys : List ℕ) (key : ℕ) → key < count + 1 → get_or (numbers count keys) key 0 ≡ offset keys key
offset_at count keys key lt =
    let zero_plus : 0 + key ≡ key = omega arith in
    get_or_append_left (offsets count keys) (entries count keys) 0 key (omega (arith, offsets_long count keys, lt))
    ∙ get_or-map-range_with_len (offset keys) 0 (count + 1) key key 0 lt zero_plus

-- ---- the parts, run by run

abbrev EndsRead : Option Files → Place → ℕ → ℕ → ℕ → ℕ → Type 0
EndsRead held place from to a b = IfSome held (λ files. (list : List ℕ) →
    All (λ n. n < 2 ^ 32) list → to ≤ length list → section files place ≡ spelled 32 list → (a ≡ get_or list from 0) × (b ≡ get_or list (to - 1) 0))

abbrev EndsBad : Option Files → Place → ℕ → ℕ → Type 0
EndsBad held place limit to = IfSome held (λ files. (list : List ℕ) →
    All (λ n. n < 2 ^ 32) list → All (λ n. n < limit) list → to ≤ length list → section files place ≡ spelled 32 list → ⊥)

-- what holds of keys where the section tells them
abbrev pub Told : Option Files → Place → ℕ → ℕ → (List ℕ → Type 0) → Type 0
Told held place count rows P = IfSome held (λ files. (keys : List ℕ) → TellsPostings count rows (section files place) keys → P keys)

pub told_map : (held : Option Files) (place : Place) (count rows : ℕ) (P Q : List ℕ → Type 0) → ((keys : List ℕ) → P keys → Q keys) → Told held place count rows P → Told held place count rows Q
told_map None place count rows P Q f told = tt
told_map (Some files) place count rows P Q f told = λ keys tells. f keys (told keys tells)

pub told_all : (held : Option Files) (place : Place) (count rows : ℕ) (P : List ℕ → Type 0) → ((keys : List ℕ) → P keys) → Told held place count rows P
told_all None place count rows P f = tt
told_all (Some files) place count rows P f = λ keys tells. f keys

pub told_both : (held : Option Files) (place : Place) (count rows : ℕ) (P Q R : List ℕ → Type 0) → ((keys : List ℕ) → P keys → Q keys → R keys) → Told held place count rows P → Told held place count rows Q → Told held place count rows R
told_both None place count rows P Q R f p q = tt
told_both (Some files) place count rows P Q R f p q = λ keys tells. f keys (p keys tells) (q keys tells)

-- what is known between two runs
pub record PartsStep (count rows : ℕ) (place : Place) (runs left : List Run) (first now : Seen) (end : ℕ) (parts : List Ends) : Type 0 where
  pub reads : OnlyReads ⊥ first now
  pub whole : (last : Option (List Entry)) → LogsOver place.file (map (offsets_of place.offset) left) now.log last → LogsOver place.file (map (offsets_of place.offset) runs) first.log last
  pub partly : (last : Option (List Entry)) → LogsPartly place.file (map (offsets_of place.offset) left) now.log last → LogsPartly place.file (map (offsets_of place.offset) runs) first.log last
  pub after : (key : ℕ) × Apart key left × Told first.held place count rows (λ keys. end ≤ offset keys key)
  pub within : All (λ run. run.last < count) left
  pub bound : end ≤ rows
  pub rising : (more : List Ends) → Rising end rows more → Rising 0 rows (parts ++ more)
  pub number : length parts + length left ≡ length runs
  pub told : Told first.held place count rows (λ keys. parts ++ map (part_of keys) left ≡ map (part_of keys) runs)

pub parts_start : (count rows : ℕ) (place : Place) (runs left : List Run) (shelf : Seen) (parts : List Ends) → left ≡ runs → parts ≡ [] → Apart 0 runs → All (λ run. run.last < count) runs
    → PartsStep count rows place runs left shelf shelf 0 parts
parts_start count rows place runs left shelf parts all none apart within =
    subst (λ ps. PartsStep count rows place runs left shelf shelf 0 ps) (sym none)
    (subst (λ rs. PartsStep count rows place runs rs shelf shelf 0 []) (sym all) (record {
      reads = reads_none shelf;
      whole = λ last logs. logs;
      partly = λ last logs. logs;
      after = (0, apart, told_all shelf.held place count rows (λ keys. 0 ≤ offset keys 0) (λ keys. omega arith));
      within = within;
      bound = omega arith;
      rising = λ more rise. rise;
      number = omega arith;
      told = told_all shelf.held place count rows (λ keys. map (part_of keys) runs ≡ map (part_of keys) runs) (λ keys. refl);
    }))

-- the offsets of a run of keys
ends_are : (held : Option Files) (place : Place) (count rows a b : ℕ) (run : Run) → run.first ≤ run.last → run.last < count → rows ≤ 1048576 → EndsRead held place run.first (run.last + 2) a b
    → Told held place count rows (λ keys. (a ≡ offset keys run.first) × (b ≡ offset keys (run.last + 1)))
ends_are None place count rows a b run order within at_most read = tt
ends_are (Some files) place count rows a b run order within at_most read = λ keys tells.
    let small : length keys < 2 ^ 32 = omega (arith, tells.0.1, at_most) in
    let both = read (numbers count keys) (numbers_below count (2 ^ 32) keys small) (omega (arith, numbers_long count keys tells.0.0, within)) tells.1 in
    let last : run.last + 2 - 1 ≡ run.last + 1 = omega arith in (
      both.0 ∙ offset_at count keys run.first (omega (arith, order, within)),
      both.1 ∙ ap (λ n. get_or (numbers count keys) n 0) last ∙ offset_at count keys (run.last + 1) (omega (arith, within)),
    )

ends_bad : (held : Option Files) (place : Place) (count rows : ℕ) (run : Run) → run.last < count → rows ≤ 1048576 → EndsBad held place (rows + 1) (run.last + 2) → Told held place count rows (λ keys. ⊥)
ends_bad None place count rows run within at_most bad = tt
ends_bad (Some files) place count rows run within at_most bad = λ keys tells.
    let small : length keys < 2 ^ 32 = omega (arith, tells.0.1, at_most) in
    let fits : length keys < rows + 1 = omega (arith, tells.0.1) in
    bad (numbers count keys) (numbers_below count (2 ^ 32) keys small) (numbers_below count (rows + 1) keys fits) (omega (arith, numbers_long count keys tells.0.0, within)) tells.1

ends_order : (held : Option Files) (place : Place) (count rows end key a b : ℕ) (run : Run) → run.first ≤ run.last → key ≤ run.first → (a < end) ⊎ (b < a)
    → Told held place count rows (λ keys. end ≤ offset keys key) → Told held place count rows (λ keys. (a ≡ offset keys run.first) × (b ≡ offset keys (run.last + 1))) → Told held place count rows (λ keys. ⊥)
ends_order held place count rows end key a b run order more (inl less) =
    told_both held place count rows (λ keys. end ≤ offset keys key) (λ keys. (a ≡ offset keys run.first) × (b ≡ offset keys (run.last + 1))) (λ keys. ⊥)
    (λ keys before are. omega (arith, before, offsets_ascend keys key run.first more, are.0, less))
ends_order held place count rows end key a b run order more (inr less) =
    told_both held place count rows (λ keys. end ≤ offset keys key) (λ keys. (a ≡ offset keys run.first) × (b ≡ offset keys (run.last + 1))) (λ keys. ⊥)
    (λ keys before are. omega (arith, offsets_ascend keys run.first (run.last + 1) (omega (arith, order)), are.0, are.1, less))

-- a part by its two indexes
abbrev part_from : ℕ → ℕ → Ends
part_from first last = record { first = first; last = last }

part_is : (keys : List ℕ) (run : Run) (part : Ends) → part.first ≡ offset keys run.first → part.last ≡ offset keys (run.last + 1) → part ≡ part_of keys run
part_is keys run part first last = ap (λ n. part_from n part.last) first ∙ ap (part_from (offset keys run.first)) last

pub parts_next : (count rows : ℕ) (place : Place) (runs left rest : List Run) (run : Run) (first now next : Seen) (end : ℕ) (part : Ends) (old new : List Ends)
    → PartsStep count rows place runs left first now end old → left ≡ run ∷ rest
    → OnlyReads ⊥ now next → LogsOn place.file (place.offset + 4 * run.first) (place.offset + 4 * (run.last + 2)) now.log next.log
    → EndsRead now.held place run.first (run.last + 2) part.first part.last → rows ≤ 1048576 → part.last ≤ rows → end ≤ part.first → part.first ≤ part.last → new ≡ old ++ part ∷ []
    → PartsStep count rows place runs rest first next part.last new
parts_next count rows place runs left rest run first now next end part old new step is reads log read at_most fits more order added =
    let at : PartsStep count rows place runs (run ∷ rest) first now end old = subst (λ rs. PartsStep count rows place runs rs first now end old) is step in
    let apart = at.after.1 in
    let own : run.last < count = All-head (λ r. r.last < count) run rest at.within in
    let are = ends_are first.held place count rows part.first part.last run apart.1 own at_most (subst (λ h. EndsRead h place run.first (run.last + 2) part.first part.last) at.reads.held read) in
    let lengths : length new ≡ length old + 1 = ap length added ∙ length-append old (part ∷ []) in
    record {
      reads = reads_after ⊥ first now next at.reads reads;
      whole = λ last over. at.whole last (next.log, log, over);
      partly = λ last over. at.partly last (inr (next.log, log, over));
      after = (
        run.last + 2,
        apart.3,
        told_map first.held place count rows (λ keys. (part.first ≡ offset keys run.first) × (part.last ≡ offset keys (run.last + 1))) (λ keys. part.last ≤ offset keys (run.last + 2))
            (λ keys both. omega (arith, both.1, offsets_ascend keys (run.last + 1) (run.last + 2) (omega arith))) are,
      );
      within = All-tail (λ r. r.last < count) run rest at.within;
      bound = fits;
      rising = λ others rise. subst (Rising 0 rows) (sym (ap (λ ps. ps ++ others) added ∙ append_assoc old (part ∷ []) others)) (at.rising (part ∷ others) (more, order, fits, rise));
      number = omega (arith, lengths, at.number);
      told = told_both first.held place count rows (λ keys. old ++ map (part_of keys) (run ∷ rest) ≡ map (part_of keys) runs) (λ keys. (part.first ≡ offset keys run.first) × (part.last ≡ offset keys (run.last + 1)))
          (λ keys. new ++ map (part_of keys) rest ≡ map (part_of keys) runs)
          (λ keys told both. ap (λ ps. ps ++ map (part_of keys) rest) (added ∙ ap (λ p. old ++ p ∷ []) (part_is keys run part both.0 both.1)) ∙ append_assoc old (part_of keys run ∷ []) (map (part_of keys) rest) ∙ told)
          at.told are;
    }

-- ---- what comes of the runs

pub parts_partly : (count rows : ℕ) (place : Place) (runs left rest : List Run) (run : Run) (first now next : Seen) (end : ℕ) (parts : List Ends)
    → PartsStep count rows place runs left first now end parts → left ≡ run ∷ rest
    → LogsUpTo place.file (place.offset + 4 * run.first) (place.offset + 4 * (run.last + 2)) now.log next.log
    → LogsPartly place.file (map (offsets_of place.offset) runs) first.log next.log
parts_partly count rows place runs left rest run first now next end parts step is logs =
    let at : PartsStep count rows place runs (run ∷ rest) first now end parts = subst (λ rs. PartsStep count rows place runs rs first now end parts) is step in
    at.partly next.log (inl logs)

pub parts_read_bad : (count rows : ℕ) (place : Place) (runs left rest : List Run) (run : Run) (first now : Seen) (end : ℕ) (parts : List Ends)
    → PartsStep count rows place runs left first now end parts → left ≡ run ∷ rest → rows ≤ 1048576 → EndsBad now.held place (rows + 1) (run.last + 2) → Told first.held place count rows (λ keys. ⊥)
parts_read_bad count rows place runs left rest run first now end parts step is at_most bad =
    let within = subst (All (λ r. r.last < count)) is step.within in
    ends_bad first.held place count rows run (All-head (λ r. r.last < count) run rest within) at_most (subst (λ h. EndsBad h place (rows + 1) (run.last + 2)) step.reads.held bad)

pub parts_order_bad : (count rows : ℕ) (place : Place) (runs left rest : List Run) (run : Run) (first now : Seen) (end a b : ℕ) (parts : List Ends)
    → PartsStep count rows place runs left first now end parts → left ≡ run ∷ rest → rows ≤ 1048576 → EndsRead now.held place run.first (run.last + 2) a b → (a < end) ⊎ (b < a) → Told first.held place count rows (λ keys. ⊥)
parts_order_bad count rows place runs left rest run first now end a b parts step is at_most read wrong =
    let at : PartsStep count rows place runs (run ∷ rest) first now end parts = subst (λ rs. PartsStep count rows place runs rs first now end parts) is step in
    let apart = at.after.1 in
    let own : run.last < count = All-head (λ r. r.last < count) run rest at.within in
    let are = ends_are first.held place count rows a b run apart.1 own at_most (subst (λ h. EndsRead h place run.first (run.last + 2) a b) at.reads.held read) in
    ends_order first.held place count rows end at.after.0 a b run apart.1 apart.0 wrong at.after.2 are

-- what is known of all parts
pub record AllParts (count rows : ℕ) (place : Place) (runs : List Run) (first now : Seen) (parts : List Ends) : Type 0 where
  pub told : ArePartsOf first.held place count rows runs parts
  pub rising : Rising 0 rows parts
  pub number : length parts ≡ length runs
  pub log : LogsOver place.file (map (offsets_of place.offset) runs) first.log now.log

pub parts_end : (count rows : ℕ) (place : Place) (runs left : List Run) (first now : Seen) (end : ℕ) (parts : List Ends) → PartsStep count rows place runs left first now end parts → left ≡ [] → AllParts count rows place runs first now parts
parts_end count rows place runs left first now end parts step is =
    let at : PartsStep count rows place runs [] first now end parts = subst (λ rs. PartsStep count rows place runs rs first now end parts) is step in
    record {
      told = told_map first.held place count rows (λ keys. parts ++ map (part_of keys) [] ≡ map (part_of keys) runs) (λ keys. parts ≡ map (part_of keys) runs) (λ keys all. sym (append-nil parts) ∙ all) at.told;
      rising = subst (Rising 0 rows) (append-nil parts) (at.rising [] tt);
      number = omega (arith, at.number);
      log = at.whole now.log refl;
    }

-- ---- the entries, part by part

-- what is known between two parts
pub record EntriesStep (count rows : ℕ) (place : Place) (parts left : List Ends) (first now : Seen) (words : List ℕ) : Type 0 where
  pub reads : OnlyReads ⊥ first now
  pub whole : (last : Option (List Entry)) → LogsOver place.file (map (entries_at place.offset count) left) now.log last → LogsOver place.file (map (entries_at place.offset count) parts) first.log last
  pub partly : (last : Option (List Entry)) → LogsPartly place.file (map (entries_at place.offset count) left) now.log last → LogsPartly place.file (map (entries_at place.offset count) parts) first.log last
  pub below : All (λ doc. doc < rows) words
  pub rising : (from : ℕ) × Rising from rows left
  pub told : Told first.held place count rows (λ keys. words ++ entries_in count keys left ≡ entries_in count keys parts)

pub entries_start : (count rows : ℕ) (place : Place) (parts left : List Ends) (shelf : Seen) (words : List ℕ) → left ≡ parts → words ≡ [] → Rising 0 rows parts → EntriesStep count rows place parts left shelf shelf words
entries_start count rows place parts left shelf words all none rising =
    subst (λ ws. EntriesStep count rows place parts left shelf shelf ws) (sym none) (subst (λ ps. EntriesStep count rows place parts ps shelf shelf []) (sym all) (record {
      reads = reads_none shelf;
      whole = λ last logs. logs;
      partly = λ last logs. logs;
      below = All-nil (λ doc. doc < rows);
      rising = (0, rising);
      told = told_all shelf.held place count rows (λ keys. entries_in count keys parts ≡ entries_in count keys parts) (λ keys. refl);
    }))

abbrev pub WordsRead : Option Files → Place → ℕ → ℕ → List ℕ → Type 0
WordsRead held place from to words = IfSome held (λ files. (list : List ℕ) →
    All (λ n. n < 2 ^ 32) list → to ≤ length list → section files place ≡ spelled 32 list → words ≡ take (to - from) (drop from list))

abbrev pub WordsBad : Option Files → Place → ℕ → ℕ → ℕ → Type 0
WordsBad held place limit from to = IfSome held (λ files. (list : List ℕ) →
    All (λ n. n < 2 ^ 32) list → All (λ n. n < limit) (take (to - from) (drop from list)) → to ≤ length list → section files place ≡ spelled 32 list → ⊥)

-- the numbers of a part are its entries
part_numbers : (count : ℕ) (keys : List ℕ) (part : Ends) → take (count + 1 + part.last - (count + 1 + part.first)) (drop (count + 1 + part.first) (numbers count keys)) ≡ entries_of count keys part
part_numbers count keys part =
    let size : count + 1 + part.last - (count + 1 + part.first) ≡ part.last - part.first = omega arith in
    let start : count + 1 + part.first ≡ length (offsets count keys) + part.first = omega (arith, offsets_long count keys) in
    ap (λ n. take n (drop (count + 1 + part.first) (numbers count keys))) size
    ∙ ap (λ n. take (part.last - part.first) (drop n (numbers count keys))) start
    ∙ ap (take (part.last - part.first)) (drop-append-add (offsets count keys) (entries count keys) part.first)

pub words_are : (held : Option Files) (place : Place) (count rows : ℕ) (part : Ends) (words : List ℕ) → rows ≤ 1048576 → part.last ≤ rows → WordsRead held place (count + 1 + part.first) (count + 1 + part.last) words
    → Told held place count rows (λ keys. words ≡ entries_of count keys part)
words_are None place count rows part words at_most fits read = tt
words_are (Some files) place count rows part words at_most fits read = λ keys tells.
    let small : length keys < 2 ^ 32 = omega (arith, tells.0.1, at_most) in
    read (numbers count keys) (numbers_below count (2 ^ 32) keys small) (omega (arith, numbers_long count keys tells.0.0, tells.0.1, fits)) tells.1 ∙ part_numbers count keys part

pub words_bad : (held : Option Files) (place : Place) (count rows : ℕ) (part : Ends) → rows ≤ 1048576 → part.last ≤ rows → WordsBad held place rows (count + 1 + part.first) (count + 1 + part.last) → Told held place count rows (λ keys. ⊥)
words_bad None place count rows part at_most fits bad = tt
words_bad (Some files) place count rows part at_most fits bad = λ keys tells.
    let small : length keys < 2 ^ 32 = omega (arith, tells.0.1, at_most) in
    let below : All (λ n. n < rows) (entries count keys) = entries_below count rows keys (omega (arith, tells.0.1)) in
    let own : All (λ n. n < rows) (entries_of count keys part) = All-take (λ n. n < rows) (part.last - part.first) (drop part.first (entries count keys)) (All-drop (λ n. n < rows) part.first (entries count keys) below) in
    bad (numbers count keys) (numbers_below count (2 ^ 32) keys small) (subst (All (λ n. n < rows)) (sym (part_numbers count keys part)) own) (omega (arith, numbers_long count keys tells.0.0, tells.0.1, fits)) tells.1

-- the documents of a list that was read are those of the part
pub part_listed : (held : Option Files) (place : Place) (count rows : ℕ) (part : Ends) (words list docs : List ℕ) → rows ≤ 1048576 → part.last ≤ rows → WordsRead held place (count + 1 + part.first) (count + 1 + part.last) words
    → list ≡ words → AreThose (has_doc list) docs → Told held place count rows (λ keys. AreThose (has_doc (entries_of count keys part)) docs)
part_listed held place count rows part words list docs at_most fits read same those =
    told_map held place count rows (λ keys. words ≡ entries_of count keys part) (λ keys. AreThose (has_doc (entries_of count keys part)) docs)
    (λ keys own. subst (λ ds. AreThose (has_doc ds) docs) (same ∙ own) those) (words_are held place count rows part words at_most fits read)

-- the documents of the entries of parts that were read
pub parts_listed : (held : Option Files) (place : Place) (count rows : ℕ) (parts : List Ends) (words docs : List ℕ) → Told held place count rows (λ keys. words ≡ entries_in count keys parts) → AreThose (has_doc words) docs
    → Told held place count rows (λ keys. AreThose (has_doc (entries_in count keys parts)) docs)
parts_listed held place count rows parts words docs told those =
    told_map held place count rows (λ keys. words ≡ entries_in count keys parts) (λ keys. AreThose (has_doc (entries_in count keys parts)) docs) (λ keys own. subst (λ ds. AreThose (has_doc ds) docs) own those) told

pub entries_next : (count rows : ℕ) (place : Place) (parts left rest : List Ends) (part : Ends) (first now next : Seen) (old new words : List ℕ)
    → EntriesStep count rows place parts left first now old → left ≡ part ∷ rest
    → OnlyReads ⊥ now next → LogsOn place.file (place.offset + 4 * (count + 1 + part.first)) (place.offset + 4 * (count + 1 + part.last)) now.log next.log
    → WordsRead now.held place (count + 1 + part.first) (count + 1 + part.last) words → rows ≤ 1048576 → All (λ n. n < rows) words → new ≡ old ++ words
    → EntriesStep count rows place parts rest first next new
entries_next count rows place parts left rest part first now next old new words step is reads log read at_most all added =
    let at : EntriesStep count rows place parts (part ∷ rest) first now old = subst (λ ps. EntriesStep count rows place parts ps first now old) is step in
    let rise = at.rising.1 in
    let are = words_are first.held place count rows part words at_most rise.2 (subst (λ h. WordsRead h place (count + 1 + part.first) (count + 1 + part.last) words) at.reads.held read) in
    record {
      reads = reads_after ⊥ first now next at.reads reads;
      whole = λ last over. at.whole last (next.log, log, over);
      partly = λ last over. at.partly last (inr (next.log, log, over));
      below = subst (All (λ doc. doc < rows)) (sym added) (All-append (λ doc. doc < rows) old words at.below all);
      rising = (part.last, rise.3);
      told = told_both first.held place count rows (λ keys. old ++ entries_in count keys (part ∷ rest) ≡ entries_in count keys parts) (λ keys. words ≡ entries_of count keys part)
          (λ keys. new ++ entries_in count keys rest ≡ entries_in count keys parts)
          (λ keys told own. ap (λ ws. ws ++ entries_in count keys rest) (added ∙ ap (λ ws. old ++ ws) own) ∙ append_assoc old (entries_of count keys part) (entries_in count keys rest) ∙ told)
          at.told are;
    }

pub entries_partly : (count rows : ℕ) (place : Place) (parts left rest : List Ends) (part : Ends) (first now next : Seen) (words : List ℕ)
    → EntriesStep count rows place parts left first now words → left ≡ part ∷ rest
    → LogsUpTo place.file (place.offset + 4 * (count + 1 + part.first)) (place.offset + 4 * (count + 1 + part.last)) now.log next.log
    → LogsPartly place.file (map (entries_at place.offset count) parts) first.log next.log
entries_partly count rows place parts left rest part first now next words step is logs =
    let at : EntriesStep count rows place parts (part ∷ rest) first now words = subst (λ ps. EntriesStep count rows place parts ps first now words) is step in
    at.partly next.log (inl logs)

pub entries_bad : (count rows : ℕ) (place : Place) (parts left rest : List Ends) (part : Ends) (first now : Seen) (words : List ℕ)
    → EntriesStep count rows place parts left first now words → left ≡ part ∷ rest → rows ≤ 1048576
    → WordsBad now.held place rows (count + 1 + part.first) (count + 1 + part.last) → Told first.held place count rows (λ keys. ⊥)
entries_bad count rows place parts left rest part first now words step is at_most bad =
    let at : EntriesStep count rows place parts (part ∷ rest) first now words = subst (λ ps. EntriesStep count rows place parts ps first now words) is step in
    words_bad first.held place count rows part at_most at.rising.1.2 (subst (λ h. WordsBad h place rows (count + 1 + part.first) (count + 1 + part.last)) at.reads.held bad)

pub entries_end : (count rows : ℕ) (place : Place) (parts left : List Ends) (first now : Seen) (words : List ℕ) → EntriesStep count rows place parts left first now words → left ≡ []
    → Told first.held place count rows (λ keys. words ≡ entries_in count keys parts) × LogsOver place.file (map (entries_at place.offset count) parts) first.log now.log
entries_end count rows place parts left first now words step is =
    let at : EntriesStep count rows place parts [] first now words = subst (λ ps. EntriesStep count rows place parts ps first now words) is step in (
      told_map first.held place count rows (λ keys. words ++ entries_in count keys [] ≡ entries_in count keys parts) (λ keys. words ≡ entries_in count keys parts) (λ keys told. sym (append-nil words) ∙ told) at.told,
      at.whole now.log refl,
    )

-- ---- nothing was read, and all was

pub parts_none : (place : Place) (key : ℕ) (runs : List Run) (log : Option (List Entry)) → Apart key runs → LogsPartly place.file (map (offsets_of place.offset) runs) log log
parts_none place key [] log apart = refl
parts_none place key (run ∷ runs) log apart = inl (logs-none place.file (place.offset + 4 * run.first) (place.offset + 4 * (run.last + 2)) log log (omega (arith, apart.1)) refl)

-- what is known of the run and of the part that come next
pub parts_known : (count rows : ℕ) (place : Place) (runs left rest : List Run) (run : Run) (first now : Seen) (end : ℕ) (parts : List Ends)
    → PartsStep count rows place runs left first now end parts → left ≡ run ∷ rest → (run.first ≤ run.last) × (run.last < count)
parts_known count rows place runs left rest run first now end parts step is =
    let at : PartsStep count rows place runs (run ∷ rest) first now end parts = subst (λ rs. PartsStep count rows place runs rs first now end parts) is step in
    (at.after.1.1, All-head (λ r. r.last < count) run rest at.within)

pub entries_known : (count rows : ℕ) (place : Place) (parts left rest : List Ends) (part : Ends) (first now : Seen) (words : List ℕ)
    → EntriesStep count rows place parts left first now words → left ≡ part ∷ rest → (part.first ≤ part.last) × (part.last ≤ rows)
entries_known count rows place parts left rest part first now words step is =
    let at : EntriesStep count rows place parts (part ∷ rest) first now words = subst (λ ps. EntriesStep count rows place parts ps first now words) is step in
    (at.rising.1.1, at.rising.1.2)

-- ---- reads one after the other

pub over_join : (file : List ℕ) (xs ys : List Stretch) (old mid new : Option (List Entry)) → LogsOver file xs old mid → LogsOver file ys mid new → LogsOver file (xs ++ ys) old new
over_join file [] ys old mid new same over = subst (λ log. LogsOver file ys log new) same over
over_join file (x ∷ xs) ys old mid new (between, on, rest) over = (between, on, over_join file xs ys between mid new rest over)

pub partly_join : (file : List ℕ) (xs ys : List Stretch) (old mid new : Option (List Entry)) → LogsOver file xs old mid → LogsPartly file ys mid new → LogsPartly file (xs ++ ys) old new
partly_join file [] ys old mid new same partly = subst (λ log. LogsPartly file ys log new) same partly
partly_join file (x ∷ xs) ys old mid new (between, on, rest) partly = inr (between, on, partly_join file xs ys between mid new rest partly)

pub partly_more : (file : List ℕ) (x : Stretch) (xs : List Stretch) (old new : Option (List Entry)) → LogsPartly file (x ∷ []) old new → LogsPartly file (x ∷ xs) old new
partly_more file x xs old new (inl up) = inl up
partly_more file x xs old new (inr (between, on, same)) = inl (logs-up file x.from x.to x.to old between new (omega arith) on same)

-- the reads of one part are those of the parts, where it is the only one
pub one_over : (file : List ℕ) (at : Ends → Stretch) (parts : List Ends) (d : Ends)
    (old new : Option (List Entry)) → length parts ≡ 1
    → LogsOn file (at (get_or parts 0 d)).from (at (get_or parts 0 d)).to old new
    → LogsOver file (map at parts) old new
one_over file at [] d old new one on = absurd (omega (arith, one))
one_over file at (part ∷ []) d old new one on = (new, on, refl)
one_over file at (part ∷ other ∷ parts) d old new one on = absurd (omega (arith, one))

-- and so are some of them
pub one_partly : (file : List ℕ) (at : Ends → Stretch) (parts : List Ends) (d : Ends)
    (old new : Option (List Entry)) → length parts ≡ 1
    → LogsUpTo file (at (get_or parts 0 d)).from (at (get_or parts 0 d)).to old new
    → LogsPartly file (map at parts) old new
one_partly file at [] d old new one up = absurd (omega (arith, one))
one_partly file at (part ∷ []) d old new one up = inl up
one_partly file at (part ∷ other ∷ parts) d old new one up = absurd (omega (arith, one))

pub err_weaker : {A E : Type 0} (r : Result A E) (P Q : Type 0) → (P → Q) → OnErr r P → OnErr r Q
err_weaker (Ok x) P Q f h = tt
err_weaker (Err e) P Q f h = f h
