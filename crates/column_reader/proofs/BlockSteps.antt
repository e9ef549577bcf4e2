-- The ids of a column, block by block.
use Rattle.std.proofs.Common.{inl, inr, ◌≡◌, ◌∙◌, ◌≤◌, ◌<◌, ℕ, zero, suc, ◌+◌, ◌-◌, ◌*◌, ◌/◌, List, [], ◌∷◌, ◌++◌, All, Option, Some, None, IfSome, get_or, length, map, min, refl, sym, ap, subst, arith, append_assoc}
use Rattle.std.specs.List.{range_with_len}
use Rattle.std.proofs.lemmas.Bool.{cases_lt}
use Rattle.std.proofs.lemmas.Bool.Decides.{nat_tests}
use Rattle.std.proofs.lemmas.List.{length-append}
use Rattle.std.proofs.lemmas.List.Elements.{All-append, All-nil}
use Rattle.std.proofs.lemmas.Nat.{mul-le}
use Rattle.outside.specs.Files.{Files}
use Rattle.outside.specs.Reads.{Entry, LogsOn, LogsUpTo}
use Rattle.outside.specs.Seen.{OnlyReads, Seen}
use Rattle.outside.specs.declared.place.Place.{Place}
use Rattle.outside.proofs.SeenLemmas.{reads_after, reads_none}
use Rattle.outside.proofs.ReadLemmas.{LogsOn-none, LogsThrough-none}
use Rattle.bit_column.specs.Column.{IsWidth, id_at, ids_between}
use Rattle.bit_column.specs.Sections.{AppendsRange, Readable, end_byte, first_byte, section}
use Rattle.bit_column.proofs.ReadSteps.{LogsOn-append, LogsUpTo-after}
use Rattle.coded_columns.specs.Ids.{HasRoom, IsNarrow}
use Rattle.coded_columns.specs.declared.ids.IdRoom.{IdRoom}
use Rattle.coded_columns.specs.declared.ids.IdRoom.TheVariants as room
use Rattle.column_reader.proofs.PickSteps.{ids_of_range, part_readable}

-- ---- ids by their places

map_split : (f : ℕ → ℕ) (a n m all next : ℕ) → all ≡ n + m → next ≡ a + n → map f (range_with_len a all) ≡ map f (range_with_len a n) ++ map f (range_with_len next m)
map_split f a zero m all next count begin = let same : all ≡ m = omega (arith, count) in let there : a ≡ next = omega (arith, begin) in (λ i. map f (range_with_len (there i) (same i)))
map_split f a (suc n) m all next count begin =
    let more : all ≡ suc (n + m) = omega (arith, count) in
    ap (λ k. map f (range_with_len a k)) more ∙ ap (λ (l : List ℕ). f a ∷ l) (map_split f (a + 1) n m (n + m) next refl (omega (arith, begin)))

-- the ids up to one place, and those from there on
ids_split : (width from to : ℕ) (bytes : List ℕ) → from ≤ to → ids_between width 0 to bytes ≡ ids_between width 0 from bytes ++ ids_between width from to bytes
ids_split width from to bytes order =
    let at : ℕ → ℕ = λ doc. id_at width doc bytes in
    ids_of_range width 0 to bytes
    ∙ map_split at 0 (from - 0) (to - from) (to - 0) from (omega (arith, order)) (omega arith)
    ∙ (λ i. sym (ids_of_range width 0 from bytes) i ++ sym (ids_of_range width from to bytes) i)

both_told : (held : Option Files) (place : Place) (width count from to : ℕ) (ids more : List ℕ) → from ≤ to
    → IfSome held (λ files. Readable width count 0 from (section files place) × (ids ≡ ids_between width 0 from (section files place)))
    → IfSome held (λ files. Readable width count from to (section files place) × (more ≡ ids_between width from to (section files place)))
    → IfSome held (λ files. Readable width count 0 to (section files place) × (ids ++ more ≡ ids_between width 0 to (section files place)))
both_told None place width count from to ids more order first next = tt
both_told (Some files) place width count from to ids more order ((reach, below), are) ((further, small), follow) =
    let bytes : List ℕ = section files place in
    let split : ids_between width 0 to bytes ≡ ids_between width 0 from bytes ++ ids_between width from to bytes = ids_split width from to bytes order in (
      (
        λ some. elim (cases_lt from to) [
          | inl lt ↦ further lt
          | inr ge ↦ let same : from ≡ to = omega (arith, ge, order) in subst (λ n. n * width ≤ 8 * length bytes) same (reach (omega (arith, some, same)))
        ],
        subst (All (λ id. id < count)) (sym split) (All-append (λ id. id < count) (ids_between width 0 from bytes) (ids_between width from to bytes) below small),
      ),
      (λ i. are i ++ follow i) ∙ sym split,
    )

both_appended : (held : Option Files) (place : Place) (width count from to : ℕ) (old new : List ℕ) → from ≤ to → AppendsRange held place width count 0 from [] old → AppendsRange held place width count from to old new
    → AppendsRange held place width count 0 to [] new
both_appended held place width count from to old new order first next = record {
  ids = first.ids ++ next.ids;
  appended = next.appended ∙ ap (λ (l : List ℕ). l ++ next.ids) first.appended;
  number = omega (arith, length-append first.ids next.ids, first.number, next.number, order);
  below = All-append (λ id. id < count) first.ids next.ids first.below next.below;
  told = both_told held place width count from to first.ids next.ids order first.told next.told;
}

-- ---- block by block

-- the bytes of a block begin where those before it end
begin_byte : (width k : ℕ) → first_byte width (8 * k) ≡ end_byte width 0 (8 * k)
begin_byte width k = let e : 8 * k * width ≡ 8 * (k * width) = grind arith in grind (arith, nat_tests, e)

end_both : (width k to : ℕ) → 8 * k ≤ to → end_byte width (8 * k) to ≡ end_byte width 0 to
end_both width k to order = elim (cases_lt (8 * k) to) [
  | inl lt ↦ grind (arith, nat_tests, lt)
  | inr ge ↦ let same : 8 * k ≡ to = omega (arith, ge, order) in grind (arith, nat_tests, same, begin_byte width k)
]

end_rises : (width from to : ℕ) → from ≤ to → end_byte width 0 from ≤ end_byte width 0 to
end_rises width from to order = elim (cases_lt 0 from) [
  | inl lt ↦ let most : from * width ≤ to * width = mul-le from width to width order (omega arith) in grind (arith, nat_tests, lt, order, most)
  | inr ge ↦ let none : from ≡ 0 = omega (arith, ge) in grind (arith, nat_tests, none)
]

-- what is known once the ids below a place were read
pub record BlockStep (place : Place) (width count from : ℕ) (first now : Seen) (ids : List ℕ) : Type 0 where
  pub reads : OnlyReads ⊥ first now
  pub log : LogsOn place.file (place.offset + first_byte width 0) (place.offset + end_byte width 0 from) first.log now.log
  pub appended : AppendsRange first.held place width count 0 from [] ids

pub block_start : (place : Place) (width count : ℕ) (shelf : Seen) (ids : List ℕ) → ids ≡ [] → BlockStep place width count 0 shelf shelf ids
block_start place width count shelf ids none = record {
  reads = reads_none shelf;
  log = subst (λ to. LogsOn place.file (place.offset + first_byte width 0) (place.offset + to) shelf.log shelf.log) (begin_byte width 0) (LogsOn-none place.file (place.offset + first_byte width 0) shelf.log);
  appended = subst (λ (l : List ℕ). AppendsRange shelf.held place width count 0 0 [] l) (sym none) (record {
    ids = [];
    appended = refl;
    number = refl;
    below = All-nil (λ id. id < count);
    told = none_told shelf.held place width count;
  });
}
  where
    none_told : (held : Option Files) (place : Place) (width count : ℕ) → IfSome held (λ files. Readable width count 0 0 (section files place) × ([] ≡ ids_between width 0 0 (section files place)))
    none_told None place width count = tt
    none_told (Some files) place width count = ((λ some. absurd (omega (arith, some)), All-nil (λ id. id < count)), refl)

-- a block more was read
pub block_next : (place : Place) (width count k from to : ℕ) (first now next : Seen) (old new : List ℕ) → from ≡ 8 * k → from ≤ to → BlockStep place width count from first now old → OnlyReads ⊥ now next
    → LogsOn place.file (place.offset + first_byte width from) (place.offset + end_byte width from to) now.log next.log → AppendsRange now.held place width count from to old new → BlockStep place width count to first next new
block_next place width count k from to first now next old new even order step reads logs appends =
    let begins : end_byte width 0 from ≡ first_byte width from = subst (λ n. end_byte width 0 n ≡ first_byte width n) (sym even) (sym (begin_byte width k)) in
    let ends : end_byte width from to ≡ end_byte width 0 to = subst (λ n. n ≤ to → end_byte width n to ≡ end_byte width 0 to) (sym even) (end_both width k to) order in
    record {
      reads = reads_after ⊥ first now next step.reads reads;
      log = subst (λ e. LogsOn place.file (place.offset + first_byte width 0) (place.offset + e) first.log next.log) ends
          (LogsOn-append place.file (place.offset + first_byte width 0) (place.offset + first_byte width from) (place.offset + end_byte width from to) first.log now.log next.log
          (subst (λ b. LogsOn place.file (place.offset + first_byte width 0) (place.offset + b) first.log now.log) begins step.log) logs);
      appended = both_appended first.held place width count from to old new order step.appended (subst (λ h. AppendsRange h place width count from to old new) step.reads.held appends);
    }

-- a part of a block was read
pub block_partly : (place : Place) (width count rows k from to : ℕ) (first now next : Seen) (ids : List ℕ) → from ≡ 8 * k → from ≤ to → to ≤ rows → BlockStep place width count from first now ids
    → LogsUpTo place.file (place.offset + first_byte width from) (place.offset + end_byte width from to) now.log next.log
    → LogsUpTo place.file (place.offset + first_byte width 0) (place.offset + end_byte width 0 rows) first.log next.log
block_partly place width count rows k from to first now next ids even order within step logs =
    let begins : end_byte width 0 from ≡ first_byte width from = subst (λ n. end_byte width 0 n ≡ first_byte width n) (sym even) (sym (begin_byte width k)) in
    let ends : end_byte width from to ≡ end_byte width 0 to = subst (λ n. n ≤ to → end_byte width n to ≡ end_byte width 0 to) (sym even) (end_both width k to) order in
    let most : end_byte width 0 to ≤ end_byte width 0 rows = end_rises width to rows within in
    let (upto, below, through) = LogsUpTo-after place.file (place.offset + first_byte width 0) (place.offset + first_byte width from) (place.offset + end_byte width from to) first.log now.log next.log
    (subst (λ b. LogsOn place.file (place.offset + first_byte width 0) (place.offset + b) first.log now.log) begins step.log) logs in
    (upto, omega (arith, below, ends, most), through)

-- a block that cannot be read is one of a section that cannot be
pub block_bad : (place : Place) (width count rows from to : ℕ) (first now : Seen) (ids : List ℕ) → to ≤ rows → BlockStep place width count from first now ids
    → IfSome now.held (λ files. ¬ Readable width count from to (section files place)) → IfSome first.held (λ files. ¬ Readable width count 0 rows (section files place))
block_bad place width count rows from to first now ids within step bad = by first.held (subst (λ h. IfSome h (λ files. ¬ Readable width count from to (section files place))) step.reads.held bad)
  where
    by : (held : Option Files) → IfSome held (λ files. ¬ Readable width count from to (section files place)) → IfSome held (λ files. ¬ Readable width count 0 rows (section files place))
    by None bad = tt
    by (Some files) bad = λ readable. bad (part_readable width count rows from to (section files place) within readable)

-- ---- with the block's number

module _ (place : Place) (width count rows at : ℕ) (first now : Seen) (ids : List ℕ) where
  -- what is known before a block
  abbrev pub BlocksRead : Type 0
  BlocksRead = BlockStep place width count (min (at * 32768) rows) first now ids

  begun : at < rows / 32768 + 1 → BlocksRead → BlockStep place width count (at * 32768) first now ids
  begun lt step = let from : min (at * 32768) rows ≡ at * 32768 = omega (arith, lt) in subst (λ n. BlockStep place width count n first now ids) from step

  even : at * 32768 ≡ 8 * (at * 4096)
  even = omega arith

  pub blocks_next : (to : ℕ) (next : Seen) (new : List ℕ) → at < rows / 32768 + 1 → to ≡ min (at * 32768 + 32768) rows → BlocksRead → OnlyReads ⊥ now next
      → LogsOn place.file (place.offset + first_byte width (at * 32768)) (place.offset + end_byte width (at * 32768) to) now.log next.log → AppendsRange now.held place width count (at * 32768) to ids new
      → BlockStep place width count (min ((at + 1) * 32768) rows) first next new
  blocks_next to next new lt is step reads logs appends =
      let same : to ≡ min ((at + 1) * 32768) rows = omega (arith, is) in
      subst (λ n. BlockStep place width count n first next new) same
      (block_next place width count (at * 4096) (at * 32768) to first now next ids new even (omega (arith, is, lt)) (begun lt step) reads logs appends)

  pub blocks_partly : (to : ℕ) (next : Seen) → at < rows / 32768 + 1 → to ≡ min (at * 32768 + 32768) rows → BlocksRead
      → LogsUpTo place.file (place.offset + first_byte width (at * 32768)) (place.offset + end_byte width (at * 32768) to) now.log next.log
      → LogsUpTo place.file (place.offset + first_byte width 0) (place.offset + end_byte width 0 rows) first.log next.log
  blocks_partly to next lt is step logs =
      block_partly place width count rows (at * 4096) (at * 32768) to first now next ids even (omega (arith, is, lt)) (omega (arith, is)) (begun lt step) logs

  pub blocks_bad : (to : ℕ) → at < rows / 32768 + 1 → to ≡ min (at * 32768 + 32768) rows → BlocksRead
      → IfSome now.held (λ files. ¬ Readable width count (at * 32768) to (section files place)) → IfSome first.held (λ files. ¬ Readable width count 0 rows (section files place))
  blocks_bad to lt is step bad = block_bad place width count rows (at * 32768) to first now ids (omega (arith, is)) (begun lt step) bad

  pub blocks_end : rows / 32768 + 1 ≤ at → BlocksRead → BlockStep place width count rows first now ids
  blocks_end ge step = let all : min (at * 32768) rows ≡ rows = omega (arith, ge) in subst (λ n. BlockStep place width count n first now ids) all step

-- ids that take two bytes each where all ids of the column do have at most so many bits
pub narrow_width : (count width : ℕ) (ids : IdRoom) → IsWidth count width → ((id : ℕ) → id < count → HasRoom ids id) → IsNarrow ids → width ≤ 16
narrow_width count width (room.Narrow ids) (wide, fits, least) has narrow = least 16 (omega arith) (elim (cases_lt 65536 count) [
  | inl lt ↦ absurd (omega (arith, has 65536 lt))
  | inr ge ↦ omega (arith, ge)
])
narrow_width count width (room.Wide ids) is has narrow = absurd narrow

-- no block was read
pub blocks_none : (place : Place) (width rows : ℕ) (log : Option (List Entry)) → LogsUpTo place.file (place.offset + first_byte width 0) (place.offset + end_byte width 0 rows) log log
blocks_none place width rows log =
    let least : end_byte width 0 0 ≤ end_byte width 0 rows = end_rises width 0 rows (omega arith) in
    let begins : first_byte width 0 ≡ end_byte width 0 0 = begin_byte width 0 in
    (place.offset + first_byte width 0, omega (arith, least, begins), LogsThrough-none place.file (place.offset + first_byte width 0) log)

pub blocks_start : (place : Place) (width count rows at : ℕ) (shelf : Seen) (ids : List ℕ) → at ≡ 0 → ids ≡ [] → BlockStep place width count (min (at * 32768) rows) shelf shelf ids
blocks_start place width count rows at shelf ids begins none =
    let from : 0 ≡ min (at * 32768) rows = omega (arith, begins) in
    subst (λ n. BlockStep place width count n shelf shelf ids) from (block_start place width count shelf ids none)
