-- The reads of a check: each of a part of the file that comes after those before it.
use Rattle.std.proofs.Common.{◌≡◌, ◌∙◌, ◌+◌, ◌*◌, ◌/◌, ◌-◌, ◌<◌, ◌≤◌, ◌==◌, ◌||◌, ◌++◌, [], ◌∷◌, ℕ, zero, suc, Bool, true, false, cond, List, Option, Some, length, map, sum, take, get_or, refl, sym, ap, subst, arith, append_assoc, eq-eqb}
use Rattle.std.specs.Prelude.{IfSome, nat_lt, option_map, option_to_list}
use Rattle.std.specs.List.{find, list_any, range_with_len}
use Rattle.std.proofs.lemmas.Bool.{eqb-true, false≢true, ltb-false, ltb-true}
use Rattle.std.proofs.lemmas.List.{length-append, length-map, map-append}
use Rattle.std.proofs.lemmas.List.Folds.{list_any-append}
use Rattle.std.proofs.lemmas.List.FromFn.{length-range_with_len}
use Rattle.std.proofs.lemmas.List.Sums.{sum_by-cons}
use Rattle.outside.specs.Seen as outside
use Rattle.outside.specs.Reads.{Entry, LogsThrough, LogsUpTo}
use Rattle.outside.specs.declared.place.Place.{Place}
use Rattle.bit_column.specs.Sections.{end_byte, first_byte}
use Rattle.table_schema.specs.declared.table.Table.{Table}
use Rattle.segment_file.specs.declared.part.Part.{Part}
use Rattle.segment_file.specs.declared.part.Part.TheVariants as parts
use Rattle.segment_file.specs.declared.section.Section.{Section}
use Rattle.segment_file.specs.Front.{Front, extents_from, extents_of, front_size, head_end}
use Rattle.segment_file.specs.Parts.{columns_of, head_sections, is_same, marked, raw_sections, sections_of, trees_of}
use Rattle.segment_head.specs.Heads.{IsPlaced, Seen, place_in, placed}
use Rattle.segment_build.specs.FileReads.{LogsAtMost, LogsOnce, at_most_once, once_none, once_then, once_wider}
use Rattle.segment_build.proofs.OnceReads.{once_through, once_up}
use Rattle.segment_check.specs.declared.head.FileHead.{FileHead}
use Rattle.segment_check.specs.Reading.{IsPlacedHead, LogsColumn, LogsColumns}

-- ---- where the forward indexes are

-- the place of a section after others, of which none is the same
place_after : (file : List ℕ) (t : Part) (offset : ℕ) (before after : List Part) (sizes : List ℕ) → is_same t t ≡ true → list_any (λ p. is_same p t) before ≡ false → length sizes ≡ length (before ++ t ∷ after)
    → place_in (map (placed file) (extents_from offset (before ++ t ∷ after) sizes)) t
    ≡ Some (record { file = file; offset = offset + sum (take (length before) sizes); length = get_or sizes (length before) 0 })
place_after file t offset [] after [] same none each = absurd (omega (arith, each))
place_after file t offset [] after (size ∷ sizes) same none each =
    let plain : offset ≡ offset + 0 = omega arith in
    ap (λ b. option_map (λ s. s.place) (cond b (Some (placed file (record { part = t; offset = offset; size = size }))) (find (λ s. is_same s.part t) (map (placed file) (extents_from (offset + size) after sizes))))) same
    ∙ ap (λ n. Some (record { file = file; offset = n; length = size })) plain
place_after file t offset (p ∷ before) after [] same none each = absurd (omega (arith, each))
place_after file t offset (p ∷ before) after (size ∷ sizes) same none each =
    let here : is_same p t ≡ false = first_false (is_same p t) (list_any (λ q. is_same q t) before) none in
    let later : list_any (λ q. is_same q t) before ≡ false = rest_false (is_same p t) (list_any (λ q. is_same q t) before) none in
    let total : sum (take (length (p ∷ before)) (size ∷ sizes)) ≡ size + sum (take (length before) sizes) = sum_by-cons (λ n. n) size (take (length before) sizes) in
    let begins : offset + size + sum (take (length before) sizes) ≡ offset + sum (take (length (p ∷ before)) (size ∷ sizes)) = omega (arith, total) in
    ap (λ b. option_map (λ s. s.place) (cond b (Some (placed file (record { part = p; offset = offset; size = size }))) (find (λ s. is_same s.part t) (map (placed file) (extents_from (offset + size) (before ++ t ∷ after) sizes))))) here
    ∙ place_after file t (offset + size) before after sizes same later (omega (arith, each))
    ∙ ap (λ n. Some (record { file = file; offset = n; length = get_or sizes (length before) 0 })) begins
  where
    first_false : (a b : Bool) → a || b ≡ false → a ≡ false
    first_false true b is = absurd (false≢true (sym is))
    first_false false b is = refl

    rest_false : (a b : Bool) → a || b ≡ false → b ≡ false
    rest_false true b is = absurd (false≢true (sym is))
    rest_false false b is = is

both_false : (a b : Bool) → a ≡ false → b ≡ false → a || b ≡ false
both_false a b is_a is_b = ap (λ c. c || b) is_a ∙ is_b

none_made : {A : Type 0} (t : Part) (f : A → Part) → ((x : A) → is_same (f x) t ≡ false) → (xs : List A) → list_any (λ p. is_same p t) (map f xs) ≡ false
none_made t f other [] = refl
none_made t f other (x ∷ xs) = both_false (is_same (f x) t) (list_any (λ p. is_same p t) (map f xs)) (other x) (none_made t f other xs)

none_both : (t : Part) (xs ys : List Part) → list_any (λ p. is_same p t) xs ≡ false → list_any (λ p. is_same p t) ys ≡ false → list_any (λ p. is_same p t) (xs ++ ys) ≡ false
none_both t xs ys no_x no_y = list_any-append (λ p. is_same p t) xs ys ∙ both_false (list_any (λ p. is_same p t) xs) (list_any (λ p. is_same p t) ys) no_x no_y

none_in_head : (table : Table) (c : ℕ) → list_any (λ p. is_same p (parts.Forward c)) (head_sections table) ≡ false
none_in_head table c =
    both_false (is_same parts.Bounds (parts.Forward c)) (list_any (λ p. is_same p (parts.Forward c)) (map parts.Dictionary (columns_of table) ++ map parts.Nodes (trees_of table))) refl
    (none_both (parts.Forward c) (map parts.Dictionary (columns_of table)) (map parts.Nodes (trees_of table)) (none_made (parts.Forward c) parts.Dictionary (λ k. refl) (columns_of table)) (none_made (parts.Forward c) parts.Nodes (λ k. refl) (trees_of table)))

differ : (a b : ℕ) (v : Bool) → a == b ≡ v → a < b → v ≡ false
differ a b false is lt = refl
differ a b true is lt = absurd (let same : a ≡ b = eqb-true a b is in omega (arith, same, lt))

none_less : (c from count : ℕ) → from + count ≤ c → list_any (λ p. is_same p (parts.Forward c)) (map parts.Forward (range_with_len from count)) ≡ false
none_less c from zero le = refl
none_less c from (suc n) le =
    both_false (from == c) (list_any (λ p. is_same p (parts.Forward c)) (map parts.Forward (range_with_len (from + 1) n))) (differ from c (from == c) refl (omega (arith, le))) (none_less c (from + 1) n (omega (arith, le)))

split_range : (from k n : ℕ) → range_with_len from (k + suc n) ≡ range_with_len from k ++ ((from + k) ∷ range_with_len (from + k + 1) n)
split_range from zero n =
    let plain : from ≡ from + 0 = omega arith in
    let long : 0 + suc n ≡ suc n = omega arith in
    ap (range_with_len from) long ∙ ap (λ m. m ∷ range_with_len (m + 1) n) plain
split_range from (suc k) n =
    let there : from + 1 + k ≡ from + suc k = omega arith in
    let long : suc k + suc n ≡ suc (k + suc n) = omega arith in
    ap (range_with_len from) long ∙ ap (λ l. from ∷ l) (split_range (from + 1) k n ∙ ap (λ m. range_with_len (from + 1) k ++ (m ∷ range_with_len (m + 1) n)) there)

-- the place in a file at which the forward index of a column begins, and that of the one before ends
abbrev pub forward_at : Table → List ℕ → Front → ℕ → ℕ
forward_at table name front c = front_size table name + sum (take (length (head_sections table) + c) front.sizes)

module _ (table : Table) (c : ℕ) (lt : c < length table.schema.fields) where
  abbrev before_forward : List Part
  before_forward = head_sections table ++ map parts.Forward (range_with_len 0 c)

  abbrev other_rows : List Part
  other_rows = map parts.Sorted (option_to_list table.settings.sorted) ++ (map parts.Inverted (marked table.settings.inverted) ++ map parts.Range (marked table.settings.ranged))

  abbrev after_forward : List Part
  after_forward = map parts.Forward (range_with_len (c + 1) (length table.schema.fields - c - 1)) ++ (other_rows ++ map parts.Star (trees_of table))

  cut_sections : sections_of table ≡ before_forward ++ parts.Forward c ∷ after_forward
  cut_sections =
      let more : List ℕ = range_with_len (c + 1) (length table.schema.fields - c - 1) in
      let whole : length table.schema.fields ≡ c + suc (length table.schema.fields - c - 1) = omega (arith, lt) in
      let plain : 0 + c ≡ c = omega arith in
      let ranged : columns_of table ≡ range_with_len 0 c ++ (c ∷ more) =
      ap (range_with_len 0) whole ∙ split_range 0 c (length table.schema.fields - c - 1) ∙ ap (λ m. range_with_len 0 c ++ (m ∷ range_with_len (m + 1) (length table.schema.fields - c - 1))) plain in
      let forwards : map parts.Forward (columns_of table) ≡ map parts.Forward (range_with_len 0 c) ++ (parts.Forward c ∷ map parts.Forward more) =
      ap (map parts.Forward) ranged ∙ map-append parts.Forward (range_with_len 0 c) (c ∷ more) in
      ap (λ l. head_sections table ++ ((l ++ other_rows) ++ map parts.Star (trees_of table))) forwards ∙ simp append_assoc

  before_count : length before_forward ≡ length (head_sections table) + c
  before_count = omega (
    arith,
    length-append (head_sections table) (map parts.Forward (range_with_len 0 c)),
    length-map (range_with_len 0 c) parts.Forward,
    length-range_with_len 0 c,
  )

  pub forward_is : (name file : List ℕ) (front : Front) (head : Seen) → IsPlaced table name file front head → length front.sizes ≡ length (sections_of table)
      → place_in head.sections (parts.Forward c) ≡ Some (record { file = file; offset = forward_at table name front c; length = get_or front.sizes (length (head_sections table) + c) 0 })
  forward_is name file front head is each =
      let own : is_same (parts.Forward c) (parts.Forward c) ≡ true = eq-eqb c c refl in
      let none : list_any (λ p. is_same p (parts.Forward c)) before_forward ≡ false =
      none_both (parts.Forward c) (head_sections table) (map parts.Forward (range_with_len 0 c)) (none_in_head table c) (none_less c 0 c (omega arith)) in
      ap (λ (s : List Section). place_in s (parts.Forward c)) is.sections_are
      ∙ ap (λ l. place_in (map (placed file) (extents_from (front_size table name) l front.sizes)) (parts.Forward c)) cut_sections
      ∙ place_after file (parts.Forward c) (front_size table name) before_forward after_forward front.sizes own none (each ∙ ap length cut_sections)
      ∙ ap (λ m. Some (record { file = file; offset = front_size table name + sum (take m front.sizes); length = get_or front.sizes m 0 })) before_count

-- ---- sums

taken_none : (n : ℕ) → sum (take n []) ≡ 0
taken_none zero = refl
taken_none (suc n) = refl

got_none : (n : ℕ) → get_or {A = ℕ} [] n 0 ≡ 0
got_none zero = refl
got_none (suc n) = refl

taken_more : (xs : List ℕ) (n : ℕ) → sum (take (n + 1) xs) ≡ sum (take n xs) + get_or xs n 0
taken_more [] n = let short = taken_none n in let long = taken_none (n + 1) in let none = got_none n in omega (arith, short, long, none)
taken_more (x ∷ xs) zero =
    let one : sum (take 1 (x ∷ xs)) ≡ x + sum (take 0 xs) = sum_by-cons (λ n. n) x (take 0 xs) in
    omega (arith, one)
taken_more (x ∷ xs) (suc n) =
    let later = taken_more xs n in
    let next : suc n + 1 ≡ suc (n + 1) = omega arith in
    let long : sum (take (suc n + 1) (x ∷ xs)) ≡ x + sum (take (n + 1) xs) = ap (λ m. sum (take m (x ∷ xs))) next ∙ sum_by-cons (λ n. n) x (take (n + 1) xs) in
    let short : sum (take (suc n) (x ∷ xs)) ≡ x + sum (take n xs) = sum_by-cons (λ n. n) x (take n xs) in
    omega (arith, later, long, short)

up_by : (xs : List ℕ) (n k : ℕ) → sum (take n xs) ≤ sum (take (n + k) xs)
up_by xs n zero = let same : n + 0 ≡ n = omega arith in let e = ap (λ m. sum (take m xs)) same in omega (arith, e)
up_by xs n (suc k) =
    let before = up_by xs n k in
    let next : n + suc k ≡ n + k + 1 = omega arith in
    let more = taken_more xs (n + k) in
    let e = ap (λ m. sum (take m xs)) next in
    omega (arith, before, more, e)

-- ---- the head

pub head_once : (table : Table) (name file : List ℕ) (front : Front) (old mid new : Option (List Entry)) → LogsThrough file 0 (front_size table name) old mid → LogsUpTo file (front_size table name) (head_end table name front) mid new
    → LogsOnce file 0 (head_end table name front) old new
head_once table name file front old mid new first rest =
    once_then file 0 (front_size table name) (front_size table name) (head_end table name front) old mid new (omega arith) (omega arith) (omega arith)
    (once_through file 0 (front_size table name) old mid first) (once_up file (front_size table name) (head_end table name front) mid new rest)

-- ---- columns one after the other

-- the ids of a range are read within their section
pub range_once : (place : Place) (width rows : ℕ) (old new : Option (List Entry)) → LogsUpTo place.file (place.offset + first_byte width 0) (place.offset + end_byte width 0 rows) old new
    → (place.length < end_byte width 0 rows → 0 < rows → new ≡ old) → LogsOnce place.file place.offset (place.offset + place.length) old new
range_once place width zero old new up past =
    once_wider place.file (place.offset + first_byte width 0) (place.offset + end_byte width 0 0) place.offset (place.offset + place.length) old new
    (once_up place.file (place.offset + first_byte width 0) (place.offset + end_byte width 0 0) old new up)
    (omega arith) (omega (arith, zero_first width))
  where
    zero_first : (w : ℕ) → first_byte w 0 ≡ 0
    zero_first w = let none : 0 * w ≡ 0 = omega arith in ap (λ n. n / 8) none
range_once place width (suc n) old new up past =
    elim (nat_lt place.length (end_byte width 0 (suc n))) as (λ b. nat_lt place.length (end_byte width 0 (suc n)) ≡ b → LogsOnce place.file place.offset (place.offset + place.length) old new) [
      | true ↦ λ e. once_none place.file place.offset (place.offset + place.length) old new (past (ltb-true place.length (end_byte width 0 (suc n)) e) (omega arith))
      | false ↦ λ e.
          let fits = ltb-false place.length (end_byte width 0 (suc n)) e in
          once_wider place.file (place.offset + first_byte width 0) (place.offset + end_byte width 0 (suc n)) place.offset (place.offset + place.length) old new
          (once_up place.file (place.offset + first_byte width 0) (place.offset + end_byte width 0 (suc n)) old new up)
          (omega arith) (omega (arith, fits))
    ] refl

-- the first so many columns were read after the head
abbrev pub ColumnsOnce : Table → Seen → ℕ → Option (List Entry) → Option (List Entry) → Type 0
ColumnsOnce table head at old new = (name file : List ℕ) (front : Front) → IsPlaced table name file front head → length front.sizes ≡ length (sections_of table)
    → LogsOnce file (head_end table name front) (forward_at table name front at) old new

pub columns_start : (table : Table) (head : Seen) (old new : Option (List Entry)) → new ≡ old → ColumnsOnce table head 0 old new
columns_start table head old new is = λ name file front placed each. once_none file (head_end table name front) (forward_at table name front 0) old new is

pub columns_end : (table : Table) (head : Seen) (at : ℕ) (old new : Option (List Entry)) → ColumnsOnce table head at old new → LogsColumns table head old new
columns_end table head at old new once = λ name file front placed each. (forward_at table name front at, once name file front placed each)

pub columns_next : (table : Table) (head : Seen) (at : ℕ) (old mid new : Option (List Entry)) → at < length table.schema.fields → ColumnsOnce table head at old mid → LogsColumn head at mid new → ColumnsOnce table head (at + 1) old new
columns_next table head at old mid new lt before one = λ name file front is each.
    let n : ℕ = length (head_sections table) in
    let size : ℕ = get_or front.sizes (n + at) 0 in
    let here : LogsOnce file (forward_at table name front at) (forward_at table name front at + size) mid new =
    subst (λ o. IfSome o (λ (place : Place). LogsOnce place.file place.offset (place.offset + place.length) mid new)) (forward_is table at lt name file front head is each) one in
    let up = up_by front.sizes n at in
    let more = taken_more front.sizes (n + at) in
    let next : n + (at + 1) ≡ n + at + 1 = omega arith in
    let e = ap (λ m. sum (take m front.sizes)) next in
    let end : forward_at table name front at + size ≤ forward_at table name front (at + 1) = omega (arith, more, e) in
    let first : head_end table name front ≤ forward_at table name front at = omega (arith, up) in
    let last : forward_at table name front at ≤ forward_at table name front (at + 1) = omega (arith, end) in
    once_then file (head_end table name front) (forward_at table name front at) (forward_at table name front at) (forward_at table name front (at + 1)) old mid new first (omega arith) last (before name file front is each)
    (once_wider file (forward_at table name front at) (forward_at table name front at + size) (forward_at table name front at) (forward_at table name front (at + 1)) mid new here (omega arith) end)

-- ---- the head and the columns after it

pub columns_after : (table : Table) (name file : List ℕ) (read : FileHead) (old mid later : outside.Seen) → IsPlacedHead table name file read → LogsOnce file 0 (head_end table name read.front) old.log mid.log → LogsColumns table read.head mid.log later.log → (to : ℕ) × LogsOnce file 0 to old.log later.log
columns_after table name file read old mid later is first then =
    let rest = then name file read.front is.placed is.each in
    let end : ℕ = head_end table name read.front in
    let last : ℕ = end + rest.0 in (
      last,
      once_then file 0 end end last old.log mid.log later.log (omega arith) (omega arith) (omega arith) first
          (once_wider file end rest.0 end last mid.log later.log rest.1 (omega arith) (omega arith)),
    )

pub read_once : (table : Table) (name file : List ℕ) (read : FileHead) (old mid later : outside.Seen) → IsPlacedHead table name file read → LogsOnce file 0 (head_end table name read.front) old.log mid.log → LogsColumns table read.head mid.log later.log → LogsAtMost 1 file old.log later.log
read_once table name file read old mid later is first then =
    let all = columns_after table name file read old mid later is first then in
    at_most_once file 0 all.0 old.log later.log all.1
