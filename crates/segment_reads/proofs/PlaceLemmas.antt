-- Where the sections of an image are: those of the head before the rows, and the documents of each star-tree after them.
use Rattle.std.proofs.Common.{◌≡◌, ◌∙◌, ◌+◌, ◌-◌, ◌<◌, ◌≤◌, ◌==◌, ◌||◌, ◌++◌, [], ◌∷◌, ℕ, zero, suc, Bool, true, false, cond, List, Some, length, map, sum, take, get_or, refl, sym, ap, arith, append_assoc, eq-eqb}
use Rattle.std.specs.Prelude.{option_map, option_to_list}
use Rattle.std.specs.List.{find, list_any, range_with_len}
use Rattle.std.proofs.lemmas.Bool.{eqb-true, false≢true}
use Rattle.std.proofs.lemmas.List.{length-append, length-map, map-append}
use Rattle.std.proofs.lemmas.List.Folds.{list_any-append}
use Rattle.std.proofs.lemmas.List.FromFn.{length-range_with_len}
use Rattle.std.proofs.lemmas.List.Sums.{sum_by-cons}
use Rattle.outside.specs.declared.place.Place.{Place}
use Rattle.table_schema.specs.declared.table.Table.{Table}
use Rattle.segment_file.specs.declared.part.Part.{Part}
use Rattle.segment_file.specs.declared.part.Part.TheVariants as parts
use Rattle.segment_file.specs.Front.{Front, extents_from, extents_of, front_size}
use Rattle.segment_head.specs.Heads.{place_in, placed}
use Rattle.segment_reads.specs.Reads.{span_of}
use Rattle.segment_file.specs.Parts.{columns_of, head_sections, is_same, marked, raw_sections, sections_of, trees_of}

-- the place of a part after others, of which none is the same
place_after : (file : List ℕ) (t : ℕ) (offset : ℕ) (before after : List Part) (sizes : List ℕ) → list_any (λ p. is_same p (parts.Star t)) before ≡ false → length sizes ≡ length (before ++ parts.Star t ∷ after)
    → place_in (map (placed file) (extents_from offset (before ++ parts.Star t ∷ after) sizes)) (parts.Star t)
    ≡ Some (record { file = file; offset = offset + sum (take (length before) sizes); length = get_or sizes (length before) 0 })
place_after file t offset [] after [] none each = absurd (omega (arith, each))
place_after file t offset [] after (size ∷ sizes) none each =
    let same : t == t ≡ true = eq-eqb t t refl in
    let plain : offset ≡ offset + 0 = omega arith in
    ap (λ b. option_map (λ s. s.place) (cond b (Some (placed file (record { part = parts.Star t; offset = offset; size = size }))) (find (λ s. is_same s.part (parts.Star t)) (map (placed file) (extents_from (offset + size) after sizes))))) same
    ∙ ap (λ n. Some (record { file = file; offset = n; length = size })) plain
place_after file t offset (p ∷ before) after [] none each = absurd (omega (arith, each))
place_after file t offset (p ∷ before) after (size ∷ sizes) none each =
    let here : is_same p (parts.Star t) ≡ false = first_false (is_same p (parts.Star t)) (list_any (λ q. is_same q (parts.Star t)) before) none in
    let later : list_any (λ q. is_same q (parts.Star t)) before ≡ false = rest_false (is_same p (parts.Star t)) (list_any (λ q. is_same q (parts.Star t)) before) none in
    let total : sum (take (length (p ∷ before)) (size ∷ sizes)) ≡ size + sum (take (length before) sizes) = sum_by-cons (λ n. n) size (take (length before) sizes) in
    let begins : offset + size + sum (take (length before) sizes) ≡ offset + sum (take (length (p ∷ before)) (size ∷ sizes)) = omega (arith, total) in
    ap (λ b. option_map (λ s. s.place) (cond b (Some (placed file (record { part = p; offset = offset; size = size }))) (find (λ s. is_same s.part (parts.Star t)) (map (placed file) (extents_from (offset + size) (before ++ parts.Star t ∷ after) sizes))))) here
    ∙ place_after file t (offset + size) before after sizes later (omega (arith, each))
    ∙ ap (λ n. Some (record { file = file; offset = n; length = get_or sizes (length before) 0 })) begins
  where
    first_false : (a b : Bool) → a || b ≡ false → a ≡ false
    first_false true b is = absurd (false≢true (sym is))
    first_false false b is = refl

    rest_false : (a b : Bool) → a || b ≡ false → b ≡ false
    rest_false true b is = absurd (false≢true (sym is))
    rest_false false b is = is

-- ---- no section before it is the same

both_false : (a b : Bool) → a ≡ false → b ≡ false → a || b ≡ false
both_false a b is_a is_b = ap (λ c. c || b) is_a ∙ is_b

none_made : {A : Type 0} (t : ℕ) (f : A → Part) → ((x : A) → is_same (f x) (parts.Star t) ≡ false) → (xs : List A) → list_any (λ p. is_same p (parts.Star t)) (map f xs) ≡ false
none_made t f other [] = refl
none_made t f other (x ∷ xs) = both_false (is_same (f x) (parts.Star t)) (list_any (λ p. is_same p (parts.Star t)) (map f xs)) (other x) (none_made t f other xs)

none_both : (t : ℕ) (xs ys : List Part) → list_any (λ p. is_same p (parts.Star t)) xs ≡ false → list_any (λ p. is_same p (parts.Star t)) ys ≡ false → list_any (λ p. is_same p (parts.Star t)) (xs ++ ys) ≡ false
none_both t xs ys no_x no_y = list_any-append (λ p. is_same p (parts.Star t)) xs ys ∙ both_false (list_any (λ p. is_same p (parts.Star t)) xs) (list_any (λ p. is_same p (parts.Star t)) ys) no_x no_y

none_in_head : (table : Table) (t : ℕ) → list_any (λ p. is_same p (parts.Star t)) (head_sections table) ≡ false
none_in_head table t =
    both_false (is_same parts.Bounds (parts.Star t)) (list_any (λ p. is_same p (parts.Star t)) (map parts.Dictionary (columns_of table) ++ map parts.Nodes (trees_of table))) refl
    (none_both t (map parts.Dictionary (columns_of table)) (map parts.Nodes (trees_of table)) (none_made t parts.Dictionary (λ c. refl) (columns_of table)) (none_made t parts.Nodes (λ c. refl) (trees_of table)))

none_in_raw : (table : Table) (t : ℕ) → list_any (λ p. is_same p (parts.Star t)) (raw_sections table) ≡ false
none_in_raw table t =
    let forward : List Part = map parts.Forward (columns_of table) in
    let sorted : List Part = map parts.Sorted (option_to_list table.settings.sorted) in
    let inverted : List Part = map parts.Inverted (marked table.settings.inverted) in
    let ranged : List Part = map parts.Range (marked table.settings.ranged) in
    none_both t forward (sorted ++ (inverted ++ ranged)) (none_made t parts.Forward (λ c. refl) (columns_of table))
    (none_both t sorted (inverted ++ ranged) (none_made t parts.Sorted (λ c. refl) (option_to_list table.settings.sorted))
    (none_both t inverted ranged (none_made t parts.Inverted (λ c. refl) (marked table.settings.inverted)) (none_made t parts.Range (λ c. refl) (marked table.settings.ranged))))

differ : (a b : ℕ) (v : Bool) → a == b ≡ v → a < b → v ≡ false
differ a b false is lt = refl
differ a b true is lt = absurd (let same : a ≡ b = eqb-true a b is in omega (arith, same, lt))

none_less : (t from count : ℕ) → from + count ≤ t → list_any (λ p. is_same p (parts.Star t)) (map parts.Star (range_with_len from count)) ≡ false
none_less t from zero le = refl
none_less t from (suc n) le =
    both_false (from == t) (list_any (λ p. is_same p (parts.Star t)) (map parts.Star (range_with_len (from + 1) n))) (is ∙ differ from t (from == t) refl (omega (arith, le))) (none_less t (from + 1) n (omega (arith, le)))
  where
    is : (from == t) ≡ (from == t)
    is = refl

-- the trees before one, that one, and those after it
split_range : (from k n : ℕ) → range_with_len from (k + suc n) ≡ range_with_len from k ++ ((from + k) ∷ range_with_len (from + k + 1) n)
split_range from zero n =
    let plain : from ≡ from + 0 = omega arith in
    let long : 0 + suc n ≡ suc n = omega arith in
    ap (range_with_len from) long ∙ ap (λ m. m ∷ range_with_len (m + 1) n) plain
split_range from (suc k) n =
    let there : from + 1 + k ≡ from + suc k = omega arith in
    let long : suc k + suc n ≡ suc (k + suc n) = omega arith in
    ap (range_with_len from) long ∙ ap (λ l. from ∷ l) (split_range (from + 1) k n ∙ ap (λ m. range_with_len (from + 1) k ++ (m ∷ range_with_len (m + 1) n)) there)

-- the sections before the documents of a tree, and those after
module _ (table : Table) (t : ℕ) (lt : t < length table.settings.trees) where
  abbrev before_star : List Part
  before_star = head_sections table ++ (raw_sections table ++ map parts.Star (range_with_len 0 t))

  abbrev after_star : List Part
  after_star = map parts.Star (range_with_len (t + 1) (length table.settings.trees - t - 1))

  cut_sections : sections_of table ≡ before_star ++ parts.Star t ∷ after_star
  cut_sections =
      let whole : length table.settings.trees ≡ t + suc (length table.settings.trees - t - 1) = omega (arith, lt) in
      let plain : 0 + t ≡ t = omega arith in
      let ranged : trees_of table ≡ range_with_len 0 t ++ (t ∷ range_with_len (t + 1) (length table.settings.trees - t - 1)) =
      ap (range_with_len 0) whole ∙ split_range 0 t (length table.settings.trees - t - 1) ∙ ap (λ m. range_with_len 0 t ++ (m ∷ range_with_len (m + 1) (length table.settings.trees - t - 1))) plain in
      let stars : map parts.Star (trees_of table) ≡ map parts.Star (range_with_len 0 t) ++ (parts.Star t ∷ after_star) =
      ap (map parts.Star) ranged ∙ map-append parts.Star (range_with_len 0 t) (t ∷ range_with_len (t + 1) (length table.settings.trees - t - 1)) in
      ap (λ l. head_sections table ++ (raw_sections table ++ l)) stars ∙ simp append_assoc

  before_count : length before_star ≡ length (head_sections table) + length (raw_sections table) + t
  before_count =
      let stars = map parts.Star (range_with_len 0 t) in
      omega (
        arith,
        length-append (head_sections table) (raw_sections table ++ map parts.Star (range_with_len 0 t)),
        length-append (raw_sections table) (map parts.Star (range_with_len 0 t)),
        length-map (range_with_len 0 t) parts.Star,
        length-range_with_len 0 t,
      )

  none_before_star : list_any (λ p. is_same p (parts.Star t)) before_star ≡ false
  none_before_star =
      none_both t (head_sections table) (raw_sections table ++ map parts.Star (range_with_len 0 t)) (none_in_head table t)
      (none_both t (raw_sections table) (map parts.Star (range_with_len 0 t)) (none_in_raw table t) (none_less t 0 t (omega arith)))

  taken_none : (n : ℕ) → sum (take n []) ≡ 0
  taken_none zero = refl
  taken_none (suc n) = refl

  got_none : (n : ℕ) → get_or {A = ℕ} [] n 0 ≡ 0
  got_none zero = refl
  got_none (suc n) = refl

  pub taken_more : (xs : List ℕ) (n : ℕ) → sum (take (n + 1) xs) ≡ sum (take n xs) + get_or xs n 0
  taken_more [] n = let short = taken_none n in let long = taken_none (n + 1) in let none = got_none n in omega (arith, short, long, none)
  taken_more (x ∷ xs) zero =
      let one : sum (take 1 (x ∷ xs)) ≡ x + sum (take 0 xs) = sum_by-cons (λ n. n) x (take 0 xs) in
      omega (arith, one)
  taken_more (x ∷ xs) (suc n) =
      let later = taken_more xs n in
      let next : suc n + 1 ≡ suc (n + 1) = omega arith in
      let long : sum (take (suc n + 1) (x ∷ xs)) ≡ x + sum (take (n + 1) xs) = ap (λ m. sum (take m (x ∷ xs))) next ∙ sum_by-cons (λ n. n) x (take (n + 1) xs) in
      let short : sum (take (suc n) (x ∷ xs)) ≡ x + sum (take n xs) = sum_by-cons (λ n. n) x (take n xs) in
      omega (arith, later, long, short)

  -- where a file with this front has the documents of the tree
  pub star_place : (name file : List ℕ) (front : Front) (place : Place) → length front.sizes ≡ length (sections_of table) → place_in (map (placed file) (extents_of table name front)) (parts.Star t) ≡ Some place
      → (place.file ≡ file) × (place.offset ≡ (span_of table name front (length (head_sections table) + length (raw_sections table) + t) 1).from) × (place.offset + place.length ≡ (span_of table name front (length (head_sections table) + length (raw_sections table) + t) 1).to)
  star_place name file front place each at =
      let n : ℕ = length (head_sections table) + length (raw_sections table) + t in
      let made : Some place ≡ Some (record { file = file; offset = front_size table name + sum (take (length before_star) front.sizes); length = get_or front.sizes (length before_star) 0 }) =
      sym at ∙ ap (λ l. place_in (map (placed file) (extents_from (front_size table name) l front.sizes)) (parts.Star t)) cut_sections
      ∙ place_after file t (front_size table name) before_star after_star front.sizes none_before_star (each ∙ ap length cut_sections) in
      let counted : Some place ≡ Some (record { file = file; offset = front_size table name + sum (take n front.sizes); length = get_or front.sizes n 0 }) =
      made ∙ ap (λ m. Some (record { file = file; offset = front_size table name + sum (take m front.sizes); length = get_or front.sizes m 0 })) before_count in
      let file_is : place.file ≡ file = same_by (λ p. p.file) place (record { file = file; offset = front_size table name + sum (take n front.sizes); length = get_or front.sizes n 0 }) counted in
      let offset_is : place.offset ≡ front_size table name + sum (take n front.sizes) = same_by (λ p. p.offset) place (record { file = file; offset = front_size table name + sum (take n front.sizes); length = get_or front.sizes n 0 }) counted in
      let length_is : place.length ≡ get_or front.sizes n 0 = same_by (λ p. p.length) place (record { file = file; offset = front_size table name + sum (take n front.sizes); length = get_or front.sizes n 0 }) counted in
      let more = taken_more front.sizes n in
      (file_is, offset_is, omega (arith, offset_is, length_is, more))
    where
      same_by : {X : Type 0} (f : Place → X) (a b : Place) → Some a ≡ Some b → f a ≡ f b
      same_by f a b is = ap f (let same : a ≡ b = cc in same)
