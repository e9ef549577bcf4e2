-- Digits of a text, eight at a time.
use Rattle.std.proofs.Common.{Some, ◌≡◌, ◌∙◌, ◌<◌, ◌≤◌, ◌+◌, ◌-◌, ◌*◌, ◌%◌, ◌^◌, ℕ, zero, suc, List, [], ◌∷◌, ◌++◌, map, take, drop, length, replicate, get_or, true, false, refl, sym, ap, ap₂, arith, length-append, Bool, None, Option, Ok, ℤ, pos, option_map, nat_lt, ◌==◌, ◌&&◌, if◌then◌else◌, Fits, w32, rules}
use lib.Lanes.{Each2, Steps, fold_l, sel_l, top, zip2}
use lib.Dec.{leb}
use mathlib.Core.Bool.{cond}
use mir.Val.{bool_byte}
use Rattle.std.proofs.lemmas.Bool.Decides.{nat_tests}
use Rattle.std.proofs.lemmas.List.{drop-drop, drop-take, length-map, take-append-drop, take-take}
use Rattle.std.proofs.lemmas.List.Folds.{list_all-append}
use Rattle.std.proofs.lemmas.Nat.{pow-add}
use Rattle.std.proofs.lemmas.Simd.{sum_fits}
use Rattle.std.specs.List.{list_all}
use Rattle.data_types.specs.Numbers.{is_digit, negative, place_value, range_of, ranged, spelled_number, unsigned_number, whole_of}
use Rattle.data_types.specs.declared.kind.FieldKind.{FieldKind}
use Rattle.data_types.specs.declared.kind.FieldKind.TheVariants.{Int, Long, Text}
use Rattle.values.specs.Reading.{number_value, value_of}
use Rattle.values.specs.declared.value.Value.TheVariants.{Whole}
use Rattle.table_schema.specs.declared.field.Field.{Field}
use Rattle.csv_row.specs.Columns.{is_text_kind}
use Rattle.csv_row.specs.Row.{cell_value, value_in}
use Rattle.csv_row.proofs.CellLemmas.{number_ok}
use Rattle.csv_ingest.proofs.MarkedLines.{and-left}
use Rattle.std.proofs.Math.Seq.{drop-cons}

-- what each of eight places counts
abbrev pub weights : List ℕ
weights = 10000000 ∷ 1000000 ∷ 100000 ∷ 10000 ∷ 1000 ∷ 100 ∷ 10 ∷ 1 ∷ []

-- a list of eight has its members at their places
pub eight : (xs : List ℕ) → length xs ≡ 8 → xs ≡ get_or xs 0 0 ∷ get_or xs 1 0 ∷ get_or xs 2 0 ∷ get_or xs 3 0 ∷ get_or xs 4 0 ∷ get_or xs 5 0 ∷ get_or xs 6 0 ∷ get_or xs 7 0 ∷ []
eight [] e = absurd (omega (arith, e))
eight (a ∷ []) e = absurd (omega (arith, e))
eight (a ∷ b ∷ []) e = absurd (omega (arith, e))
eight (a ∷ b ∷ c ∷ []) e = absurd (omega (arith, e))
eight (a ∷ b ∷ c ∷ d ∷ []) e = absurd (omega (arith, e))
eight (a ∷ b ∷ c ∷ d ∷ f ∷ []) e = absurd (omega (arith, e))
eight (a ∷ b ∷ c ∷ d ∷ f ∷ g ∷ []) e = absurd (omega (arith, e))
eight (a ∷ b ∷ c ∷ d ∷ f ∷ g ∷ h ∷ []) e = absurd (omega (arith, e))
eight (a ∷ b ∷ c ∷ d ∷ f ∷ g ∷ h ∷ i ∷ []) e = refl
eight (a ∷ b ∷ c ∷ d ∷ f ∷ g ∷ h ∷ i ∷ j ∷ rest) e = absurd (omega (arith, e))

-- what digits count, without their bytes
abbrev counted : List ℕ → ℕ
counted [] = 0
counted (d ∷ ds) = d * 10 ^ length ds + counted ds

counted-is : (ds : List ℕ) → counted ds ≡ place_value (map (λ (digit : ℕ). digit + 48) ds)
counted-is [] = refl
counted-is (d ∷ ds) = ap₂ (λ (a b : ℕ). a + b) (ap₂ (λ (x n : ℕ). x * 10 ^ n) (d-is d) (sym (length-map ds (λ (digit : ℕ). digit + 48)))) (counted-is ds)
  where
    d-is : (x : ℕ) → x ≡ x + 48 - 48
    d-is x = omega arith

products-counted : (a b c d f g h i : ℕ) → fold_l (λ s x. s + x) 0 (zip2 (λ x y. x * y) (a ∷ b ∷ c ∷ d ∷ f ∷ g ∷ h ∷ i ∷ []) weights) ≡ counted (a ∷ b ∷ c ∷ d ∷ f ∷ g ∷ h ∷ i ∷ [])
products-counted a b c d f g h i = omega arith

pub products-sum : (a b c d f g h i : ℕ) → fold_l (λ s x. s + x) 0 (zip2 (λ x y. x * y) (a ∷ b ∷ c ∷ d ∷ f ∷ g ∷ h ∷ i ∷ []) weights) ≡ place_value (map (λ (digit : ℕ). digit + 48) (a ∷ b ∷ c ∷ d ∷ f ∷ g ∷ h ∷ i ∷ []))
products-sum a b c d f g h i = products-counted a b c d f g h i ∙ counted-is (a ∷ b ∷ c ∷ d ∷ f ∷ g ∷ h ∷ i ∷ [])

abbrev pub listed : List ℕ → List ℕ
listed xs = get_or xs 0 0 ∷ get_or xs 1 0 ∷ get_or xs 2 0 ∷ get_or xs 3 0 ∷ get_or xs 4 0 ∷ get_or xs 5 0 ∷ get_or xs 6 0 ∷ get_or xs 7 0 ∷ []

pub products-fit : (xs : List ℕ) → ((k : ℕ) → k < 8 → get_or xs k 0 ≤ 9) → Each2 (λ x y. Fits w32 (x * y)) (listed xs) weights
products-fit xs each =
    (record { fits = omega (arith, each 0 (omega arith)) }, (record { fits = omega (arith, each 1 (omega arith)) }, (record { fits = omega (arith, each 2 (omega arith)) }, (record { fits = omega (arith, each 3 (omega arith)) }, (record { fits = omega (arith, each 4 (omega arith)) }, (record { fits = omega (arith, each 5 (omega arith)) }, (record { fits = omega (arith, each 6 (omega arith)) }, (record { fits = omega (arith, each 7 (omega arith)) }, search rules))))))))

pub sums-fit : (xs : List ℕ) → ((k : ℕ) → k < 8 → get_or xs k 0 ≤ 9) → Steps (λ s x. Fits w32 (s + x)) (λ s x. s + x) 0 (zip2 (λ x y. x * y) (listed xs) weights)
sums-fit xs each = sum_fits w32 0 (zip2 (λ x y. x * y) (listed xs) weights) (omega (arith, each 0 (omega arith), each 1 (omega arith), each 2 (omega arith), each 3 (omega arith), each 4 (omega arith), each 5 (omega arith), each 6 (omega arith), each 7 (omega arith)))

pub sums-small : (xs : List ℕ) → ((k : ℕ) → k < 8 → get_or xs k 0 ≤ 9) → fold_l (λ s x. s + x) 0 (zip2 (λ x y. x * y) (listed xs) weights) < 10 ^ 8
sums-small xs each = omega (arith, each 0 (omega arith), each 1 (omega arith), each 2 (omega arith), each 3 (omega arith), each 4 (omega arith), each 5 (omega arith), each 6 (omega arith), each 7 (omega arith))

-- a byte less that of `0`
abbrev pub less-zero : ℕ → ℕ
less-zero byte = (byte + 208) % 256

-- the lanes of eight bytes from this one on, after zeros
pub laid : (m : ℕ) → m ≤ 8 → (a b c d f g h i : ℕ) → sel_l (top 7 (cond (leb m 0) 255 0) ∷ top 7 (cond (leb m 1) 255 0) ∷ top 7 (cond (leb m 2) 255 0) ∷ top 7 (cond (leb m 3) 255 0) ∷ top 7 (cond (leb m 4) 255 0) ∷ top 7 (cond (leb m 5) 255 0) ∷ top 7 (cond (leb m 6) 255 0) ∷ top 7 (cond (leb m 7) 255 0) ∷ [])
    (map less-zero (a ∷ b ∷ c ∷ d ∷ f ∷ g ∷ h ∷ i ∷ [])) (replicate 8 0) ≡ replicate m 0 ++ map less-zero (drop m (a ∷ b ∷ c ∷ d ∷ f ∷ g ∷ h ∷ i ∷ []))
laid zero le a b c d f g h i = refl
laid (suc zero) le a b c d f g h i = refl
laid (suc (suc zero)) le a b c d f g h i = refl
laid (suc (suc (suc zero))) le a b c d f g h i = refl
laid (suc (suc (suc (suc zero)))) le a b c d f g h i = refl
laid (suc (suc (suc (suc (suc zero))))) le a b c d f g h i = refl
laid (suc (suc (suc (suc (suc (suc zero)))))) le a b c d f g h i = refl
laid (suc (suc (suc (suc (suc (suc (suc zero))))))) le a b c d f g h i = refl
laid (suc (suc (suc (suc (suc (suc (suc (suc zero)))))))) le a b c d f g h i = refl
laid (suc (suc (suc (suc (suc (suc (suc (suc (suc n))))))))) le a b c d f g h i = absurd (omega (arith, le))

-- the last bytes before a place are the last of the eight before it
pub last-bytes : (text : List ℕ) (end len : ℕ) → len ≤ 8 → 8 ≤ end → drop (8 - len) (take 8 (drop (end - 8) text)) ≡ take len (drop (end - len) text)
last-bytes text end len le some =
    ap (λ n. drop (8 - len) (take n (drop (end - 8) text))) (both len le)
    ∙ drop-take (8 - len) len (drop (end - 8) text)
    ∙ ap (take len) (drop-drop (8 - len) (end - 8) text ∙ ap (λ n. drop n text) (here end len le some))
  where
    both : (len : ℕ) → len ≤ 8 → 8 ≡ 8 - len + len
    both len le = omega (arith, le)

    here : (end len : ℕ) → len ≤ 8 → 8 ≤ end → end - 8 + (8 - len) ≡ end - len
    here end len le some = omega (arith, le, some)

-- a byte that is a digit's where it counts at most 9
one-digit : (byte : ℕ) → byte < 256 → less-zero byte ≤ 9 → (48 ≤ byte) × (byte ≤ 57)
one-digit byte small digit = (omega (arith, small, digit), omega (arith, small, digit))

is-digit : (byte : ℕ) → 48 ≤ byte → byte ≤ 57 → is_digit byte ≡ true
is-digit byte low high = grind (arith, nat_tests)

again : (byte : ℕ) → byte < 256 → less-zero byte ≤ 9 → less-zero byte + 48 ≡ byte
again byte small digit = omega (arith, small, digit)

-- so are all bytes of a cell that counts so
all-digits : (cell : List ℕ) → ((k : ℕ) → k < length cell → (get_or cell k 0 < 256) × (less-zero (get_or cell k 0) ≤ 9)) → list_all is_digit cell ≡ true
all-digits [] each = refl
all-digits (byte ∷ cell) each =
    let low = one-digit byte (each 0 (omega arith)).0 (each 0 (omega arith)).1 in
    rw (is-digit byte low.0 low.1) (all-digits cell (λ k lt. each (suc k) (omega (arith, lt))))

same-value : (cell : List ℕ) → ((k : ℕ) → k < length cell → (get_or cell k 0 < 256) × (less-zero (get_or cell k 0) ≤ 9)) → map (λ (digit : ℕ). digit + 48) (map less-zero cell) ≡ cell
same-value [] each = refl
same-value (byte ∷ cell) each =
    ap₂ (λ (b : ℕ) (bytes : List ℕ). b ∷ bytes) (again byte (each 0 (omega arith)).0 (each 0 (omega arith)).1) (same-value cell (λ k lt. each (suc k) (omega (arith, lt))))

-- zeros before digits count nothing
after-zeros : (m : ℕ) (digits : List ℕ) → place_value (map (λ (digit : ℕ). digit + 48) (replicate m 0 ++ digits)) ≡ place_value (map (λ (digit : ℕ). digit + 48) digits)
after-zeros zero digits = refl
after-zeros (suc m) digits = omega (arith, after-zeros m digits)

-- a cell spells what its digits count
pub spells : (m : ℕ) (cell : List ℕ) → 0 < length cell → ((k : ℕ) → k < length cell → (get_or cell k 0 < 256) × (less-zero (get_or cell k 0) ≤ 9)) → unsigned_number cell ≡ Some (place_value (map (λ (digit : ℕ). digit + 48) (replicate m 0 ++ map less-zero cell)))
spells m [] some each = absurd (omega (arith, some))
spells m (byte ∷ cell) some each =
    rw (all-digits (byte ∷ cell) each) (ap Some (sym (after-zeros m (map less-zero (byte ∷ cell)) ∙ ap place_value (same-value (byte ∷ cell) each))))

-- each of its bytes is one of the lanes
pub in-lanes : (m : ℕ) (cell : List ℕ) → ((k d : ℕ) → k < length (replicate m 0 ++ map less-zero cell) → get_or (replicate m 0 ++ map less-zero cell) k d ≤ 9) → (k : ℕ) → k < length cell → less-zero (get_or cell k 0) ≤ 9
in-lanes zero [] each k lt = absurd (omega (arith, lt))
in-lanes zero (byte ∷ cell) each zero lt = each 0 0 (omega arith)
in-lanes zero (byte ∷ cell) each (suc k) lt = in-lanes zero cell (λ i d le. each (suc i) d (omega (arith, le))) k (omega (arith, lt))
in-lanes (suc m) cell each k lt = in-lanes m cell (λ i d le. each (suc i) d (omega (arith, le))) k lt

-- ---- a text of two parts

-- what follows of a number that a text spells
spelled-so : (b : Bool) (v n : ℕ) → (if b then Some v else None) ≡ Some n → (b ≡ true) × (v ≡ n)
spelled-so true v n e = (refl, cc)
spelled-so false v n e = absurd cc

place-append : (xs ys : List ℕ) → place_value (xs ++ ys) ≡ place_value xs * 10 ^ length ys + place_value ys
place-append [] ys = omega arith
place-append (x ∷ xs) ys =
    ap₂ (λ (p v : ℕ). (x - 48) * p + v) (ap (λ n. 10 ^ n) (length-append xs ys) ∙ pow-add 10 (length xs) (length ys)) (place-append xs ys)
    ∙ spread (x - 48) (10 ^ length xs) (10 ^ length ys) (place_value xs) (place_value ys)
  where
    spread : (d p q v w : ℕ) → d * (p * q) + (v * q + w) ≡ (d * p + v) * q + w
    spread d p q v w = grind arith

-- the number that two parts spell, of which the second has eight digits
pub two-parts : (xs ys : List ℕ) (m n : ℕ) → length ys ≡ 8 → unsigned_number xs ≡ Some m → unsigned_number ys ≡ Some n → unsigned_number (xs ++ ys) ≡ Some (m * 100000000 + n)
two-parts [] ys m n long first second = absurd cc
two-parts (x ∷ xs) [] m n long first second = absurd cc
two-parts (x ∷ xs) (y ∷ ys) m n long first second =
    let a = spelled-so (list_all is_digit (x ∷ xs)) (place_value (x ∷ xs)) m first in
    let b = spelled-so (list_all is_digit (y ∷ ys)) (place_value (y ∷ ys)) n second in
    let all : list_all is_digit (x ∷ xs ++ y ∷ ys) ≡ true = list_all-append is_digit (x ∷ xs) (y ∷ ys) ∙ ap₂ (λ (p q : Bool). p && q) a.0 b.0 in
    rw all (ap Some (place-append (x ∷ xs) (y ∷ ys) ∙ ap₂ (λ (v w : ℕ). v + w) (ap₂ (λ (v : ℕ) (k : ℕ). v * 10 ^ k) a.1 long) b.1))

-- the bytes between two places are those up to a place and those after it
pub in-two : (text : List ℕ) (start mid end : ℕ) → start ≤ mid → mid ≤ end → end ≤ length text → take (end - start) (drop start text) ≡ take (mid - start) (drop start text) ++ take (end - mid) (drop mid text)
in-two text start mid end first second within =
    let rest : List ℕ = drop start text in
    let m : ℕ = mid - start in
    let n : ℕ = end - mid in
    let both : end - start ≡ m + n = omega (arith, first, second) in
    ap (λ k. take k rest) both
    ∙ sym (take-append-drop m (take (m + n) rest))
    ∙ ap₂ (λ (xs ys : List ℕ). xs ++ ys) (take-less m n rest) (drop-take m n rest ∙ ap (take n) (drop-drop m start text ∙ ap (λ k. drop k text) (place start mid first)))
  where
    place : (start mid : ℕ) → start ≤ mid → start + (mid - start) ≡ mid
    place start mid first = omega (arith, first)

    take-less : (m n : ℕ) (xs : List ℕ) → take m (take (m + n) xs) ≡ take m xs
    take-less m n xs = take-take m (m + n) xs (omega arith)

-- ---- a sign

ranged-plus : (kind : FieldKind) (n : ℕ) → n < range_of kind → ranged kind (Some (pos n)) ≡ Ok (pos n)
ranged-plus kind n lt =
    let test : nat_lt n (range_of kind) ≡ true = grind (arith, nat_tests) in
    rw test refl

ranged-minus : (kind : FieldKind) (n : ℕ) → n < range_of kind → ranged kind (Some (negative n)) ≡ Ok (negative n)
ranged-minus kind zero lt = ranged-plus kind zero lt
ranged-minus kind (suc n) lt =
    let test : nat_lt n (range_of kind) ≡ true = grind (arith, nat_tests) in
    rw test refl

-- a text that is made of digits has no sign
no-sign : (byte : ℕ) → is_digit byte ≡ true → ((byte == 43) ≡ false) × ((byte == 45) ≡ false)
no-sign byte one = (grind (arith, nat_tests), grind (arith, nat_tests))

pub whole-plus : (kind : FieldKind) (cell : List ℕ) (n : ℕ) → unsigned_number cell ≡ Some n → n < range_of kind → whole_of kind cell ≡ Ok (pos n)
whole-plus kind [] n e is = absurd cc
whole-plus kind (byte ∷ cell) n e is =
    let all = (spelled-so (list_all is_digit (byte ∷ cell)) (place_value (byte ∷ cell)) n e).0 in
    let none = no-sign byte (and-left (is_digit byte) (list_all is_digit cell) all) in
    let spelled : spelled_number (byte ∷ cell) ≡ Some (pos n) = rw (none.1, none.0) (ap (option_map pos) e) in
    ap (ranged kind) spelled ∙ ranged-plus kind n is

pub whole-minus : (kind : FieldKind) (cell : List ℕ) (n : ℕ) → unsigned_number cell ≡ Some n → n < range_of kind → whole_of kind (45 ∷ cell) ≡ Ok (negative n)
whole-minus kind cell n e is =
    ap (λ (o : Option ℕ). ranged kind (option_map negative o)) e ∙ ranged-minus kind n is

-- the bytes after a sign
pub after-sign : (text : List ℕ) (start end : ℕ) → start < end → end ≤ length text → get_or text start 0 ≡ 45 → take (end - start) (drop start text) ≡ 45 ∷ take (end - (start + 1)) (drop (start + 1) text)
after-sign text start end some within sign =
    ap₂ (λ (n : ℕ) (xs : List ℕ). take n xs) (both start end some) (drop-cons text start 0 (omega (arith, some, within)) ∙ ap₂ (λ (b k : ℕ). b ∷ drop k text) sign (one start))
  where
    both : (start end : ℕ) → start < end → end - start ≡ suc (end - (start + 1))
    both start end some = omega (arith, some)

    one : (start : ℕ) → suc start ≡ start + 1
    one start = omega arith

-- the number of a kind that the bytes between two places spell, with a sign or none
pub whole-signed : (kind : FieldKind) (text : List ℕ) (start end : ℕ) (minus : Bool) (n : ℕ) (z : ℤ) → end ≤ length text
    → (minus ≡ true → (start < end) × (get_or text start 0 ≡ 45))
    → unsigned_number (take (end - (start + bool_byte minus)) (drop (start + bool_byte minus) text)) ≡ Some n
    → n < range_of kind → (minus ≡ false → z ≡ pos n) → (minus ≡ true → z ≡ negative n)
    → whole_of kind (take (end - start) (drop start text)) ≡ Ok z
whole-signed kind text start end true n z within is spells fits plus minus =
    let sign = is refl in
    ap (whole_of kind) (after-sign text start end sign.0 within sign.1)
    ∙ whole-minus kind (take (end - (start + 1)) (drop (start + 1) text)) n spells fits
    ∙ ap Ok (sym (minus refl))
whole-signed kind text start end false n z within is spells fits plus minus =
    whole-plus kind (take (end - start) (drop start text)) n (ap (λ k. unsigned_number (take (end - k) (drop k text))) (no-more start) ∙ spells) fits
    ∙ ap Ok (sym (plus refl))
  where
    no-more : (k : ℕ) → k ≡ k + 0
    no-more k = omega arith

-- such a number is the value of a field of numbers
pub number-value : (field : Field) (cell : List ℕ) → (field.kind ≡ Text → ⊥) → (n : ℤ) → whole_of field.kind cell ≡ Ok n → (is_text_kind field.kind ≡ false) × (cell_value field cell ≡ Ok (Whole n))
number-value field cell not_text n is = by field.kind refl
  where
    value-of : (kind : FieldKind) → value_of kind cell ≡ number_value (whole_of kind cell) → field.kind ≡ kind → (bytes : List ℕ) → cell ≡ bytes → cell_value field cell ≡ Ok (Whole n)
    value-of kind as_number same [] none = let no : whole_of field.kind [] ≡ Ok n = ap (whole_of field.kind) (sym none) ∙ is in absurd cc
    value-of kind as_number same (byte ∷ bytes) some =
        ap (cell_value field) some
        ∙ ap (value_in field.kind) (sym some)
        ∙ ap (λ k. value_in k cell) same
        ∙ number_ok kind cell n as_number (ap (λ k. whole_of k cell) (sym same) ∙ is)

    by : (kind : FieldKind) → field.kind ≡ kind → (is_text_kind field.kind ≡ false) × (cell_value field cell ≡ Ok (Whole n))
    by Int same = (ap is_text_kind same, value-of Int refl same cell refl)
    by Long same = (ap is_text_kind same, value-of Long refl same cell refl)
    by Text same = absurd (not_text same)
