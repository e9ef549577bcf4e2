-- Cells of plain lines are numbers.
use Rattle.std.proofs.Common.{◌≡◌, ◌∙◌, ◌<◌, ◌≤◌, ◌+◌, ◌-◌, ◌*◌, ◌^◌, ◌++◌, ◌&&◌, ◌==◌, ◌⊎◌, inl, inr, ℕ, zero, suc, ℤ, List, [], ◌∷◌, length, take, drop, get_or, Bool, true, false, nat_lt, Some, Ok, refl, sym, ap, subst, arith, add-one}
use Rattle.std.proofs.Math.Nat.{mul-le-mul_right, pow-le-pow_right, pow-suc}
use Rattle.std.proofs.Math.Seq.{drop-cons}
use Rattle.std.proofs.lemmas.Bool.Decides.{nat_tests}
use Rattle.std.proofs.lemmas.List.{get_or-drop, length-drop, length-take, take_more}
use Rattle.std.specs.List.{list_all}
use Rattle.data_types.specs.Numbers.{is_digit, negative, place_value, unsigned_number, whole_of}
use Rattle.data_types.specs.declared.kind.FieldKind.TheVariants.{Long}
use Rattle.csv_ingest.specs.Lines.{EndsCell}
use Rattle.csv_ingest.specs.Parts.{AreMarks, IsLineAt, IsPart, cell_at, mark_at}
use Rattle.csv_ingest.specs.Places.{is_separator}
use Rattle.csv_ingest.specs.Plain.{ArePlain, HasPlainCells, is_plain}
use Rattle.csv_ingest.specs.declared.parts.Part.{Part}
use Rattle.csv_ingest.proofs.DigitLemmas.{whole-minus, whole-plus}
use Rattle.csv_ingest.proofs.MarkedLines.{and-left, cell-is, other}
use Rattle.csv_ingest.proofs.PartRows.{last-within, line-more, step-wide}

-- ---- few digits

and-right : (a b : Bool) → a && b ≡ true → b ≡ true
and-right true b e = e
and-right false b e = absurd cc

small-digit : (byte : ℕ) → is_digit byte ≡ true → byte - 48 ≤ 9
small-digit byte one = grind (arith, nat_tests)

value-below : (cell : List ℕ) → list_all is_digit cell ≡ true → place_value cell < 10 ^ length cell
value-below [] all = omega arith
value-below (d ∷ ds) all =
    let one = small-digit d (and-left (is_digit d) (list_all is_digit ds) all) in
    let rest = value-below ds (and-right (is_digit d) (list_all is_digit ds) all) in
    let high : (d - 48) * 10 ^ length ds ≤ 9 * 10 ^ length ds = mul-le-mul_right (10 ^ length ds) one in
    let next = pow-suc 10 (length ds) in
    omega (arith, high, rest, next)

in-range : (cell : List ℕ) → list_all is_digit cell ≡ true → length cell ≤ 18 → place_value cell < 2 ^ 63
in-range cell all short =
    let v = value-below cell all in
    let p : 10 ^ length cell ≤ 10 ^ 18 = pow-le-pow_right (omega arith) short in
    omega (arith, v, p)

spelled : (cell : List ℕ) → 0 < length cell → list_all is_digit cell ≡ true → unsigned_number cell ≡ Some (place_value cell)
spelled [] some all = absurd (omega (arith, some))
spelled (d ∷ ds) some all = rw all refl

-- ---- the bytes of a cell

-- each byte may come after the one before it
abbrev Chain : ℕ → List ℕ → Type 0
Chain before [] = Unit {0}
Chain before (byte ∷ bytes) = (is_plain before byte ≡ true) × Chain byte bytes

digit-inside : (before byte : ℕ) → is_plain before byte ≡ true → nat_lt before 45 ≡ false → other is_separator byte ≡ true → is_digit byte ≡ true
digit-inside before byte plain inside one = grind (arith, nat_tests)

after-digit : (byte : ℕ) → is_digit byte ≡ true → nat_lt byte 45 ≡ false
after-digit byte one = grind (arith, nat_tests)

inside : (before : ℕ) (cell rest : List ℕ) → nat_lt before 45 ≡ false → Chain before (cell ++ rest) → list_all (other is_separator) cell ≡ true → list_all is_digit cell ≡ true
inside before [] rest in_cell chain none = refl
inside before (b ∷ bs) rest in_cell chain none =
    let one = digit-inside before b chain.0 in_cell (and-left (other is_separator b) (list_all (other is_separator) bs) none) in
    rw one (inside b bs rest (after-digit b one) chain.1 (and-right (other is_separator b) (list_all (other is_separator) bs) none))

-- digits with a `-` or none before them, or nothing
abbrev IsFew : List ℕ → Type 0
IsFew cell = (cell ≡ []) ⊎ ((0 < length cell) × (list_all is_digit cell ≡ true)) ⊎ ((digits : List ℕ) × (cell ≡ 45 ∷ digits) × (0 < length digits) × (list_all is_digit digits ≡ true))

first-byte : (before byte : ℕ) → is_plain before byte ≡ true → other is_separator byte ≡ true → (is_digit byte ≡ true) ⊎ (byte ≡ 45)
first-byte before byte plain one = by (is_digit byte) refl
  where
    by : (b : Bool) → is_digit byte ≡ b → (is_digit byte ≡ true) ⊎ (byte ≡ 45)
    by true e = inl e
    by false e = inr (grind (arith, nat_tests))

no-end : (last : ℕ) → EndsCell last → is_plain 45 last ≡ true → ⊥
no-end last (inl e) plain = let no : is_plain 45 44 ≡ true = ap (is_plain 45) (sym e) ∙ plain in absurd cc
no-end last (inr (inl e)) plain = let no : is_plain 45 10 ≡ true = ap (is_plain 45) (sym e) ∙ plain in absurd cc
no-end last (inr (inr e)) plain = let no : is_plain 45 13 ≡ true = ap (is_plain 45) (sym e) ∙ plain in absurd cc

few-bytes : (before : ℕ) (cell : List ℕ) (last : ℕ) (rest : List ℕ) → Chain before (cell ++ last ∷ rest) → EndsCell last → list_all (other is_separator) cell ≡ true → IsFew cell
few-bytes before [] last rest chain ends none = inl refl
few-bytes before (b ∷ bs) last rest chain ends none =
    by (first-byte before b chain.0 (and-left (other is_separator b) (list_all (other is_separator) bs) none))
  where
    none_after : list_all (other is_separator) bs ≡ true
    none_after = and-right (other is_separator b) (list_all (other is_separator) bs) none

    digits : nat_lt b 45 ≡ false → list_all is_digit bs ≡ true
    digits in_cell = inside b bs (last ∷ rest) in_cell chain.1 none_after

    some-digits : (ds : List ℕ) → Chain 45 (ds ++ last ∷ rest) → 0 < length ds
    some-digits [] c = absurd (no-end last ends c.0)
    some-digits (d ∷ ds) c = omega arith

    by : (is_digit b ≡ true) ⊎ (b ≡ 45) → IsFew (b ∷ bs)
    by (inl one) = inr (inl (omega arith, rw one (digits (after-digit b one))))
    by (inr minus) =
        let at_sign : nat_lt b 45 ≡ false = ap (λ k. nat_lt k 45) minus in
        inr (inr (bs, ap (λ k. k ∷ bs) minus, some-digits bs (subst (λ k. Chain k (bs ++ last ∷ rest)) minus chain.1), digits at_sign))

few-number : (cell : List ℕ) → IsFew cell → length cell ≤ 18 → (cell ≡ []) ⊎ ((n : ℤ) × (whole_of Long cell ≡ Ok n))
few-number cell (inl none) short = inl none
few-number cell (inr (inl (some, all))) short = inr (_, whole-plus Long cell (place_value cell) (spelled cell some all) (in-range cell all short))
few-number cell (inr (inr (digits, is, some, all))) short =
    let fewer : length digits ≤ 18 = omega (arith, short, ap length is) in
    inr (negative (place_value digits), ap (whole_of Long) is ∙ whole-minus Long digits (place_value digits) (spelled digits some all) (in-range digits all fewer))

-- ---- a cell of a text

-- the bytes from a place on, as far as they are plain
chain : (text : List ℕ) (end : ℕ) → ArePlain text end → (n at : ℕ) → at + n ≤ end → at + n < length text → Chain (get_or text at 0) (take n (drop (suc at) text))
chain text end plain zero at le within = tt
chain text end plain (suc n) at le within =
    rw (drop-cons text (suc at) 0 (omega (arith, within)))
    (plain at (omega (arith, le)), chain text end plain n (suc at) (omega (arith, le)) (omega (arith, within)))

-- places go up
up : (text marks : List ℕ) → AreMarks text marks → (i n : ℕ) → i + n < length marks → get_or marks i 0 ≤ get_or marks (i + n) 0
up text marks m i zero lt = let same : i ≡ i + 0 = omega arith in omega (arith, ap (λ k. get_or marks k 0) same)
up text marks m i (suc n) lt =
    let so_far = up text marks m i n (omega (arith, lt)) in
    let next = cell-is text marks m (i + n) (omega (arith, lt)) in
    let there : suc (i + n) ≡ i + suc n = omega arith in
    omega (arith, so_far, next.lt, ap (λ k. get_or marks k 0) there)

-- what ends a cell of a line
ends-cell : (text marks : List ℕ) (width step at k : ℕ) → IsLineAt text marks width step at → k < width → EndsCell (mark_at text marks (suc (at + k)))
ends-cell text marks width step at k l lt = by (suc k == width) refl
  where
    there : at + suc k ≡ suc (at + k)
    there = omega arith

    at-end : suc k ≡ width → EndsCell (mark_at text marks (at + width))
    at-end same = go l.ends
      where
        go : ((step ≡ width) × (mark_at text marks (at + width) ≡ 10))
            ⊎ ((step ≡ width + 1) × (mark_at text marks (at + width) ≡ 13) × (mark_at text marks (at + step) ≡ 10) × (get_or marks (at + step) 0 ≡ get_or marks (at + width) 0 + 1)) → EndsCell (mark_at text marks (at + width))
        go (inl (is, feed)) = inr (inl feed)
        go (inr (is, cr, feed, next)) = inr (inr cr)

    by : (b : Bool) → (suc k == width) ≡ b → EndsCell (mark_at text marks (suc (at + k)))
    by true e =
        let same : suc k ≡ width = grind (arith, nat_tests) in
        subst (λ j. EndsCell (mark_at text marks j)) (ap (λ w. at + w) (sym same) ∙ there) (at-end same)
    by false e =
        let less : suc k < width = grind (arith, nat_tests) in
        inl (ap (mark_at text marks) (sym there) ∙ l.commas (suc k) (omega arith) less)

-- the end of a line is not after the last
line-before : (rows r step k : ℕ) → r < rows → k < step → suc (r * step + k) ≤ rows * step
line-before rows r step k lt below =
    let d = rows - (r + 1) in
    let all : rows ≡ r + 1 + d = omega (arith, lt) in
    let both : rows * step ≡ (r + 1) * step + d * step = ap (λ q. q * step) all ∙ spread (r + 1) d step in
    omega (arith, both, line-more r step, below)
  where
    spread : (x d s : ℕ) → (x + d) * s ≡ x * s + d * s
    spread x d s = grind arith

-- a cell with the byte after it
ended : (text : List ℕ) (a b : ℕ) → suc a ≤ b → b < length text → take (suc (b - suc a)) (drop (suc a) text) ≡ take (b - suc a) (drop (suc a) text) ++ get_or text b 0 ∷ []
ended text a b le within =
    let k = b - suc a in
    let there : suc a + k ≡ b = omega (arith, le) in
    let long = length-drop (suc a) text in
    ap (λ n. take n (drop (suc a) text)) (sym (add-one k))
    ∙ take_more (drop (suc a) text) k 0 (omega (arith, long, le, within))
    ∙ ap (λ byte. take k (drop (suc a) text) ++ byte ∷ []) (get_or-drop (suc a) text k 0 ∙ ap (λ n. get_or text n 0) there)

cell-length : (text : List ℕ) (a b : ℕ) → length (take (b - suc a) (drop (suc a) text)) ≤ b - suc a
cell-length text a b = let long = length-take (b - suc a) (drop (suc a) text) in omega (arith, long)

-- the cells of plain lines are empty or numbers
pub plain-cell : (part : Part) → IsPart part → HasPlainCells part → (r k : ℕ) → r < part.rows → k < part.width
    → (cell_at part.text.now part.places.now (r * part.step + k) ≡ []) ⊎ ((n : ℤ) × (whole_of Long (cell_at part.text.now part.places.now (r * part.step + k)) ≡ Ok n))
plain-cell part is plain r k lt below =
    let text : List ℕ = part.text.now in
    let marks : List ℕ = part.places.now in
    let at = r * part.step in
    let i = at + k in
    let l = is.lines r lt in
    let wide = step-wide text marks part.width part.step at l in
    let c = cell-is text marks is.marks i (omega (arith, l.within, wide, below)) in
    let a = get_or marks i 0 in
    let b = get_or marks (suc i) 0 in
    let last : suc i ≤ part.last = omega (arith, is.last, line-before part.rows r part.step k lt (omega (arith, below, wide))) in
    let gap = part.last - suc i in
    let there : suc i + gap ≡ part.last = omega (arith, last) in
    let last_in : suc i + gap < length marks = omega (arith, there, last-within part is (omega (arith, lt))) in
    let high : b ≤ get_or marks part.last 0 = subst (λ j. b ≤ get_or marks j 0) there (up text marks is.marks (suc i) gap last_in) in
    let bytes = chain text (get_or marks part.last 0) plain.bytes (suc (b - suc a)) a (omega (arith, c.lt, high)) (omega (arith, c.lt, c.within)) in
    few-number (cell_at text marks i)
    (few-bytes (get_or text a 0) (cell_at text marks i) (mark_at text marks (suc i)) []
    (subst (Chain (get_or text a 0)) (ended text a b (omega (arith, c.lt)) c.within) bytes) (ends-cell text marks part.width part.step at k l below) c.plain)
    (omega (arith, cell-length text a b, plain.short i (omega (arith, last))))
