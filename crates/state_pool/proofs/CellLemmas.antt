-- Cells by number, after cells are written or added.
use Rattle.std.proofs.Common.{◌≡◌, ◌≢◌, ◌∙◌, ℕ, zero, suc, ◌+◌, ◌*◌, ◌-◌, ◌<◌, ◌≤◌, ◌⊎◌, inl, inr, List, [], ◌∷◌, ◌++◌, length, get_or, set, take, drop, replicate, Option, Some, None, refl, sym, ap, subst, arith, length-append, length-drop, append_assoc}
use Rattle.std.proofs.lemmas.Bool.{cases_lt}
use Rattle.std.proofs.lemmas.List.{take-append-le, drop-append-le, drop_at, take_at, drop-drop, length-set, length-map, get_or_append_left, get_or-set_same, get_or-set_other, take-append-drop, length-take-le, get_or_at, length-replicate}
use Rattle.std.proofs.lemmas.Nat.{mul-le}
use Rattle.std.proofs.lemmas.List.{drop_more, take_more, set_at, map-append, drop-set-add, drop-set-lt, take-set-le, length-take}
use native.Mathlib.Nat.{suc-mul}
use Rattle.agg_laws.specs.declared.aggregate_kind.AggKind.TheVariants as kind_names
use Rattle.agg_laws.specs.declared.aggregate_kind.AggKind.{AggKind}
use Rattle.agg_laws.specs.declared.states.AggState.{AggState}
use Rattle.agg_laws.specs.declared.states.AggState.TheVariants.{Count}
use Rattle.agg_laws.specs.States.{unit_of}
use Rattle.agg_laws.specs.Rows.{units_of}
use Rattle.state_pool.specs.Kept.{AreFree, TakesCells, TakesNumber}
use Rattle.state_pool.proofs.SlotLemmas.{past, none_some}

-- ---- parts of a list

-- a part that lies within the first of two lists
pub within : {X : Type 0} (xs ys : List X) (a m : ℕ) → a + m ≤ length xs → take m (drop a (xs ++ ys)) ≡ take m (drop a xs)
within xs ys a m le = ap (take m) (drop-append-le a xs ys (omega (arith, le))) ∙ take-append-le m (drop a xs) ys (omega (arith, le, length-drop a xs))

-- what is left from a place in the second of two lists on
beyond : {X : Type 0} (xs ys : List X) (n a : ℕ) → length xs ≡ n → n ≤ a → drop a (xs ++ ys) ≡ drop (a - n) ys
beyond xs ys n a len le = ap (λ k. drop k (xs ++ ys)) (let e : a ≡ n + (a - n) = omega (arith, le) in e)
    ∙ sym (drop-drop (a - n) n (xs ++ ys)) ∙ ap (drop (a - n)) (drop_at xs ys n len)

module _ {X : Type 0} (xs us : List X) (from k : ℕ) (len : length us ≡ k) (le : from + k ≤ length xs) where
  -- a list with a part written anew
  abbrev pub spliced : List X
  spliced = take from xs ++ (us ++ drop (from + k) xs)

  front : length (take from xs) ≡ from
  front = length-take-le from xs (omega (arith, le))

  pub length-spliced : length spliced ≡ length xs
  length-spliced = omega (arith, length-append (take from xs) (us ++ drop (from + k) xs), length-append us (drop (from + k) xs), front, len, length-drop (from + k) xs, le)

  pub part_written : take k (drop from spliced) ≡ us
  part_written = ap (take k) (drop_at (take from xs) (us ++ drop (from + k) xs) from front) ∙ take_at us (drop (from + k) xs) k len

  pub part_before : (a m : ℕ) → a + m ≤ from → take m (drop a spliced) ≡ take m (drop a xs)
  part_before a m lt = within (take from xs) (us ++ drop (from + k) xs) a m (omega (arith, lt, front))
      ∙ sym (within (take from xs) (drop from xs) a m (omega (arith, lt, front)))
      ∙ ap (λ l. take m (drop a l)) (take-append-drop from xs)

  pub part_after : (a m : ℕ) → from + k ≤ a → take m (drop a spliced) ≡ take m (drop a xs)
  part_after a m lt = ap (take m) (beyond (take from xs) (us ++ drop (from + k) xs) from a front (omega (arith, lt))
      ∙ beyond us (drop (from + k) xs) k (a - from) len (omega (arith, lt))
      ∙ drop-drop (a - from - k) (from + k) xs ∙ ap (λ j. drop j xs) (let e : from + k + (a - from - k) ≡ a = omega (arith, lt) in e))

-- ---- units written one by one

written : {X : Type 0} (xs us rest : List X) (from i : ℕ) (y u : X) → length us ≡ i → from ≤ length xs
    → set (take from xs ++ (us ++ y ∷ rest)) (from + i) u ≡ take from xs ++ ((us ++ u ∷ []) ++ rest)
written xs us rest from i y u len le =
    ap (λ l. set l (from + i) u) (sym (append_assoc (take from xs) us (y ∷ rest)))
    ∙ set_at (take from xs ++ us) y rest u (from + i) (omega (arith, length-append (take from xs) us, length-take-le from xs le, len))
    ∙ append_assoc (take from xs) us (u ∷ rest) ∙ ap (λ l. take from xs ++ l) (sym (append_assoc us (u ∷ []) rest))

units_next : (ks : List AggKind) (i : ℕ) (u : AggState) → i < length ks → u ≡ unit_of (get_or ks i kind_names.Count)
    → units_of (take i ks) ++ u ∷ [] ≡ units_of (take (i + 1) ks)
units_next ks i u lt is = ap (λ u. units_of (take i ks) ++ u ∷ []) is
    ∙ sym (map-append unit_of (take i ks) (get_or ks i kind_names.Count ∷ [])) ∙ ap units_of (sym (take_more ks i kind_names.Count lt))

pub units_more : (xs cells : List AggState) (ks : List AggKind) (from i : ℕ) (u : AggState) → from + length ks ≤ length xs → i < length ks
    → u ≡ unit_of (get_or ks i kind_names.Count) → cells ≡ take from xs ++ (units_of (take i ks) ++ drop (from + i) xs)
    → set cells (from + i) u ≡ take from xs ++ (units_of (take (i + 1) ks) ++ drop (from + (i + 1)) xs)
units_more xs cells ks from i u fits lt is so =
    ap (λ l. set l (from + i) u) (so ∙ ap (λ l. take from xs ++ (units_of (take i ks) ++ l)) (drop_more xs (from + i) u (omega (arith, fits, lt))))
    ∙ written xs (units_of (take i ks)) (drop (from + i + 1) xs) from i (get_or xs (from + i) u) u (length-map (take i ks) unit_of ∙ length-take-le i ks (omega (arith, lt))) (omega (arith, fits))
    ∙ (λ j. take from xs ++ (units_next ks i u lt is j ++ drop ((let e : from + i + 1 ≡ from + (i + 1) = omega arith in e) j) xs))

-- ---- rows of cells

pub row_before : (q n w m : ℕ) → q < n → m ≤ w → q * w + m ≤ n * w
row_before q n w m lt le =
    let next : suc q ≤ n = omega (arith, lt) in
    let same : w ≤ w = omega arith in
    let whole : suc q * w ≤ n * w = mul-le (suc q) w n w next same in
    let one : suc q * w ≡ q * w + w = suc-mul q w in
    omega (arith, one, whole, le)

pub row_after : (q n w k : ℕ) → n < q → k ≤ w → n * w + k ≤ q * w
row_after q n w k lt le = row_before n q w k lt le

length-units : (ks : List AggKind) → length (units_of ks) ≡ length ks
length-units ks = length-map ks unit_of

-- a place that holds a number is one of the list
pub in_range : {X : Type 0} (xs : List (Option X)) (q : ℕ) (x : X) → get_or xs q None ≡ Some x → q < length xs
in_range [] q x e = absurd (none_some e)
in_range (y ∷ xs) zero x e = omega arith
in_range (y ∷ xs) (suc q) x e = let lt = in_range xs q x e in omega (arith, lt)

pub other_row : (q n : ℕ) → q ≢ n → (q < n) ⊎ (n < q)
other_row q n ne = by (cases_lt q n)
  where
    by : (q < n) ⊎ (n ≤ q) → (q < n) ⊎ (n < q)
    by (inl lt) = inl lt
    by (inr le) = inr (omega (arith, le, ne))

-- ---- one cell set

take_set : {X : Type 0} (k : ℕ) (xs : List X) (i : ℕ) (x : X) → take k (set xs i x) ≡ set (take k xs) i x
take_set zero xs i x = refl
take_set (suc k) [] i x = refl
take_set (suc k) (y ∷ xs) zero x = refl
take_set (suc k) (y ∷ xs) (suc i) x = ap (λ l. y ∷ l) (take_set k xs i x)

-- the part that has the cell
pub part_of_set : {X : Type 0} (cells : List X) (from k at : ℕ) (x : X) → take k (drop from (set cells (from + at) x)) ≡ set (take k (drop from cells)) at x
part_of_set cells from k at x = ap (take k) (drop-set-add from cells at x) ∙ take_set k (drop from cells) at x

pub part_long : {X : Type 0} (cells : List X) (from k at : ℕ) → at < k → from + at < length cells → at < length (take k (drop from cells))
part_long cells from k at lt in' = omega (arith, lt, in', length-take k (drop from cells), length-drop from cells)

-- parts of other rows
pub rows_of_set : {X : Type 0} (cells : List X) (n q w at m : ℕ) (x : X) → q ≢ n → at < w → m ≤ w
    → take m (drop (q * w) (set cells (n * w + at) x)) ≡ take m (drop (q * w) cells)
rows_of_set cells n q w at m x ne lt le = by (other_row q n ne)
  where
    by : (q < n) ⊎ (n < q) → take m (drop (q * w) (set cells (n * w + at) x)) ≡ take m (drop (q * w) cells)
    by (inl less) = let past : q * w + m ≤ n * w + at = omega (arith, row_before q n w m less le) in
        let place : n * w + at ≡ q * w + (n * w + at - q * w) = omega (arith, past) in
        ap (λ p. take m (drop (q * w) (set cells p x))) place ∙ ap (take m) (drop-set-add (q * w) cells (n * w + at - q * w) x)
        ∙ take-set-le m (drop (q * w) cells) (n * w + at - q * w) x (omega (arith, past))
    by (inr more) = ap (take m) (drop-set-lt (q * w) cells (n * w + at) x (omega (arith, row_after q n w (at + 1) more (omega (arith, lt)))))

-- the number of a slot that nobody holds
pub taken_again : (owner width : ℕ) (kinds : List AggKind) (number : ℕ) (holders : List (Option ℕ)) (cells : List AggState)
    → length kinds ≤ width → length cells ≡ length holders * width → number < length holders → get_or holders number None ≡ None
    → TakesCells owner width kinds number holders (set holders number (Some owner)) cells
    (take (number * width) cells ++ (units_of kinds ++ drop (number * width + length kinds) cells))
taken_again owner width kinds number holders cells few len lt none =
    let fits : number * width + length kinds ≤ length cells = omega (arith, row_before number (length holders) width (length kinds) lt few, len) in
    record {
      unheld = none;
      own = get_or-set_same holders number (Some owner) None lt;
      others = λ q ne. get_or-set_other holders number q (Some owner) None ne;
      units = part_written cells (units_of kinds) (number * width) (length kinds) (length-units kinds) fits;
      rows = λ q m ne lt le. by fits q m le (other_row q number ne);
      all_cells = length-spliced cells (units_of kinds) (number * width) (length kinds) (length-units kinds) fits ∙ len ∙ ap (λ n. n * width) (sym (length-set holders number (Some owner)));
    }
  where
    by : number * width + length kinds ≤ length cells → (q m : ℕ) → m ≤ width → (q < number) ⊎ (number < q)
        → take m (drop (q * width) (take (number * width) cells ++ (units_of kinds ++ drop (number * width + length kinds) cells))) ≡ take m (drop (q * width) cells)
    by fits q m le (inl lt) = part_before cells (units_of kinds) (number * width) (length kinds) (length-units kinds) fits (q * width) m (row_before q number width m lt le)
    by fits q m le (inr lt) = part_after cells (units_of kinds) (number * width) (length kinds) (length-units kinds) fits (q * width) m (row_after q number width (length kinds) lt few)

-- and a number that is new
taken_whole : (owner width : ℕ) (kinds : List AggKind) (holders : List (Option ℕ)) (cells : List AggState)
    → length kinds ≤ width → length cells ≡ length holders * width
    → TakesCells owner width kinds (length holders) holders (holders ++ Some owner ∷ []) cells
    (cells ++ (units_of kinds ++ replicate (width - length kinds) (Count 0)))
taken_whole owner width kinds holders cells few len =
    let more = units_of kinds ++ replicate (width - length kinds) (Count 0) in
    record {
      unheld = past holders (length holders) (omega arith);
      own = get_or_at holders (Some owner) [] None (length holders) refl;
      others = λ q ne. by q (other_row q (length holders) ne);
      units = ap (take (length kinds)) (drop_at cells more (length holders * width) len) ∙ take_at (units_of kinds) (replicate (width - length kinds) (Count 0)) (length kinds) (length-units kinds);
      rows = λ q m ne lt le. within cells more (q * width) m (omega (arith, row_before q (length holders) width m lt le, len));
      all_cells = all_cells;
    }
  where
    by : (q : ℕ) → (q < length holders) ⊎ (length holders < q) → get_or (holders ++ Some owner ∷ []) q None ≡ get_or holders q None
    by q (inl lt) = get_or_append_left holders (Some owner ∷ []) None q lt
    by q (inr lt) = past (holders ++ Some owner ∷ []) q (omega (arith, lt, length-append holders (Some owner ∷ []))) ∙ sym (past holders q (omega (arith, lt)))

    all_cells : length (cells ++ (units_of kinds ++ replicate (width - length kinds) (Count 0))) ≡ length (holders ++ Some owner ∷ []) * width
    all_cells = let one : length (holders ++ Some owner ∷ []) ≡ suc (length holders) = omega (arith, length-append holders (Some owner ∷ [])) in
        let sum : length (cells ++ (units_of kinds ++ replicate (width - length kinds) (Count 0))) ≡ length holders * width + width
        = omega (arith, length-append cells (units_of kinds ++ replicate (width - length kinds) (Count 0)), length-append (units_of kinds) (replicate (width - length kinds) (Count 0)), length-units kinds, length-replicate (width - length kinds) (Count 0), few, len) in
        sum ∙ sym (suc-mul (length holders) width) ∙ ap (λ n. n * width) (sym one)

pub taken_new : (owner width : ℕ) (kinds : List AggKind) (holders : List (Option ℕ)) (cells : List AggState)
    → length kinds ≤ width → length cells ≡ length holders * width
    → TakesCells owner width kinds (length holders) holders (holders ++ Some owner ∷ []) cells
    ((cells ++ units_of kinds) ++ replicate (width - length kinds) (Count 0))
taken_new owner width kinds holders cells few len = subst (TakesCells owner width kinds (length holders) holders (holders ++ Some owner ∷ []) cells)
    (sym (append_assoc cells (units_of kinds) (replicate (width - length kinds) (Count 0)))) (taken_whole owner width kinds holders cells few len)

-- ---- numbers that are free

pub none_free : (holders : List (Option ℕ)) (free : List ℕ) → length free ≡ 0 → AreFree holders free
none_free holders free none = record {
  there = λ k lt. absurd (omega (arith, lt, none));
  unheld = λ k lt. absurd (omega (arith, lt, none));
  apart = λ j k lt less. absurd (omega (arith, less, none));
}

module _ (holders : List (Option ℕ)) (rest : List ℕ) (number : ℕ) (free : AreFree holders (rest ++ number ∷ [])) where
  len : length (rest ++ number ∷ []) ≡ length rest + 1
  len = length-append rest (number ∷ [])

  same : (k : ℕ) → k < length rest → get_or (rest ++ number ∷ []) k 0 ≡ get_or rest k 0
  same k lt = get_or_append_left rest (number ∷ []) 0 k lt

  last : get_or (rest ++ number ∷ []) (length rest) 0 ≡ number
  last = get_or_at rest number [] 0 (length rest) refl

  pub last_there : number < length holders
  last_there = subst (λ n. n < length holders) last (free.there (length rest) (omega (arith, len)))

  pub last_unheld : get_or holders number None ≡ None
  last_unheld = subst (λ n. get_or holders n None ≡ None) last (free.unheld (length rest) (omega (arith, len)))

  -- once the last one is held
  pub rest_free : (owner : ℕ) → AreFree (set holders number (Some owner)) rest
  rest_free owner = record {
    there = λ k lt. subst (λ n. n < length (set holders number (Some owner))) (same k lt) (omega (arith, free.there k (omega (arith, lt, len)), length-set holders number (Some owner)));
    unheld = λ k lt. get_or-set_other holders number (get_or rest k 0) (Some owner) None (λ e. free.apart k (length rest) lt (omega (arith, len)) (same k lt ∙ e ∙ sym last))
        ∙ subst (λ n. get_or holders n None ≡ None) (same k lt) (free.unheld k (omega (arith, lt, len)));
    apart = λ j k lt less e. free.apart j k lt (omega (arith, less, len)) (same j (omega (arith, lt, less)) ∙ e ∙ sym (same k less));
  }

module _ (holders : List (Option ℕ)) (rest : List ℕ) (number owner : ℕ) where
  pub takes_free : AreFree holders (rest ++ number ∷ []) → TakesNumber holders (set holders number (Some owner)) (rest ++ number ∷ []) rest
  takes_free free = record {
    frees = rest_free holders rest number free owner;
    count = omega (arith, length-set holders number (Some owner), length-append rest (number ∷ []));
    few = omega (arith, length-set holders number (Some owner));
  }

pub takes_new : (holders : List (Option ℕ)) (owner : ℕ) (free new_free : List ℕ) → length free ≡ 0 → length new_free ≡ 0
    → TakesNumber holders (holders ++ Some owner ∷ []) free new_free
takes_new holders owner free new_free none none' = record {
  frees = none_free (holders ++ Some owner ∷ []) new_free none';
  count = omega (arith, length-append holders (Some owner ∷ []), none, none');
  few = omega (arith, length-append holders (Some owner ∷ []), none);
}

-- a number that is held once it is given back
pub more_free : (holders : List (Option ℕ)) (free : List ℕ) (number owner : ℕ) → AreFree holders free → get_or holders number None ≡ Some owner
    → AreFree (set holders number None) (free ++ number ∷ [])
more_free holders free number owner are here = record {
  there = λ k lt. there k lt (cases_lt k (length free));
  unheld = λ k lt. unheld k lt (cases_lt k (length free));
  apart = λ j k lt less e. apart j k lt less e (cases_lt k (length free));
}
  where
    same : (k : ℕ) → k < length free → get_or (free ++ number ∷ []) k 0 ≡ get_or free k 0
    same k lt = get_or_append_left free (number ∷ []) 0 k lt

    last : (k : ℕ) → k < length (free ++ number ∷ []) → length free ≤ k → get_or (free ++ number ∷ []) k 0 ≡ number
    last k lt le = get_or_at free number [] 0 k (omega (arith, lt, le, length-append free (number ∷ [])))

    there : (k : ℕ) → k < length (free ++ number ∷ []) → (k < length free) ⊎ (length free ≤ k) → get_or (free ++ number ∷ []) k 0 < length (set holders number None)
    there k lt (inl less) = omega (arith, same k less, are.there k less, length-set holders number None)
    there k lt (inr le) = omega (arith, last k lt le, in_range holders number owner here, length-set holders number None)

    vacant : (q : ℕ) → get_or holders q None ≡ None → (q < number) ⊎ (number ≤ q) → (number < q) ⊎ (q ≤ number) → get_or (set holders number None) q None ≡ None
    vacant q none (inl lt) u = get_or-set_other holders number q None None (λ e. omega (arith, lt, e)) ∙ none
    vacant q none (inr le) (inl lt) = get_or-set_other holders number q None None (λ e. omega (arith, lt, e)) ∙ none
    vacant q none (inr le) (inr ge) = let is : q ≡ number = omega (arith, le, ge) in absurd (none_some (sym none ∙ ap (λ q. get_or holders q None) is ∙ here))

    unheld : (k : ℕ) → k < length (free ++ number ∷ []) → (k < length free) ⊎ (length free ≤ k) → get_or (set holders number None) (get_or (free ++ number ∷ []) k 0) None ≡ None
    unheld k lt (inl less) = ap (λ q. get_or (set holders number None) q None) (same k less)
        ∙ vacant (get_or free k 0) (are.unheld k less) (cases_lt (get_or free k 0) number) (cases_lt number (get_or free k 0))
    unheld k lt (inr le) = ap (λ q. get_or (set holders number None) q None) (last k lt le) ∙ get_or-set_same holders number None None (in_range holders number owner here)

    apart : (j k : ℕ) → j < k → k < length (free ++ number ∷ []) → get_or (free ++ number ∷ []) j 0 ≡ get_or (free ++ number ∷ []) k 0 → (k < length free) ⊎ (length free ≤ k) → ⊥
    apart j k lt less e (inl in') = are.apart j k lt in' (sym (same j (omega (arith, lt, in'))) ∙ e ∙ same k in')
    apart j k lt less e (inr le) =
        let jn : j < length free = omega (arith, lt, less, length-append free (number ∷ [])) in
        absurd (none_some (sym (are.unheld j jn) ∙ ap (λ q. get_or holders q None) (sym (same j jn) ∙ e ∙ last k less le) ∙ here))
