-- Rows in slots: those of each slot, and all of them slot by slot.
use Rattle.std.proofs.Common.{◌≡◌, ◌≢◌, ◌∙◌, ◌<◌, ◌≤◌, ◌+◌, ◌*◌, ◌++◌, ◌∷◌, ◌==◌, [], ℕ, zero, suc, Bool, true, false, cond, nat_lt, List, length, map, get_or, refl, ap, sym, subst, arith, replicate, pos}
use Rattle.std.proofs.lemmas.Bool.{cond-true, cond-false, eq-eqb, ne_eqb}
use Rattle.std.proofs.lemmas.Bool.Decides.{nat_tests}
use Rattle.std.proofs.lemmas.List.{map-append, length-replicate}
use Rattle.std.proofs.lemmas.List.Elements.{All-cons, All-nil}
use Rattle.std.proofs.lemmas.List.Sorted.{IsPermutation-refl, IsPermutation-cons, IsPermutation-middle, IsPermutation-trans}
use Rattle.std.specs.List.{All}
use Rattle.std.specs.List.Sorted.{IsPermutation}
use Rattle.values.specs.declared.value.Value.{Value}
use Rattle.values.specs.declared.value.Value.TheVariants.{Whole}
use Rattle.values.specs.Columns.{Listed, row_of}
use Rattle.table_schema.specs.Conditions.{cell}
use Rattle.group_table.specs.Groups.{key_of}
use Rattle.value_ids.specs.Coding.{AreBelow}
use Rattle.coded_columns.specs.Slots.{AreRanked, AreSlots, before_slot, from_slot, in_slot, packed}

either : {X Y : Type 0} (f : X → Y) (b : Bool) (x : X) (xs : List X) → map f (cond b (x ∷ xs) xs) ≡ cond b (f x ∷ map f xs) (map f xs)
either f true x xs = refl
either f false x xs = refl

-- what rows of a slot are mapped to
pub in_slot-map : {X Y : Type 0} (f : X → Y) (slot : ℕ) (slots : List ℕ) (xs : List X) → in_slot slot slots (map f xs) ≡ map f (in_slot slot slots xs)
in_slot-map f slot [] xs = refl
in_slot-map f slot (s ∷ slots) [] = refl
in_slot-map f slot (s ∷ slots) (x ∷ xs) =
    ap (λ ys. cond (s == slot) (f x ∷ ys) ys) (in_slot-map f slot slots xs)
    ∙ sym (either f (s == slot) x (in_slot slot slots xs))

one_more : {X : Type 0} (b : Bool) (x : X) (xs : List X) → length (cond b (x ∷ xs) xs) ≤ length xs + 1
one_more true x xs = omega arith
one_more false x xs = omega arith

pub in_slot-few : {X : Type 0} (slot : ℕ) (slots : List ℕ) (xs : List X) → length (in_slot slot slots xs) ≤ length xs
in_slot-few slot [] xs = omega arith
in_slot-few slot (s ∷ slots) [] = omega arith
in_slot-few slot (s ∷ slots) (x ∷ xs) = omega (arith, one_more (s == slot) x (in_slot slot slots xs), in_slot-few slot slots xs)

pushed : {X : Type 0} (b : Bool) (x : X) (xs ys : List X) → cond b (x ∷ (xs ++ ys)) (xs ++ ys) ≡ cond b (x ∷ xs) xs ++ ys
pushed true x xs ys = refl
pushed false x xs ys = refl

pub in_slot-append : {X : Type 0} (slot : ℕ) (slots more : List ℕ) (xs ys : List X) → length slots ≡ length xs → in_slot slot (slots ++ more) (xs ++ ys) ≡ in_slot slot slots xs ++ in_slot slot more ys
in_slot-append slot [] more [] ys e = refl
in_slot-append slot [] more (x ∷ xs) ys e = absurd (omega (arith, e))
in_slot-append slot (s ∷ slots) more [] ys e = absurd (omega (arith, e))
in_slot-append slot (s ∷ slots) more (x ∷ xs) ys e =
    ap (λ zs. cond (s == slot) (x ∷ zs) zs) (in_slot-append slot slots more xs ys (omega (arith, e)))
    ∙ pushed (s == slot) x (in_slot slot slots xs) (in_slot slot more ys)

-- a slot that some row has is not empty
some_more : {X : Type 0} (b : Bool) (x : X) (xs : List X) → 0 < length xs → 0 < length (cond b (x ∷ xs) xs)
some_more true x xs lt = omega arith
some_more false x xs lt = lt

pub in_slot-some : {X : Type 0} (slot : ℕ) (slots : List ℕ) (xs : List X) (k : ℕ) → length slots ≡ length xs → k < length xs → get_or slots k 0 ≡ slot → 0 < length (in_slot slot slots xs)
in_slot-some slot [] xs k e lt is = absurd (omega (arith, e, lt))
in_slot-some slot (s ∷ slots) [] k e lt is = absurd (omega (arith, lt))
in_slot-some slot (s ∷ slots) (x ∷ xs) zero e lt is =
    subst (λ (ys : List _). 0 < length ys) (sym (cond-true (s == slot) (x ∷ in_slot slot slots xs) (in_slot slot slots xs) (eq-eqb s slot is))) (omega arith)
in_slot-some slot (s ∷ slots) (x ∷ xs) (suc k) e lt is =
    some_more (s == slot) x (in_slot slot slots xs) (in_slot-some slot slots xs k (omega (arith, e)) (omega (arith, lt)) is)

-- what holds of each row of a slot
all_more : {X : Type 0} (P : X → Type 0) (b : Bool) (x : X) (xs : List X) → (b ≡ true → P x) → All P xs → All P (cond b (x ∷ xs) xs)
all_more P true x xs own rest = All-cons P x xs (own refl) rest
all_more P false x xs own rest = rest

pub in_slot-all : {X : Type 0} (P : X → Type 0) (slot : ℕ) (slots : List ℕ) (xs : List X) (d : X) → ((k : ℕ) → k < length xs → get_or slots k 0 ≡ slot → P (get_or xs k d)) → All P (in_slot slot slots xs)
in_slot-all P slot [] xs d h = All-nil P
in_slot-all P slot (s ∷ slots) [] d h = All-nil P
in_slot-all P slot (s ∷ slots) (x ∷ xs) d h =
    all_more P (s == slot) x (in_slot slot slots xs) (λ e. h 0 (omega arith) (grind (arith, nat_tests, e)))
    (in_slot-all P slot slots xs d (λ k lt is. h (suc k) (omega (arith, lt)) is))

-- where there is one slot all rows have it
pub in_slot-one : {X : Type 0} (slots : List ℕ) (xs : List X) → length slots ≡ length xs → AreBelow 1 slots → in_slot 0 slots xs ≡ xs
in_slot-one [] [] same below = refl
in_slot-one [] (x ∷ xs) same below = absurd (omega (arith, same))
in_slot-one (s ∷ slots) [] same below = absurd (omega (arith, same))
in_slot-one (s ∷ slots) (x ∷ xs) same below =
    cond-true (s == 0) (x ∷ in_slot 0 slots xs) (in_slot 0 slots xs) (eq-eqb s 0 (omega (arith, below 0 0 (omega arith))))
    ∙ ap (λ ys. x ∷ ys) (in_slot-one slots xs (omega (arith, same)) (λ k d lt. below (suc k) d (omega (arith, lt))))

pub in_slot-other : {X : Type 0} (slot : ℕ) (slots : List ℕ) (xs : List X) → slot ≢ 0 → AreBelow 1 slots → in_slot slot slots xs ≡ []
in_slot-other slot [] xs ne below = refl
in_slot-other slot (s ∷ slots) [] ne below = refl
in_slot-other slot (s ∷ slots) (x ∷ xs) ne below =
    cond-false (s == slot) (x ∷ in_slot slot slots xs) (in_slot slot slots xs) (ne_eqb s slot (λ e. ne (omega (arith, e, below 0 0 (omega arith)))))
    ∙ in_slot-other slot slots xs ne (λ k d lt. below (suc k) d (omega (arith, lt)))

-- ---- slot by slot

-- the rows before a slot and those in it are the rows before the next one
next_step : {X : Type 0} (a b c : Bool) (x : X) (front own next : List X) → ((a ≡ true) → (b ≡ false) × (c ≡ true)) → (a ≡ false → b ≡ c) → IsPermutation (front ++ own) next
    → IsPermutation (cond a (x ∷ front) front ++ cond b (x ∷ own) own) (cond c (x ∷ next) next)
next_step true true c x front own next h k p = absurd (let e = (h refl).0 in cc)
next_step true false true x front own next h k p = IsPermutation-cons x (front ++ own) next p
next_step true false false x front own next h k p = absurd (let e = (h refl).1 in cc)
next_step false true true x front own next h k p =
    IsPermutation-trans (front ++ x ∷ own) (x ∷ (front ++ own)) (x ∷ next) (IsPermutation-middle front x own) (IsPermutation-cons x (front ++ own) next p)
next_step false true false x front own next h k p = absurd (let e = k refl in cc)
next_step false false true x front own next h k p = absurd (let e = k refl in cc)
next_step false false false x front own next h k p = p

pub next-permuted : {X : Type 0} (n : ℕ) (slots : List ℕ) (xs : List X) → IsPermutation (before_slot n slots xs ++ in_slot n slots xs) (before_slot (n + 1) slots xs)
next-permuted n [] xs = IsPermutation-refl []
next-permuted n (s ∷ slots) [] = IsPermutation-refl []
next-permuted n (s ∷ slots) (x ∷ xs) =
    next_step (nat_lt s n) (s == n) (nat_lt s (n + 1)) x (before_slot n slots xs) (in_slot n slots xs) (before_slot (n + 1) slots xs)
    (λ e. (lower s n e)) (λ e. (higher s n e)) (next-permuted n slots xs)
  where
    lower : (s n : ℕ) → nat_lt s n ≡ true → ((s == n) ≡ false) × (nat_lt s (n + 1) ≡ true)
    lower s n e = (grind (arith, nat_tests), grind (arith, nat_tests))

    higher : (s n : ℕ) → nat_lt s n ≡ false → (s == n) ≡ nat_lt s (n + 1)
    higher s n e = grind (arith, nat_tests)

parts_step : {X : Type 0} (a : Bool) (x : X) (front rest xs : List X) → IsPermutation (front ++ rest) xs → IsPermutation (cond a (x ∷ front) front ++ cond a rest (x ∷ rest)) (x ∷ xs)
parts_step true x front rest xs p = IsPermutation-cons x (front ++ rest) xs p
parts_step false x front rest xs p =
    IsPermutation-trans (front ++ x ∷ rest) (x ∷ (front ++ rest)) (x ∷ xs) (IsPermutation-middle front x rest) (IsPermutation-cons x (front ++ rest) xs p)

-- the rows before a slot and those from it on are all
pub parts-permuted : {X : Type 0} (n : ℕ) (slots : List ℕ) (xs : List X) → length slots ≡ length xs → IsPermutation (before_slot n slots xs ++ from_slot n slots xs) xs
parts-permuted n [] [] e = IsPermutation-refl []
parts-permuted n [] (x ∷ xs) e = absurd (omega (arith, e))
parts-permuted n (s ∷ slots) [] e = absurd (omega (arith, e))
parts-permuted n (s ∷ slots) (x ∷ xs) e =
    parts_step (nat_lt s n) x (before_slot n slots xs) (from_slot n slots xs) xs (parts-permuted n slots xs (omega (arith, e)))

-- before the first slot there is no row, and before the end all are
pub before-none : {X : Type 0} (slots : List ℕ) (xs : List X) → before_slot 0 slots xs ≡ []
before-none [] xs = refl
before-none (s ∷ slots) [] = refl
before-none (s ∷ slots) (x ∷ xs) = cond-false (nat_lt s 0) (x ∷ before_slot 0 slots xs) (before_slot 0 slots xs) (grind (arith, nat_tests)) ∙ before-none slots xs

pub before-all : {X : Type 0} (n : ℕ) (slots : List ℕ) (xs : List X) → length slots ≡ length xs → ((k : ℕ) → k < length xs → get_or slots k 0 < n) → before_slot n slots xs ≡ xs
before-all n [] [] e h = refl
before-all n [] (x ∷ xs) e h = absurd (omega (arith, e))
before-all n (s ∷ slots) [] e h = absurd (omega (arith, e))
before-all n (s ∷ slots) (x ∷ xs) e h =
    let lt : s < n = h 0 (omega arith) in
    cond-true (nat_lt s n) (x ∷ before_slot n slots xs) (before_slot n slots xs) (grind (arith, nat_tests))
    ∙ ap (λ ys. x ∷ ys) (before-all n slots xs (omega (arith, e)) (λ k k_lt. h (suc k) (omega (arith, k_lt))))

pub before-few : {X : Type 0} (n : ℕ) (slots : List ℕ) (xs : List X) → length (before_slot n slots xs) ≤ length xs
before-few n [] xs = omega arith
before-few n (s ∷ slots) [] = omega arith
before-few n (s ∷ slots) (x ∷ xs) = omega (arith, one_more (nat_lt s n) x (before_slot n slots xs), before-few n slots xs)

-- ---- slots by one column more

same-part : (a b w i j : ℕ) → i < w → j < w → a * w + i ≡ b * w + j → a ≡ b
same-part zero zero w i j i_lt j_lt is = refl
same-part zero (suc b) w i j i_lt j_lt is = absurd (grind arith)
same-part (suc a) zero w i j i_lt j_lt is = absurd (grind arith)
same-part (suc a) (suc b) w i j i_lt j_lt is = ap suc (same-part a b w i j i_lt j_lt (grind arith))

-- the slot and the id are told by both in one number
pub unpacked : (a b w i j : ℕ) → i < w → j < w → a * w + i ≡ b * w + j → (a ≡ b) × (i ≡ j)
unpacked a b w i j i_lt j_lt is =
    let one : a ≡ b = same-part a b w i j i_lt j_lt is in
    (one, omega (arith, ap (λ x. x * w) one, is))

pub key-more : (groups : List ℕ) (group : ℕ) (row other : List Value) → key_of groups row ≡ key_of groups other → get_or row group (Whole (pos 0)) ≡ get_or other group (Whole (pos 0)) → key_of (groups ++ group ∷ []) row ≡ key_of (groups ++ group ∷ []) other
key-more groups group row other same here =
    map-append (cell row) groups (group ∷ []) ∙ (λ i. same i ++ here i ∷ []) ∙ sym (map-append (cell other) groups (group ∷ []))

module _ (columns : List Listed) (groups : List ℕ) (group : ℕ) (places : List ℕ) where
  pub slots-refined : (old before slots firsts ids : List ℕ) (width : ℕ) → AreSlots columns groups places old before → AreRanked (packed old width ids places) (length old) slots firsts → length slots ≡ length old
      → ((k : ℕ) → k < length places → get_or ids (get_or places k 0) 0 < width)
      → ((j k : ℕ) → j < length places → k < length places → get_or ids (get_or places j 0) 0 ≡ get_or ids (get_or places k 0) 0 → cell (row_of columns (get_or places j 0)) group ≡ cell (row_of columns (get_or places k 0)) group)
      → AreSlots columns (groups ++ group ∷ []) places slots firsts
  slots-refined old before slots firsts ids width st ranked lengths within cells = record {
    count = lengths ∙ st.count;
    at_most = omega (arith, ranked.at_most, st.count);
    below = λ k lt. ranked.below k (omega (arith, lt, st.count));
    same = λ j k j_lt k_lt e.
        let a = ranked.keys j (omega (arith, j_lt, st.count)) in
        let b = ranked.keys k (omega (arith, k_lt, st.count)) in
        let p : packed old width ids places j ≡ packed old width ids places k =
        sym a ∙ ap (λ s. packed old width ids places (get_or firsts s 0)) e ∙ b in
        let parts = unpacked (get_or old j 0) (get_or old k 0) width (get_or ids (get_or places j 0) 0) (get_or ids (get_or places k 0) 0) (within j j_lt) (within k k_lt) p in
        key-more groups group (row_of columns (get_or places j 0)) (row_of columns (get_or places k 0)) (st.same j k j_lt k_lt parts.0) (cells j k j_lt k_lt parts.1);
    firsts_in = λ s lt. omega (arith, ranked.firsts_in s lt, st.count);
    firsts_have = ranked.firsts_have;
  }

  pub slots-unread : (slots firsts : List ℕ) → ((at : ℕ) → cell (row_of columns at) group ≡ Whole (pos 0)) → AreSlots columns groups places slots firsts → AreSlots columns (groups ++ group ∷ []) places slots firsts
  slots-unread slots firsts none st = record {
    count = st.count;
    at_most = st.at_most;
    below = st.below;
    same = λ j k j_lt k_lt e.
        key-more groups group (row_of columns (get_or places j 0)) (row_of columns (get_or places k 0)) (st.same j k j_lt k_lt e) (none (get_or places j 0) ∙ sym (none (get_or places k 0)));
    firsts_in = st.firsts_in;
    firsts_have = st.firsts_have;
  }

pub zeros : (n k : ℕ) → get_or {A = ℕ} (replicate n 0) k 0 ≡ 0
zeros zero k = refl
zeros (suc n) zero = refl
zeros (suc n) (suc k) = zeros n k

-- at first all rows have one slot
pub slots-none : (columns : List Listed) (places : List ℕ) → 0 < length places → AreSlots columns [] places (replicate (length places) 0) (0 ∷ [])
slots-none columns places some = record {
  count = length-replicate (length places) 0;
  at_most = omega (arith, some);
  below = λ k lt. omega (arith, zeros (length places) k);
  same = λ j k j_lt k_lt e. refl;
  firsts_in = λ s lt. first s lt;
  firsts_have = λ s lt. zeros (length places) (get_or (0 ∷ []) s 0) ∙ omega (arith, lt);
}
  where
    first : (s : ℕ) → s < 1 → get_or {A = ℕ} (0 ∷ []) s 0 < length places
    first zero lt = some
    first (suc s) lt = absurd (omega (arith, lt))
