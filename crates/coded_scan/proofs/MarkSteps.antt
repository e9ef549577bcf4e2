-- Steps of the loops that mark rows.
use Rattle.std.proofs.Common.{◌≤◌, ◌-◌, nat_lt, ◌≡◌, ◌≢◌, ◌∙◌, ◌<◌, ◌+◌, ◌*◌, ◌%◌, ◌^◌, ◌&&◌, ◌||◌, ℕ, Bool, true, false, cond, List, length, get_or, set, min, max, refl, ap, ap₂, sym, subst, arith, inl, inr, bit_and, bit_or}
use mir.Val.{bool_byte}
use Rattle.std.specs.Int.{bit_at}
use Rattle.std.proofs.lemmas.Nat.{le_or_l, le_or_r, or_lt, one_shl, pow_pos, pow-add}
use Rattle.std.proofs.lemmas.Nat.Bits.{bit_at_and, bit_at_or, bit_at-zero, bit_at-pow_same, bit_at-pow_other, bit_at_above, bit_at_ones}
use Rattle.std.proofs.lemmas.List.{get_or-set_same, get_or-set_other}
use Rattle.std.proofs.lemmas.Bool.{cases_eq, cases_lt, lt-ltb, le-ltb}
use Rattle.std.proofs.lemmas.Bool.Decides.{nat_tests}
use Rattle.coded_scan.specs.Marks.{HasMarks, AreMarks, IsWithMark, is_between, is_marked}

shifted : (mark : Bool) (at : ℕ) → at < 64 → cond mark 1 0 * 2 ^ at % 2 ^ 64 ≡ cond mark (2 ^ at) 0
shifted true at lt = one_shl at 64 lt
shifted false at lt = let e : 0 * 2 ^ at ≡ 0 = omega arith in ap (λ n. n % 2 ^ 64) e

part-bits : (mark : Bool) (at i : ℕ) → i ≢ at → bit_at (cond mark (2 ^ at) 0) i ≡ 0
part-bits true at i ne = bit_at-pow_other at i ne
part-bits false at i ne = bit_at-zero i

part-last : (mark : Bool) (at : ℕ) → bit_at (cond mark (2 ^ at) 0) at ≡ cond mark 1 0
part-last true at = bit_at-pow_same at
part-last false at = bit_at-zero at

part-small : (mark : Bool) (at : ℕ) → cond mark (2 ^ at) 0 < 2 ^ (at + 1)
part-small true at = let e : 2 ^ (at + 1) ≡ 2 ^ at * 2 = pow-add 2 at 1 in omega (arith, e, pow_pos at)
part-small false at = pow_pos (at + 1)

pub one_mark : (word at result : ℕ) (mark : Bool) → at < 64 → word < 2 ^ at → result ≡ bit_or word (cond mark 1 0 * 2 ^ at % 2 ^ 64) → IsWithMark at mark word result
one_mark word at result mark lt small is =
    let whole : result ≡ bit_or word (cond mark (2 ^ at) 0) = is ∙ ap (bit_or word) (shifted mark at lt) in
    let wide : word < 2 ^ (at + 1) = let e : 2 ^ (at + 1) ≡ 2 ^ at * 2 = pow-add 2 at 1 in omega (arith, small, e, pow_pos at) in
    record {
      small = subst (λ n. n < 2 ^ (at + 1)) (sym whole) (or_lt (at + 1) word (cond mark (2 ^ at) 0) wide (part-small mark at));
      same = λ i below.
          ap (λ n. bit_at n i) whole
          ∙ bit_at_or word (cond mark (2 ^ at) 0) i
          ∙ ap (max (bit_at word i)) (part-bits mark at i (λ e. absurd (omega (arith, e, below))))
          ∙ omega arith;
      last =
          ap (λ n. bit_at n at) whole
          ∙ bit_at_or word (cond mark (2 ^ at) 0) at
          ∙ ap₂ max (bit_at_above word at at small (omega arith)) (part-last mark at)
          ∙ omega arith;
    }

-- ---- words of marks
and-bits : (a b : Bool) → min (cond a 1 0) (cond b 1 0) ≡ cond (a && b) 1 0
and-bits true true = omega arith
and-bits true false = omega arith
and-bits false true = omega arith
and-bits false false = omega arith

or-bits : (a b : Bool) → max (cond a 1 0) (cond b 1 0) ≡ cond (a || b) 1 0
or-bits true true = omega arith
or-bits true false = omega arith
or-bits false true = omega arith
or-bits false false = omega arith

pub both-marks : (holds other : ℕ → Bool) (from word more : ℕ) → HasMarks holds from word → HasMarks other from more → HasMarks (λ row. holds row && other row) from (bit_and word more)
both-marks holds other from word more a b = record {
  each = λ i lt. bit_at_and word more i ∙ ap₂ min (a.each i lt) (b.each i lt) ∙ and-bits (holds (from + i)) (other (from + i));
}

pub either-marks : (holds other : ℕ → Bool) (from word more : ℕ) → HasMarks holds from word → HasMarks other from more → HasMarks (λ row. holds row || other row) from (bit_or word more)
either-marks holds other from word more a b = record {
  each = λ i lt. bit_at_or word more i ∙ ap₂ max (a.each i lt) (b.each i lt) ∙ or-bits (holds (from + i)) (other (from + i));
}

-- one more word is marked
pub word-marked : (holds : ℕ → Bool) (words : List ℕ) (at word : ℕ) → at < length words → HasMarks holds (64 * at) word → ((j : ℕ) → j < at → HasMarks holds (64 * j) (get_or words j 0)) → (j : ℕ) → j < at + 1 → HasMarks holds (64 * j) (get_or (set words at word) j 0)
word-marked holds words at word lt one so_far j within = elim (cases_eq j at) [
  | inl e ↦ subst (λ k. HasMarks holds (64 * k) (get_or (set words at word) k 0)) (sym e) (subst (HasMarks holds (64 * at)) (sym (get_or-set_same words at word 0 lt)) one)
  | inr ne ↦ subst (HasMarks holds (64 * j)) (sym (get_or-set_other words at j word 0 ne)) (so_far j (omega (arith, within, ne)))
]

pub flag : (mark : Bool) → bool_byte mark ≡ cond mark 1 0
flag true = refl
flag false = refl

-- ---- marks of so many rows
marked-both : (in_block a b : Bool) → ((in_block && a) && (in_block && b)) ≡ (in_block && (a && b))
marked-both true a b = refl
marked-both false a b = refl

marked-either : (in_block a b : Bool) → ((in_block && a) || (in_block && b)) ≡ (in_block && (a || b))
marked-either true a b = refl
marked-either false a b = refl

pub has-same : (holds other : ℕ → Bool) (from word : ℕ) → ((row : ℕ) → holds row ≡ other row) → HasMarks holds from word → HasMarks other from word
has-same holds other from word same has = record {
  each = λ i lt. has.each i lt ∙ ap (λ b. cond b 1 0) (same (from + i));
}

pub both-all : (many : ℕ) (holds other : ℕ → Bool) (old others new : List ℕ) → length others ≡ length old → length new ≡ length old → ((j : ℕ) → j < length old → get_or new j 0 ≡ bit_and (get_or old j 0) (get_or others j 0)) → AreMarks many holds old → AreMarks many other others → AreMarks many (λ row. holds row && other row) new
both-all many holds other old others new same long is a b = record {
  enough = omega (arith, a.enough, long);
  each = λ j lt.
      subst (HasMarks (is_marked many (λ row. holds row && other row)) (64 * j)) (sym (is j (omega (arith, lt, long))))
      (has-same (λ row. is_marked many holds row && is_marked many other row) (is_marked many (λ row. holds row && other row)) (64 * j) _
      (λ row. marked-both (nat_lt row many) (holds row) (other row))
      (both-marks (is_marked many holds) (is_marked many other) (64 * j) (get_or old j 0) (get_or others j 0) (a.each j (omega (arith, lt, long))) (b.each j (omega (arith, lt, long, same)))));
}

pub either-all : (many : ℕ) (holds other : ℕ → Bool) (old others new : List ℕ) → length others ≡ length old → length new ≡ length old → ((j : ℕ) → j < length old → get_or new j 0 ≡ bit_or (get_or old j 0) (get_or others j 0)) → AreMarks many holds old → AreMarks many other others → AreMarks many (λ row. holds row || other row) new
either-all many holds other old others new same long is a b = record {
  enough = omega (arith, a.enough, long);
  each = λ j lt.
      subst (HasMarks (is_marked many (λ row. holds row || other row)) (64 * j)) (sym (is j (omega (arith, lt, long))))
      (has-same (λ row. is_marked many holds row || is_marked many other row) (is_marked many (λ row. holds row || other row)) (64 * j) _
      (λ row. marked-either (nat_lt row many) (holds row) (other row))
      (either-marks (is_marked many holds) (is_marked many other) (64 * j) (get_or old j 0) (get_or others j 0) (a.each j (omega (arith, lt, long))) (b.each j (omega (arith, lt, long, same)))));
}

-- ---- the marks of the rows that are there
in-block : (many row : ℕ) (b : Bool) → row < many → (nat_lt row many && b) ≡ b
in-block many row b lt = ap (λ t. t && b) (lt-ltb row many lt)

past-block : (many row : ℕ) (b : Bool) → many ≤ row → (nat_lt row many && b) ≡ false
past-block many row b le = ap (λ t. t && b) (le-ltb row many le)

-- the marks of less than 64 rows that are left
pub rest-marks : (holds : ℕ → Bool) (many from n word : ℕ) → n ≡ many - from → n ≤ 64 → word < 2 ^ n → ((i : ℕ) → i < n → bit_at word i ≡ cond (holds (from + i)) 1 0) → HasMarks (is_marked many holds) from word
rest-marks holds many from n word rest few small marks = record {
  each = λ i lt. elim (cases_lt i n) [
    | inl within ↦ marks i within ∙ ap (λ b. cond b 1 0) (sym (in-block many (from + i) (holds (from + i)) (omega (arith, within, rest))))
    | inr past ↦ bit_at_above word n i small (omega (arith, past)) ∙ ap (λ b. cond b 1 0) (sym (past-block many (from + i) (holds (from + i)) (omega (arith, past, rest))))
  ];
}

-- the marks of 64 rows that are all there
pub whole-marks : (holds : ℕ → Bool) (many from word : ℕ) → from + 64 ≤ many → ((i : ℕ) → i < 64 → bit_at word i ≡ cond (holds (from + i)) 1 0) → HasMarks (is_marked many holds) from word
whole-marks holds many from word there marks = record {
  each = λ i lt. marks i lt ∙ ap (λ b. cond b 1 0) (sym (in-block many (from + i) (holds (from + i)) (omega (arith, lt, there))));
}

-- the marks of at most 64 rows
pub marks-there : (holds : ℕ → Bool) (many from n word : ℕ) → n ≡ min 64 (many - from) → n ≤ 64 → word < 2 ^ n → ((i : ℕ) → i < n → bit_at word i ≡ cond (holds (from + i)) 1 0) → HasMarks (is_marked many holds) from word
marks-there holds many from n word is few small marks = elim (cases_lt n 64) [
  | inl less ↦ rest-marks holds many from n word (omega (arith, is, less)) few small marks
  | inr whole ↦ whole-marks holds many from word (omega (arith, is, whole)) (λ i lt. marks i (omega (arith, whole, lt)))
]

pub all-marks : (many from : ℕ) (holds : Bool) → holds ≡ true → from + 64 ≤ many → HasMarks (is_marked many (λ row. holds)) from (2 ^ 64 - 1)
all-marks many from holds is there = whole-marks (λ row. holds) many from (2 ^ 64 - 1) there (λ i lt. bit_at_ones 64 i lt ∙ ap (λ b. cond b 1 0) (sym is))

pub first-marks : (many from : ℕ) (holds : Bool) → holds ≡ true → many - from < 64 → HasMarks (is_marked many (λ row. holds)) from (1 * 2 ^ (many - from) % 2 ^ 64 - 1)
first-marks many from holds is few =
    subst (λ n. HasMarks (is_marked many (λ row. holds)) from (n - 1)) (sym (one_shl (many - from) 64 few))
    (rest-marks (λ row. holds) many from (many - from) (2 ^ (many - from) - 1) refl (omega (arith, few))
    (omega (arith, pow_pos (many - from)))
    (λ i lt. bit_at_ones (many - from) i lt ∙ ap (λ b. cond b 1 0) (sym is)))

-- the ids of a run, where none is greater than this
pub same-run : (first most more top id : ℕ) → id ≤ top → first ≤ top → most ≡ min more (top - first) → is_between first (first + most) id ≡ is_between first (first + more) id
same-run first most more top id small there is = grind (arith, nat_tests)

pub both-none : (a b : ℕ) → bit_or a b ≡ 0 → (a ≡ 0) × (b ≡ 0)
both-none a b none = (omega (arith, none, le_or_l a b), omega (arith, none, le_or_r a b))

-- ---- marks by other tests
pub are-same : (many : ℕ) (holds other : ℕ → Bool) (words : List ℕ) → ((row : ℕ) → row < many → holds row ≡ other row) → AreMarks many holds words → AreMarks many other words
are-same many holds other words same are = record {
  enough = are.enough;
  each = λ j lt. record {
    each = λ i below. (are.each j lt).each i below ∙ ap (λ b. cond b 1 0) (elim (cases_lt (64 * j + i) many) [
      | inl there ↦ ap (λ b. nat_lt (64 * j + i) many && b) (same (64 * j + i) there)
      | inr past ↦ past-block many (64 * j + i) (holds (64 * j + i)) past ∙ sym (past-block many (64 * j + i) (other (64 * j + i)) past)
    ]);
  };
}

off : (there holds other : Bool) → ◌≡◌ {A = ℕ} (cond (there && holds) 1 0) 0 → ◌≡◌ {A = ℕ} (cond (there && (holds && other)) 1 0) 0
off true true other none = let z : ◌≡◌ {A = ℕ} 1 0 = none in absurd (omega (arith, z))
off true false other none = refl
off false holds other none = refl

-- where no row is marked none is left
pub none-left : (many : ℕ) (holds other : ℕ → Bool) (words : List ℕ) → ((j : ℕ) → j < length words → get_or words j 0 ≡ 0) → AreMarks many holds words → AreMarks many (λ row. holds row && other row) words
none-left many holds other words none are = record {
  enough = are.enough;
  each = λ j lt. record {
    each = λ i below.
        let zero-bit : bit_at (get_or words j 0) i ≡ 0 = ap (λ w. bit_at w i) (none j lt) ∙ bit_at-zero i in
        zero-bit ∙ sym (off (nat_lt (64 * j + i) many) (holds (64 * j + i)) (other (64 * j + i)) (sym ((are.each j lt).each i below) ∙ zero-bit));
  };
}

-- the marks of one more test in a word
pub either-word : (many : ℕ) (holds other : ℕ → Bool) (from word more : ℕ) → HasMarks (is_marked many holds) from word → HasMarks (is_marked many other) from more → HasMarks (is_marked many (λ row. holds row || other row)) from (bit_or word more)
either-word many holds other from word more a b =
    has-same (λ row. is_marked many holds row || is_marked many other row) (is_marked many (λ row. holds row || other row)) from _
    (λ row. marked-either (nat_lt row many) (holds row) (other row))
    (either-marks (is_marked many holds) (is_marked many other) from word more a b)
