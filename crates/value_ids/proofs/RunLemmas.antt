-- Runs: ids that follow each other, in lists and in masks.
use Rattle.std.proofs.Common.{◌≡◌, ◌≢◌, ◌∙◌, ◌⊎◌, ◌<◌, ◌≤◌, ◌+◌, ◌-◌, ◌*◌, ◌/◌, ◌%◌, ◌^◌, ℕ, zero, suc, Bool, true, false, ◌||◌, List, [], ◌∷◌, ◌++◌, length, min, set, take, drop, replicate, get_or, nat_eq, Some, bit_or, refl, sym, ap, subst, arith, inl, inr, eq-eqb}
use Rattle.std.proofs.Math.Seq.{get_or-append_seam}
use Rattle.std.proofs.lemmas.Bool.{cases_lt, eqb-true, eqb-false, ne_eqb}
use Rattle.std.proofs.lemmas.List.{append-nil, append_assoc, drop_all, ext_get_or, get_or-take, get_or-append_right, get_or_append_left, get_or_default, get_or-set_other, get_or-set_same, length-append, length-replicate, length-set, length-take, take-append-le, take_all}
use Rattle.std.proofs.lemmas.List.Folds.{list_any-append, list_any_at, list_any_none}
use Rattle.std.proofs.lemmas.List.FromFn.{get_or-range_with_len, length-range_with_len}
use Rattle.std.proofs.lemmas.Map.Keys.{below_from_sorted}
use Rattle.std.proofs.lemmas.Nat.Bits.{bit_at_ones}
use Rattle.std.proofs.lemmas.Option.{slice_get-get_or}
use Rattle.std.specs.Int.{bit_at}
use Rattle.std.specs.List.{range_with_len, slice_get}
use Rattle.std.specs.List.Sorted.{IsStrictlySortedBy}
use Rattle.std.specs.Option.{IfSome}
use Rattle.std.specs.Ordering.{nat_cmp}
use Rattle.value_ids.specs.Ids.{AreThose, has_bit, has_id, is_outside, is_within, IsAboveLast, IsIdSet, IsMaskedSet, SameBits}
use Rattle.value_ids.proofs.Found.{id_kept}
use Rattle.value_ids.proofs.MaskLemmas.{or_turn, set_by}
use Rattle.value_ids.proofs.SetLemmas.{outside_at, outside_past, pass_none, Passed, run_at, run_before, run_past}

-- ---- a run in a list

range_first : (t : Bool) (a n q : ℕ) → nat_eq q a ≡ t → a ≤ q → q < a + suc n → (a + 1 ≤ q → has_id (range_with_len (a + 1) n) q ≡ true) → t || has_id (range_with_len (a + 1) n) q ≡ true
range_first true a n q e from to more = refl
range_first false a n q e from to more = let ne : q ≢ a = eqb-false q a e in more (omega (arith, from, ne))

range_yes : (a n q : ℕ) → a ≤ q → q < a + n → has_id (range_with_len a n) q ≡ true
range_yes a zero q from to = absurd (omega (arith, from, to))
range_yes a (suc n) q from to = range_first (nat_eq q a) a n q refl from to (λ more. range_yes (a + 1) n q more (omega (arith, to)))

range_below : (a n q : ℕ) → q < a → has_id (range_with_len a n) q ≡ false
range_below a zero q lt = refl
range_below a (suc n) q lt = ap (λ t. t || has_id (range_with_len (a + 1) n) q) (ne_eqb q a (λ e. omega (arith, e, lt))) ∙ range_below (a + 1) n q (omega (arith, lt))

range_above : (a n q : ℕ) → a + n ≤ q → has_id (range_with_len a n) q ≡ false
range_above a zero q le = refl
range_above a (suc n) q le = ap (λ t. t || has_id (range_with_len (a + 1) n) q) (ne_eqb q a (λ e. omega (arith, e, le))) ∙ range_above (a + 1) n q (omega (arith, le))

has_range : (from to q : ℕ) → has_id (range_with_len from (to - from)) q ≡ is_within from to q
has_range from to q =
    elim (cases_lt q from) [
      | inl below ↦ range_below from (to - from) q below ∙ sym (run_before from to q below)
      | inr le ↦ elim (cases_lt q to) [
        | inl lt ↦ range_yes from (to - from) q le (omega (arith, le, lt)) ∙ sym (run_at from to q le lt)
        | inr past ↦ range_above from (to - from) q (omega (arith, le, past)) ∙ sym (run_past from to q past)
      ]
    ]

-- the ids of a list and of a run after it
pub has_run : (ids : List ℕ) (from to q : ℕ) → has_id (ids ++ range_with_len from (to - from)) q ≡ is_within from to q || has_id ids q
has_run ids from to q =
    list_any-append (nat_eq q) ids (range_with_len from (to - from)) ∙ or_turn (has_id ids q) (has_id (range_with_len from (to - from)) q) ∙ ap (λ b. b || has_id ids q) (has_range from to q)

-- ---- a run follows an ascending list

at_least : (ids : List ℕ) (k d : ℕ) → IsStrictlySortedBy nat_cmp ids → k < length ids → k ≤ get_or ids k d
at_least ids zero d up lt = omega arith
at_least ids (suc k) d up lt =
    let before : k ≤ get_or ids k d = at_least ids k d up (omega (arith, lt)) in
    let less : get_or ids k d < get_or ids (suc k) d = below_from_sorted ids k (suc k) d up (omega arith) lt in omega (arith, before, less)

-- ids that are all below one are no more than it
few_below : (ids : List ℕ) (id : ℕ) → IsStrictlySortedBy nat_cmp ids → IsAboveLast ids id → length ids ≤ id
few_below ids id up above =
    elim (cases_lt 0 (length ids)) [
      | inl some ↦
          let last : get_or ids (length ids - 1) 0 < id = subst (λ o. IfSome o (λ last. last < id)) (slice_get-get_or ids (length ids - 1) 0 (omega (arith, some))) above in
          let least : length ids - 1 ≤ get_or ids (length ids - 1) 0 = at_least ids (length ids - 1) 0 up (omega (arith, some)) in omega (arith, last, least)
      | inr none ↦ omega (arith, none)
    ]

above_next : (ids : List ℕ) (id : ℕ) → IsAboveLast (ids ++ id ∷ []) (id + 1)
above_next ids id =
    let new = ids ++ id ∷ [] in
    let size : length new ≡ length ids + 1 = length-append ids (id ∷ []) in
    let place : length new - 1 ≡ length ids = omega (arith, size) in
    let last : slice_get new (length new - 1) ≡ Some id = ap (slice_get new) place ∙ slice_get-get_or new (length ids) id (omega (arith, size)) ∙ ap Some (get_or-append_seam ids id [] id) in
    let less : id < id + 1 = omega arith in
    subst (λ o. IfSome o (λ last. last < id + 1)) (sym last) less

run_stands : (n from : ℕ) (ids : List ℕ) → IsIdSet ids → IsAboveLast ids from → from + n ≤ 4294967295 → IsIdSet (ids ++ range_with_len from n)
run_stands zero from ids stands above le = subst IsIdSet (sym (append-nil ids)) stands
run_stands (suc n) from ids stands above le =
    let few : length ids ≤ from = few_below ids from stands.ascends above in
    let one : IsIdSet (ids ++ from ∷ []) = id_kept ids ids (ids ++ from ∷ []) from refl stands (omega (arith, few, le)) above refl in
    subst IsIdSet (append_assoc ids (from ∷ []) (range_with_len (from + 1) n)) (run_stands n (from + 1) (ids ++ from ∷ []) one (above_next ids from) (omega (arith, le)))

pub run_kept : (ids new : List ℕ) (from to : ℕ) → IsIdSet ids → IsAboveLast ids from → from < to → to ≤ 4294967295 → new ≡ ids ++ range_with_len from (to - from) → IsIdSet new
run_kept ids new from to stands above order most is = subst IsIdSet (sym is) (run_stands (to - from) from ids stands above (omega (arith, order, most)))

pub run_masked : (ids new mask mask' mask'' : List ℕ) (from to : ℕ) → IsMaskedSet ids mask → IsIdSet new → new ≡ ids ++ range_with_len from (to - from) → SameBits mask mask'
    → ((q : ℕ) → has_bit mask'' q ≡ is_within from to q || has_bit mask' q) → IsMaskedSet new mask''
run_masked ids new mask mask' mask'' from to old stands is same run = record {
  stands = stands;
  masked = (λ q. run q ∙ ap (λ b. is_within from to q || b) (same q ∙ old.masked q) ∙ sym (has_run ids from to q) ∙ ap (λ xs. has_id xs q) (sym is));
}

-- the ids that were written from a place on
pub counted_all : (first start : ℕ) (old ids : List ℕ) → start ≤ length old → length ids ≡ length old → ((k : ℕ) → k < start → get_or ids k 0 ≡ get_or old k 0)
    → ((k : ℕ) → start ≤ k → k < length ids → get_or ids k 0 ≡ first + (k - start)) → ids ≡ take start old ++ range_with_len first (length old - start)
counted_all first start old ids le same before counted =
    let kept = take start old in
    let run = range_with_len first (length old - start) in
    let size : length kept ≡ start = length-take start old ∙ (let least : min start (length old) ≡ start = omega (arith, le) in least) in
    let count : length run ≡ length old - start = length-range_with_len first (length old - start) in
    let whole : length (kept ++ run) ≡ length kept + length run = length-append kept run in
    ext_get_or 0 ids (kept ++ run) (omega (arith, same, whole, size, count, le)) (λ k lt.
    elim (cases_lt k start) [
      | inl low ↦ before k low ∙ sym (get_or_append_left kept run 0 k (omega (arith, low, size)) ∙ get_or-take start old k 0 low)
      | inr from ↦
          counted k from lt
          ∙ sym (get_or-append_right kept run start k 0 size from ∙ get_or-range_with_len first (length old - start) (k - start) 0 (omega (arith, lt, same, from)))
    ])

-- ---- the bits of a run

-- the bits of the ids from one up to another are set beside those that were
pub record SetUpTo (from to : ℕ) (old mask : List ℕ) : Type 0 where
  pub size : length mask ≡ length old
  pub order : from ≤ to
  pub each : (q : ℕ) → has_bit mask q ≡ is_within from to q || has_bit old q

pub set_none : (from : ℕ) (mask : List ℕ) → SetUpTo from from mask mask
set_none from mask = record {
  size = refl;
  order = omega arith;
  each = (λ q. ap (λ b. b || has_bit mask q) (sym (elim (cases_lt q from) [
    | inl lt ↦ run_before from from q lt
    | inr le ↦ run_past from from q le
  ])));
}

or_assoc : (a b c : Bool) → a || (b || c) ≡ (a || b) || c
or_assoc true b c = refl
or_assoc false b c = refl

-- a longer run has the same ids but those from its old end on
longer : (from to end q : ℕ) → to ≤ end → (q < to) ⊎ (end ≤ q) → is_within from to q ≡ is_within from end q
longer from to end q le (inl lt) =
    elim (cases_lt q from) [
      | inl low ↦ run_before from to q low ∙ sym (run_before from end q low)
      | inr ge ↦ run_at from to q ge lt ∙ sym (run_at from end q ge (omega (arith, lt, le)))
    ]
longer from to end q le (inr past) = run_past from to q (omega (arith, le, past)) ∙ sym (run_past from end q past)

one_longer : (t : Bool) (from to q : ℕ) → from ≤ to → nat_eq q to ≡ t → t || is_within from to q ≡ is_within from (to + 1) q
one_longer true from to q le e = let same : q ≡ to = eqb-true q to e in sym (run_at from (to + 1) q (omega (arith, same, le)) (omega (arith, same)))
one_longer false from to q le e =
    let ne : q ≢ to = eqb-false q to e in
    longer from to (to + 1) q (omega arith) (elim (cases_lt q to) [
      | inl lt ↦ inl lt
      | inr ge ↦ inr (omega (arith, ge, ne))
    ])

pub set_one : (from to : ℕ) (before mask new : List ℕ) → SetUpTo from to before mask → to < 64 * length before → new ≡ set mask (to / 64) (bit_or (get_or mask (to / 64) 0) (1 * 2 ^ (to % 64) % 18446744073709551616))
    → SetUpTo from (to + 1) before new
set_one from to before mask new known room is = record {
  size = ap length is ∙ length-set mask (to / 64) (bit_or (get_or mask (to / 64) 0) (1 * 2 ^ (to % 64) % 18446744073709551616)) ∙ known.size;
  order = omega (arith, known.order);
  each = (λ q.
      ap (λ m. has_bit m q) is ∙ set_by mask to q (nat_eq (q / 64) (to / 64)) (omega (arith, room, known.size)) refl ∙ ap (λ b. nat_eq q to || b) (known.each q)
      ∙ or_assoc (nat_eq q to) (is_within from to q) (has_bit before q) ∙ ap (λ b. b || has_bit before q) (one_longer (nat_eq q to) from to q known.order refl));
}

word_at : (t : Bool) (from to q : ℕ) (before mask : List ℕ) → SetUpTo from to before mask → to < 64 * length before → to % 64 ≡ 0 → nat_eq (q / 64) (to / 64) ≡ t
    → has_bit (set mask (to / 64) (2 ^ 64 - 1)) q ≡ is_within from (to + 64) q || has_bit before q
word_at true from to q before mask known room even e =
    let same : q / 64 ≡ to / 64 = eqb-true (q / 64) (to / 64) e in
    ap (λ n. nat_eq (bit_at (get_or (set mask (to / 64) (2 ^ 64 - 1)) n 0) (q % 64)) 1) same
    ∙ ap (λ w. nat_eq (bit_at w (q % 64)) 1) (get_or-set_same mask (to / 64) (2 ^ 64 - 1) 0 (omega (arith, room, known.size)))
    ∙ ap (λ b. nat_eq b 1) (bit_at_ones 64 (q % 64) (omega arith))
    ∙ ap (λ b. b || has_bit before q) (sym (run_at from (to + 64) q (omega (arith, same, even, known.order)) (omega (arith, same, even))))
word_at false from to q before mask known room even e =
    let ne : q / 64 ≢ to / 64 = eqb-false (q / 64) (to / 64) e in
    ap (λ w. nat_eq (bit_at w (q % 64)) 1) (get_or-set_other mask (to / 64) (q / 64) (2 ^ 64 - 1) 0 ne)
    ∙ known.each q ∙ ap (λ b. b || has_bit before q) (longer from to (to + 64) q (omega arith) (elim (cases_lt q to) [
      | inl lt ↦ inl lt
      | inr ge ↦ inr (omega (arith, ge, ne, even))
    ]))

pub set_word : (from to : ℕ) (before mask new : List ℕ) → SetUpTo from to before mask → to < 64 * length before → to % 64 ≡ 0 → new ≡ set mask (to / 64) (2 ^ 64 - 1) → SetUpTo from (to + 64) before new
set_word from to before mask new known room even is = record {
  size = ap length is ∙ length-set mask (to / 64) (2 ^ 64 - 1) ∙ known.size;
  order = omega (arith, known.order);
  each = (λ q. ap (λ m. has_bit m q) is ∙ word_at (nat_eq (q / 64) (to / 64)) from to q before mask known room even refl);
}

-- ---- ids that are left out

-- the ids below a count and not in a set, up to one that the first ids of the set are below
pub record LeftOut (count : ℕ) (ids : List ℕ) (i next : ℕ) (outside : List ℕ) : Type 0 where
  pub passed : Passed (is_outside count ids) next outside
  pub seen : next < count → (k : ℕ) → k < i → get_or ids k 0 < next
  pub ahead : (k : ℕ) → i ≤ k → k < length ids → next ≤ get_or ids k 0

pub leave_none : (count : ℕ) (ids outside : List ℕ) → outside ≡ [] → LeftOut count ids 0 0 outside
leave_none count ids outside none = record {
  passed = pass_none (is_outside count ids) 0 outside none (λ q lt. absurd (omega (arith, lt)));
  seen = (λ lt k before. absurd (omega (arith, before)));
  ahead = (λ k from lt. omega arith);
}

no_less : (ids : List ℕ) (i k : ℕ) → IsStrictlySortedBy nat_cmp ids → i ≤ k → k < length ids → get_or ids i 0 ≤ get_or ids k 0
no_less ids i k up le lt =
    elim (cases_lt i k) [
      | inl before ↦ (let less : get_or ids i 0 < get_or ids k 0 = below_from_sorted ids i k 0 up before lt in omega (arith, less))
      | inr past ↦ (let same : get_or ids i 0 ≡ get_or ids k 0 = ap (λ n. get_or ids n 0) (let e : i ≡ k = omega (arith, le, past) in e) in omega (arith, same))
    ]

-- an id between two that follow each other is not there
absent : (ids : List ℕ) (i q : ℕ) → IsStrictlySortedBy nat_cmp ids → ((k : ℕ) → k < i → get_or ids k 0 < q) → (i < length ids → q < get_or ids i 0) → has_id ids q ≡ false
absent ids i q up seen ahead =
    list_any_none (nat_eq q) ids (λ k d lt.
    let at : get_or ids k d ≡ get_or ids k 0 = get_or_default ids k d 0 lt in
    ne_eqb q (get_or ids k d) (λ e.
    elim (cases_lt k i) [
      | inl before ↦ (let less = seen k before in omega (arith, less, e, at))
      | inr past ↦ (
          let least = no_less ids i k up past lt in
          let less = ahead (omega (arith, past, lt)) in omega (arith, least, less, e, at)
          )
    ]))

-- the run before one more id of the set
pub leave_run : (count : ℕ) (ids : List ℕ) (i next x end after : ℕ) (outside new : List ℕ) → IsStrictlySortedBy nat_cmp ids → i < length ids → x ≡ get_or ids i 0 → end ≡ min x count → x ≤ after → after ≤ x + 1
    → (after < count → after ≡ x + 1) → LeftOut count ids i next outside → new ≡ outside ++ range_with_len next (end - next) → LeftOut count ids (i + 1) after new
leave_run count ids i next x end after outside new up lt is cut low high one known more =
    let start : next ≤ x = let ahead = known.ahead i (omega arith) lt in omega (arith, ahead, is) in
    let ends : end ≡ min x count = cut in record {
      passed = record {
        before = (λ q under.
            ap (λ xs. has_id xs q) more ∙ has_run outside next end q ∙ elim (cases_lt q next) [
              | inl below ↦ ap (λ b. b || has_id outside q) (run_before next end q below) ∙ known.passed.before q below
              | inr from ↦ elim (cases_lt q end) [
                | inl within ↦
                    (let below : q < count = omega (arith, within, ends) in
                    ap (λ b. b || has_id outside q) (run_at next end q from within)
                    ∙ sym (outside_at count q ids false below (absent ids i q up
                    (λ k before. let less = known.seen (omega (arith, from, below)) k before in omega (arith, less, from)) (λ _. omega (arith, within, ends, is)))))
                | inr past ↦
                    ap (λ b. b || has_id outside q) (run_past next end q past) ∙ known.passed.following q from ∙ sym (elim (cases_lt q count) [
                      | inl below ↦
                          (let same : q ≡ get_or ids i 0 = omega (arith, past, below, ends, under, high, is) in
                          outside_at count q ids true below (list_any_at (nat_eq q) ids i 0 lt (eq-eqb q (get_or ids i 0) same)))
                      | inr beyond ↦ outside_past count q ids beyond
                    ])
              ]
            ]);
        following = (λ q from.
            ap (λ xs. has_id xs q) more ∙ has_run outside next end q ∙ ap (λ b. b || has_id outside q) (run_past next end q (omega (arith, ends, low, from)))
            ∙ known.passed.following q (omega (arith, start, low, from)));
      };
      seen = (λ room k before.
          let least = no_less ids k i up (omega (arith, before)) lt in
          let step = one room in omega (arith, least, step, is));
      ahead = (λ k from within. let less = below_from_sorted ids i k 0 up (omega (arith, from)) within in omega (arith, less, is, high));
    }

-- the run after the last id of the set
pub leave_end : (count : ℕ) (ids : List ℕ) (i next : ℕ) (outside new : List ℕ) → IsStrictlySortedBy nat_cmp ids → length ids ≤ i → LeftOut count ids i next outside → new ≡ outside ++ range_with_len next (count - next)
    → AreThose (is_outside count ids) new
leave_end count ids i next outside new up end known more q =
    ap (λ xs. has_id xs q) more ∙ has_run outside next count q ∙ elim (cases_lt q next) [
      | inl below ↦ ap (λ b. b || has_id outside q) (run_before next count q below) ∙ known.passed.before q below
      | inr from ↦ elim (cases_lt q count) [
        | inl within ↦
            ap (λ b. b || has_id outside q) (run_at next count q from within)
            ∙ sym (outside_at count q ids false within (absent ids i q up
            (λ k before. let less = known.seen (omega (arith, from, within)) k before in omega (arith, less, from)) (λ lt. absurd (omega (arith, lt, end)))))
        | inr past ↦ ap (λ b. b || has_id outside q) (run_past next count q past) ∙ known.passed.following q from ∙ sym (outside_past count q ids past)
      ]
    ]

-- ---- lists that were written where they lie

back : (n : ℕ) (new old : List ℕ) → length new ≡ length old → length new ≡ n → take n (new ++ drop (length new) old) ≡ new
back n new old same size = ap (take n) (ap (λ xs. new ++ xs) (drop_all (length new) old (omega (arith, same))) ∙ append-nil new) ∙ take_all n new (omega (arith, size))

-- the ids of a run were written into room that was made for them
pub run_written : (ids sized place new : List ℕ) (start held len from to : ℕ) → from < to → start ≡ held → sized ≡ take (start + (to - from)) ids ++ replicate (start + (to - from) - held) 0 → place ≡ sized
    → length place ≡ len → len ≡ start + (to - from) → length new ≡ length place → new ≡ take start place ++ range_with_len from (length place - start)
    → take len (new ++ drop (length new) sized) ≡ ids ++ range_with_len from (to - from)
run_written ids sized place new start held len from to order is made lies size most same written =
    let kept : List ℕ = take (start + (to - from)) ids in
    let room : List ℕ = replicate (start + (to - from) - held) 0 in
    let cut : length kept ≡ min (start + (to - from)) (length ids) = length-take (start + (to - from)) ids in
    let parts : length (kept ++ room) ≡ length kept + length room = length-append kept room in
    let more : length room ≡ start + (to - from) - held = length-replicate (start + (to - from) - held) 0 in
    let whole : length place ≡ length (kept ++ room) = ap length (lies ∙ made) in
    let count : length ids ≡ start = omega (arith, order, is, cut, parts, more, whole, size, most) in
    let all : kept ≡ ids = take_all (start + (to - from)) ids (omega (arith, count)) in
    let first : take start place ≡ ids = ap (take start) (lies ∙ made ∙ ap (λ xs. xs ++ room) all) ∙ take-append-le start ids room (omega (arith, count)) ∙ take_all start ids (omega (arith, count)) in
    let rest : length place - start ≡ to - from = omega (arith, size, most) in
    back len new sized (same ∙ ap length lies) (same ∙ size) ∙ written ∙ (λ i. first i ++ range_with_len from (rest i))

-- the bits of a run were set
pub bits_written : (mask place new : List ℕ) (len from to : ℕ) → place ≡ mask → length place ≡ len → length new ≡ length place → ((q : ℕ) → has_bit new q ≡ is_within from to q || has_bit place q)
    → (q : ℕ) → has_bit (take len (new ++ drop (length new) mask)) q ≡ is_within from to q || has_bit mask q
bits_written mask place new len from to lies size same set q =
    ap (λ m. has_bit m q) (back len new mask (same ∙ ap length lies) (same ∙ size)) ∙ set q ∙ ap (λ m. is_within from to q || has_bit m q) lies
