-- Words of marks are put together, and runs are marked.
use Rattle.std.proofs.Common.{◌≡◌, ◌≢◌, ◌∙◌, ◌⊎◌, ℕ, zero, suc, ◌+◌, ◌-◌, ◌*◌, ◌/◌, ◌%◌, ◌^◌, ◌<◌, ◌≤◌, Bool, true, false, ◌&&◌, ◌||◌, not, min, max, nat_eq, nat_le, nat_lt, List, [], ◌∷◌, ◌++◌, length, take, drop, get_or, inl, inr, refl, sym, ap, subst, arith, bit_and, bit_or}
use Rattle.std.specs.Int.{bit_at, bit_not, w64}
use Rattle.std.specs.List.{slice_set}
use Rattle.std.proofs.lemmas.Bool.{cases_eq, cases_lt, eqb-true, eqb-false, le-leb, lt-leb, le-ltb, lt-ltb}
use Rattle.std.proofs.lemmas.List.{append-nil, get_or-set_same, get_or-set_other, drop_all, get_or-take, get_or_past, length-set, take_all, take_more}
use Rattle.std.proofs.lemmas.List.Folds.{list_any-append}
use Rattle.std.proofs.lemmas.Nat.Bits.{bit_at-lt, bit_at-zero, bit_at_and, bit_at_not, bit_at_ones, bit_at_or}
use Rattle.doc_lists.specs.Docs.{Apart, next_from}
use Rattle.doc_lists.specs.Marks.{has_bit, is_marked}
use Rattle.doc_lists.specs.Sets.{in_run, in_runs}
use Rattle.doc_lists.specs.declared.run.Run.{Run}
use Rattle.doc_lists.proofs.MarkSteps.{or_assoc, set_by, with_bit, with_mark}
use Rattle.doc_lists.proofs.Runs.{apart_less}
use Rattle.doc_lists.proofs.Stretches.{next_least}
use Rattle.doc_lists.proofs.Sweep.{and_false, or_false, or_true}

-- ---- bits

bits_by : (f g : ℕ → ℕ → Bool) → f 0 0 ≡ g 0 0 → f 0 1 ≡ g 0 1 → f 1 0 ≡ g 1 0 → f 1 1 ≡ g 1 1 → (a b : ℕ) → a < 2 → b < 2 → f a b ≡ g a b
bits_by f g none second first both zero zero la lb = none
bits_by f g none second first both zero (suc zero) la lb = second
bits_by f g none second first both zero (suc (suc b)) la lb = absurd (omega (arith, lb))
bits_by f g none second first both (suc zero) zero la lb = first
bits_by f g none second first both (suc zero) (suc zero) la lb = both
bits_by f g none second first both (suc zero) (suc (suc b)) la lb = absurd (omega (arith, lb))
bits_by f g none second first both (suc (suc a)) b la lb = absurd (omega (arith, la))

pub and_bit : (x y k : ℕ) → has_bit (bit_and x y) k ≡ has_bit x k && has_bit y k
and_bit x y k = ap (λ b. nat_eq b 1) (bit_at_and x y k) ∙ bits_by (λ a b. nat_eq (min a b) 1) (λ a b. nat_eq a 1 && nat_eq b 1) refl refl refl refl (bit_at x k) (bit_at y k) (bit_at-lt x k) (bit_at-lt y k)

pub or_bit : (x y k : ℕ) → has_bit (bit_or x y) k ≡ has_bit x k || has_bit y k
or_bit x y k = ap (λ b. nat_eq b 1) (bit_at_or x y k) ∙ bits_by (λ a b. nat_eq (max a b) 1) (λ a b. nat_eq a 1 || nat_eq b 1) refl refl refl refl (bit_at x k) (bit_at y k) (bit_at-lt x k) (bit_at-lt y k)

pub but_bit : (x y k : ℕ) → y < 2 ^ 64 → k < 64 → has_bit (bit_and x (bit_not w64 y)) k ≡ has_bit x k && not (has_bit y k)
but_bit x y k small lt =
    ap (λ b. nat_eq b 1) (bit_at_and x (bit_not w64 y) k ∙ ap (min (bit_at x k)) (bit_at_not w64 y k small lt))
    ∙ bits_by (λ a b. nat_eq (min a (1 - b)) 1) (λ a b. nat_eq a 1 && not (nat_eq b 1)) refl refl refl refl (bit_at x k) (bit_at y k) (bit_at-lt x k) (bit_at-lt y k)

pub no_bit : (words : List ℕ) (j k : ℕ) → length words ≤ j → has_bit (get_or words j 0) k ≡ false
no_bit words j k le = ap (λ w. has_bit w k) (get_or_past words j 0 le) ∙ ap (λ b. nat_eq b 1) (bit_at-zero k)

-- ---- words are put together

pub and_all : (old others new : List ℕ) → length old ≤ length others → length new ≡ length old → ((j : ℕ) → j < length old → get_or new j 0 ≡ bit_and (get_or old j 0) (get_or others j 0))
    → (doc : ℕ) → is_marked new doc ≡ is_marked old doc && is_marked others doc
and_all old others new le same is doc =
    elim (cases_lt (doc / 64) (length old)) [
      | inl lt ↦ ap (λ w. has_bit w (doc % 64)) (is (doc / 64) lt) ∙ and_bit (get_or old (doc / 64) 0) (get_or others (doc / 64) 0) (doc % 64)
      | inr past ↦ no_bit new (doc / 64) (doc % 64) (omega (arith, past, same)) ∙ ap (λ b. b && is_marked others doc) (sym (no_bit old (doc / 64) (doc % 64) past))
    ]

-- words that are left out are of no use, where the others have none there
pub and_cut : (old others new : List ℕ) → ((doc : ℕ) → is_marked new doc ≡ is_marked (take (length others) old) doc && is_marked others doc)
    → (doc : ℕ) → is_marked new doc ≡ is_marked old doc && is_marked others doc
and_cut old others new is doc = is doc ∙
    elim (cases_lt (doc / 64) (length others)) [
      | inl lt ↦ ap (λ w. has_bit w (doc % 64) && is_marked others doc) (get_or-take (length others) old (doc / 64) 0 lt)
      | inr past ↦
          let none : is_marked others doc ≡ false = no_bit others (doc / 64) (doc % 64) past in
          ap (λ b. is_marked (take (length others) old) doc && b) none ∙ and_false (is_marked (take (length others) old) doc) ∙ sym (and_false (is_marked old doc)) ∙ ap (λ b. is_marked old doc && b) (sym none)
    ]

pub or_all : (old others new : List ℕ) → ((j : ℕ) → j < length others → get_or new j 0 ≡ bit_or (get_or old j 0) (get_or others j 0)) → ((j : ℕ) → length others ≤ j → get_or new j 0 ≡ get_or old j 0)
    → (doc : ℕ) → is_marked new doc ≡ is_marked old doc || is_marked others doc
or_all old others new done left doc =
    elim (cases_lt (doc / 64) (length others)) [
      | inl lt ↦ ap (λ w. has_bit w (doc % 64)) (done (doc / 64) lt) ∙ or_bit (get_or old (doc / 64) 0) (get_or others (doc / 64) 0) (doc % 64)
      | inr past ↦ ap (λ w. has_bit w (doc % 64)) (left (doc / 64) past) ∙ sym (or_false (is_marked old doc)) ∙ ap (λ b. is_marked old doc || b) (sym (no_bit others (doc / 64) (doc % 64) past))
    ]

-- a bit of a word without those of another
pub record IsWithout (old other new : ℕ) : Type 0 where
  pub each : (k : ℕ) → k < 64 → has_bit new k ≡ has_bit old k && not (has_bit other k)

pub without_word : (old other new : ℕ) → other < 2 ^ 64 → new ≡ bit_and old (bit_not w64 other) → IsWithout old other new
without_word old other new small is = record { each = λ k lt. ap (λ w. has_bit w k) is ∙ but_bit old other k small lt }

and_true : (b : Bool) → b && true ≡ b
and_true true = refl
and_true false = refl

pub without_all : (old others new : List ℕ) (many : ℕ) → (length old ≤ many) ⊎ (length others ≤ many) → ((j : ℕ) → j < many → IsWithout (get_or old j 0) (get_or others j 0) (get_or new j 0)) → ((j : ℕ) → many ≤ j → get_or new j 0 ≡ get_or old j 0)
    → (doc : ℕ) → is_marked new doc ≡ is_marked old doc && not (is_marked others doc)
without_all old others new many all done left doc =
    elim (cases_lt (doc / 64) many) [
      | inl lt ↦ (done (doc / 64) lt).each (doc % 64) (omega arith)
      | inr past ↦ ap (λ w. has_bit w (doc % 64)) (left (doc / 64) past) ∙ elim all [
        | inl short ↦
            let none : is_marked old doc ≡ false = no_bit old (doc / 64) (doc % 64) (omega (arith, short, past)) in
            none ∙ ap (λ b. b && not (is_marked others doc)) (sym none)
        | inr short ↦
            let none : is_marked others doc ≡ false = no_bit others (doc / 64) (doc % 64) (omega (arith, short, past)) in
            sym (and_true (is_marked old doc)) ∙ ap (λ b. is_marked old doc && not b) (sym none)
      ]
    ]

pub without_more : (old others marks : List ℕ) (at j : ℕ) → at < length marks → get_or others at 0 < 2 ^ 64 → get_or marks at 0 ≡ get_or old at 0
    → (j < at → IsWithout (get_or old j 0) (get_or others j 0) (get_or marks j 0)) → j < at + 1
    → IsWithout (get_or old j 0) (get_or others j 0) (get_or (slice_set marks at (bit_and (get_or marks at 0) (bit_not w64 (get_or others at 0)))) j 0)
without_more old others marks at j within small own done lt =
    let word = bit_and (get_or marks at 0) (bit_not w64 (get_or others at 0)) in
    elim (cases_eq j at) [
      | inl e ↦ subst (λ n. IsWithout (get_or old n 0) (get_or others n 0) (get_or (slice_set marks at word) n 0)) (sym e)
          (without_word (get_or old at 0) (get_or others at 0) (get_or (slice_set marks at word) at 0) small
          (get_or-set_same marks at word 0 within ∙ ap (λ w. bit_and w (bit_not w64 (get_or others at 0))) own))
      | inr ne ↦ subst (IsWithout (get_or old j 0) (get_or others j 0)) (sym (get_or-set_other marks at j word 0 ne)) (done (omega (arith, lt, ne)))
    ]

pub without_left : (old marks : List ℕ) (at j word : ℕ) → get_or marks j 0 ≡ get_or old j 0 → at + 1 ≤ j → get_or (slice_set marks at word) j 0 ≡ get_or old j 0
without_left old marks at j word same le = get_or-set_other marks at j word 0 (λ e. omega (arith, e, le)) ∙ same

-- ---- runs are marked

-- whether a document is from one on and before another
abbrev pub is_part : ℕ → ℕ → ℕ → Bool
is_part first to doc = nat_le first doc && nat_lt doc to

is_within : (first to doc : ℕ) → first ≤ doc → doc < to → is_part first to doc ≡ true
is_within first to doc from lt = ap (λ b. b && nat_lt doc to) (le-leb first doc from) ∙ lt-ltb doc to lt

is_past : (first to doc : ℕ) → to ≤ doc → is_part first to doc ≡ false
is_past first to doc le = ap (λ b. nat_le first doc && b) (le-ltb doc to le) ∙ and_false (nat_le first doc)

is_before : (first to doc : ℕ) → doc < first → is_part first to doc ≡ false
is_before first to doc lt = ap (λ b. b && nat_lt doc to) (lt-leb first doc lt)

-- a stretch that is longer has the same documents before its old end
part_longer : (first to end doc : ℕ) → to ≤ end → (doc < to) ⊎ (end ≤ doc) → is_part first end doc ≡ is_part first to doc
part_longer first to end doc le (inl lt) =
    elim (cases_lt doc first) [
      | inl low ↦ is_before first end doc low ∙ sym (is_before first to doc low)
      | inr from ↦ is_within first end doc from (omega (arith, lt, le)) ∙ sym (is_within first to doc from lt)
    ]
part_longer first to end doc le (inr ge) = is_past first end doc ge ∙ sym (is_past first to doc (omega (arith, le, ge)))

-- the documents from one on and before another were marked
pub record PartMarked (first to : ℕ) (old marks : List ℕ) : Type 0 where
  pub size : length marks ≡ length old
  pub order : first ≤ to
  pub those : (doc : ℕ) → is_marked marks doc ≡ is_marked old doc || is_part first to doc

pub part_first : (first : ℕ) (marks : List ℕ) → PartMarked first first marks marks
part_first first marks = record {
  size = refl;
  order = omega arith;
  those = λ doc. sym (or_false (is_marked marks doc)) ∙ ap (λ b. is_marked marks doc || b) (elim (cases_lt doc first) [
    | inl lt ↦ sym (is_before first first doc lt)
    | inr le ↦ sym (is_past first first doc le)
  ]);
}

one_more : (t : Bool) (first to doc : ℕ) → first ≤ to → nat_eq doc to ≡ t → is_part first to doc || t ≡ is_part first (to + 1) doc
one_more true first to doc le e =
    let same : doc ≡ to = eqb-true doc to e in
    or_true (is_part first to doc) ∙ sym (is_within first (to + 1) doc (omega (arith, same, le)) (omega (arith, same)))
one_more false first to doc le e =
    let ne : doc ≢ to = eqb-false doc to e in
    or_false (is_part first to doc) ∙ sym (part_longer first to (to + 1) doc (omega arith) (elim (cases_lt doc to) [
      | inl lt ↦ inl lt
      | inr ge ↦ inr (omega (arith, ge, ne))
    ]))

-- one more document
pub part_one : (first to : ℕ) (old marks new : List ℕ) → PartMarked first to old marks → to < 64 * length old → new ≡ with_mark marks to → PartMarked first (to + 1) old new
part_one first to old marks new known within is = record {
  size = ap length is ∙ length-set marks (to / 64) (with_bit (get_or marks (to / 64) 0) (to % 64)) ∙ known.size;
  order = omega (arith, known.order);
  those = λ doc.
      ap (λ ms. is_marked ms doc) is ∙ set_by (nat_eq doc to) marks to doc (omega (arith, within, known.size)) refl ∙ ap (λ b. b || nat_eq doc to) (known.those doc)
      ∙ or_assoc (is_marked old doc) (is_part first to doc) (nat_eq doc to) ∙ ap (λ b. is_marked old doc || b) (one_more (nat_eq doc to) first to doc known.order refl);
}

whole_at : (t : Bool) (first to doc : ℕ) (old marks : List ℕ) → PartMarked first to old marks → to < 64 * length old → to % 64 ≡ 0 → nat_eq (doc / 64) (to / 64) ≡ t
    → is_marked (slice_set marks (to / 64) (2 ^ 64 - 1)) doc ≡ is_marked old doc || is_part first (to + 64) doc
whole_at true first to doc old marks known within even e =
    let same : doc / 64 ≡ to / 64 = eqb-true (doc / 64) (to / 64) e in
    ap (λ n. has_bit (get_or (slice_set marks (to / 64) (2 ^ 64 - 1)) n 0) (doc % 64)) same
    ∙ ap (λ w. has_bit w (doc % 64)) (get_or-set_same marks (to / 64) (2 ^ 64 - 1) 0 (omega (arith, within, known.size)))
    ∙ ap (λ b. nat_eq b 1) (bit_at_ones 64 (doc % 64) (omega arith))
    ∙ sym (or_true (is_marked old doc))
    ∙ ap (λ b. is_marked old doc || b) (sym (is_within first (to + 64) doc (omega (arith, same, even, known.order)) (omega (arith, same, even))))
whole_at false first to doc old marks known within even e =
    let ne : doc / 64 ≢ to / 64 = eqb-false (doc / 64) (to / 64) e in
    ap (λ w. has_bit w (doc % 64)) (get_or-set_other marks (to / 64) (doc / 64) (2 ^ 64 - 1) 0 ne)
    ∙ known.those doc ∙ ap (λ b. is_marked old doc || b) (sym (part_longer first to (to + 64) doc (omega arith) (elim (cases_lt doc to) [
      | inl lt ↦ inl lt
      | inr ge ↦ inr (omega (arith, ge, ne, even))
    ])))

-- the documents of a whole word more
pub part_word : (first to : ℕ) (old marks new : List ℕ) → PartMarked first to old marks → to < 64 * length old → to % 64 ≡ 0 → new ≡ slice_set marks (to / 64) (2 ^ 64 - 1) → PartMarked first (to + 64) old new
part_word first to old marks new known within even is = record {
  size = ap length is ∙ length-set marks (to / 64) (2 ^ 64 - 1) ∙ known.size;
  order = omega (arith, known.order);
  those = λ doc. ap (λ ms. is_marked ms doc) is ∙ whole_at (nat_eq (doc / 64) (to / 64)) first to doc old marks known within even refl;
}

pub part_done : (run : Run) (old marks : List ℕ) (to : ℕ) → to ≡ run.last + 1 → PartMarked run.first to old marks → (doc : ℕ) → is_marked marks doc ≡ is_marked old doc || in_run doc run
part_done run old marks to end known doc = known.those doc ∙ ap (λ b. is_marked old doc || (nat_le run.first doc && b)) (ap (nat_lt doc) end ∙ elim (cases_lt run.last doc) [
  | inl lt ↦ le-ltb doc (run.last + 1) (omega (arith, lt)) ∙ sym (lt-leb doc run.last lt)
  | inr le ↦ lt-ltb doc (run.last + 1) (omega (arith, le)) ∙ sym (le-leb doc run.last le)
])

-- the documents of runs were marked
pub record RunsMarked (runs : List Run) (old marks : List ℕ) : Type 0 where
  pub size : length marks ≡ length old
  pub those : (doc : ℕ) → is_marked marks doc ≡ is_marked old doc || in_runs runs doc

pub runs_none : (marks : List ℕ) → RunsMarked [] marks marks
runs_none marks = record { size = refl; those = λ doc. sym (or_false (is_marked marks doc)) }

pub runs_more : (runs : List Run) (i : ℕ) (run d : Run) (old marks new : List ℕ) → i < length runs → run ≡ get_or runs i d → RunsMarked (take i runs) old marks → length new ≡ length marks
    → ((doc : ℕ) → is_marked new doc ≡ is_marked marks doc || in_run doc run) → RunsMarked (take (i + 1) runs) old new
runs_more runs i run d old marks new lt is known same more = record {
  size = same ∙ known.size;
  those = λ doc.
      more doc ∙ ap (λ b. b || in_run doc run) (known.those doc) ∙ or_assoc (is_marked old doc) (in_runs (take i runs) doc) (in_run doc run)
      ∙ ap (λ b. is_marked old doc || (in_runs (take i runs) doc || b)) (ap (in_run doc) is ∙ sym (or_false (in_run doc (get_or runs i d))))
      ∙ ap (λ b. is_marked old doc || b) (sym (list_any-append (in_run doc) (take i runs) (get_or runs i d ∷ [])) ∙ ap (λ rs. in_runs rs doc) (sym (take_more runs i d lt)));
}

pub runs_end : (runs : List Run) (i : ℕ) (old marks : List ℕ) → length runs ≤ i → RunsMarked (take i runs) old marks → RunsMarked runs old marks
runs_end runs i old marks le known = subst (λ (rs : List Run). RunsMarked rs old marks) (take_all i runs le) known

pub last_at : (next from i : ℕ) (runs : List Run) (d : Run) → Apart from runs → i < length runs → (get_or runs i d).last < next_from next runs
last_at next from i [] d apart lt = absurd (omega (arith, lt))
last_at next from zero (run ∷ runs) d apart lt =
    let least = next_least (run.last + 1) runs (apart_less (run.last + 2) (run.last + 1) runs (omega arith) apart.3) in omega (arith, least)
last_at next from (suc i) (run ∷ runs) d apart lt = last_at (run.last + 1) (run.last + 2) i runs d apart.3 (omega (arith, lt))

-- ---- words that were changed where they lie

pub whole_back : (n : ℕ) (new old : List ℕ) → length new ≡ length old → length new ≤ n → take n (new ++ drop (length new) old) ≡ new
whole_back n new old same le = ap (take n) (ap (λ xs. new ++ xs) (drop_all (length new) old (omega (arith, same))) ∙ append-nil new) ∙ take_all n new le
