-- The greatest of some ids tells whether all are below a number.
use Rattle.std.proofs.Common.{◌≡◌, ◌∙◌, ◌↔◌, ◌<◌, ◌≤◌, ◌+◌, ◌++◌, [], ℕ, Bool, false, cond, ltb, List, All, length, map, take, get_or, max, replicate, refl, sym, ap, subst, arith, inl, inr, w16, length-append}
use lib.Lanes.{sel_l, top, zip2}
use Rattle.std.specs.Ordering.{nat_cmp, ord_max}
use Rattle.std.proofs.lemmas.Bool.{cases_lt, le-ltb, lt-ltb}
use Rattle.std.proofs.lemmas.Bool.Decides.{nat_tests}
use Rattle.std.proofs.lemmas.List.{get_or-append-add, get_or_append_left, take_all}
use Rattle.std.proofs.lemmas.Simd.{get_or-sel_l, get_or-zip2, length-sel_l, length-zip2, tops_compared}
use Rattle.std.proofs.lemmas.List.Elements.{All-append, All-from_get_or, All-more, All-nil, All-replicate}

-- of the ids up to one, this is the greatest, or 0 where there is none
pub record IsMost (count most at : ℕ) (ids : List ℕ) : Type 0 where
  pub sound : (c : ℕ) → most < c → All (λ id. id < c) (take at ids)
  pub exact : All (λ id. id < count) ids → 0 < count → most < count

pub most-none : (count : ℕ) (ids : List ℕ) → IsMost count 0 0 ids
most-none count ids = record { sound = λ c lt. All-nil (λ id. id < c); exact = λ all some. some }

greater : (a b : ℕ) → ord_max nat_cmp a b ≡ max a b
greater a b = grind (arith, nat_tests)

pub most-more : (count most at : ℕ) (ids : List ℕ) → at < length ids → IsMost count most at ids → IsMost count (ord_max nat_cmp most (get_or ids at 0)) (at + 1) ids
most-more count most at ids lt so_far =
    let is : ord_max nat_cmp most (get_or ids at 0) ≡ max most (get_or ids at 0) = greater most (get_or ids at 0) in
    record {
      sound = λ c below. All-more (λ id. id < c) ids at 0 lt (so_far.sound c (omega (arith, below, is))) (omega (arith, below, is));
      exact = λ all some. omega (arith, so_far.exact all some, all at 0 lt, is);
    }

-- past the last id
pub most-sound : (count most at : ℕ) (ids : List ℕ) → length ids ≤ at → IsMost count most at ids → most < count → All (λ id. id < count) ids
most-sound count most at ids end is lt = subst (All (λ id. id < count)) (take_all at ids end) (is.sound count lt)

pub most-exact : (count most at : ℕ) (ids : List ℕ) → 0 < length ids → IsMost count most at ids → All (λ id. id < count) ids → most < count
most-exact count most at ids some is all = is.exact all (omega (arith, all 0 0 some))

-- ---- eight at a time
-- all lanes are below the number where all ids are, if it is above 0
pub record AreMost (count : ℕ) (lanes ids : List ℕ) : Type 0 where
  pub long : length lanes ≡ 8
  pub sound : All (λ id. id < count) lanes → All (λ id. id < count) ids
  pub exact : All (λ id. id < count) ids → 0 < count → All (λ id. id < count) lanes

pub are_most-none : (count : ℕ) → AreMost count (replicate 8 0) []
are_most-none count = record {
  long = refl;
  sound = λ all. All-nil (λ id. id < count);
  exact = λ all some. All-replicate (λ id. id < count) 8 0 some;
}

-- with the ids of eight lanes more
pub are_most-more : (count : ℕ) (lanes more new ids : List ℕ) → length more ≡ 8 → length new ≡ 8 → ((i : ℕ) → i < 8 → get_or new i 0 ≡ max (get_or lanes i 0) (get_or more i 0)) → AreMost count lanes ids → AreMost count new (ids ++ more)
are_most-more count lanes more new ids long new_long each so_far =
    let below : ℕ → Type 0 = λ id. id < count in
    record {
      long = new_long;
      sound = λ all. All-append below ids more
          (so_far.sound (All-from_get_or below lanes 0 (λ i lt. omega (arith, each i (omega (arith, lt, so_far.long)), all i 0 (omega (arith, lt, so_far.long, new_long))))))
          (All-from_get_or below more 0 (λ i lt. omega (arith, each i (omega (arith, lt, long)), all i 0 (omega (arith, lt, long, new_long)))));
      exact = λ all some. All-from_get_or below new 0 (λ i lt.
          let before = so_far.exact (λ k d within. subst below (get_or_append_left ids more d k within) (all k d (omega (arith, within, length-append ids more)))) some i 0 (omega (arith, lt, new_long, so_far.long)) in
          let after : get_or more i 0 < count = subst below (get_or-append-add ids more i 0) (all (length ids + i) 0 (omega (arith, lt, long, new_long, length-append ids more))) in
          omega (arith, each i (omega (arith, lt, new_long)), before, after));
    }

-- what the lanes tell where there are ids
pub are_most-tell : (count : ℕ) (lanes ids : List ℕ) → 0 < length ids → AreMost count lanes ids → All (λ id. id < count) lanes ↔ All (λ id. id < count) ids
are_most-tell count lanes ids some are = (are.sound, λ all. are.exact all (omega (arith, all 0 0 some)))

-- the greater of two in each lane
cond-greater : (a b : ℕ) → cond (ltb a b) b a ≡ max a b
cond-greater a b = elim (cases_lt a b) [
  | inl lt ↦ ap (λ t. cond t b a) (lt-ltb a b lt) ∙ omega (arith, lt)
  | inr le ↦ ap (λ t. cond t b a) (le-ltb a b le) ∙ omega (arith, le)
]

pub greater-long : (lanes more : List ℕ) → length lanes ≡ 8 → length more ≡ 8 → length (sel_l (map (top 15) (zip2 (λ a b. cond (ltb a b) 65535 0) lanes more)) more lanes) ≡ 8
greater-long lanes more a b =
    let long : length (zip2 ltb lanes more) ≡ 8 = length-zip2 ltb lanes more (a ∙ sym b) ∙ a in
    ap (λ ms. length (sel_l ms more lanes)) (tops_compared w16 ltb lanes more)
    ∙ length-sel_l (zip2 ltb lanes more) more lanes (long ∙ sym b) (long ∙ sym a)
    ∙ long

pub greater-at : (lanes more : List ℕ) → length lanes ≡ 8 → length more ≡ 8 → (i : ℕ) → i < 8 → get_or (sel_l (map (top 15) (zip2 (λ a b. cond (ltb a b) 65535 0) lanes more)) more lanes) i 0 ≡ max (get_or lanes i 0) (get_or more i 0)
greater-at lanes more a b i lt =
    let long : length (zip2 ltb lanes more) ≡ 8 = length-zip2 ltb lanes more (a ∙ sym b) ∙ a in
    ap (λ ms. get_or (sel_l ms more lanes) i 0) (tops_compared w16 ltb lanes more)
    ∙ get_or-sel_l (zip2 ltb lanes more) more lanes i 0 (omega (arith, lt, long)) (omega (arith, lt, b)) (omega (arith, lt, a))
    ∙ ap (λ t. cond t (get_or more i 0) (get_or lanes i 0)) (get_or-zip2 ltb lanes more i 0 0 false (omega (arith, lt, a)) (omega (arith, lt, b)))
    ∙ cond-greater (get_or lanes i 0) (get_or more i 0)
