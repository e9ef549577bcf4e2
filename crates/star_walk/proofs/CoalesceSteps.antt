-- Joined picks are of the same documents.
use Rattle.std.proofs.Common.{◌≡◌, ℕ, zero, suc, ◌+◌, ◌-◌, ◌<◌, ◌≤◌, Bool, true, false, cond, ◌==◌}
use Rattle.std.proofs.Common.{List, [], ◌∷◌, ◌++◌, length, take, drop, get_or, refl, sym, ap, ◌∙◌}
use Rattle.std.proofs.Common.{arith, append_assoc, length-append, drop-cons}
use Rattle.std.specs.List.{filter}
use Rattle.std.proofs.lemmas.Bool.{and_parts, eqb-true}
use Rattle.state_columns.specs.Docs.{Doc}
use Rattle.star_tree.specs.Picks.{Task, holds_from}
use Rattle.star_walk.specs.declared.pick.Pick.{Pick}
use Rattle.star_walk.specs.Images.{read_of, passing, AreWithin}
use Rattle.star_walk.specs.Coalescing.{touches, reaching, coalesced_from, coalesced, numbers_from, numbers_of}
use Rattle.star_walk.specs.Coalescing.{IsApart, AreApart}

-- a number with a level before others
abbrev put : ℕ → ℕ → List (ℕ × ℕ) → List (ℕ × ℕ)
put from level xs = (from, level) ∷ xs

numbers_split : (level from n m : ℕ) → numbers_from level from (n + m)
    ≡ numbers_from level from n ++ numbers_from level (from + n) m
numbers_split level from zero m =
    let a : 0 + m ≡ m = omega arith in
    let b : from + 0 ≡ from = omega arith in
    ap (numbers_from level from) a ∙ ap (λ j. numbers_from level j m) (sym b)
numbers_split level from (suc n) m =
    let a : suc n + m ≡ suc (n + m) = omega arith in
    let b : suc from + n ≡ from + suc n = omega arith in
    ap (numbers_from level from) a
    ∙ ap (put from level) (numbers_split level (suc from) n m)
    ∙ ap (λ j. put from level (numbers_from level (suc from) n) ++ numbers_from level j m) b

-- a pick that was coalesced has the numbers of both
numbers_reach : (p q : Pick) → p.start < p.end → q.start < q.end → p.end ≡ q.start
    → p.level ≡ q.level → numbers_from p.level p.start (q.end - p.start)
    ≡ numbers_from p.level p.start (p.end - p.start)
    ++ numbers_from q.level q.start (q.end - q.start)
numbers_reach p q a b touch same =
    let n : q.end - p.start ≡ (p.end - p.start) + (q.end - q.start) = omega arith in
    let s : p.start + (p.end - p.start) ≡ q.start = omega arith in
    ap (numbers_from p.level p.start) n
    ∙ numbers_split p.level p.start (p.end - p.start) (q.end - q.start)
    ∙ (λ i. numbers_from p.level p.start (p.end - p.start)
    ++ numbers_from (same i) (s i) (q.end - q.start))

module _ (documents k : ℕ) where
  -- a coalesced pick is within the documents too
  reach_within : (p q : Pick) (qs : List Pick) → AreWithin documents k (p ∷ q ∷ qs)
      → touches p q ≡ true → AreWithin documents k (reaching p q ∷ qs)
  reach_within p q qs h touch =
      let e = eqb-true p.end q.start ((and_parts (p.end == q.start) (p.level == q.level) touch).0) in
      let a = h.0 in
      let b = h.3.0 in
      (omega (arith, a, b, e), h.3.1, h.2, h.3.3)

  within_from : (p : Pick) (qs : List Pick) → AreWithin documents k (p ∷ qs)
      → AreWithin documents k (coalesced_from p qs)
  within_from p [] h = h
  within_from p (q ∷ qs) h =
      by_touch (touches p q) (λ y. within_from (reaching p q) qs (reach_within p q qs h y))
      (h.0, h.1, h.2, within_from q qs h.3) refl
    where
      by_touch : (b : Bool) → (touches p q ≡ true → AreWithin documents k (coalesced_from (reaching p q) qs))
          → AreWithin documents k (p ∷ coalesced_from q qs) → touches p q ≡ b
          → AreWithin documents k (cond b (coalesced_from (reaching p q) qs) (p ∷ coalesced_from q qs))
      by_touch true on off e = on e
      by_touch false on off e = off

  same_from : (p : Pick) (qs : List Pick) → AreWithin documents k (p ∷ qs)
      → numbers_of (coalesced_from p qs) ≡ numbers_of (p ∷ qs)
  same_from p [] h = refl
  same_from p (q ∷ qs) h =
      by_touch (touches p q) (λ y. same_from (reaching p q) qs (reach_within p q qs h y)
      ∙ reached y)
      (ap (λ ns. numbers_from p.level p.start (p.end - p.start) ++ ns) (same_from q qs h.3)) refl
    where
      reached : touches p q ≡ true → numbers_of (reaching p q ∷ qs) ≡ numbers_of (p ∷ q ∷ qs)
      reached y =
          let e = eqb-true p.end q.start ((and_parts (p.end == q.start) (p.level == q.level) y).0) in
          let l = eqb-true p.level q.level ((and_parts (p.end == q.start) (p.level == q.level) y).1) in
          ap (λ ns. ns ++ numbers_of qs) (numbers_reach p q h.0 h.3.0 e l)
          ∙ append_assoc (numbers_from p.level p.start (p.end - p.start))
          (numbers_from q.level q.start (q.end - q.start)) (numbers_of qs)

      by_touch : (b : Bool) → (touches p q ≡ true
          → numbers_of (coalesced_from (reaching p q) qs) ≡ numbers_of (p ∷ q ∷ qs))
          → numbers_of (p ∷ coalesced_from q qs) ≡ numbers_of (p ∷ q ∷ qs) → touches p q ≡ b
          → numbers_of (cond b (coalesced_from (reaching p q) qs) (p ∷ coalesced_from q qs))
          ≡ numbers_of (p ∷ q ∷ qs)
      by_touch true on off e = on e
      by_touch false on off e = off

  pub coalesced_within : (ps : List Pick) → AreWithin documents k ps
      → AreWithin documents k (coalesced ps)
  coalesced_within [] h = h
  coalesced_within (p ∷ ps) h = within_from p ps h

  pub coalesced_same : (ps : List Pick) → AreWithin documents k ps
      → numbers_of (coalesced ps) ≡ numbers_of ps
  coalesced_same [] h = refl
  coalesced_same (p ∷ ps) h = same_from p ps h

-- what was coalesced begins as its first pick did
first_apart : (p q : Pick) (qs : List Pick) → touches p q ≡ false → IsApart p (coalesced_from q qs)
first_apart p q [] h = h
first_apart p q (r ∷ qs) h =
    by_touch (touches q r) (first_apart p (reaching q r) qs h)
  where
    by_touch : (b : Bool) → IsApart p (coalesced_from (reaching q r) qs)
        → IsApart p (cond b (coalesced_from (reaching q r) qs) (q ∷ coalesced_from r qs))
    by_touch true on = on
    by_touch false on = h

apart_from : (p : Pick) (qs : List Pick) → AreApart (coalesced_from p qs)
apart_from p [] = (tt, tt)
apart_from p (q ∷ qs) =
    by_touch (touches p q) (apart_from (reaching p q) qs) (apart_from q qs) refl
  where
    by_touch : (b : Bool) → AreApart (coalesced_from (reaching p q) qs) → AreApart (coalesced_from q qs)
        → touches p q ≡ b
        → AreApart (cond b (coalesced_from (reaching p q) qs) (p ∷ coalesced_from q qs))
    by_touch true on off e = on
    by_touch false on off e = (first_apart p q qs e, off)

pub coalesced_apart : (ps : List Pick) → AreApart (coalesced ps)
coalesced_apart [] = tt
coalesced_apart (p ∷ ps) = apart_from p ps

-- how many numbers there are
length_numbers : (level from n : ℕ) → length (numbers_from level from n) ≡ n
length_numbers level from zero = refl
length_numbers level from (suc n) = ap suc (length_numbers level (suc from) n)

pub read_numbers : (ps : List Pick) → read_of ps ≡ length (numbers_of ps)
read_numbers [] = refl
read_numbers (p ∷ ps) =
    (λ i. sym (length_numbers p.level p.start (p.end - p.start)) i + read_numbers ps i)
    ∙ sym (length-append (numbers_from p.level p.start (p.end - p.start)) (numbers_of ps))

-- the documents of some numbers that pass their remaining tests
module _ (t : Task) (k : ℕ) (docs : List Doc) where
  abbrev there : ℕ → Doc
  there at = get_or docs at ([], [])

  abbrev passing_at : List (ℕ × ℕ) → List Doc
  passing_at [] = []
  passing_at (x ∷ xs) = cond (holds_from t (k - x.1) x.1 (there x.0).0)
      (there x.0 ∷ passing_at xs) (passing_at xs)

  passing_append : (xs ys : List (ℕ × ℕ))
      → passing_at (xs ++ ys) ≡ passing_at xs ++ passing_at ys
  passing_append [] ys = refl
  passing_append (x ∷ xs) ys =
      by_test (holds_from t (k - x.1) x.1 (there x.0).0) (passing_append xs ys)
    where
      by_test : (b : Bool) → passing_at (xs ++ ys) ≡ passing_at xs ++ passing_at ys
          → cond b (there x.0 ∷ passing_at (xs ++ ys)) (passing_at (xs ++ ys))
          ≡ cond b (there x.0 ∷ passing_at xs) (passing_at xs) ++ passing_at ys
      by_test true h = ap (λ ds. there x.0 ∷ ds) h
      by_test false h = h

  passing_run : (level n from : ℕ) → from + n ≤ length docs
      → filter (λ e. holds_from t (k - level) level e.0) (take n (drop from docs))
      ≡ passing_at (numbers_from level from n)
  passing_run level zero from h = refl
  passing_run level (suc n) from h =
      ap (λ ds. filter (λ e. holds_from t (k - level) level e.0) (take (suc n) ds))
      (drop-cons docs from ([], []) (omega arith))
      ∙ ap (λ ds. cond (holds_from t (k - level) level (get_or docs from ([], [])).0)
      (get_or docs from ([], []) ∷ ds) ds) (passing_run level n (suc from) (omega arith))

  pub passing_numbers : (ps : List Pick) → AreWithin (length docs) k ps
      → passing t k docs ps ≡ passing_at (numbers_of ps)
  passing_numbers [] h = refl
  passing_numbers (p ∷ ps) h =
      (λ i. passing_run p.level (p.end - p.start) p.start (let a = h.0 in let b = h.1 in
      omega (arith, a, b)) i ++ passing_numbers ps h.3 i)
      ∙ sym (passing_append (numbers_from p.level p.start (p.end - p.start)) (numbers_of ps))

  pub coalesced_passing : (ps : List Pick) → AreWithin (length docs) k ps
      → passing t k docs (coalesced ps) ≡ passing t k docs ps
  coalesced_passing ps h =
      passing_numbers (coalesced ps) (coalesced_within (length docs) k ps h)
      ∙ ap passing_at (coalesced_same (length docs) k ps h) ∙ sym (passing_numbers ps h)
