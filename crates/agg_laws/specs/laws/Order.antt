-- The order of states is total.
use Rattle.std.proofs.Common.{◌≡◌, ℕ, zero, suc, ◌*◌, ◌<◌, max, Option, Some, None, refl, sym, ap}
use Rattle.std.proofs.Common.{◌∙◌, arith}
use Rattle.std.specs.Prelude.{ℤ, pos, negsuc, neg_ℤ, ◌*ℤ◌, ◌<ℤ◌}
use Rattle.std.specs.declared.cmp.Ordering.{Ordering}
use Rattle.std.specs.declared.cmp.Ordering.TheVariants.{Less, Equal, Greater}
use Rattle.std.specs.Ordering.{int_cmp, MatchOrdering, ordering_reverse}
use Rattle.std.specs.Cmp.{IsTotalOrder, int_cmp_is}
use Rattle.std.proofs.lemmas.Cmp.{int_ranked, nat_cmp_total, int_cmp_total}
use Rattle.std.proofs.lemmas.Int.{ints}
use Rattle.std.proofs.Math.IntN.{pos-*ℤ-pos, negsuc-*ℤ-pos, zero-*ℤ}
use Rattle.std.proofs.Math.Nat.{mul-le-mul_right}
use Rattle.agg_laws.specs.declared.states.AggState.{AggState}
use Rattle.agg_laws.specs.declared.states.AggState.TheVariants.{Count, Sum, Least, Greatest}
use Rattle.agg_laws.specs.declared.states.AggState.TheVariants.{Average}
use Rattle.agg_laws.specs.Order.{number_order, average_order, state_order}

-- a positive factor keeps the order of two numbers
times_more : (a b n : ℕ) → a < b → 0 < n → a * n < b * n
times_more a b n h k = let le = mul-le-mul_right n h in omega (arith, le)

times_lt : (a b : ℤ) (n : ℕ) → 0 < n → a <ℤ b → (a *ℤ pos n) <ℤ (b *ℤ pos n)
times_lt (pos a) (pos b) n k h = let lt = times_more a b n (omega (arith, ints)) k
    in omega (arith, ints, pos-*ℤ-pos a n, pos-*ℤ-pos b n, lt)
times_lt (pos a) (negsuc b) n k h = absurd (omega (arith, ints))
times_lt (negsuc a) (pos b) n k h = let lt = times_more 0 (suc a) n (omega arith) k
    in omega (arith, ints, negsuc-*ℤ-pos a n, pos-*ℤ-pos b n, lt)
times_lt (negsuc a) (negsuc b) n k h = let lt = times_more (suc b) (suc a) n (omega (arith, ints)) k
    in omega (arith, ints, negsuc-*ℤ-pos a n, negsuc-*ℤ-pos b n, lt)

times_ranks : (o : Ordering) (a b : ℤ) (n : ℕ) → 0 < n → MatchOrdering o (a <ℤ b) (a ≡ b) (b <ℤ a)
    → MatchOrdering o ((a *ℤ pos n) <ℤ (b *ℤ pos n)) (a *ℤ pos n ≡ b *ℤ pos n)
    ((b *ℤ pos n) <ℤ (a *ℤ pos n))
times_ranks Less a b n k h = times_lt a b n k h
times_ranks Equal a b n k h = ap (λ x. x *ℤ pos n) h
times_ranks Greater a b n k h = times_lt b a n k h

scaled : (a b : ℤ) (n : ℕ) → 0 < n → int_cmp a b ≡ int_cmp (a *ℤ pos n) (b *ℤ pos n)
scaled a b n k = int_cmp_is (a *ℤ pos n) (b *ℤ pos n) (int_cmp a b)
    (times_ranks (int_cmp a b) a b n k (int_ranked a b (int_cmp a b) refl))

-- factors in either order
neg_times : (k n : ℕ) → neg_ℤ (pos k) *ℤ pos n ≡ neg_ℤ (pos (k * n))
neg_times zero n = let none : 0 ≡ 0 * n = omega arith in zero-*ℤ (pos n)
    ∙ ap (λ m. neg_ℤ (pos m)) none
neg_times (suc k) n = negsuc-*ℤ-pos k n

same : (a m n : ℕ) → a * m * n ≡ a * n * m
same a m n = omega arith

turned : (a : ℤ) (m n : ℕ) → (a *ℤ pos m) *ℤ pos n ≡ (a *ℤ pos n) *ℤ pos m
turned (pos a) m n =
    ap (λ x. x *ℤ pos n) (pos-*ℤ-pos a m) ∙ pos-*ℤ-pos (a * m) n ∙ ap pos (same a m n)
    ∙ sym (ap (λ x. x *ℤ pos m) (pos-*ℤ-pos a n) ∙ pos-*ℤ-pos (a * n) m)
turned (negsuc a) m n =
    ap (λ x. x *ℤ pos n) (negsuc-*ℤ-pos a m) ∙ neg_times (suc a * m) n
    ∙ ap (λ k. neg_ℤ (pos k)) (same (suc a) m n)
    ∙ sym (ap (λ x. x *ℤ pos m) (negsuc-*ℤ-pos a n) ∙ neg_times (suc a * n) m)

-- fractions with positive denominators, by cross products
module _ (s t u : ℤ) (m n k : ℕ) (some_m : 0 < m) (some_n : 0 < n) (some_k : 0 < k) where
  -- s/m against t/n, times k; t/n against u/k, times m; s/m against u/k, times n
  first : int_cmp (s *ℤ pos n) (t *ℤ pos m)
      ≡ int_cmp ((s *ℤ pos k) *ℤ pos n) ((t *ℤ pos m) *ℤ pos k)
  first = scaled (s *ℤ pos n) (t *ℤ pos m) k some_k
      ∙ ap (λ x. int_cmp x ((t *ℤ pos m) *ℤ pos k)) (turned s n k)

  second : int_cmp (t *ℤ pos k) (u *ℤ pos n)
      ≡ int_cmp ((t *ℤ pos m) *ℤ pos k) ((u *ℤ pos m) *ℤ pos n)
  second = scaled (t *ℤ pos k) (u *ℤ pos n) m some_m
      ∙ (λ i. int_cmp (turned t k m i) (turned u n m i))

  third : int_cmp (s *ℤ pos k) (u *ℤ pos m)
      ≡ int_cmp ((s *ℤ pos k) *ℤ pos n) ((u *ℤ pos m) *ℤ pos n)
  third = scaled (s *ℤ pos k) (u *ℤ pos m) n some_n

  fractions_trans : int_cmp (s *ℤ pos n) (t *ℤ pos m) ≡ Less → int_cmp (t *ℤ pos k) (u *ℤ pos n)
      ≡ Less → int_cmp (s *ℤ pos k) (u *ℤ pos m) ≡ Less
  fractions_trans p q = third
      ∙ int_cmp_total.trans ((s *ℤ pos k) *ℤ pos n) ((t *ℤ pos m) *ℤ pos k) ((u *ℤ pos m) *ℤ pos n)
      (sym first ∙ p) (sym second ∙ q)

  fractions_congr : int_cmp (s *ℤ pos n) (t *ℤ pos m) ≡ Equal → int_cmp (s *ℤ pos k) (u *ℤ pos m)
      ≡ int_cmp (t *ℤ pos k) (u *ℤ pos n)
  fractions_congr p = third
      ∙ int_cmp_total.congr ((s *ℤ pos k) *ℤ pos n) ((t *ℤ pos m) *ℤ pos k) ((u *ℤ pos m) *ℤ pos n)
      (sym first ∙ p) ∙ sym second

some : (c : ℕ) → 0 < max 1 c
some c = omega arith

average_total : IsTotalOrder average_order
average_total = record {
  antisymm = λ a b. int_cmp_total.antisymm (a.sum *ℤ pos (max 1 b.count))
      (b.sum *ℤ pos (max 1 a.count));
  trans = λ a b c p q. fractions_trans a.sum b.sum c.sum (max 1 a.count) (max 1 b.count)
      (max 1 c.count) (some a.count) (some b.count) (some c.count) p q;
  congr = λ a b c p. fractions_congr a.sum b.sum c.sum (max 1 a.count) (max 1 b.count)
      (max 1 c.count) (some a.count) (some b.count) (some c.count) p;
}

number_antisymm : (x y : Option ℤ) → number_order x y ≡ ordering_reverse (number_order y x)
number_antisymm None None = refl
number_antisymm None (Some y) = refl
number_antisymm (Some x) None = refl
number_antisymm (Some x) (Some y) = int_cmp_total.antisymm x y

number_trans : (x y z : Option ℤ) → number_order x y ≡ Less → number_order y z ≡ Less
    → number_order x z ≡ Less
number_trans None None z p q = cc
number_trans None (Some y) None p q = cc
number_trans None (Some y) (Some z) p q = refl
number_trans (Some x) None z p q = cc
number_trans (Some x) (Some y) None p q = cc
number_trans (Some x) (Some y) (Some z) p q = int_cmp_total.trans x y z p q

number_congr : (x y z : Option ℤ) → number_order x y ≡ Equal → number_order x z ≡ number_order y z
number_congr None None z p = refl
number_congr None (Some y) z p = cc
number_congr (Some x) None z p = cc
number_congr (Some x) (Some y) None p = refl
number_congr (Some x) (Some y) (Some z) p = int_cmp_total.congr x y z p

antisymm : (a b : AggState) → state_order a b ≡ ordering_reverse (state_order b a)
antisymm (Count a) (Count b) = nat_cmp_total.antisymm a b
antisymm (Sum a) (Sum b) = int_cmp_total.antisymm a b
antisymm (Least a) (Least b) = number_antisymm a b
antisymm (Greatest a) (Greatest b) = number_antisymm a b
antisymm (Average a) (Average b) = average_total.antisymm a b
antisymm a b = refl

trans : (a b c : AggState) → state_order a b ≡ Less → state_order b c ≡ Less → state_order a c
    ≡ Less
trans (Count a) (Count b) (Count c) p q = nat_cmp_total.trans a b c p q
trans (Sum a) (Sum b) (Sum c) p q = int_cmp_total.trans a b c p q
trans (Least a) (Least b) (Least c) p q = number_trans a b c p q
trans (Greatest a) (Greatest b) (Greatest c) p q = number_trans a b c p q
trans (Average a) (Average b) (Average c) p q = average_total.trans a b c p q
trans a (Count b) (Count c) p q = cc
trans a (Sum b) (Sum c) p q = cc
trans a (Least b) (Least c) p q = cc
trans a (Greatest b) (Greatest c) p q = cc
trans a (Average b) (Average c) p q = cc
trans a b c p q = cc

congr : (a b c : AggState) → state_order a b ≡ Equal → state_order a c ≡ state_order b c
congr (Count a) (Count b) (Count c) p = nat_cmp_total.congr a b c p
congr (Sum a) (Sum b) (Sum c) p = int_cmp_total.congr a b c p
congr (Least a) (Least b) (Least c) p = number_congr a b c p
congr (Greatest a) (Greatest b) (Greatest c) p = number_congr a b c p
congr (Average a) (Average b) (Average c) p = average_total.congr a b c p
congr a (Count b) (Count c) p = cc
congr a (Sum b) (Sum c) p = cc
congr a (Least b) (Least c) p = cc
congr a (Greatest b) (Greatest c) p = cc
congr a (Average b) (Average c) p = cc
congr a b c p = cc

pub state_order_total : IsTotalOrder state_order
state_order_total = record { antisymm = antisymm; trans = trans; congr = congr }
