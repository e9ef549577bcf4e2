-- Ascending ids are cut where the next id begins.
use Rattle.std.proofs.Common.{◌≡◌, ◌∙◌, ℕ, zero, suc, ◌+◌, ◌<◌, ◌≤◌, nat_lt, true, false, cond, List, [], ◌∷◌, ◌++◌, length, ap, arith}
use Rattle.std.specs.List.{filter, slice_index}
use Rattle.std.specs.List.Sorted.{IsNonDecreasing}
use Rattle.std.proofs.lemmas.Bool.{cases_lt, lt-ltb, le-ltb}
use Rattle.bit_column.specs.SortedRuns.{first_place, runs}
use Rattle.inverted_lists.specs.Cuts.{Cut}
use Rattle.std.proofs.Common.{inl, inr}

cut_rest : (x id place : ℕ) (ids : List ℕ) → Cut (x ∷ ids) id (suc place) → Cut ids id place
cut_rest x id place ids cut = record {
  within = omega (arith, cut.within);
  before = (λ k lt. cut.before (suc k) (omega (arith, lt)));
  following = (λ k le lt. cut.following (suc k) (omega (arith, le)) (omega (arith, lt)));
}

cut_none : (x id : ℕ) (ids : List ℕ) → Cut (x ∷ ids) id 0 → Cut ids id 0
cut_none x id ids cut = record {
  within = omega arith;
  before = (λ k lt. absurd (omega (arith, lt)));
  following = (λ k le lt. cut.following (suc k) (omega arith) (omega (arith, lt)));
}

pub cut_place : (ids : List ℕ) (id place : ℕ) → Cut ids id place → first_place ids id ≡ place
cut_place [] id place cut = omega (arith, cut.within)
cut_place (x ∷ ids) id zero cut =
    let own : id ≤ x = cut.following 0 (omega arith) (omega arith) in
    let no : nat_lt x id ≡ false = le-ltb x id own in
    ap (λ b. length (cond b (x ∷ filter (λ other. nat_lt other id) ids) (filter (λ other. nat_lt other id) ids))) no
    ∙ cut_place ids id 0 (cut_none x id ids cut)
cut_place (x ∷ ids) id (suc place) cut =
    let own : x < id = cut.before 0 (omega arith) in
    let yes : nat_lt x id ≡ true = lt-ltb x id own in
    ap (λ b. length (cond b (x ∷ filter (λ other. nat_lt other id) ids) (filter (λ other. nat_lt other id) ids))) yes
    ∙ ap suc (cut_place ids id place (cut_rest x id place ids cut))

pub cut_first : (ids : List ℕ) → Cut ids 0 0
cut_first ids = record { within = omega arith; before = (λ k lt. absurd (omega (arith, lt))); following = (λ k le lt. omega arith) }

-- what is known of a walk over the places of an id
pub record Walked (ids : List ℕ) (id place : ℕ) : Type 0 where
  pub within : place ≤ length ids
  pub before : (k : ℕ) → k < place → slice_index ids k < id + 1
  pub following : (k : ℕ) → place ≤ k → k < length ids → id ≤ slice_index ids k

pub walked_first : (ids : List ℕ) (id place : ℕ) → Cut ids id place → Walked ids id place
walked_first ids id place cut = record { within = cut.within; before = (λ k lt. let less = cut.before k lt in omega (arith, less)); following = cut.following }

pub walked_more : (ids : List ℕ) (id place : ℕ) → Walked ids id place → place < length ids → slice_index ids place ≡ id → Walked ids id (place + 1)
walked_more ids id place walked lt is = record {
  within = omega (arith, lt);
  before = (λ k less.
      elim (cases_lt k place) [
        | inl below ↦ walked.before k below
        | inr le ↦ (let same : k ≡ place = omega (arith, less, le) in let own : slice_index ids k ≡ id = ap (slice_index ids) same ∙ is in omega (arith, own))
      ]);
  following = (λ k le size. walked.following k (omega (arith, le)) size);
}

pub walked_end : (ids : List ℕ) (id place : ℕ) → Walked ids id place → place ≡ length ids → Cut ids (id + 1) place
walked_end ids id place walked is = record { within = walked.within; before = walked.before; following = (λ k le size. absurd (omega (arith, is, le, size))) }

pub walked_other : (ids : List ℕ) (id place : ℕ) → IsNonDecreasing ids → Walked ids id place → place < length ids → (slice_index ids place ≡ id → ⊥) → Cut ids (id + 1) place
walked_other ids id place up walked lt other = record {
  within = walked.within;
  before = walked.before;
  following = (λ k le size.
      let least = walked.following place (omega arith) lt in
      let above = up place k 0 le size in
      omega (arith, least, above, other));
}

pub runs_more : (id first end : ℕ) (ids : List ℕ) → Cut ids id first → Cut ids (id + 1) end → runs (id + 1) ids ≡ runs id ids ++ first ∷ end ∷ []
runs_more id first end ids cut next =
    let up : id + 1 ≡ suc id = omega arith in
    ap (λ n. runs n ids) up ∙ ap (λ n. runs id ids ++ first_place ids id ∷ n ∷ []) (cut_place ids (id + 1) end next) ∙ ap (λ n. runs id ids ++ n ∷ end ∷ []) (cut_place ids id first cut)
