-- The documents that are marked, as a list, and lists of the same documents.
use Rattle.std.proofs.Common.{◌≡◌, ◌∙◌, ℕ, suc, ◌+◌, ◌*◌, ◌/◌, ◌%◌, ◌<◌, ◌≤◌, Bool, true, false, ◌&&◌, ◌||◌, cond, not, nat_eq, List, [], ◌∷◌, length, get_or, inl, inr, refl, sym, ap, subst, arith, eq-eqb}
use Rattle.std.specs.List.{filter, range_with_len}
use Rattle.std.specs.List.Sorted.{IsStrictlyIncreasing}
use Rattle.std.proofs.lemmas.Bool.{cases_lt, cases_eq, eqb-true, ne_eqb}
use Rattle.std.proofs.lemmas.List.{get_or_past}
use Rattle.std.proofs.lemmas.List.Filters.{length-filter_both}
use Rattle.std.proofs.lemmas.Nat.Bits.{bit_at-zero}
use Rattle.doc_lists.specs.Docs.{has_doc}
use Rattle.doc_lists.specs.Marks.{has_bit, is_marked, marked_docs}
use Rattle.doc_lists.specs.Sets.{AreThose, Swept, Up}
use Rattle.doc_lists.proofs.Runs.{up_from_less, up_increasing}
use Rattle.doc_lists.proofs.Sweep.{and_false, none_from, range_above, range_yes, up_to}

-- ---- documents that pass a test

has_first : (t s : Bool) (p : ℕ → Bool) (x : ℕ) (xs : List ℕ) (doc : ℕ) → p x ≡ t → nat_eq doc x ≡ s → has_doc (filter p xs) doc ≡ has_doc xs doc && p doc
    → has_doc (cond t (x ∷ filter p xs) (filter p xs)) doc ≡ (s || has_doc xs doc) && p doc
has_first true true p x xs doc passes e rest =
    ap (λ b. b || has_doc (filter p xs) doc) e ∙ sym (ap p (eqb-true doc x e) ∙ passes)
has_first true false p x xs doc passes e rest = ap (λ b. b || has_doc (filter p xs) doc) e ∙ rest
has_first false true p x xs doc fails e rest =
    let no : p doc ≡ false = ap p (eqb-true doc x e) ∙ fails in
    rest ∙ ap (λ b. has_doc xs doc && b) no ∙ and_false (has_doc xs doc) ∙ sym no
has_first false false p x xs doc fails e rest = rest

pub has_filter : (p : ℕ → Bool) (xs : List ℕ) (doc : ℕ) → has_doc (filter p xs) doc ≡ has_doc xs doc && p doc
has_filter p [] doc = refl
has_filter p (x ∷ xs) doc = has_first (p x) (nat_eq doc x) p x xs doc refl refl (has_filter p xs doc)

up_first : (t : Bool) (from x : ℕ) (xs : List ℕ) → from ≤ x → Up (x + 1) xs → Up from (cond t (x ∷ xs) xs)
up_first true from x xs le up = (le, up)
up_first false from x xs le up = up_from_less (x + 1) from xs (omega (arith, le)) up

pub up_filter : (p : ℕ → Bool) (from : ℕ) (xs : List ℕ) → Up from xs → Up from (filter p xs)
up_filter p from [] up = tt
up_filter p from (x ∷ xs) up = up_first (p x) from x (filter p xs) up.0 (up_filter p (x + 1) xs up.1)

-- ---- lists of the same documents

up_none : (from doc : ℕ) (xs : List ℕ) → Up from xs → doc < from → has_doc xs doc ≡ false
up_none from doc [] up lt = refl
up_none from doc (x ∷ xs) up lt =
    ap (λ b. b || has_doc xs doc) (ne_eqb doc x (λ e. omega (arith, e, lt, up.0))) ∙ up_none (x + 1) doc xs up.1 (omega (arith, lt, up.0))

has_own : (x : ℕ) (xs : List ℕ) → has_doc (x ∷ xs) x ≡ true
has_own x xs = ap (λ b. b || has_doc xs x) (eq-eqb x x refl)

tails : (x y : ℕ) (xs ys : List ℕ) → x ≡ y → Up (x + 1) xs → Up (y + 1) ys → ((doc : ℕ) → has_doc (x ∷ xs) doc ≡ has_doc (y ∷ ys) doc) → (doc : ℕ) → has_doc xs doc ≡ has_doc ys doc
tails x y xs ys same one other all doc =
    elim (cases_eq doc x) [
      | inl e ↦ up_none (x + 1) doc xs one (omega (arith, e)) ∙ sym (up_none (y + 1) doc ys other (omega (arith, e, same)))
      | inr ne ↦ sym (ap (λ b. b || has_doc xs doc) (ne_eqb doc x ne)) ∙ all doc ∙ ap (λ b. b || has_doc ys doc) (ne_eqb doc y (λ e. ne (omega (arith, e, same))))
    ]

pub same_docs : (from : ℕ) (xs ys : List ℕ) → Up from xs → Up from ys → ((doc : ℕ) → has_doc xs doc ≡ has_doc ys doc) → xs ≡ ys
same_docs from [] [] one other all = refl
same_docs from [] (y ∷ ys) one other all = absurd (let both : false ≡ true = all y ∙ has_own y ys in cc)
same_docs from (x ∷ xs) [] one other all = absurd (let both : true ≡ false = sym (has_own x xs) ∙ all x in cc)
same_docs from (x ∷ xs) (y ∷ ys) one other all =
    elim (cases_lt x y) [
      | inl lt ↦ absurd (
          let none = up_none y x (y ∷ ys) (omega arith, other.1) lt in
          let both : true ≡ false = sym (has_own x xs) ∙ all x ∙ none in cc
          )
      | inr le ↦ elim (cases_lt y x) [
        | inl lt ↦ absurd (
            let none = up_none x y (x ∷ xs) (omega arith, one.1) lt in
            let both : false ≡ true = sym none ∙ all y ∙ has_own y ys in cc
            )
        | inr ge ↦
            let same : x ≡ y = omega (arith, le, ge) in
            let rest : xs ≡ ys = same_docs (x + 1) xs ys one.1 (subst (λ n. Up (n + 1) ys) (sym same) other.1) (tails x y xs ys same one.1 other.1 all) in
            ap (λ n. n ∷ xs) same ∙ ap (λ zs. y ∷ zs) rest
      ]
    ]

inc_from : (from : ℕ) (xs : List ℕ) → (0 < length xs → from ≤ get_or xs 0 0) → IsStrictlyIncreasing xs → Up from xs
inc_from from [] first inc = tt
inc_from from (x ∷ xs) first inc = (
  first (omega arith),
  inc_from (x + 1) xs
      (λ some. let less : x < get_or xs 0 0 = inc 0 (omega (arith, some)) in omega (arith, less))
      (λ k lt. let next : suc k + 1 ≡ suc (k + 1) = omega arith in subst (λ n. get_or xs k 0 < get_or (x ∷ xs) n 0) next (inc (suc k) (omega (arith, lt)))),
)

pub inc_up : (xs : List ℕ) → IsStrictlyIncreasing xs → Up 0 xs
inc_up xs inc = inc_from 0 xs (λ some. omega arith) inc

-- those of a list that pass a test, and those that do not
pub parts_count : (docs both alone : List ℕ) (other : ℕ → Bool) → IsStrictlyIncreasing docs → AreThose (λ doc. has_doc docs doc && other doc) both → AreThose (λ doc. has_doc docs doc && not (other doc)) alone
    → length both + length alone ≡ length docs
parts_count docs both alone other inc first second =
    let up = inc_up docs inc in
    let one : both ≡ filter other docs = same_docs 0 both (filter other docs) (inc_up both first.ascend) (up_filter other 0 docs up) (λ doc. first.those doc ∙ sym (has_filter other docs doc)) in
    let two : alone ≡ filter (λ doc. not (other doc)) docs = same_docs 0 alone (filter (λ doc. not (other doc)) docs) (inc_up alone second.ascend) (up_filter (λ doc. not (other doc)) 0 docs up)
    (λ doc. second.those doc ∙ sym (has_filter (λ doc. not (other doc)) docs doc)) in
    ap (λ xs. length xs + length alone) one ∙ ap (λ xs. length (filter other docs) + length xs) two ∙ length-filter_both other (λ doc. not (other doc)) (λ doc. refl) docs

-- ---- the documents that are marked

pub unmarked : (marks : List ℕ) (doc : ℕ) → 64 * length marks ≤ doc → is_marked marks doc ≡ false
unmarked marks doc le = ap (λ w. has_bit w (doc % 64)) (get_or_past marks (doc / 64) 0 (omega (arith, le))) ∙ ap (λ b. nat_eq b 1) (bit_at-zero (doc % 64))

pub marked_has : (marks : List ℕ) (doc : ℕ) → has_doc (marked_docs marks) doc ≡ is_marked marks doc
marked_has marks doc =
    has_filter (is_marked marks) (range_with_len 0 (64 * length marks)) doc
    ∙ elim (cases_lt doc (64 * length marks)) [
      | inl lt ↦ ap (λ b. b && is_marked marks doc) (range_yes 0 (64 * length marks) doc (omega arith) (omega (arith, lt)))
      | inr le ↦ ap (λ b. b && is_marked marks doc) (range_above 0 (64 * length marks) doc (omega (arith, le))) ∙ sym (unmarked marks doc le)
    ]

pub marked_up : (marks : List ℕ) → Up 0 (marked_docs marks)
marked_up marks = up_filter (is_marked marks) 0 (range_with_len 0 (64 * length marks)) (up_to 0 (64 * length marks))

pub marked_increase : (marks : List ℕ) → IsStrictlyIncreasing (marked_docs marks)
marked_increase marks = up_increasing 0 (marked_docs marks) (marked_up marks)

pub marked_those : (test : ℕ → Bool) (marks : List ℕ) → ((doc : ℕ) → is_marked marks doc ≡ test doc) → AreThose test (marked_docs marks)
marked_those test marks all = record { ascend = marked_increase marks; those = λ doc. marked_has marks doc ∙ all doc }

pub swept_marked : (marks : List ℕ) (i : ℕ) (docs : List ℕ) → length marks ≤ i → Swept (is_marked marks) (64 * i) docs → docs ≡ marked_docs marks
swept_marked marks i docs le swept = same_docs 0 docs (marked_docs marks) swept.ascend (marked_up marks) (λ doc.
    elim (cases_lt doc (64 * i)) [
      | inl below ↦ swept.those doc below ∙ sym (marked_has marks doc)
      | inr from ↦ none_from docs (64 * i) doc swept.below from ∙ sym (unmarked marks doc (omega (arith, le, from))) ∙ sym (marked_has marks doc)
    ])
