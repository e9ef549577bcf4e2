-- The aggregated document, made step by step.
use Rattle.std.proofs.Common.{◌≡◌, ℕ, zero, suc, ◌+◌, ◌-◌, ◌<◌, ◌≤◌, true, List, [], ◌∷◌, ◌++◌}
use Rattle.std.proofs.Common.{length, take, drop, replicate, Some, refl, sym, ap, subst, ◌∙◌, arith}
use Rattle.std.proofs.Common.{length-drop}
use Rattle.std.proofs.lemmas.List.{get_or_append_left, get_or-drop}
use Rattle.std.proofs.Math.Seq.{take-suc}
use Rattle.agg_laws.specs.declared.aggregate_kind.AggKind.{AggKind}
use Rattle.agg_laws.specs.declared.states.AggState.{AggState}
use Rattle.agg_laws.specs.Rows.{merged_rows, row_weight}
use Rattle.agg_laws.specs.laws.Rows as rows
use Rattle.agg_laws.specs.Merged.{join_some, total, weights}
use Rattle.agg_laws.specs.Tree.{star, set_star}
use Rattle.state_columns.specs.Docs.{Doc, doc_at, HaveShape}
use Rattle.state_columns.specs.Documents.{star_from, aggregated, one_document, BeginWith, AreAlike}
use Rattle.state_columns.specs.Region.{range}
use Rattle.state_columns.proofs.MergedLemmas.{total-append}
use Rattle.state_columns.proofs.DocLemmas.{rows_join}
use Rattle.state_columns.proofs.AggregatedLemmas.{AllAt, one_key}

-- n levels from d on are starred
abbrev pub star_levels : ℕ → ℕ → List ℕ → List ℕ
star_levels d zero xs = xs
star_levels d (suc n) xs = set_star (d + n) (star_levels d n xs)

star_rest : (n x : ℕ) (xs : List ℕ) → star_levels 0 (suc n) (x ∷ xs) ≡ star ∷ star_levels 0 n xs
star_rest zero x xs = refl
star_rest (suc n) x xs =
    let e : 0 + suc n ≡ suc (0 + n) = omega arith in
    ap (λ m. set_star m (star_levels 0 (suc n) (x ∷ xs))) e
    ∙ ap (set_star (suc (0 + n))) (star_rest n x xs)

star_later : (d n x : ℕ) (xs : List ℕ) → star_levels (suc d) n (x ∷ xs) ≡ x ∷ star_levels d n xs
star_later d zero x xs = refl
star_later d (suc n) x xs =
    let e : suc d + n ≡ suc (d + n) = omega arith in
    ap (λ m. set_star m (star_levels (suc d) n (x ∷ xs))) e
    ∙ ap (set_star (suc (d + n))) (star_later d n x xs)

star_none : (d n : ℕ) → star_levels d n [] ≡ []
star_none d zero = refl
star_none d (suc n) = ap (set_star (d + n)) (star_none d n)

pub all_levels : (d : ℕ) (xs : List ℕ) → star_levels d (length xs - d) xs ≡ star_from d xs
all_levels d [] = star_none d (0 - d)
all_levels zero (x ∷ xs) =
    let e : suc (length xs) - 0 ≡ suc (length xs - 0) = omega arith in
    ap (λ m. star_levels 0 m (x ∷ xs)) e ∙ star_rest (length xs - 0) x xs
    ∙ ap (λ t. star ∷ t) (all_levels zero xs)
all_levels (suc d) (x ∷ xs) =
    let e : suc (length xs) - suc d ≡ length xs - d = omega arith in
    ap (λ m. star_levels (suc d) m (x ∷ xs)) e ∙ star_later d (length xs - d) x xs
    ∙ ap (λ t. x ∷ t) (all_levels d xs)

-- the states of a document and of the n after it, merged
abbrev pub states_from : ℕ → ℕ → List Doc → List AggState
states_from start zero docs = (doc_at docs start).1
states_from start (suc n) docs =
    merged_rows (states_from start n docs) (doc_at docs (start + suc n)).1

-- one more document of a range
pub range-more : (start n : ℕ) (docs : List Doc) → start + n < length docs
    → range start (start + suc n) docs ≡ range start (start + n) docs
    ++ (doc_at docs (start + n) ∷ [])
range-more start n docs lt =
    let a : start + suc n - start ≡ suc n = omega arith in
    let b : start + n - start ≡ n = omega arith in
    ap (λ m. take m (drop start docs)) a
    ∙ take-suc (drop start docs) n ([], []) (omega (arith, lt, length-drop start docs))
    ∙ (λ i. take (sym b i) (drop start docs) ++ (get_or-drop start docs n ([], []) i ∷ []))

range-none : (start : ℕ) (docs : List Doc) → range start (start + 0) docs ≡ []
range-none start docs = let a : start + 0 - start ≡ 0 = omega arith
    in ap (λ m. take m (drop start docs)) a

pub total_range : (start n : ℕ) (docs : List Doc) → start + n < length docs
    → total merged_rows (λ _. true) (range start (start + suc n) docs)
    ≡ Some (states_from start n docs)
total_range start zero docs lt =
    let z : start + 0 ≡ start = omega arith in
    ap (total merged_rows (λ _. true))
    (range-more start 0 docs lt
    ∙ ap (λ l. l ++ (doc_at docs (start + 0) ∷ [])) (range-none start docs))
    ∙ ap (λ m. Some (doc_at docs m).1) z
total_range start (suc n) docs lt =
    ap (total merged_rows (λ _. true)) (range-more start (suc n) docs lt)
    ∙ total-append merged_rows rows_join (λ _. true) (range start (start + suc n) docs)
    (doc_at docs (start + suc n) ∷ [])
    ∙ ap (λ o. join_some merged_rows o (Some (doc_at docs (start + suc n)).1))
    (total_range start n docs (omega arith))

weights-snoc : (es : List Doc) (e : Doc) → weights row_weight (es ++ (e ∷ []))
    ≡ weights row_weight es + row_weight e.1
weights-snoc [] e = omega arith
weights-snoc (f ∷ fs) e = let more = weights-snoc fs e in omega (arith, more)

pub weigh_less : (start n : ℕ) (docs : List Doc) → start + n < length docs
    → row_weight (states_from start n docs) ≤ weights row_weight (range start (start + suc n) docs)
weigh_less start zero docs lt =
    let z : start + 0 ≡ start = omega arith in
    let w = ap (weights row_weight) (range-more start 0 docs lt)
    ∙ weights-snoc (range start (start + 0) docs) (doc_at docs (start + 0)) in
    let s : row_weight (doc_at docs (start + 0)).1
    ≡ row_weight (doc_at docs start).1 = ap (λ m. row_weight (doc_at docs m).1) z in
    omega (arith, w, s)
weigh_less start (suc n) docs lt =
    let w = ap (weights row_weight) (range-more start (suc n) docs lt)
    ∙ weights-snoc (range start (start + suc n) docs) (doc_at docs (start + suc n)) in
    let b = rows.row_weight_both (states_from start n docs) (doc_at docs (start + suc n)).1 in
    let m = weigh_less start n docs (omega arith) in
    omega (arith, w, b, m)

-- a shorter range weighs no more
pub weigh_front : (start n more : ℕ) (docs : List Doc) → start + n + more ≤ length docs
    → weights row_weight (range start (start + n) docs) ≤ weights row_weight
    (range start (start + n + more) docs)
weigh_front start n zero docs lt = let z : start + n + 0 ≡ start + n = omega arith
    in let e = ap (λ m. weights row_weight (range start m docs)) z in omega (arith, e)
weigh_front start n (suc more) docs lt =
    let m = weigh_front start n more docs (omega arith) in
    let p : start + n + more ≡ start + (n + more) = omega arith in
    let q : start + n + suc more ≡ start + suc (n + more) = omega arith in
    let w = ap (weights row_weight) (range-more start (n + more) docs (omega arith))
    ∙ weights-snoc (range start (start + (n + more)) docs) (doc_at docs (start + (n + more))) in
    let a = ap (λ i. weights row_weight (range start i docs)) p in
    let b = ap (λ i. weights row_weight (range start i docs)) q in
    omega (arith, m, w, a, b)

star_prefix : (d : ℕ) (xs : List ℕ) → star_from d xs ≡ take d xs ++ replicate (length xs - d) star
star_prefix zero [] = refl
star_prefix (suc d) [] = let e : 0 ≡ 0 - suc d = omega arith in ap (λ m. replicate m star) e
star_prefix zero (x ∷ xs) = let e : suc (length xs - 0) ≡ suc (length xs) - 0 = omega arith
    in ap (λ t. star ∷ t) (star_prefix zero xs) ∙ ap (λ m. replicate m star) e
star_prefix (suc d) (x ∷ xs) = let e : length xs - d ≡ suc (length xs) - suc d = omega arith
    in ap (λ t. x ∷ t) (star_prefix d xs) ∙ ap (λ m. x ∷ (take d xs ++ replicate m star)) e

-- documents of k ids
abbrev Lengths : ℕ → List Doc → Type 0
Lengths k [] = Unit {0}
Lengths k (e ∷ es) = (length e.0 ≡ k) × Lengths k es

lengths_drop : (n k : ℕ) (docs : List Doc) → Lengths k docs → Lengths k (drop n docs)
lengths_drop zero k docs h = h
lengths_drop (suc n) k [] h = tt
lengths_drop (suc n) k (e ∷ es) h = lengths_drop n k es h.1

lengths_take : (n k : ℕ) (docs : List Doc) → Lengths k docs → Lengths k (take n docs)
lengths_take zero k docs h = tt
lengths_take (suc n) k [] h = tt
lengths_take (suc n) k (e ∷ es) h = (h.0, lengths_take n k es h.1)

lengths_of : (k : ℕ) (ks : List AggKind) (docs : List Doc) → HaveShape k ks docs → Lengths k docs
lengths_of k ks [] h = tt
lengths_of k ks (e ∷ es) h = (h.0, lengths_of k ks es h.2)

keys_at : (k d : ℕ) (path : List ℕ) (es : List Doc) → BeginWith d path es → Lengths k es
    → AllAt merged_rows rows_join (star_from d) (path ++ replicate (k - d) star) es
keys_at k d path [] h l = tt
keys_at k d path (e ∷ es) h l =
    (star_prefix d e.0 ∙ (λ i. h.0 i ++ replicate (l.0 i - d) star), keys_at k d path es h.1 l.1)

-- the aggregated document of documents that are alike
alike_key : (k d : ℕ) (e : Doc) (es : List Doc) → AreAlike d (e ∷ es) → Lengths k (e ∷ es)
    → aggregated merged_rows d (e ∷ es)
    ≡ one_document (star_from d e.0) (total merged_rows (λ _. true) (e ∷ es))
alike_key k d e es h l =
    let key : take d e.0 ++ replicate (k - d) star
    ≡ star_from d e.0 = sym
    (star_prefix d e.0 ∙ ap (λ m. take d e.0 ++ replicate (m - d) star) l.0) in
    one_key merged_rows rows_join (star_from d) (take d e.0 ++ replicate (k - d) star) (e ∷ es)
    (keys_at k d (take d e.0) (e ∷ es) (refl, h) l)
    ∙ ap (λ x. one_document x (total merged_rows (λ _. true) (e ∷ es))) key

first_of : (start n : ℕ) (docs : List Doc) → start + n < length docs → (es : List Doc)
    × (range start (start + suc n) docs ≡ doc_at docs start ∷ es)
first_of start n docs lt = let a : start + suc n - start ≡ suc n = omega arith
    in let f = by_drop start docs (omega arith)
    in (take n f.0, ap (λ m. take m (drop start docs)) a ∙ ap (take (suc n)) f.1)
  where
    by_drop : (start : ℕ) (docs : List Doc) → start < length docs → (es : List Doc)
        × (drop start docs ≡ doc_at docs start ∷ es)
    by_drop start [] lt = absurd (omega arith)
    by_drop zero (e ∷ es) lt = (es, refl)
    by_drop (suc start) (e ∷ es) lt = by_drop start es (omega arith)

pub total_docs : (k d start n : ℕ) (ks : List AggKind) (docs : List Doc) → HaveShape k ks docs
    → start + n < length docs → AreAlike d (range start (start + suc n) docs)
    → aggregated merged_rows d (range start (start + suc n) docs)
    ≡ (star_levels d (k - d) (doc_at docs start).0, states_from start n docs) ∷ []
total_docs k d start n ks docs shape lt h =
    let es = first_of start n docs lt in
    let l : Lengths k (doc_at docs start ∷ es.0) =
    subst (Lengths k) es.1
    (lengths_take (start + suc n - start) k (drop start docs)
    (lengths_drop start k docs (lengths_of k ks docs shape))) in
    let alike : AreAlike d (doc_at docs start ∷ es.0) =
    subst (λ (x : List Doc). AreAlike d x) es.1 h in
    ap (aggregated merged_rows d) es.1 ∙ alike_key k d (doc_at docs start) es.0 alike l
    ∙ ap (one_document (star_from d (doc_at docs start).0))
    (ap (total merged_rows (λ _. true)) (sym es.1) ∙ total_range start n docs lt)
    ∙ ap (λ x. (x, states_from start n docs) ∷ [])
    (sym (all_levels d (doc_at docs start).0)
    ∙ ap (λ m. star_levels d (m - d) (doc_at docs start).0) l.0)

-- a document of a range and those before it are as light as the range
pub light_more : (start n end most : ℕ) (docs : List Doc) → start + suc n < end → end ≤ length docs
    → weights row_weight (range start end docs) ≤ most
    → row_weight (states_from start n docs) + row_weight (doc_at docs (start + suc n)).1 ≤ most
light_more start n end most docs lt le at_most =
    let more = end - (start + suc (suc n)) in
    let e : start + suc (suc n) + more ≡ end = omega arith in
    let a = weigh_less start n docs (omega arith) in
    let w = ap (weights row_weight) (range-more start (suc n) docs (omega arith))
    ∙ weights-snoc (range start (start + suc n) docs) (doc_at docs (start + suc n)) in
    let f = weigh_front start (suc (suc n)) more docs (omega (arith, e, le)) in
    let g = ap (λ i. weights row_weight (range start i docs)) e in
    omega (arith, a, w, f, g, at_most)

-- a document before the end
pub doc_before : (docs more : List Doc) (i : ℕ) → i < length docs → doc_at (docs ++ more) i
    ≡ doc_at docs i
doc_before docs more i lt = get_or_append_left docs more ([], []) i lt
