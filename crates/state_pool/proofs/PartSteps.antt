-- Cells from a place on, of which the first ones were merged or copied.
use Rattle.std.proofs.Common.{◌≡◌, ◌∙◌, ℕ, zero, suc, ◌+◌, ◌-◌, ◌<◌, ◌≤◌, List, [], ◌∷◌, ◌++◌, length, get_or, set, take, drop, refl, sym, ap, arith, length-append, length-drop, append_assoc, ◌⊎◌, inl, inr}
use Rattle.std.proofs.lemmas.List.{length-take-le, drop_all, drop_more, take_more, set_at, take-append-drop, drop-drop, set-append_left, set-append_right, get_or_append_left, get_or-append_right, get_or-take, get_or-drop}
use Rattle.agg_laws.specs.declared.states.AggState.{AggState}
use Rattle.agg_laws.specs.States.{merged}
use Rattle.agg_laws.specs.Rows.{merged_rows}
use Rattle.state_columns.proofs.RowPlaces.{mixed, mixed_at, mixed_more, mixed_all}
use Rattle.state_pool.specs.Kept.{part_of, with_part}
use Rattle.state_pool.proofs.CellLemmas.{part_before, part_after}

length-mixed : (n : ℕ) (vs ws : List AggState) → length (mixed n vs ws) ≡ length vs
length-mixed zero vs ws = refl
length-mixed (suc n) [] ws = refl
length-mixed (suc n) (v ∷ vs) [] = refl
length-mixed (suc n) (v ∷ vs) (w ∷ ws) = ap suc (length-mixed n vs ws)

-- one more of the first ones is another
copied_more : (vs ws : List AggState) (i : ℕ) (d u : AggState) → i < length vs → i < length ws → u ≡ get_or ws i d
    → set (take i ws ++ drop i vs) i u ≡ take (i + 1) ws ++ drop (i + 1) vs
copied_more vs ws i d u lt less is = ap (λ l. set (take i ws ++ l) i u) (drop_more vs i d lt)
    ∙ set_at (take i ws) (get_or vs i d) (drop (i + 1) vs) u i (length-take-le i ws (omega (arith, less)))
    ∙ sym (append_assoc (take i ws) (u ∷ []) (drop (i + 1) vs))
    ∙ ap (λ l. l ++ drop (i + 1) vs) (ap (λ u. take i ws ++ u ∷ []) is ∙ sym (take_more ws i d less))

module _ (xs : List AggState) (from n : ℕ) (le : from + n ≤ length xs) where
  front : length (take from xs) ≡ from
  front = length-take-le from xs (omega (arith, le))

  pub length-part : length (part_of xs from n) ≡ n
  length-part = length-take-le n (drop from xs) (omega (arith, le, length-drop from xs))

  -- the cells as they are
  pub part_whole : xs ≡ with_part xs from n (part_of xs from n)
  part_whole = sym (take-append-drop from xs)
      ∙ ap (λ l. take from xs ++ l) (sym (take-append-drop n (drop from xs)) ∙ ap (λ l. take n (drop from xs) ++ l) (drop-drop n from xs))

  -- one of them, in the cells with others in their place
  part_get : (ms : List AggState) (i : ℕ) (d : AggState) → length ms ≡ n → i < n → get_or (with_part xs from n ms) (from + i) d ≡ get_or ms i d
  part_get ms i d len lt = get_or-append_right (take from xs) (ms ++ drop (from + n) xs) from (from + i) d front (omega arith)
      ∙ ap (λ k. get_or (ms ++ drop (from + n) xs) k d) (let e : from + i - from ≡ i = omega arith in e)
      ∙ get_or_append_left ms (drop (from + n) xs) d i (omega (arith, len, lt))

  part_set : (ms : List AggState) (i : ℕ) (u : AggState) → length ms ≡ n → i < n → set (with_part xs from n ms) (from + i) u ≡ with_part xs from n (set ms i u)
  part_set ms i u len lt = set-append_right (take from xs) (ms ++ drop (from + n) xs) from (from + i) u front (omega arith)
      ∙ ap (λ k. take from xs ++ set (ms ++ drop (from + n) xs) k u) (let e : from + i - from ≡ i = omega arith in e)
      ∙ ap (λ l. take from xs ++ l) (set-append_left ms (drop (from + n) xs) i u (omega (arith, len, lt)))

  -- cells beside these are as they were
  beside : (ms cells : List AggState) (a i : ℕ) (d : AggState) → cells ≡ with_part xs from n ms → length ms ≡ n → (from + n ≤ a) ⊎ (a + n ≤ from) → i < n
      → get_or cells (a + i) d ≡ get_or (part_of xs a n) i d
  beside ms cells a i d is len apart lt = ap (λ l. get_or l (a + i) d) is ∙ sym (get_or-drop a (with_part xs from n ms) i d) ∙ sym (get_or-take n (drop a (with_part xs from n ms)) i d lt)
      ∙ ap (λ l. get_or l i d) (by apart)
    where
      by : (from + n ≤ a) ⊎ (a + n ≤ from) → part_of (with_part xs from n ms) a n ≡ part_of xs a n
      by (inl after) = part_after xs ms from n len le a n after
      by (inr before) = part_before xs ms from n len le a n before

  -- the first i of them are merged with others
  module _ (ws cells : List AggState) (i : ℕ) (d : AggState) (lt : i < n) (is : cells ≡ with_part xs from n (mixed i (part_of xs from n) ws)) where
    long : length (mixed i (part_of xs from n) ws) ≡ n
    long = length-mixed i (part_of xs from n) ws ∙ length-part

    pub next_here : get_or cells (from + i) d ≡ get_or (part_of xs from n) i d
    next_here = ap (λ l. get_or l (from + i) d) is ∙ part_get (mixed i (part_of xs from n) ws) i d long lt ∙ mixed_at i (part_of xs from n) ws i d (omega arith)

    pub next_there : (a : ℕ) → (from + n ≤ a) ⊎ (a + n ≤ from) → get_or cells (a + i) d ≡ get_or (part_of xs a n) i d
    next_there a apart = beside (mixed i (part_of xs from n) ws) cells a i d is long apart lt

    pub next_merged : (e u : AggState) → n ≡ length ws → u ≡ merged (get_or (part_of xs from n) i d) (get_or ws i e)
        → set cells (from + i) u ≡ with_part xs from n (mixed (i + 1) (part_of xs from n) ws)
    next_merged e u len so = (λ k. set (is k) (from + i) (so k)) ∙ part_set (mixed i (part_of xs from n) ws) i (merged (get_or (part_of xs from n) i d) (get_or ws i e)) long lt
        ∙ ap (with_part xs from n) (mixed_more i (part_of xs from n) ws d e (omega (arith, lt, length-part)) (length-part ∙ len))

  pub all_merged : (ws cells : List AggState) (i : ℕ) → i ≡ n → n ≡ length ws → cells ≡ with_part xs from n (mixed i (part_of xs from n) ws)
      → cells ≡ with_part xs from n (merged_rows (part_of xs from n) ws)
  all_merged ws cells i end len is = is ∙ ap (λ k. with_part xs from n (mixed k (part_of xs from n) ws)) (end ∙ sym length-part)
      ∙ ap (with_part xs from n) (mixed_all (part_of xs from n) ws (length-part ∙ len))

  -- the first i of them are others
  module _ (ws cells : List AggState) (i : ℕ) (d : AggState) (len : length ws ≡ n) (lt : i < n)
      (is : cells ≡ with_part xs from n (take i ws ++ drop i (part_of xs from n))) where
    whole : length (take i ws ++ drop i (part_of xs from n)) ≡ n
    whole = omega (
      arith,
      length-append (take i ws) (drop i (part_of xs from n)),
      length-take-le i ws (omega (arith, lt, len)),
      length-drop i (part_of xs from n),
      length-part,
      lt,
    )

    pub next_copied : (u : AggState) → u ≡ get_or ws i d → set cells (from + i) u ≡ with_part xs from n (take (i + 1) ws ++ drop (i + 1) (part_of xs from n))
    next_copied u so = ap (λ l. set l (from + i) u) is ∙ part_set (take i ws ++ drop i (part_of xs from n)) i u whole lt
        ∙ ap (with_part xs from n) (copied_more (part_of xs from n) ws i d u (omega (arith, lt, length-part)) (omega (arith, lt, len)) so)

  pub all_copied : (ws cells : List AggState) (i : ℕ) → i ≡ n → length ws ≡ n → cells ≡ with_part xs from n (take i ws ++ drop i (part_of xs from n))
      → cells ≡ with_part xs from n ws
  all_copied ws cells i end len is = is ∙ ap (λ l. with_part xs from n (take i ws ++ l)) (drop_all i (part_of xs from n) (omega (arith, end, length-part)))
      ∙ ap (with_part xs from n) (ap (λ l. take i ws ++ l) (let none : [] ≡ drop i ws = sym (drop_all i ws (omega (arith, end, len))) in none) ∙ take-append-drop i ws)
