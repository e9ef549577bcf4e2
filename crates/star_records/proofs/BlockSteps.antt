-- Rows of a block, gathered column by column.
use Rattle.std.proofs.Common.{◌≡◌, ◌≢◌, ℕ, zero, suc, ◌+◌, ◌-◌, ◌^◌, ◌<◌, ◌≤◌, List, [], ◌∷◌, ◌++◌, map, length}
use Rattle.std.proofs.Common.{take, drop, get_or, All, refl, sym, ap, subst, ◌∙◌, ◌⊎◌, inl, inr, arith}
use Rattle.std.proofs.Common.{length-append, replicate, ℤ, pos, Bool, true, false}
use Rattle.std.proofs.lemmas.Bool.{cases_lt}
use Rattle.std.proofs.lemmas.List.{length-map, get_or-map, get_or_at, get_or-take, get_or-drop}
use Rattle.std.proofs.lemmas.List.{get_or_append_left, length-take-le, length-drop, take_more, map-append}
use Rattle.std.proofs.lemmas.List.{get_or_default, get_or-replicate, length-replicate}
use Rattle.std.proofs.lemmas.List.Elements.{All-append, All-cons, All-nil}
use Rattle.std.specs.List.Sorted.{IsPermutation}
use Rattle.state_columns.specs.Region.{numbers}
use Rattle.star_rows.specs.Columns.{row_at}
use Rattle.star_records.specs.Folding.{picked, AllZero, AreHeads}
use Rattle.star_rows.specs.Numbers.{numbers_of}
use Rattle.star_rows.specs.Words.{key_in, row_in}
use Rattle.star_rows.specs.declared.numbers.PairNumbers.{PairNumbers}
use Rattle.star_rows.specs.declared.numbers.PairNumbers.TheVariants as pair
use Rattle.star_records.proofs.FoldSteps.{row_below}
use Rattle.star_records.proofs.WordSteps.{other_default, word_row}

-- what picked columns have in a row
pub row_picked : {X : Type 0} (d : X) (k : ℕ) (words : List ℕ) (columns : List (List X))
    → k < length words
    → row_at d k (picked d words columns) ≡ row_at d (row_in (get_or words k 0)) columns
row_picked d k words [] lt = refl
row_picked d k words (c ∷ cs) lt =
    λ i. get_or-map (λ word. get_or c (row_in word) d) words k 0 d lt i
    ∷ row_picked d k words cs lt i

pub long_picked : {X : Type 0} (d : X) (k : ℕ) (words : List ℕ) (columns : List (List X))
    → k < length words → All (λ (c : List X). k < length c) (picked d words columns)
long_picked d k words [] lt i e h = absurd (omega arith)
long_picked d k words (c ∷ cs) lt zero e h =
    let l = length-map words (λ word. get_or c (row_in word) d) in
    omega (arith, l, lt)
long_picked d k words (c ∷ cs) lt (suc i) e h = long_picked d k words cs lt i e (omega arith)

pub wide_picked : {X : Type 0} (d : X) (words : List ℕ) (columns : List (List X))
    → length (picked d words columns) ≡ length columns
wide_picked d words columns = length-map columns (λ c. map (λ word. get_or c (row_in word) d) words)

-- the number of a row is a word of it
pub own_row : (row : ℕ) → row < 2 ^ 20 → row_in row ≡ row
own_row row lt =
    let same : row ≡ 0 + row = omega arith in
    ap row_in same ∙ word_row 0 row lt

pub own_rows : (n : ℕ) (rows : List ℕ) → n ≤ 2 ^ 20 → All (λ row. row < n) rows
    → All (λ word. row_in word < n) rows
own_rows n rows at_most below k d lt =
    let row = get_or rows k d in
    let b : row < n = below k d lt in
    subst (λ r. r < n) (sym (own_row row (omega (arith, b, at_most)))) b

-- a range of words
module _ (words : List ℕ) (from to : ℕ) (le : from ≤ to) (within : to ≤ length words) where
  pub part_long : length (take (to - from) (drop from words)) ≡ to - from
  part_long =
      let a = length-drop from words in
      length-take-le (to - from) (drop from words) (omega (arith, a, within, le))

  pub part_at : (k d : ℕ) → k < to - from
      → get_or (take (to - from) (drop from words)) k d ≡ get_or words (from + k) d
  part_at k d lt = get_or-take (to - from) (drop from words) k d lt ∙ get_or-drop from words k d

  pub part_below : (n : ℕ) → All (λ word. row_in word < n) words
      → All (λ word. row_in word < n) (take (to - from) (drop from words))
  part_below n below k d h =
      let l = part_long in
      let lt : k < to - from = omega (arith, h, l) in
      subst (λ word. row_in word < n) (sym (part_at k d lt))
      (below (from + k) d (omega (arith, lt, within, le)))

-- each word has one of the rows
pub all_below : (n : ℕ) (words : List ℕ) → IsPermutation (numbers 0 n) (map row_in words)
    → All (λ word. row_in word < n) words
all_below n words perm i d lt = row_below n words i (row_in (get_or words i d)) perm lt
    (ap row_in (other_default words i d 0 lt))

-- the columns have these rows
pub in_columns : {X : Type 0} (n : ℕ) (words : List ℕ) (columns : List (List X))
    → All (λ (c : List X). length c ≡ n) columns → All (λ word. row_in word < n) words
    → All (λ (c : List X). All (λ word. row_in word < length c) words) columns
in_columns n words columns lengths below i c lt j w h =
    let a = lengths i c lt in
    let b = below j w h in
    omega (arith, a, b)

-- one more word
module _ (words : List ℕ) (from at : ℕ) (heads slots slots' : List ℕ)
    (h : AreHeads words from at heads slots) (lo : from ≤ at) (lt : at < length words)
    (is : slots' ≡ slots ++ (length heads ∷ [])) where
  lengths' : length slots' ≡ at + 1 - from
  lengths' =
      let a = ap length is in
      let b = length-append slots (length heads ∷ []) in
      omega (arith, a, b, h.lengths, lo)

  before : (k : ℕ) → k < at - from → get_or slots' k 0 ≡ get_or slots k 0
  before k l = ap (λ (xs : List ℕ). get_or xs k 0) is
      ∙ get_or_append_left slots (length heads ∷ []) 0 k (omega (arith, l, h.lengths))

  own : get_or slots' (at - from) 0 ≡ length heads
  own = ap (λ (xs : List ℕ). get_or xs (at - from) 0) is
      ∙ get_or_at slots (length heads) [] 0 (at - from) h.lengths

  -- it has the key of the one before
  pub passed : (0 < at) × (key_in (get_or words (at - 1) 0) ≡ key_in (get_or words at 0))
      → AreHeads words from (at + 1) heads slots'
  passed same = record {
    lengths = lengths';
    among = h.among;
    place = λ k l other. placed k (cases_lt k (at - from)) l other;
  }
    where
      placed : (k : ℕ) → k < at - from ⊎ (at - from ≤ k) → k < at + 1 - from
          → (0 < from + k → key_in (get_or words (from + k - 1) 0) ≢ key_in (get_or words (from + k) 0))
          → (get_or slots' k 0 < length heads)
          × (get_or heads (get_or slots' k 0) 0 ≡ get_or words (from + k) 0)
      placed k (inl l) _ other =
          let old = h.place k l other in
          (omega (arith, old.0, before k l), ap (λ j. get_or heads j 0) (before k l) ∙ old.1)
      placed k (inr l) more other =
          let e : from + k ≡ at = omega (arith, l, more, lo) in
          absurd (subst (λ i. 0 < i → key_in (get_or words (i - 1) 0) ≢ key_in (get_or words i 0)) e
          other same.0 same.1)

  -- it has not
  pub taken : (heads' : List ℕ) → heads' ≡ heads ++ (get_or words at 0 ∷ [])
      → AreHeads words from (at + 1) heads' slots'
  taken heads' more_is = record {
    lengths = lengths';
    among = λ n below. all_more n below;
    place = λ k l other. placed k (cases_lt k (at - from)) l other;
  }
    where
      longer : length heads' ≡ length heads + 1
      longer = ap length more_is ∙ length-append heads (get_or words at 0 ∷ [])

      all_more : (n : ℕ) → All (λ word. row_in word < n) words → All (λ word. row_in word < n) heads'
      all_more n below = subst (All (λ word. row_in word < n)) (sym more_is)
          (All-append (λ word. row_in word < n) heads (get_or words at 0 ∷ []) (h.among n below)
          (All-cons (λ word. row_in word < n) (get_or words at 0) [] (below at 0 lt)
          (All-nil (λ word. row_in word < n))))

      placed : (k : ℕ) → k < at - from ⊎ (at - from ≤ k) → k < at + 1 - from
          → (0 < from + k → key_in (get_or words (from + k - 1) 0) ≢ key_in (get_or words (from + k) 0))
          → (get_or slots' k 0 < length heads')
          × (get_or heads' (get_or slots' k 0) 0 ≡ get_or words (from + k) 0)
      placed k (inl l) _ other =
          let old = h.place k l other in (
            omega (arith, old.0, before k l, longer),
            ap (λ (xs : List ℕ). get_or xs (get_or slots' k 0) 0) more_is
                ∙ ap (λ j. get_or (heads ++ (get_or words at 0 ∷ [])) j 0) (before k l)
                ∙ get_or_append_left heads (get_or words at 0 ∷ []) 0 (get_or slots k 0) old.0
                ∙ old.1,
          )
      placed k (inr l) more other =
          let e : at - from ≡ k = omega (arith, l, more, lo) in
          let f : at ≡ from + k = omega (arith, l, more, lo) in
          let here : get_or slots' k 0 ≡ length heads = subst (λ j. get_or slots' j 0 ≡ length heads) e own in (
            omega (arith, here, longer),
            ap (λ (xs : List ℕ). get_or xs (get_or slots' k 0) 0) more_is
                ∙ ap (λ j. get_or (heads ++ (get_or words at 0 ∷ [])) j 0) here
                ∙ get_or_at heads (get_or words at 0) [] 0 (length heads) refl
                ∙ ap (λ j. get_or words j 0) f,
          )

-- one more item of a column
pub column_more : {X : Type 0} (column : List X) (words : List ℕ) (i : ℕ) (x d : X)
    (old new : List X) → All (λ word. row_in word < length column) words → i < length words
    → x ≡ get_or column (row_in (get_or words i 0)) x
    → old ≡ map (λ word. get_or column (row_in word) d) (take i words) → new ≡ old ++ (x ∷ [])
    → new ≡ map (λ word. get_or column (row_in word) d) (take (i + 1) words)
column_more {X} column words i x d old new below lt at so_far more =
    let f : ℕ → X = λ word. get_or column (row_in word) d in
    let one : x ≡ f (get_or words i 0) =
    at ∙ get_or_default column (row_in (get_or words i 0)) x d (below i 0 lt) in
    more ∙ (λ j. so_far j ++ (one j ∷ [])) ∙ sym (map-append f (take i words) (get_or words i 0 ∷ []))
    ∙ ap (map f) (sym (take_more words i 0 lt))

-- one more column
pub columns_more : {X : Type 0} (d : X) (words : List ℕ) (columns : List (List X)) (i : ℕ)
    (column items : List X) (old new : List (List X)) → i < length columns
    → column ≡ get_or columns i [] → items ≡ map (λ word. get_or column (row_in word) d) words
    → old ≡ picked d words (take i columns) → new ≡ old ++ (items ∷ [])
    → new ≡ picked d words (take (i + 1) columns)
columns_more {X} d words columns i column items old new lt at are so_far more =
    let f : List X → List X = λ c. map (λ word. get_or c (row_in word) d) words in
    let one : items ≡ f (get_or columns i []) = are ∙ ap f at in
    more ∙ (λ j. so_far j ++ (one j ∷ []))
    ∙ sym (map-append f (take i columns) (get_or columns i [] ∷ []))
    ∙ ap (map f) (sym (take_more columns i [] lt))

-- a row of a block is the row of its word
module _ {X : Type 0} (d : X) (words : List ℕ) (from to : ℕ) (le : from ≤ to)
    (within : to ≤ length words) (columns block : List (List X)) where
  pub block_row : (ws : List ℕ) → ws ≡ take (to - from) (drop from words)
      → block ≡ picked d ws columns → (i : ℕ) → from ≤ i → i < to
      → row_at d (i - from) block ≡ row_at d (row_in (get_or words i 0)) columns
  block_row ws part is i low high =
      let lt : i - from < to - from = omega (arith, low, high) in
      let lengths = ap length part ∙ part_long words from to le within in
      let at : from + (i - from) ≡ i = omega (arith, low) in
      ap (row_at d (i - from)) is
      ∙ row_picked d (i - from) ws columns (omega (arith, lengths, lt))
      ∙ ap (λ (l : List ℕ). row_at d (row_in (get_or l (i - from) 0)) columns) part
      ∙ ap (λ word. row_at d (row_in word) columns) (part_at words from to le within (i - from) 0 lt)
      ∙ ap (λ j. row_at d (row_in (get_or words j 0)) columns) at

  pub block_long : (ws : List ℕ) → ws ≡ take (to - from) (drop from words)
      → block ≡ picked d ws columns → (i : ℕ) → from ≤ i → i < to
      → All (λ (c : List X). i - from < length c) block
  block_long ws part is i low high =
      let lengths = ap length part ∙ part_long words from to le within in
      subst (All (λ (c : List X). i - from < length c)) (sym is)
      (long_picked d (i - from) ws columns (omega (arith, lengths, low, high)))

  -- that of a word that has not the key of the one before it
  module _ (heads slots : List ℕ) (are : AreHeads words from to heads slots)
      (is : block ≡ picked d heads columns) (i place : ℕ) (low : from ≤ i) (high : i < to)
      (place_is : place ≡ get_or slots (i - from) 0)
      (other : 0 < i → key_in (get_or words (i - 1) 0) ≢ key_in (get_or words i 0)) where
    at : i ≡ from + (i - from)
    at = omega (arith, low)

    placed : (get_or slots (i - from) 0 < length heads)
        × (get_or heads (get_or slots (i - from) 0) 0 ≡ get_or words (from + (i - from)) 0)
    placed = are.place (i - from) (omega (arith, low, high))
        (subst (λ j. 0 < j → key_in (get_or words (j - 1) 0) ≢ key_in (get_or words j 0)) at other)

    pub head_row : row_at d place block ≡ row_at d (row_in (get_or words i 0)) columns
    head_row = ap (row_at d place) is
        ∙ row_picked d place heads columns (omega (arith, placed.0, place_is))
        ∙ ap (λ j. row_at d (row_in (get_or heads j 0)) columns) place_is
        ∙ ap (λ word. row_at d (row_in word) columns) placed.1
        ∙ ap (λ j. row_at d (row_in (get_or words j 0)) columns) (sym at)

    pub head_long : All (λ (c : List X). place < length c) block
    head_long = subst (All (λ (c : List X). place < length c)) (sym is)
        (long_picked d place heads columns (omega (arith, placed.0, place_is)))

-- what a column of zeros has
pub zeros_picked : (column : List ℤ) (words : List ℕ) (d : ℤ) → AllZero column
    → All (λ word. row_in word < length column) words
    → replicate (length words) (pos 0) ≡ map (λ word. get_or column (row_in word) d) words
zeros_picked column [] d none below = refl
zeros_picked column (w ∷ ws) d none below =
    let lt : row_in w < length column = below 0 0 (omega arith) in
    let one : pos 0 ≡ get_or column (row_in w) d =
    sym (none (row_in w) lt) ∙ get_or_default column (row_in w) (pos 0) d lt in
    λ i. one i ∷ zeros_picked column ws d none (λ k e l. below (suc k) e (omega (arith, l))) i

-- a pair of zeros has zeros alone
pub zeros_alone : (numbers : PairNumbers) (rows : ℕ) → numbers ≡ pair.Zeros rows
    → AllZero (numbers_of numbers)
zeros_alone numbers rows is =
    let lengths = length-replicate rows (pos 0) in
    let alone : AllZero (replicate rows (pos 0)) =
    λ i lt. get_or-replicate rows i (pos 0) (pos 0) (omega (arith, lt, lengths)) in
    subst (λ p. AllZero (numbers_of p)) (sym is) alone

-- one more mark
pub zero_more : (marks marks' : List Bool) (columns : List (List ℤ)) (i : ℕ) (mark : Bool)
    (column : List ℤ) → i < length columns → column ≡ get_or columns i [] → length marks ≡ i
    → ((k : ℕ) → k < i → get_or marks k false ≡ true → AllZero (get_or columns k []))
    → (mark ≡ true → AllZero column) → marks' ≡ marks ++ (mark ∷ [])
    → (k : ℕ) → k < i + 1 → get_or marks' k false ≡ true → AllZero (get_or columns k [])
zero_more marks marks' columns i mark column lt is lengths h own more k l e =
    decide (cases_lt k i)
  where
    decide : k < i ⊎ (i ≤ k) → AllZero (get_or columns k [])
    decide (inl a) = h k a (sym (get_or_append_left marks (mark ∷ []) false k (omega (arith, a, lengths)))
        ∙ ap (λ (xs : List Bool). get_or xs k false) (sym more) ∙ e)
    decide (inr a) =
        let n : k ≡ i = omega (arith, a, l) in
        let marked : mark ≡ true = sym (get_or_at marks mark [] false i lengths)
        ∙ ap (λ j. get_or (marks ++ (mark ∷ [])) j false) (sym n)
        ∙ ap (λ (xs : List Bool). get_or xs k false) (sym more) ∙ e in
        subst AllZero (is ∙ ap (λ j. get_or columns j []) (sym n)) (own marked)
