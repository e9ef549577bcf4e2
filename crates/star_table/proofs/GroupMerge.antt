-- The documents of a range by combination, merged one by one.
use Rattle.std.proofs.Common.{◌≡◌, ℕ, zero, suc, ◌+◌, ◌-◌, ◌<◌, ◌≤◌, List, [], ◌∷◌, ◌++◌, map, All, length}
use Rattle.std.proofs.Common.{take, get_or, set, refl, sym, ap, subst, ◌∙◌, arith, Bool, true, false, T}
use Rattle.std.proofs.Common.{length-append}
use Rattle.std.specs.FinMap.{is_sorted}
use Rattle.std.proofs.Math.Seq.{take-length}
use Rattle.state_columns.proofs.MergedLemmas.{Merged-sorted}
use Rattle.state_columns.proofs.ListLemmas.{same_dims}
use Rattle.std.proofs.lemmas.List.{length-map, get_or-map, map-append}
use Rattle.std.proofs.lemmas.List.Sorted.{IsPermutation-map, All-permutation}
use Rattle.std.proofs.lemmas.Cmp.{nat_list_cmp_total}
use Rattle.std.proofs.Math.Seq.{map-set_same}
use Rattle.std.specs.List.Sorted.{IsPermutation}
use Rattle.state_columns.specs.declared.packing.Span.{Span}
use Rattle.agg_laws.specs.Rows.{merged_rows, row_weight}
use Rattle.agg_laws.specs.Merged.{add, rekey, weights}
use Rattle.agg_laws.specs.Tree.{dims_order, set_star, merged_docs}
use Rattle.state_columns.specs.Docs.{Doc, doc_at}
use Rattle.state_columns.specs.Region.{range, numbers}
use Rattle.state_columns.specs.Packing.{place, IsWord}
use Rattle.state_columns.specs.Grouping.{entry_of, first_words, numbered, starred_docs, with_states}
use Rattle.state_columns.specs.Grouping.{HasSlot, IsSplit, AreGroups}
use Rattle.state_columns.proofs.DocLemmas.{rows_join}
use Rattle.state_columns.proofs.WeightLemmas.{weight_at}
use Rattle.star_table.proofs.TotalSteps.{doc_before}
use Rattle.star_table.proofs.StarSteps as steps
use Rattle.state_columns.proofs.PlaceMerge.{put_at}
use Rattle.state_columns.proofs.GroupSteps as words

-- split words are groups of documents
pub grouped : (spans : List Span) (level start end : ℕ) (docs : List Doc)
    (ws table others firsts slots : List ℕ) → map (place start) ws ≡ numbers start end
    → All (IsWord spans level start docs) ws → IsSplit ws table others
    → firsts ≡ map (place start) (first_words 0 table) → slots ≡ numbered 0 table
    → AreGroups start end level docs firsts slots others
grouped spans level start end docs ws table others firsts slots all are split first slot =
    let W = IsWord spans level start docs in
    let fw = first_words 0 table in
    let both = All-permutation W ws (fw ++ others) split.same are in
    let wf = words.all_left W fw others both in
    let wo = words.all_right W fw others both in
    let perm : IsPermutation (numbers start end) (map (place start) fw ++ map (place start) others) =
    subst (λ l. IsPermutation l (map (place start) fw ++ map (place start) others)) all
    (subst (IsPermutation (map (place start) ws)) (map-append (place start) fw others)
    (IsPermutation-map (place start) ws (fw ++ others) split.same)) in
    record {
      all = subst (λ l. IsPermutation (numbers start end) (l ++ map (place start) others)) (sym first)
          perm;
      ascending = ap (λ l. is_sorted dims_order (starred_docs level docs l)) first
          ∙ words.firsts_ascend spans level start docs 0 table split.places wf;
      slotted = λ i d lt. subst (λ l. HasSlot start level docs l slots (get_or others i d)) (sym first)
          (subst (λ l. HasSlot start level docs (map (place start) fw) l (get_or others i d)) (sym slot)
          (words.slot_is spans level start docs table (get_or others i d) split.places wf
          (wo i d lt) (split.found i d lt)));
    }

as_test : (b : Bool) → b ≡ true → T b
as_test true p = tt
as_test false p = cc

take_front : {X : Type 0} (xs ys : List X) → take (length xs) (xs ++ ys) ≡ xs
take_front [] ys = refl
take_front (x ∷ xs) ys = ap (λ t. x ∷ t) (take_front xs ys)

pub inside : (ys : List ℕ) (k : ℕ) → 0 < get_or ys k 0 → k < length ys
inside [] k h = absurd (omega arith)
inside (y ∷ ys) zero h = omega arith
inside (y ∷ ys) (suc k) h = let m = inside ys k h in omega (arith, m)

set_after : {X : Type 0} (xs ys : List X) (n j : ℕ) (v : X) → n ≡ length xs + j
    → set (xs ++ ys) n v ≡ xs ++ set ys j v
set_after [] ys n j v e = ap (λ m. set ys m v) (let f : n ≡ j = omega (arith, e) in f)
set_after (x ∷ xs) ys zero j v e = absurd (omega (arith, e))
set_after (x ∷ xs) ys (suc n) j v e = ap (λ t. x ∷ t) (set_after xs ys n j v (omega (arith, e)))

get_after : {X : Type 0} (xs ys : List X) (n j : ℕ) (d : X) → n ≡ length xs + j
    → get_or (xs ++ ys) n d ≡ get_or ys j d
get_after [] ys n j d e = ap (λ m. get_or ys m d) (let f : n ≡ j = omega (arith, e) in f)
get_after (x ∷ xs) ys zero j d e = absurd (omega (arith, e))
get_after (x ∷ xs) ys (suc n) j d e = get_after xs ys n j d (omega (arith, e))

module _ (level start end : ℕ) (docs : List Doc) (le : start ≤ end) (in' : end ≤ length docs)
    (firsts slots others : List ℕ) (g : AreGroups start end level docs firsts slots others) where
  abbrev pub order : List ℕ
  order = firsts ++ map (place start) others

  abbrev pub made : ℕ → List Doc
  made i = merged_docs merged_rows (steps.starred_at level docs (take (length firsts + i)
      (firsts ++ map (place start) others)))

  -- at the beginning, the first documents
  pub begun : made 0 ≡ starred_docs level docs firsts
  begun =
      let n : length firsts + 0 ≡ length firsts = omega arith in
      ap (λ m. merged_docs merged_rows (steps.starred_at level docs (take m order))) n
      ∙ ap (λ l. merged_docs merged_rows (steps.starred_at level docs l))
      (take_front firsts (map (place start) others))
      ∙ Merged-sorted dims_order nat_list_cmp_total same_dims merged_rows rows_join
      (starred_docs level docs firsts) (as_test (is_sorted dims_order (starred_docs level docs firsts)) g.ascending)

  pub ended : (i : ℕ) → i ≡ length others
      → made i ≡ merged_docs merged_rows (rekey (set_star level) (range start end docs))
  ended i e =
      let l = length-append firsts (map (place start) others) in
      let m = length-map others (place start) in
      let n : length firsts + i ≡ length order = omega (arith, l, m, e) in
      ap (λ m. merged_docs merged_rows (steps.starred_at level docs (take m order))) n
      ∙ ap (λ l. merged_docs merged_rows (steps.starred_at level docs l)) (take-length order)
      ∙ steps.same_merged level start end docs le in' order g.all

  pub as_long : (i : ℕ) → map (λ (e : Doc). e.0) (made i)
      ≡ map (λ (e : Doc). e.0) (starred_docs level docs firsts) → length (made i) ≡ length firsts
  as_long i keys =
      let a = length-map (made i) (λ (e : Doc). e.0) in
      let b = length-map (starred_docs level docs firsts) (λ (e : Doc). e.0) in
      let c = length-map firsts (steps.starred_doc level docs) in
      let d = ap length keys in
      omega (arith, a, b, c, d)

  pub firsts_few : length firsts ≤ end - start
  firsts_few =
      let l = steps.order_length level start end docs le in' order g.all in
      let m = length-append firsts (map (place start) others) in
      omega (arith, l, m)

  pub firsts_in : All (λ i. i < length docs) firsts
  firsts_in = words.all_left (λ i. i < length docs) firsts (map (place start) others) (λ i d lt.
      let b = steps.below level start end docs le in' order g.all i d lt in omega (arith, b, in'))

  module _ (i : ℕ) (lt : i < length others)
      (keys : map (λ (e : Doc). e.0) (made i)
      ≡ map (λ (e : Doc). e.0) (starred_docs level docs firsts)) where
    abbrev pub word : ℕ
    word = get_or others i 0

    abbrev pub j : ℕ
    j = entry_of slots (get_or others i 0) - 1

    slot : HasSlot start level docs firsts slots (get_or others i 0)
    slot = g.slotted i 0 lt

    pub in_firsts : j < length firsts
    in_firsts = omega (arith, slot.some, slot.there)

    pub some_slot : 0 < entry_of slots (get_or others i 0)
    some_slot = slot.some

    pub lengths : length (made i) ≡ length firsts
    lengths = as_long i keys

    in_order : length firsts + i < length order
    in_order = let l = length-append firsts (map (place start) others) in
        let m = length-map others (place start) in omega (arith, l, m, lt)

    from_is : get_or order (length firsts + i) 0 ≡ place start (get_or others i 0)
    from_is = get_after firsts (map (place start) others) (length firsts + i) i 0 refl
        ∙ get_or-map (place start) others i 0 0 lt

    pub from_in : place start (get_or others i 0) < length docs
    from_in = let b = steps.below level start end docs le in' order g.all (length firsts + i) 0
        in_order in omega (arith, b, in', from_is)

    -- the document that the word is merged into has its combination
    key_is : (doc_at (made i) j).0 ≡ set_star level (doc_at docs (place start (get_or others i 0))).0
    key_is =
        let n : j < length (made i) = omega (arith, lengths, in_firsts) in
        let c = length-map firsts (steps.starred_doc level docs) in
        let n' : j < length (starred_docs level docs firsts) = omega (arith, c, in_firsts) in
        sym (get_or-map (λ (e : Doc). e.0) (made i) j ([], []) [] n)
        ∙ ap (λ l. get_or l j []) keys
        ∙ get_or-map (λ (e : Doc). e.0) (starred_docs level docs firsts) j ([], []) [] n'
        ∙ ap (λ (e : Doc). e.0)
        (get_or-map (steps.starred_doc level docs) firsts j 0 ([], []) in_firsts)
        ∙ slot.same

    new_is : set (made i) j (
      (doc_at (made i) j).0,
      merged_rows (doc_at (made i) j).1
          (doc_at docs (place start (get_or others i 0))).1,
    ) ≡ made (i + 1)
    new_is =
        let n : j < length (made i) = omega (arith, lengths, in_firsts) in
        let p : length firsts + i + 1 ≡ length firsts + (i + 1) = omega arith in
        put_at dims_order nat_list_cmp_total merged_rows rows_join
        (set_star level (doc_at docs (place start (get_or others i 0))).0)
        (doc_at docs (place start (get_or others i 0))).1 (made i) j ([], [])
        (steps.ascending level start end docs le in' order g.all (length firsts + i)) n key_is
        ∙ ap (λ x. add dims_order merged_rows (set_star level (doc_at docs x).0) (doc_at docs x).1
        (made i)) (sym from_is)
        ∙ steps.next level start end docs le in' order g.all (length firsts + i) in_order
        ∙ ap (λ m. merged_docs merged_rows (steps.starred_at level docs (take m order))) p

    pub next_keys : map (λ (e : Doc). e.0) (made (i + 1))
        ≡ map (λ (e : Doc). e.0) (starred_docs level docs firsts)
    next_keys = ap (map (λ (e : Doc). e.0)) (sym new_is)
        ∙ map-set_same (λ (e : Doc). e.0) (made i) j _ ([], []) refl ∙ keys

    module _ (into : ℕ) (there : into ≡ length docs + j) where
      own : doc_at (docs ++ made i) into ≡ doc_at (made i) j
      own = get_after docs (made i) into j ([], []) there

      from : doc_at (docs ++ made i) (place start (get_or others i 0))
          ≡ doc_at docs (place start (get_or others i 0))
      from = doc_before docs (made i) (place start (get_or others i 0)) from_in

      pub next_docs : with_states into (merged_rows (doc_at (docs ++ made i) into).1
          (doc_at (docs ++ made i) (place start (get_or others i 0))).1) (docs ++ made i)
          ≡ docs ++ made (i + 1)
      next_docs =
          (λ l. set (docs ++ made i) into ((own l).0, merged_rows (own l).1 (from l).1))
          ∙ set_after docs (made i) into j _ there
          ∙ ap (λ t. docs ++ t) new_is

      pub still_light : (most : ℕ) → weights row_weight (range start end docs) ≤ most
          → row_weight (doc_at (docs ++ made i) into).1
          + row_weight (doc_at (docs ++ made i) (place start (get_or others i 0))).1 ≤ most
      still_light most at_most =
          let n : j < length (made i) = omega (arith, lengths, in_firsts) in
          let w = weight_at row_weight (made i) j ([], []) n in
          let l = steps.weight_fits level start end docs le in' order g.all (length firsts + i) in_order
          most at_most in
          let a = ap (λ (e : Doc). row_weight e.1) own in
          let b = ap (λ (e : Doc). row_weight e.1) from in
          let c = ap (λ x. row_weight (doc_at docs x).1) from_is in
          omega (arith, w, l, a, b, c)
