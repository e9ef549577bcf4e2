-- One more document at the end of ascending ones.
use Rattle.std.proofs.Common.{◌≡◌, ◌≢◌, ℕ, zero, suc, ◌+◌, ◌-◌, ◌<◌, ◌≤◌, List, [], ◌∷◌, ◌++◌}
use Rattle.std.proofs.Common.{length, take, drop, get_or, set, refl, sym, ap, subst, ◌∙◌, arith}
use Rattle.std.proofs.Common.{append_assoc, length-append, length-drop, Equal, None, true}
use Rattle.std.proofs.lemmas.List.{take-append-drop, get_or-drop}
use Rattle.std.proofs.lemmas.Cmp.{nat_list_cmp_total}
use Rattle.std.specs.Ordering.{is_gt}
use Rattle.std.specs.FinMap.{is_sorted}
use Rattle.agg_laws.specs.Rows.{merged_rows, row_weight}
use Rattle.agg_laws.specs.Merged.{total, add, weights}
use Rattle.agg_laws.specs.Tree.{dims_order}
use Rattle.agg_laws.specs.declared.states.AggState.{AggState}
use Rattle.state_columns.specs.Docs.{Doc, doc_at}
use Rattle.state_columns.proofs.ListLemmas.{same_dims}
use Rattle.state_columns.proofs.WeightLemmas.{weight_at}
use Rattle.state_columns.proofs.DocLemmas.{rows_join}
use Rattle.state_columns.proofs.MergeSteps.{put_at_last, put_at_end}

-- the last of some documents
pub snoc : (es : List Doc) → 0 < length es → (init : List Doc)
    × (es ≡ init ++ (doc_at es (length es - 1) ∷ []))
snoc [] h = absurd (omega arith)
snoc (e ∷ []) h = ([], refl)
snoc (e ∷ f ∷ es) h =
    let more = snoc (f ∷ es) (omega arith) in
    let n : length (e ∷ f ∷ es) - 1 ≡ suc (length (f ∷ es) - 1) = omega arith in (
      e ∷ more.0,
      ap (λ t. e ∷ t) more.1
          ∙ ap (λ i. e ∷ (more.0 ++ (doc_at (e ∷ f ∷ es) i ∷ []))) (sym n),
    )

set_at_end : (init : List Doc) (l x : Doc)
    → set (init ++ (l ∷ [])) (length (init ++ (l ∷ [])) - 1) x ≡ init ++ (x ∷ [])
set_at_end [] l x = refl
set_at_end (e ∷ es) l x =
    let m = length-append es (l ∷ []) in
    let n : suc (length (es ++ (l ∷ []))) - 1
    ≡ suc (length (es ++ (l ∷ [])) - 1) = omega (arith, m) in
    ap (λ i. set (e ∷ (es ++ (l ∷ []))) i x) n ∙ ap (λ t. e ∷ t) (set_at_end es l x)

module _ (before : ℕ) (docs : List Doc) (le : before ≤ length docs) where
  abbrev front : List Doc
  front = take before docs

  abbrev es : List Doc
  es = drop before docs

  whole : docs ≡ front ++ es
  whole = sym (take-append-drop before docs)

  last_is : before < length docs → doc_at es (length es - 1) ≡ doc_at docs (length docs - 1)
  last_is lt = let l = length-drop before docs in let n : before + (length es - 1)
      ≡ length docs - 1 = omega (arith, l, lt) in get_or-drop before docs (length es - 1) ([], [])
      ∙ ap (doc_at docs) n

  -- the last one is the last of those after the first
  pub parts : (lt : before < length docs) → (init : List Doc)
      × (es ≡ init ++ (doc_at docs (length docs - 1) ∷ []))
  parts lt = let s = snoc es (omega (arith, lt, length-drop before docs))
      in (s.0, s.1 ∙ ap (λ e. s.0 ++ (e ∷ [])) (last_is lt))

  pub last_whole : (lt : before < length docs) → docs ≡ (front ++ (parts lt).0)
      ++ (doc_at docs (length docs - 1) ∷ [])
  last_whole lt = whole ∙ ap (λ t. front ++ t) (parts lt).1
      ∙ sym (append_assoc front (parts lt).0 (doc_at docs (length docs - 1) ∷ []))

  pub last_light : before < length docs
      → row_weight (doc_at docs (length docs - 1)).1 ≤ weights row_weight es
  last_light lt = subst (λ (e : Doc). row_weight e.1 ≤ weights row_weight es) (last_is lt)
      (weight_at row_weight es (length es - 1) ([], [])
      (omega (arith, lt, length-drop before docs)))

  module _ (k : List ℕ) (s : List AggState) (up : is_sorted dims_order es ≡ true) where
    pub merged_in : (lt : before < length docs) → dims_order (doc_at docs (length docs - 1)).0 k
        ≡ Equal
        → (front ++ (parts lt).0)
        ++ (((doc_at docs (length docs - 1)).0, merged_rows (doc_at docs (length docs - 1)).1 s)
        ∷ []) ≡ front ++ add dims_order merged_rows k s es
    merged_in lt tie =
        let l = doc_at docs (length docs - 1) in
        let init = (parts lt).0 in
        let e = (parts lt).1 in
        let at : l ≡ get_or es (length es - 1) l = sym (last_default init l (l ∷ []) refl)
        ∙ ap (λ (x : List Doc). get_or x (length x - 1) l) (sym e) in
        append_assoc front init ((l.0, merged_rows l.1 s) ∷ [])
        ∙ ap (λ t. front ++ t)
        (sym (set_at_end init l (l.0, merged_rows l.1 s))
        ∙ ap (λ (x : List Doc). set x (length x - 1) (l.0, merged_rows l.1 s)) (sym e)
        ∙ put_at_last dims_order nat_list_cmp_total same_dims merged_rows rows_join k s es l up
        (omega (arith, lt, length-drop before docs)) at tie)
      where
        last_default : (init : List Doc) (l : Doc) (t : List Doc) → t ≡ l ∷ []
            → get_or (init ++ (l ∷ [])) (length (init ++ (l ∷ [])) - 1) l ≡ l
        last_default [] l t h = refl
        last_default (e ∷ es) l t h =
            let m = length-append es (l ∷ []) in
            let n : suc (length (es ++ (l ∷ []))) - 1
            ≡ suc (length (es ++ (l ∷ [])) - 1) = omega (arith, m) in
            ap (λ i. get_or (e ∷ (es ++ (l ∷ []))) i l) n ∙ last_default es l t h

    pub put_on : total merged_rows (λ x. is_gt (dims_order x k)) es ≡ None
        → (before < length docs → dims_order (doc_at docs (length docs - 1)).0 k ≢ Equal) → docs
        ++ ((k, s) ∷ []) ≡ front ++ add dims_order merged_rows k s es
    put_on low apart =
        ap (λ t. t ++ ((k, s) ∷ [])) whole ∙ append_assoc front es ((k, s) ∷ [])
        ∙ ap (λ t. front ++ t)
        (put_at_end dims_order nat_list_cmp_total same_dims merged_rows rows_join k s es up low
        (λ l some at tie. let lt : before < length docs =
        omega (arith, some, length-drop before docs) in
        apart lt (sym (ap (λ (e : Doc). dims_order e.0 k)
        (at ∙ in_list es (length es - 1) l ([], []) (omega (arith, some)) ∙ last_is lt))
        ∙ tie)))
      where
        in_list : (xs : List Doc) (i : ℕ) (d e : Doc) → i < length xs → get_or xs i d
            ≡ get_or xs i e
        in_list [] i d e lt = absurd (omega arith)
        in_list (x ∷ xs) zero d e lt = refl
        in_list (x ∷ xs) (suc i) d e lt = in_list xs i d e (omega arith)
