-- One more group of a range of documents.
use Rattle.agg_laws.specs.declared.states.AggState.{AggState}
use Rattle.agg_laws.specs.Rows.{merged_rows}
use Rattle.state_columns.specs.Docs.{Doc}
use Rattle.std.proofs.Common.{◌≡◌, ◌≢◌, ℕ, zero, suc, ◌+◌, ◌-◌, ◌<◌, ◌≤◌, Bool, cond, List, [], ◌∷◌}
use Rattle.std.proofs.Common.{length, take, drop, refl, sym, ap, subst, ◌∙◌, arith, get_or}
use Rattle.std.proofs.Common.{length-drop, drop-cons, inl, inr}
use Rattle.std.proofs.lemmas.List.{drop-take, drop-drop, length-take-le}
use Rattle.std.proofs.lemmas.Bool.{cases_lt, ne_eqb}
use Rattle.agg_laws.specs.Tree.{star, dim, Nodes, none, node, ids_at, child_nodes_of}
use Rattle.star_tree.specs.Flat.{blank, child_nodes}
use Rattle.state_columns.specs.Region.{range}
use Rattle.star_builder.specs.Building.{id_of, Rising, Ordinary, group_nodes}
use Rattle.star_builder.proofs.Runs.{run_ids, run_docs, children_after, none_after}
use Rattle.star_tree.proofs.Runs.{RunOf, passing}

none_taken : {X : Type 0} (n : ℕ) (xs : List X) → n ≡ 0 → take n xs ≡ []
none_taken n xs h = ap (λ k. take k xs) h

pub range-cons : (from end : ℕ) (rows : List Doc) → from < end → end ≤ length rows
    → range from end rows ≡ get_or rows from ([], []) ∷ range (suc from) end rows
range-cons from end rows lt in' =
    let n : end - from ≡ suc (end - suc from) = omega arith in
    (λ i. take (n i) (drop-cons rows from ([], []) (omega arith) i))

pub range-none : (from end : ℕ) (rows : List Doc) → end ≤ from → range from end rows ≡ []
range-none from end rows h = none_taken (end - from) (drop from rows) (omega arith)

range-drop : (from n end : ℕ) (rows : List Doc) → from + n ≤ end → drop n (range from end rows)
    ≡ range (from + n) end rows
range-drop from n end rows h =
    let k : end - from ≡ n + (end - (from + n)) = omega arith in
    ap (λ m. drop n (take m (drop from rows))) k ∙ drop-take n (end - (from + n)) (drop from rows)
    ∙ ap (λ xs. take (end - (from + n)) xs) (drop-drop n from rows)

pub length-range : (from end : ℕ) (rows : List Doc) → end ≤ length rows
    → length (range from end rows) ≡ end - from
length-range from end rows h = length-take-le (end - from) (drop from rows) (omega (
  arith,
  length-drop from rows,
))

run_of : (d v n from end : ℕ) (rows : List Doc) → from + n ≤ end → end ≤ length rows
    → ((i : ℕ) → from ≤ i → i < from + n → id_of d i rows ≡ v) → (from + n < end
    → id_of d (from + n) rows ≢ v) → RunOf d v n (range from end rows)
run_of d v zero from end rows within in' alike stops =
    elim (cases_lt from end) as (λ _. RunOf d v zero (range from end rows)) [
      | inl lt ↦ subst (RunOf d v zero) (sym (range-cons from end rows lt in')) (λ e. stops (omega
          arith) (ap (λ k. id_of d k rows) (let z : from + 0 ≡ from = omega arith in z) ∙ e))
      | inr le ↦ subst (RunOf d v zero) (sym (range-none from end rows le)) tt
    ]
run_of d v (suc n) from end rows within in' alike stops =
    let s : suc from + n ≡ from + suc n = omega arith in
    subst (RunOf d v (suc n)) (sym (range-cons from end rows (omega arith) in')) (
      alike from (omega arith) (omega arith),
      run_of d v n (suc from) end rows (omega arith) in' (λ i h k. alike i (omega arith) (omega
          arith)) (λ lt e. stops (omega arith) (ap (λ k. id_of d k rows) (sym s) ∙ e)),
    )

rising_after : (d n : ℕ) (es : List Doc) → Rising d es → Rising d (drop n es)
rising_after d zero es h = h
rising_after d (suc n) [] h = tt
rising_after d (suc n) (e ∷ es) h = rising_after d n es h.1

ordinary_after : (d n : ℕ) (es : List Doc) → Ordinary d es → Ordinary d (drop n es)
ordinary_after d zero es h = h
ordinary_after d (suc n) [] h = tt
ordinary_after d (suc n) (e ∷ es) h = ordinary_after d n es h.1

group_cons : (d from n : ℕ) (e : Doc) (es : List Doc) → Rising d (e ∷ es) → dim d e.0 ≢ star
    → RunOf d (dim d e.0) n es → length (take n es) ≡ n
    → group_nodes d from (e ∷ es) ≡ blank (suc d) (dim d e.0) from (from + suc n) ∷ group_nodes d
    (from + suc n) (drop n es)
group_cons d from n e es up ordinary run len =
    let v = dim d e.0 in
    let B : List Doc → Nodes (List AggState) = λ _. none in
    let ids = run_ids merged_rows d v n e es refl up.0 up.1 run in
    let rest = children_after B d v (suc n) (e ∷ es) none (refl, run) (ids_at merged_rows d (drop n
    es)) (none_after merged_rows d v n es up.0 up.1 run) in
    let own = passing d v e es refl ∙ ap (λ t. e ∷ t) (run_docs d v n es up.0 up.1 run) in
    ap (λ vs. child_nodes (suc d) from 0 (child_nodes_of B d (e ∷ es) none vs)) ids
    ∙ (λ i. child_nodes (suc d) from 0 (node v (own i) none (rest i)))
    ∙ ap (λ b. (if' b (blank (suc d) v 0 (0 + suc (length (take n es)))) (blank (suc d) v from
    (from + suc (length (take n es))))) ∷ child_nodes (suc d) (if' b from (from + suc (length
    (take n es)))) 0 (child_nodes_of B d (drop n es) none (ids_at merged_rows d (drop n es)))) (ne_eqb
    v star ordinary)
    ∙ ap (λ m. blank (suc d) v from (from + suc m) ∷ child_nodes (suc d) (from + suc m) 0 (child_nodes_of B
    d (drop n es) none (ids_at merged_rows d (drop n es)))) len
  where
    if' : {X : Type 0} → Bool → X → X → X
    if' b x y = cond b x y

-- one group, and the rest
pub record Stepped (d from to end : ℕ) (rows : List Doc) : Type 0 where
  pub groups : group_nodes d from (range from end rows)
      ≡ blank (d + 1) (id_of d from rows) from to ∷ group_nodes d to (range to end rows)
  pub rising : Rising d (range to end rows)
  pub ordinary : Ordinary d (range to end rows)

pub group_step : (d from to end : ℕ) (rows : List Doc) → from < to → to ≤ end → end ≤ length rows
    → ((i : ℕ) → from ≤ i → i < to → id_of d i rows ≡ id_of d from rows) → (to < end
    → id_of d to rows ≢ id_of d from rows)
    → Rising d (range from end rows) → Ordinary d (range from end rows) → Stepped d from to end rows
group_step d from to end rows lt le in' alike stops up ordinary =
    let n = to - suc from in
    let e = get_or rows from ([], []) in
    let es = range (suc from) end rows in
    let n_is : suc from + n ≡ to = omega arith in
    let split : range from end rows ≡ e ∷ es = range-cons from end rows (omega arith) in' in
    let up' : Rising d (e ∷ es) = subst (Rising d) split up in
    let ordinary' : Ordinary d (e ∷ es) = subst (Ordinary d) split ordinary in
    let run : RunOf d (dim d e.0) n es = run_of d (dim d e.0) n (suc from) end rows (omega arith)
    in' (λ i h k. alike i (omega arith) (omega arith))
    (λ h q. stops (omega arith) (ap (λ k. id_of d k rows) (sym n_is) ∙ q)) in
    let len : length (take n es) ≡ n = length-take-le n es (omega (
      arith,
      length-range (suc from)
          end rows in',
    )) in
    let rest : drop n es ≡ range to end rows = range-drop (suc from) n end rows (omega arith)
    ∙ ap (λ k. range k end rows) n_is in
    let at : from + suc n ≡ to = omega arith in
    let d1 : suc d ≡ d + 1 = omega arith in
    record {
      groups = ap (group_nodes d from) split ∙ group_cons d from n e es up' ordinary'.0 run len
          ∙ (λ i. blank (d1 i) (dim d e.0) from (at i) ∷ group_nodes d (at i) (rest i));
      rising = subst (Rising d) rest (rising_after d n es up'.1);
      ordinary = subst (Ordinary d) rest (ordinary_after d n es ordinary'.1);
    }
