-- The states of the aggregates, of documents that are joined.
use Rattle.std.proofs.Common.{◌≡◌, ◌∙◌, ℕ, zero, suc, ◌<◌, Bool, true, false, cond, All, List, [], ◌∷◌, Option, Some, None, IfSome, length, get_or, refl, sym, ap, arith}
use Rattle.std.specs.Option.{option_map}
use Rattle.std.specs.Ordering.{eq_by_cmp}
use Rattle.std.proofs.lemmas.List.Elements.{All-head, All-tail}
use Rattle.values.specs.declared.value.Value.{Value}
use Rattle.agg_laws.specs.declared.aggregate_kind.AggKind.{AggKind}
use Rattle.agg_laws.specs.declared.states.AggState.{AggState}
use Rattle.agg_laws.specs.declared.states.AggState.TheVariants.{Count}
use Rattle.state_columns.specs.Docs.{Doc}
use Rattle.agg_laws.specs.Merged.{join_some, total}
use Rattle.agg_laws.specs.Rows.{kinds_of, merged_rows}
use Rattle.agg_laws.specs.States.{merged}
use Rattle.state_columns.proofs.RowPlaces.{length-kinds_of}
use Rattle.state_columns.proofs.RegionSteps.{kinds_merged}
use Rattle.group_table.specs.Groups.{key_order}
use Rattle.star_reader.specs.declared.asked.Asked.{Asked}
use Rattle.star_reader.specs.Asked.{entries_of, key_of, states_of}
use Rattle.group_table.proofs.EntryLemmas.{states_at}

merged_at : (vs ws : List AggState) (i : ℕ) → length vs ≡ length ws → i < length vs
    → get_or (merged_rows vs ws) i (Count 0) ≡ merged (get_or vs i (Count 0)) (get_or ws i (Count 0))
merged_at [] ws i same lt = absurd (omega arith)
merged_at (v ∷ vs) [] i same lt = absurd (omega (arith, same))
merged_at (v ∷ vs) (w ∷ ws) zero same lt = refl
merged_at (v ∷ vs) (w ∷ ws) (suc i) same lt = merged_at vs ws i (omega (arith, same)) (omega arith)

-- the states of the aggregates are merged where those of the pairs are
states_merged : (pairs : List ℕ) (vs ws : List AggState) → length vs ≡ length ws
    → All (λ pair. pair < length vs) pairs
    → states_of pairs (merged_rows vs ws) ≡ merged_rows (states_of pairs vs) (states_of pairs ws)
states_merged [] vs ws same all = refl
states_merged (p ∷ ps) vs ws same all =
    λ i. merged_at vs ws p same (All-head (λ pair. pair < length vs) p ps all) i
    ∷ states_merged ps vs ws same (All-tail (λ pair. pair < length vs) p ps all) i

-- each document has states of these kinds
abbrev pub HaveKinds : List AggKind → List Doc → Type 0
HaveKinds ks [] = Unit {0}
HaveKinds ks (e ∷ es) = (kinds_of e.1 ≡ ks) × HaveKinds ks es

module _ (ks : List AggKind) (pairs : List ℕ) (all : All (λ pair. pair < length ks) pairs) where
  abbrev AreOf : Option (List AggState) → Type 0
  AreOf o = IfSome o (λ states. kinds_of states ≡ ks)

  joined_of : (a b : Option (List AggState)) → AreOf a → AreOf b
      → AreOf (join_some merged_rows a b)
  joined_of None b h k = k
  joined_of (Some s) None h k = h
  joined_of (Some s) (Some t) h k = kinds_merged s t (h ∙ sym k) ∙ h

  part_of : (b : Bool) (s : List AggState) → kinds_of s ≡ ks → AreOf (cond b (Some s) None)
  part_of true s h = h
  part_of false s h = tt

  total_of : (p : List ℕ → Bool) (docs : List Doc) → HaveKinds ks docs
      → AreOf (total merged_rows p docs)
  total_of p [] h = tt
  total_of p (e ∷ es) h =
      joined_of (cond (p e.0) (Some e.1) None) (total merged_rows p es) (part_of (p e.0) e.1 h.0)
      (total_of p es h.1)

  joined_states : (a b : Option (List AggState)) → AreOf a → AreOf b
      → join_some merged_rows (option_map (states_of pairs) a) (option_map (states_of pairs) b)
      ≡ option_map (states_of pairs) (join_some merged_rows a b)
  joined_states None b h k = refl
  joined_states (Some s) None h k = refl
  joined_states (Some s) (Some t) h k =
      let lengths : length s ≡ length ks = sym (length-kinds_of s) ∙ ap length h in
      let other : length t ≡ length ks = sym (length-kinds_of t) ∙ ap length k in
      ap Some (sym (states_merged pairs s t (lengths ∙ sym other)
      (λ i d lt. omega (arith, all i d lt, lengths))))

  part_states : (b : Bool) (s : List AggState)
      → cond b (Some (states_of pairs s)) None ≡ option_map (states_of pairs) (cond b (Some s) None)
  part_states true s = refl
  part_states false s = refl

-- what documents give to a key are the states of the aggregates, of what they have together
pub entries_total : (asked : Asked) (ks : List AggKind)
    → All (λ pair. pair < length ks) asked.pairs.now → (docs : List Doc) → HaveKinds ks docs
    → (q : List Value) → states_at q (entries_of asked docs)
    ≡ option_map (states_of asked.pairs.now)
    (total merged_rows (λ ids. eq_by_cmp key_order q (key_of asked.columns.now ids)) docs)
entries_total asked ks all [] h q = refl
entries_total asked ks all (e ∷ es) h q =
    let test : List ℕ → Bool = λ ids. eq_by_cmp key_order q (key_of asked.columns.now ids) in
    let own = part_states ks asked.pairs.now all (test e.0) e.1 in
    let more = entries_total asked ks all es h.1 q in
    (λ i. join_some merged_rows (own i) (more i))
    ∙ joined_states ks asked.pairs.now all (cond (test e.0) (Some e.1) None)
    (total merged_rows test es) (part_of ks asked.pairs.now all (test e.0) e.1 h.0)
    (total_of ks asked.pairs.now all test es h.1)
