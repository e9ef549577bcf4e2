-- One name more in a map.
use Rattle.std.proofs.Common.{◌≡◌, ℕ, ◌+◌, ◌<◌, Bool, true, false, ◌||◌, cond, length, take, get_or, is_some, List, ◌∷◌, Some, option_map, if◌then◌else◌, refl, sym, ap, ◌∙◌}
use Rattle.std.specs.Borrow.{Bor}
use Rattle.std.specs.HashMap as hash
use Rattle.std.specs.List.{list_any}
use Rattle.std.specs.Map.{update}
use Rattle.std.proofs.lemmas.List.Folds.{list_any_more}
use Rattle.std.specs.Str.{bytes_eq}
use Rattle.std.proofs.lemmas.Map.Text.{hash_map_updates_str}
use Rattle.query_tokens.specs.declared.tree.NameAt.{NameAt}
use Rattle.query_tokens.specs.declared.tree.QueryItem.{QueryItem}
use Rattle.query_tokens.specs.declared.tree.Term.{Term}
use Rattle.query_bind.specs.Names.{has_label, labelled}
use Rattle.query_bind.specs.LookUps.{KnowsGroups, KnowsLabels}

module _ {S : Type 0} (rest : List QueryItem) (i : QueryItem) (label : NameAt) (old new : hash.HashMap (Bor (List ℕ)) (Bor Term) S) (text : Bor (List ℕ)) (t : Bor Term)
    (own : i.label ≡ Some label) (text_is : text.now ≡ label.name) (term_is : t.now ≡ i.term)
    (updates : hash.UpdatesBy (λ x y. bytes_eq x.now y.now) (λ k. bytes_eq text.now k.now) old new (Some t)) (known : KnowsLabels rest old) where
  by_name : (name : List ℕ) (b : Bool) → bytes_eq text.now name ≡ b
      → option_map (λ t. t.now) (update bytes_eq (λ ds. hash.get_by (λ k. bytes_eq ds k.now) old) text.now (Some t) name) ≡ (if b then Some i.term else labelled rest name)
  by_name name true e = ap (λ c. option_map (λ t. t.now) (cond c (Some t) (hash.get_by (λ k. bytes_eq name k.now) old))) e ∙ ap Some term_is
  by_name name false e = ap (λ c. option_map (λ t. t.now) (cond c (Some t) (hash.get_by (λ k. bytes_eq name k.now) old))) e ∙ known name

  pub one_label : KnowsLabels (i ∷ rest) new
  one_label = λ name.
      ap (option_map (λ t. t.now)) (hash_map_updates_str text.now old new (Some t) updates name)
      ∙ by_name name (bytes_eq text.now name) refl
      ∙ ap (λ x. if bytes_eq x name then Some i.term else labelled rest name) text_is
      ∙ ap (λ o. if has_label o name then Some i.term else labelled rest name) (sym own)

module _ {S : Type 0} (groups : List NameAt) (j : ℕ) (within : j < length groups) (g : NameAt) (old new : hash.HashMap (Bor (List ℕ)) (Bor NameAt) S) (text : Bor (List ℕ)) (at : Bor NameAt)
    (own : g ≡ get_or groups j g) (text_is : text.now ≡ g.name)
    (updates : hash.UpdatesBy (λ x y. bytes_eq x.now y.now) (λ k. bytes_eq text.now k.now) old new (Some at)) (known : KnowsGroups (take j groups) old) where
  or_true : (a : Bool) → (a || true) ≡ true
  or_true true = refl
  or_true false = refl

  or_false : (a : Bool) → (a || false) ≡ a
  or_false true = refl
  or_false false = refl

  has_name : (name : List ℕ) (b : Bool) → bytes_eq text.now name ≡ b
      → is_some (update bytes_eq (λ ds. hash.get_by (λ k. bytes_eq ds k.now) old) text.now (Some at) name) ≡ (list_any (λ g. bytes_eq g.name name) (take j groups) || b)
  has_name name true e = ap (λ c. is_some (cond c (Some at) (hash.get_by (λ k. bytes_eq name k.now) old))) e ∙ sym (or_true (list_any (λ g. bytes_eq g.name name) (take j groups)))
  has_name name false e = ap (λ c. is_some (cond c (Some at) (hash.get_by (λ k. bytes_eq name k.now) old))) e ∙ known name ∙ sym (or_false (list_any (λ g. bytes_eq g.name name) (take j groups)))

  pub one_group : KnowsGroups (take (j + 1) groups) new
  one_group = λ name.
      ap is_some (hash_map_updates_str text.now old new (Some at) updates name)
      ∙ has_name name (bytes_eq text.now name) refl
      ∙ ap (λ x. list_any (λ g. bytes_eq g.name name) (take j groups) || bytes_eq x name) text_is
      ∙ ap (λ h. list_any (λ g. bytes_eq g.name name) (take j groups) || bytes_eq h.name name) own
      ∙ sym (list_any_more (λ g. bytes_eq g.name name) groups j g within)
