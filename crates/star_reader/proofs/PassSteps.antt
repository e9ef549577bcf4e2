-- The documents of a table that pass their tests are selected, one after the other.
use Rattle.std.proofs.Common.{◌≡◌, ◌∙◌, ℕ, ◌+◌, ◌-◌, ◌<◌, true, cond, List, [], ◌∷◌}
use Rattle.std.proofs.Common.{◌++◌, length, take, drop, sym, ap, subst}
use Rattle.std.proofs.Common.{append_assoc}
use Rattle.std.proofs.lemmas.List.{map-append, take-append-drop}
use Rattle.std.proofs.lemmas.List.{take_more}
use Rattle.std.proofs.lemmas.List.Elements.{filter-append}
use Rattle.state_columns.specs.Docs.{Doc, doc_at}
use Rattle.star_tree.specs.Picks as asks
use Rattle.star_tree.specs.Picks.{holds_from}
use Rattle.star_reader.specs.declared.asked.Asked.{Asked}
use Rattle.star_reader.specs.Answers.{left_of}
use Rattle.star_reader.specs.Selected.{MayBeSelected, selected_doc, selected_docs}
use Rattle.star_reader.proofs.TakeSteps.{may_first}

module _ (asked : Asked) (t : asks.Task) (k level : ℕ) (docs : List Doc) (at : ℕ)
    (lt : at < length docs) (passes : holds_from t (k - level) level (doc_at docs at).0 ≡ true) where
  left_kept : left_of t k level (take (at + 1) docs) ≡ left_of t k level (take at docs) ++ doc_at docs at ∷ []
  left_kept =
      ap (left_of t k level) (take_more docs at ([], []) lt)
      ∙ filter-append (λ e. holds_from t (k - level) level e.0) (take at docs) (doc_at docs at ∷ [])
      ∙ ap (λ b. left_of t k level (take at docs) ++ cond b (doc_at docs at ∷ []) []) passes

  left_all : left_of t k level docs ≡ (left_of t k level (take at docs) ++ doc_at docs at ∷ [])
      ++ left_of t k level (drop (at + 1) docs)
  left_all =
      ap (left_of t k level) (sym (take-append-drop (at + 1) docs))
      ∙ filter-append (λ e. holds_from t (k - level) level e.0) (take (at + 1) docs)
      (drop (at + 1) docs)
      ∙ ap (λ l. l ++ left_of t k level (drop (at + 1) docs)) left_kept

  -- if those up to one may not be selected, all may not
  pub selected_bad : (rows : ℕ) (old mid : List Doc)
      → mid ≡ old ++ selected_docs asked (left_of t k level (take at docs))
      → MayBeSelected asked.columns.now rows (old ++ selected_docs asked (left_of t k level docs))
      → MayBeSelected asked.columns.now rows (mid ++ selected_doc asked (doc_at docs at) ∷ [])
  selected_bad rows old mid is may =
      let front = left_of t k level (take at docs) in
      let rest = left_of t k level (drop (at + 1) docs) in
      let e = selected_doc asked (doc_at docs at) in
      let all : old ++ selected_docs asked (left_of t k level docs)
      ≡ (mid ++ e ∷ []) ++ selected_docs asked rest =
      ap (λ l. old ++ selected_docs asked l) left_all
      ∙ ap (λ l. old ++ l) (map-append (selected_doc asked) (front ++ doc_at docs at ∷ []) rest
      ∙ ap (λ l. l ++ selected_docs asked rest) (map-append (selected_doc asked) front
      (doc_at docs at ∷ [])))
      ∙ sym (append_assoc old (selected_docs asked front ++ e ∷ []) (selected_docs asked rest))
      ∙ ap (λ l. l ++ selected_docs asked rest) (sym (append_assoc old (selected_docs asked front) (e ∷ [])))
      ∙ ap (λ l. (l ++ e ∷ []) ++ selected_docs asked rest) (sym is) in
      may_first asked.columns.now rows (mid ++ e ∷ []) (selected_docs asked rest)
      (subst (MayBeSelected asked.columns.now rows) all may)
