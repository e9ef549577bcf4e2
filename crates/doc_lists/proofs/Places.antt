-- The document of runs at an index.
use Rattle.std.proofs.Common.{◌≡◌, ◌∙◌, ℕ, ◌+◌, ◌-◌, ◌<◌, ◌≤◌, List, [], ◌∷◌, length, drop, get_or, refl, sym, ap, subst, arith, length-append, inl, inr}
use Rattle.std.proofs.lemmas.List.{drop_more, drop_all, get_or_append_left, get_or-append_right}
use Rattle.std.proofs.lemmas.Bool.{cases_lt}
use Rattle.std.proofs.lemmas.List.FromFn.{length-range_with_len, get_or-range_with_len}
use Rattle.doc_lists.specs.Docs.{Apart, docs_of, docs_of_run}
use Rattle.doc_lists.proofs.Runs.{apart_less}
use Rattle.doc_lists.specs.declared.run.Run.{Run}

-- the document at an index of runs is at another index of the runs from a place on
pub record LeftAt (runs : List Run) (index place left : ℕ) : Type 0 where
  pub apart : Apart 0 (drop place runs)
  pub within : left < length (docs_of (drop place runs))
  pub same : get_or (docs_of (drop place runs)) left 0 ≡ get_or (docs_of runs) index 0

pub left_first : (runs : List Run) (index : ℕ) → Apart 0 runs → index < length (docs_of runs) → LeftAt runs index 0 index
left_first runs index apart lt = record { apart = apart; within = lt; same = refl }

pub left_place : (runs : List Run) (index place left : ℕ) → LeftAt runs index place left → place < length runs
left_place runs index place left at =
    elim (cases_lt place (length runs)) [
      | inl lt ↦ lt
      | inr le ↦ absurd (let none : drop place runs ≡ [] = drop_all place runs le in let size : length (docs_of (drop place runs)) ≡ 0 = ap (λ rs. length (docs_of rs)) none in omega (arith, size, at.within))
    ]

split : (runs : List Run) (index place left : ℕ) (run : Run) → LeftAt runs index place left → run ≡ get_or runs place run → drop place runs ≡ run ∷ drop (place + 1) runs
split runs index place left run at is = drop_more runs place run (left_place runs index place left at) ∙ ap (λ r. r ∷ drop (place + 1) runs) (sym is)

pub found : (runs : List Run) (index place left : ℕ) (run : Run) → LeftAt runs index place left → run ≡ get_or runs place run → left < run.last + 1 - run.first → run.first + left ≡ get_or (docs_of runs) index 0
found runs index place left run at is lt =
    let n = run.last + 1 - run.first in
    let size : length (docs_of_run run) ≡ n = length-range_with_len run.first n in
    sym (get_or-range_with_len run.first n left 0 lt) ∙ sym (get_or_append_left (docs_of_run run) (docs_of (drop (place + 1) runs)) 0 left (omega (arith, size, lt)))
    ∙ ap (λ rs. get_or (docs_of rs) left 0) (sym (split runs index place left run at is)) ∙ at.same

pub left_next : (runs : List Run) (index place left : ℕ) (run : Run) (count : ℕ) → LeftAt runs index place left → run ≡ get_or runs place run → count ≡ run.last + 1 - run.first → count ≤ left → LeftAt runs index (place + 1) (left - count)
left_next runs index place left run count at is counted le =
    let rest = drop (place + 1) runs in
    let split = split runs index place left run at is in
    let size : length (docs_of_run run) ≡ count = length-range_with_len run.first (run.last + 1 - run.first) ∙ sym counted in
    let whole : length (docs_of (drop place runs)) ≡ length (docs_of_run run) + length (docs_of rest) = ap (λ rs. length (docs_of rs)) split ∙ length-append (docs_of_run run) (docs_of rest) in record {
      apart = apart_less (run.last + 2) 0 rest (omega arith) (subst (Apart 0) split at.apart).3;
      within = omega (arith, size, whole, le, at.within);
      same = sym (get_or-append_right (docs_of_run run) (docs_of rest) count left 0 size le) ∙ ap (λ rs. get_or (docs_of rs) left 0) (sym split) ∙ at.same;
    }
