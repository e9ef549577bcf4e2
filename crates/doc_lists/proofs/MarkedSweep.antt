-- The documents of runs are looked at one by one in words.
use Rattle.std.proofs.Common.{◌≡◌, ◌∙◌, ℕ, ◌+◌, ◌-◌, ◌<◌, ◌≤◌, ◌&&◌, Bool, true, false, max, List, [], ◌∷◌, ◌++◌, length, get_or, refl, sym, ap, subst, arith}
use Rattle.std.specs.List.{All, range_with_len}
use Rattle.std.proofs.lemmas.Bool.{le-leb, lt-leb}
use Rattle.std.proofs.lemmas.List.Elements.{All-nil, All-cons, All-append}
use Rattle.doc_lists.specs.Docs.{has_doc}
use Rattle.doc_lists.specs.Marks.{SweepsMarks, is_marked}
use Rattle.doc_lists.specs.Sets.{RemainFrom, SameFrom, Swept}
use Rattle.doc_lists.specs.declared.run.Run.{Run}
use Rattle.doc_lists.proofs.Sweep.{Walk, first_known, left_begun, left_has, no_runs, swept_no, swept_yes, walk_next}

-- the documents up to one were looked at
pub record Looked (first doc : ℕ) (marks old docs : List ℕ) : Type 0 where
  pub order : first ≤ doc
  pub below : All (λ other. other < doc) docs
  pub sweeps : SweepsMarks first doc marks old docs

pub looked_none : (first : ℕ) (marks docs : List ℕ) → All (λ other. other < first) docs → Looked first first marks docs docs
looked_none first marks docs below = record { order = omega arith; below = below; sweeps = λ test swept all. swept }

pub looked_yes : (first doc : ℕ) (marks old docs new : List ℕ) → Looked first doc marks old docs → is_marked marks doc ≡ true → new ≡ docs ++ doc ∷ [] → Looked first (doc + 1) marks old new
looked_yes first doc marks old docs new looked is added = record {
  order = let low = looked.order in omega (arith, low);
  below = subst (All (λ other. other < doc + 1)) (sym added)
      (All-append (λ other. other < doc + 1) docs (doc ∷ []) (λ k d lt. let own = looked.below k d lt in omega (arith, own))
      (All-cons (λ other. other < doc + 1) doc [] (omega arith) (All-nil (λ other. other < doc + 1))));
  sweeps = λ test swept all.
      let one : doc + 1 - doc ≡ 1 = omega arith in
      let low = looked.order in
      swept_yes test doc (doc + 1) docs new (omega arith) (added ∙ ap (λ n. docs ++ range_with_len doc n) (sym one))
      (looked.sweeps test swept (λ other from to. all other from (omega (arith, to))))
      (λ other from to. let at : other ≡ doc = omega (arith, from, to) in all other (omega (arith, from, low)) to ∙ ap (is_marked marks) at ∙ is);
}

pub looked_no : (first doc : ℕ) (marks old docs : List ℕ) → Looked first doc marks old docs → is_marked marks doc ≡ false → Looked first (doc + 1) marks old docs
looked_no first doc marks old docs looked is = record {
  order = let low = looked.order in omega (arith, low);
  below = λ k d lt. let own = looked.below k d lt in omega (arith, own);
  sweeps = λ test swept all.
      let low = looked.order in
      swept_no test doc (doc + 1) docs (omega arith) (looked.sweeps test swept (λ other from to. all other from (omega (arith, to))))
      (λ other from to. let at : other ≡ doc = omega (arith, from, to) in all other (omega (arith, from, low)) to ∙ ap (is_marked marks) at ∙ is);
}

-- the documents of the first run were looked at
pub run_looked : (start first end : ℕ) (a marks docs new : List ℕ) (ours more : List Run) (d : Run) → Walk (λ doc. has_doc a doc && is_marked marks doc) start a [] docs ours [] → 0 < length ours
    → first ≡ max start (get_or ours 0 d).first → end ≡ (get_or ours 0 d).last + 1 → SweepsMarks first end marks docs new → RemainFrom end more → SameFrom end ours more
    → Walk (λ doc. has_doc a doc && is_marked marks doc) end a [] new more []
run_looked start first end a marks docs new ours more d walk some at to sweeps remain same =
    let test : ℕ → Bool = λ doc. has_doc a doc && is_marked marks doc in
    let known = first_known start ours d some walk.first.remain in
    let onwards = known.onwards in
    let order = known.order in
    let gap : Swept test first docs = swept_no test start first docs (omega (arith, at)) walk.swept (λ doc low high.
    ap (λ b. b && is_marked marks doc) (left_begun start doc a ours d some walk.first low (omega (arith, at, high, low, order)) ∙ lt-leb (get_or ours 0 d).first doc (omega (arith, at, high, low)))) in
    walk_next test start end a [] docs ours [] more [] new walk (omega (arith, to, onwards))
    (sweeps test gap (λ doc low high.
    ap (λ b. b && is_marked marks doc) (left_begun start doc a ours d some walk.first (omega (arith, at, low)) (omega (arith, to, high)) ∙ le-leb (get_or ours 0 d).first doc (omega (arith, at, low)))))
    remain same tt (λ doc from. refl)

-- no run is left
pub none_looked : (start : ℕ) (a marks docs : List ℕ) (ours : List Run) → Walk (λ doc. has_doc a doc && is_marked marks doc) start a [] docs ours [] → length ours ≡ 0 → (doc : ℕ) → start ≤ doc → has_doc a doc && is_marked marks doc ≡ false
none_looked start a marks docs ours walk none doc from = ap (λ b. b && is_marked marks doc) (left_has start doc a ours walk.first from ∙ no_runs ours doc none)
