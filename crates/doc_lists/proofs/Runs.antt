-- Runs of documents: their documents ascend, and a run is added after them.
use Rattle.std.proofs.Common.{◌≡◌, ◌∙◌, ℕ, zero, suc, ◌+◌, ◌-◌, ◌<◌, ◌≤◌, ◌^◌, List, [], ◌∷◌, ◌++◌, length, take, drop, get_or, refl, sym, ap, subst, arith, length-append, append_assoc}
use Rattle.std.specs.List.{All, range_with_len, slice_set}
use Rattle.std.specs.List.Sorted.{IsStrictlyIncreasing}
use Rattle.std.proofs.lemmas.List.{append-nil, get_or_append_left, get_or-append-add, take_all, take_more, set_split, drop_all}
use Rattle.std.proofs.lemmas.List.Elements.{All-nil, All-cons}
use Rattle.std.proofs.lemmas.List.FromFn.{length-range_with_len, get_or-range_with_len}
use Rattle.doc_lists.specs.Docs.{Added, AreRuns, Apart, docs_of, docs_of_run, next_from}
use Rattle.doc_lists.specs.Sets.{Up}
use Rattle.doc_lists.specs.declared.run.Run.{Run}

-- ---- documents ascend

pub up_from_less : (from less : ℕ) (xs : List ℕ) → less ≤ from → Up from xs → Up less xs
up_from_less from less [] le up = tt
up_from_less from less (x ∷ xs) le up = (omega (arith, le, up.0), up.1)

up_all : (from : ℕ) (xs : List ℕ) → Up from xs → All (λ x. from ≤ x) xs
up_all from [] up = All-nil (λ x. from ≤ x)
up_all from (x ∷ xs) up = All-cons (λ x. from ≤ x) x xs up.0 (up_all from xs (up_from_less (x + 1) from xs (omega (arith, up.0)) up.1))

pub up_increasing : (from : ℕ) (xs : List ℕ) → Up from xs → IsStrictlyIncreasing xs
up_increasing from [] up k lt = absurd (omega (arith, lt))
up_increasing from (x ∷ xs) up zero lt = let above = up_all (x + 1) xs up.1 0 0 (omega (arith, lt)) in omega (arith, above)
up_increasing from (x ∷ xs) up (suc k) lt =
    let next : suc k + 1 ≡ suc (k + 1) = omega arith in
    subst (λ n. get_or xs k 0 < get_or (x ∷ xs) n 0) (sym next) (up_increasing (x + 1) xs up.1 k (omega (arith, lt)))

pub up_range : (from a n : ℕ) (rest : List ℕ) → from ≤ a → Up (a + n) rest → Up from (range_with_len a n ++ rest)
up_range from a zero rest le up = up_from_less (a + 0) from rest (omega (arith, le)) up
up_range from a (suc n) rest le up =
    let same : a + suc n ≡ a + 1 + n = omega arith in
    (le, up_range (a + 1) (a + 1) n rest (omega arith) (subst (λ m. Up m rest) same up))

pub up_runs : (from : ℕ) (runs : List Run) → Apart from runs → Up from (docs_of runs)
up_runs from [] apart = tt
up_runs from (run ∷ runs) apart =
    let end : run.first + (run.last + 1 - run.first) ≤ run.last + 2 = omega (arith, apart.1) in
    up_range from run.first (run.last + 1 - run.first) (docs_of runs) apart.0
    (up_from_less (run.last + 2) (run.first + (run.last + 1 - run.first)) (docs_of runs) end (up_runs (run.last + 2) runs apart.3))

pub docs_increase : (runs : List Run) → Apart 0 runs → IsStrictlyIncreasing (docs_of runs)
docs_increase runs apart = up_increasing 0 (docs_of runs) (up_runs 0 runs apart)

-- ---- the document after the last one

pub next_is : (next : ℕ) (runs : List Run) (d : Run) → 0 < length runs → next_from next runs ≡ (get_or runs (length runs - 1) d).last + 1
next_is next [] d some = absurd (omega (arith, some))
next_is next (run ∷ []) d some = refl
next_is next (run ∷ more ∷ runs) d some =
    let up : length (run ∷ more ∷ runs) - 1 ≡ suc (length (more ∷ runs) - 1) = omega arith in
    next_is (run.last + 1) (more ∷ runs) d (omega arith) ∙ ap (λ n. (get_or (run ∷ more ∷ runs) n d).last + 1) (sym up)

pub next_pushed : (next : ℕ) (runs : List Run) (run : Run) → next_from next (runs ++ run ∷ []) ≡ run.last + 1
next_pushed next [] run = refl
next_pushed next (first ∷ runs) run = next_pushed (first.last + 1) runs run

pub last_below : (run : Run) (rest : List ℕ) (limit : ℕ) → run.first ≤ run.last → All (λ x. x < limit) (docs_of_run run ++ rest) → run.last < limit
last_below run rest limit order all =
    let n = run.last + 1 - run.first in
    let k = run.last - run.first in
    let size : length (range_with_len run.first n) ≡ n = length-range_with_len run.first n in
    let own : k < length (range_with_len run.first n) = omega (arith, size, order) in
    let is : get_or (range_with_len run.first n ++ rest) k 0 ≡ run.first + k = get_or_append_left (range_with_len run.first n) rest 0 k own ∙ get_or-range_with_len run.first n k 0 (omega (arith, order)) in
    let within : k < length (range_with_len run.first n ++ rest) = omega (arith, length-append (range_with_len run.first n) rest, own) in
    let below : get_or (range_with_len run.first n ++ rest) k 0 < limit = all k 0 within in
    omega (arith, is, below, order)

pub all_after : (P : ℕ → Type 0) (xs ys : List ℕ) → All P (xs ++ ys) → All P ys
all_after P xs ys all k d lt = subst P (get_or-append-add xs ys k d) (all (length xs + k) d (omega (arith, length-append xs ys, lt)))

pub next_below : (from next : ℕ) (runs : List Run) (limit : ℕ) → next ≤ limit → Apart from runs → All (λ x. x < limit) (docs_of runs) → next_from next runs ≤ limit
next_below from next [] limit le apart all = le
next_below from next (run ∷ runs) limit le apart all =
    let own : run.last < limit = last_below run (docs_of runs) limit apart.1 all in
    next_below (run.last + 2) (run.last + 1) runs limit (omega (arith, own)) apart.3 (all_after (λ x. x < limit) (docs_of_run run) (docs_of runs) all)

-- ---- a run is added

pub apart_less : (from less : ℕ) (runs : List Run) → less ≤ from → Apart from runs → Apart less runs
apart_less from less [] le apart = tt
apart_less from less (run ∷ runs) le apart = (omega (arith, le, apart.0), apart.1, apart.2, apart.3)

apart_pushed_far : (from next : ℕ) (runs : List Run) (run : Run) → from ≤ next + 1 → Apart from runs → next_from next runs < run.first → run.first ≤ run.last → run.last < 2 ^ 32 → Apart from (runs ++ run ∷ [])
apart_pushed_far from next [] run le apart far order small = (omega (arith, le, far), order, small, tt)
apart_pushed_far from next (first ∷ runs) run le apart far order small = (apart.0, apart.1, apart.2, apart_pushed_far (first.last + 2) (first.last + 1) runs run (omega arith) apart.3 far order small)

pub docs_pushed : (runs : List Run) (run : Run) → docs_of (runs ++ run ∷ []) ≡ docs_of runs ++ docs_of_run run
docs_pushed [] run = append-nil (docs_of_run run)
docs_pushed (first ∷ runs) run = ap (λ docs. docs_of_run first ++ docs) (docs_pushed runs run) ∙ sym (append_assoc (docs_of_run first) (docs_of runs) (docs_of_run run))

added_first : (run : Run) → run.first ≤ run.last → run.last < 2 ^ 32 → Added [] (run ∷ []) run
added_first run order small = record { apart = (omega arith, order, small, tt); docs = append-nil (docs_of_run run); next = refl }

added_far : (runs : List Run) (run : Run) → Apart 0 runs → next_from 0 runs < run.first → run.first ≤ run.last → run.last < 2 ^ 32 → Added runs (runs ++ run ∷ []) run
added_far runs run apart far order small = record {
  apart = apart_pushed_far 0 0 runs run (omega arith) apart far order small;
  docs = docs_pushed runs run;
  next = next_pushed 0 runs run;
}

range_join : (a n m : ℕ) → range_with_len a (n + m) ≡ range_with_len a n ++ range_with_len (a + n) m
range_join a zero m =
    let none : 0 + m ≡ m = omega arith in
    let same : a ≡ a + 0 = omega arith in
    ap (range_with_len a) none ∙ ap (λ b. range_with_len b m) same
range_join a (suc n) m =
    let up : suc n + m ≡ suc (n + m) = omega arith in
    let same : a + 1 + n ≡ a + suc n = omega arith in
    ap (range_with_len a) up ∙ ap (λ xs. a ∷ xs) (range_join (a + 1) n m ∙ ap (λ b. range_with_len (a + 1) n ++ range_with_len b m) same)

apart_longer : (from : ℕ) (front : List Run) (old new : Run) → old.first ≡ new.first → old.last ≤ new.last → new.last < 2 ^ 32 → Apart from (front ++ old ∷ []) → Apart from (front ++ new ∷ [])
apart_longer from [] old new same le small apart = (omega (arith, same, apart.0), omega (arith, same, le, apart.1), small, tt)
apart_longer from (run ∷ front) old new same le small apart = (apart.0, apart.1, apart.2, apart_longer (run.last + 2) front old new same le small apart.3)

last_apart : (from : ℕ) (front : List Run) (old : Run) → Apart from (front ++ old ∷ []) → old.first ≤ old.last
last_apart from [] old apart = apart.1
last_apart from (run ∷ front) old apart = last_apart (run.last + 2) front old apart.3

docs_longer : (old new run : Run) → old.first ≡ new.first → old.first ≤ old.last → old.last + 1 ≡ run.first → run.first ≤ run.last → new.last ≡ run.last → docs_of_run new ≡ docs_of_run old ++ docs_of_run run
docs_longer old new run same order next more ends =
    let n = old.last + 1 - old.first in
    let m = run.last + 1 - run.first in
    let size : new.last + 1 - new.first ≡ n + m = omega (arith, same, order, next, more, ends) in
    let start : old.first + n ≡ run.first = omega (arith, order, next) in
    ap (λ a. range_with_len a (new.last + 1 - new.first)) (sym same) ∙ ap (range_with_len old.first) size ∙ range_join old.first n m
    ∙ ap (λ a. range_with_len old.first n ++ range_with_len a m) start

added_split : (front : List Run) (old new run : Run) → old.first ≡ new.first → Apart 0 (front ++ old ∷ []) → old.last + 1 ≡ run.first → run.first ≤ run.last → run.last < 2 ^ 32 → new.last ≡ run.last → Added (front ++ old ∷ []) (front ++ new ∷ []) run
added_split front old new run same apart next order small ends =
    let own = last_apart 0 front old apart in record {
      apart = apart_longer 0 front old new same (omega (arith, next, order, ends)) (omega (arith, ends, small)) apart;
      docs = docs_pushed front new ∙ ap (λ docs. docs_of front ++ docs) (docs_longer old new run same own next order ends)
          ∙ sym (append_assoc (docs_of front) (docs_of_run old) (docs_of_run run)) ∙ ap (λ docs. docs ++ docs_of_run run) (sym (docs_pushed front old));
      next = next_pushed 0 front new ∙ ap (λ n. n + 1) ends;
    }

pub added_near : (runs : List Run) (old new run : Run) → 0 < length runs → old ≡ get_or runs (length runs - 1) old → old.first ≡ new.first → Apart 0 runs → next_from 0 runs ≡ run.first → run.first ≤ run.last → run.last < 2 ^ 32 → new.last ≡ run.last → Added runs (slice_set runs (length runs - 1) new) run
added_near runs old new run some is same apart next order small ends =
    let i = length runs - 1 in
    let within : i < length runs = omega (arith, some) in
    let all : i + 1 ≡ length runs = omega (arith, some) in
    let front = take i runs in
    let whole : runs ≡ front ++ old ∷ [] = sym (take_all (i + 1) runs (omega (arith, all))) ∙ take_more runs i old within ∙ ap (λ x. front ++ x ∷ []) (sym is) in
    let none : drop (suc i) runs ≡ [] = drop_all (suc i) runs (omega (arith, all)) in
    let put : slice_set runs i new ≡ front ++ new ∷ [] = set_split runs i new within ∙ ap (λ xs. front ++ new ∷ xs) none in
    let ended : old.last + 1 ≡ run.first = ap (λ x. x.last + 1) is ∙ sym (next_is 0 runs old some) ∙ next in
    let added = added_split front old new run same (subst (Apart 0) whole apart) ended order small ends in
    subst (λ xs. Added runs xs run) (sym put) (subst (λ xs. Added xs (front ++ new ∷ []) run) (sym whole) added)

pub runs_added : (old new : List Run) (count : ℕ) (run : Run) (size : ℕ) → AreRuns old count → Added old new run →
    next_from 0 old ≤ run.first → run.first ≤ run.last → size ≡ run.last + 1 - run.first → AreRuns new (count + size)
runs_added old new count run size are added above order is = record {
  apart = added.apart;
  counted = (let add = length-append (docs_of old) (docs_of_run run) in let own = length-range_with_len run.first (run.last + 1 - run.first) in
      let whole : length (docs_of new) ≡ length (docs_of old ++ docs_of_run run) = ap length added.docs in omega (arith, are.counted, add, own, whole, is));
  at_most = omega (arith, are.at_most, added.next, above, order, is);
}

pub added_new : (runs new : List Run) (run : Run) → new ≡ runs ++ run ∷ [] → Apart 0 runs → (0 < length runs → next_from 0 runs < run.first) → run.first ≤ run.last → run.last < 2 ^ 32 → Added runs new run
added_new [] new run is apart far order small = subst (λ xs. Added [] xs run) (sym is) (added_first run order small)
added_new (first ∷ runs) new run is apart far order small = subst (λ xs. Added (first ∷ runs) xs run) (sym is) (added_far (first ∷ runs) run apart (far (omega arith)) order small)
