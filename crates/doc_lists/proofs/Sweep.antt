-- Runs of two lists are gone through together, stretch by stretch.
use Rattle.std.proofs.Common.{◌≡◌, ◌∙◌, ◌⊎◌, min, max, not, cond, le_refl, inl, inr, ℕ, zero, suc, ◌+◌, ◌-◌, ◌<◌, ◌≤◌, ◌^◌, Bool, true, false, ◌&&◌, ◌||◌, nat_eq, nat_le, nat_lt, ◌/◌, List, [], ◌∷◌, ◌++◌, length, drop, get_or, refl, sym, ap, subst, arith}
use mir.Val.{bool_byte}
use Rattle.std.specs.List.{All, range_with_len}
use Rattle.std.specs.List.Sorted.{IsStrictlyIncreasing}
use Rattle.std.proofs.lemmas.Bool.{cases_lt, leb-true, leb-false, le-leb, lt-leb, ltb-true, ltb-false, eqb-false, ne_eqb}
use Rattle.std.proofs.lemmas.List.Elements.{All-append, All-cons, All-nil}
use Rattle.std.proofs.lemmas.List.Folds.{list_any-append, list_any_none}
use Rattle.doc_lists.specs.Docs.{Apart, docs_of, docs_of_run, has_doc}
use Rattle.doc_lists.specs.Sets.{RemainFrom, AreThose, IsSooner, Left, SameFrom, Swept, Up, ends_before, in_run, in_runs}
use Rattle.doc_lists.specs.declared.run.Run.{Run}
use Rattle.doc_lists.proofs.Runs.{apart_less, up_from_less, up_increasing}

-- ---- the documents of runs

pub or_true : (b : Bool) → b || true ≡ true
or_true true = refl
or_true false = refl

pub or_false : (b : Bool) → b || false ≡ b
or_false true = refl
or_false false = refl

pub and_false : (b : Bool) → b && false ≡ false
and_false true = refl
and_false false = refl

range_first : (t : Bool) (a n doc : ℕ) → nat_eq doc a ≡ t → a ≤ doc → doc < a + suc n → (a + 1 ≤ doc → has_doc (range_with_len (a + 1) n) doc ≡ true) → t || has_doc (range_with_len (a + 1) n) doc ≡ true
range_first true a n doc e from to rest = refl
range_first false a n doc e from to rest = let apart = eqb-false doc a e in rest (omega (arith, apart, from))

pub range_yes : (a n doc : ℕ) → a ≤ doc → doc < a + n → has_doc (range_with_len a n) doc ≡ true
range_yes a zero doc from to = absurd (omega (arith, from, to))
range_yes a (suc n) doc from to = range_first (nat_eq doc a) a n doc refl from to (λ more. range_yes (a + 1) n doc more (omega (arith, to)))

pub range_below : (a n doc : ℕ) → doc < a → has_doc (range_with_len a n) doc ≡ false
range_below a zero doc lt = refl
range_below a (suc n) doc lt = ap (λ t. t || has_doc (range_with_len (a + 1) n) doc) (ne_eqb doc a (λ e. omega (arith, e, lt))) ∙ range_below (a + 1) n doc (omega (arith, lt))

pub range_above : (a n doc : ℕ) → a + n ≤ doc → has_doc (range_with_len a n) doc ≡ false
range_above a zero doc le = refl
range_above a (suc n) doc le = ap (λ t. t || has_doc (range_with_len (a + 1) n) doc) (ne_eqb doc a (λ e. omega (arith, e, le))) ∙ range_above (a + 1) n doc (omega (arith, le))

run_by : (s t : Bool) (run : Run) (doc : ℕ) → nat_le run.first doc ≡ s → nat_le doc run.last ≡ t → has_doc (docs_of_run run) doc ≡ s && t
run_by false t run doc from to = range_below run.first (run.last + 1 - run.first) doc (leb-false run.first doc from)
run_by true true run doc from to =
    let low = leb-true run.first doc from in
    let high = leb-true doc run.last to in
    range_yes run.first (run.last + 1 - run.first) doc low (omega (arith, low, high))
run_by true false run doc from to =
    let low = leb-true run.first doc from in
    let high = leb-false doc run.last to in
    range_above run.first (run.last + 1 - run.first) doc (omega (arith, low, high))

has_run : (run : Run) (doc : ℕ) → has_doc (docs_of_run run) doc ≡ in_run doc run
has_run run doc = run_by (nat_le run.first doc) (nat_le doc run.last) run doc refl refl

pub has_runs : (runs : List Run) (doc : ℕ) → has_doc (docs_of runs) doc ≡ in_runs runs doc
has_runs [] doc = refl
has_runs (run ∷ runs) doc =
    list_any-append (nat_eq doc) (docs_of_run run) (docs_of runs)
    ∙ ap (λ b. b || has_doc (docs_of runs) doc) (has_run run doc) ∙ ap (λ b. in_run doc run || b) (has_runs runs doc)

-- ---- the first of runs apart

pub run_before : (run : Run) (doc : ℕ) → run.last < doc → in_run doc run ≡ false
run_before run doc lt = ap (λ b. nat_le run.first doc && b) (lt-leb doc run.last lt) ∙ and_false (nat_le run.first doc)

run_after : (run : Run) (doc : ℕ) → doc < run.first → in_run doc run ≡ false
run_after run doc lt = ap (λ b. b && nat_le doc run.last) (lt-leb run.first doc lt)

run_has : (run : Run) (doc : ℕ) → run.first ≤ doc → doc ≤ run.last → in_run doc run ≡ true
run_has run doc from to = ap (λ b. b && nat_le doc run.last) (le-leb run.first doc from) ∙ le-leb doc run.last to

pub apart_none : (from : ℕ) (runs : List Run) (doc : ℕ) → Apart from runs → doc < from → in_runs runs doc ≡ false
apart_none from [] doc apart lt = refl
apart_none from (run ∷ runs) doc apart lt =
    ap (λ b. b || in_runs runs doc) (run_after run doc (omega (arith, lt, apart.0)))
    ∙ apart_none (run.last + 2) runs doc apart.3 (omega (arith, lt, apart.0, apart.1))

in_first : (run : Run) (runs : List Run) (doc : ℕ) → run.first ≤ doc → doc ≤ run.last → in_runs (run ∷ runs) doc ≡ true
in_first run runs doc from to = ap (λ b. b || in_runs runs doc) (run_has run doc from to)

pub before_first : (run : Run) (runs : List Run) (doc : ℕ) → Apart 0 (run ∷ runs) → doc < run.first → in_runs (run ∷ runs) doc ≡ false
before_first run runs doc apart lt =
    ap (λ b. b || in_runs runs doc) (run_after run doc lt)
    ∙ apart_none (run.last + 2) runs doc apart.3 (omega (arith, lt, apart.1))

pub reaches_is : (runs : List Run) (d : Run) (doc : ℕ) → 1 ≤ length runs → RemainFrom doc runs → nat_le (get_or runs 0 d).first doc ≡ in_runs runs doc
reaches_is [] d doc some remain = absurd (omega (arith, some))
reaches_is (run ∷ runs) d doc some remain =
    elim (cases_lt doc run.first) [
      | inl lt ↦ lt-leb run.first doc lt ∙ sym (before_first run runs doc remain.1 lt)
      | inr le ↦ le-leb run.first doc le ∙ sym (in_first run runs doc le remain.0)
    ]

pub gap_is : (runs : List Run) (d : Run) (start doc : ℕ) → 1 ≤ length runs → RemainFrom start runs → start ≤ doc → doc < (get_or runs 0 d).first → in_runs runs doc ≡ in_runs runs start
gap_is [] d start doc some remain from to = absurd (omega (arith, some))
gap_is (run ∷ runs) d start doc some remain from to = before_first run runs doc remain.1 to ∙ sym (before_first run runs start remain.1 (omega (arith, from, to)))

pub run_is : (runs : List Run) (d : Run) (start doc : ℕ) → 1 ≤ length runs → RemainFrom start runs → (get_or runs 0 d).first ≤ start → start ≤ doc → doc < (get_or runs 0 d).last + 1 → in_runs runs doc ≡ in_runs runs start
run_is [] d start doc some remain first from to = absurd (omega (arith, some))
run_is (run ∷ runs) d start doc some remain first from to = in_first run runs doc (omega (arith, first, from)) (omega (arith, to)) ∙ sym (in_first run runs start first remain.0)

-- ---- runs that end too soon are left out

pub rest_apart : (runs : List Run) → Apart 0 runs → Apart 0 (drop 1 runs)
rest_apart [] apart = tt
rest_apart (run ∷ runs) apart = apart_less (run.last + 2) 0 runs (omega arith) apart.3

skip_apart : (from n : ℕ) (runs : List Run) → Apart from runs → Apart from (drop n runs)
skip_apart from zero runs apart = apart
skip_apart from (suc n) [] apart = tt
skip_apart from (suc n) (run ∷ runs) apart = skip_apart from n runs (apart_less (run.last + 2) from runs (omega (arith, apart.0, apart.1)) apart.3)

end_from : (from k : ℕ) (runs : List Run) (d : Run) → Apart from runs → k < length runs → from ≤ (get_or runs k d).last
end_from from k [] d apart lt = absurd (omega (arith, lt))
end_from from zero (run ∷ runs) d apart lt = omega (arith, apart.0, apart.1)
end_from from (suc k) (run ∷ runs) d apart lt = end_from from k runs d (apart_less (run.last + 2) from runs (omega (arith, apart.0, apart.1)) apart.3) (omega (arith, lt))

skip_same : (from n doc : ℕ) (runs : List Run) (d : Run) → Apart from runs → n < length runs → (get_or runs n d).last < doc → SameFrom doc runs (drop (suc n) runs)
skip_same from n doc [] d apart within lt = absurd (omega (arith, within))
skip_same from zero doc (run ∷ runs) d apart within lt = λ other le. ap (λ b. b || in_runs runs other) (sym (run_before run other (omega (arith, lt, le))))
skip_same from (suc n) doc (run ∷ runs) d apart within lt =
    let inner : n < length runs = omega (arith, within) in
    let later : run.last + 2 ≤ (get_or runs n d).last = end_from (run.last + 2) n runs d apart.3 inner in
    λ other le. skip_same (run.last + 2) n doc runs d apart.3 inner lt other le ∙ ap (λ b. b || in_runs runs other) (sym (run_before run other (omega (arith, later, lt, le))))

last_grows : (run : Run) (runs : List Run) (k : ℕ) (d : Run) → Apart 0 (run ∷ runs) → k < length (run ∷ runs) → run.last ≤ (get_or (run ∷ runs) k d).last
last_grows run runs zero d apart lt = le_refl run.last
last_grows run runs (suc k) d apart lt = let more = end_from (run.last + 2) k runs d apart.3 (omega (arith, lt)) in omega (arith, more)

-- what a step over runs finds
pub record Steps (old runs : List Run) (doc step : ℕ) : Type 0 where
  pub apart : Apart 0 runs
  pub same : SameFrom doc old runs
  pub some : 1 ≤ step

steps_over : (old runs : List Run) (doc step next : ℕ) → Steps old runs doc step → step ≤ length runs → (get_or runs (step - 1) (record { first = 0; last = 0 })).last < doc → 1 ≤ next → Steps old (drop step runs) doc next
steps_over old runs doc step next steps le lt more =
    let up : suc (step - 1) ≡ step = omega (arith, steps.some) in
    let same = skip_same 0 (step - 1) doc runs (record { first = 0; last = 0 }) steps.apart (omega (arith, le, steps.some)) lt in record {
      apart = skip_apart 0 step runs steps.apart;
      same = (λ other from. subst (λ n. in_runs (drop n runs) other ≡ in_runs runs other) up (same other from) ∙ steps.same other from);
      some = more;
    }

yes_both : (s t : Bool) → s && t ≡ true → (s ≡ true) × (t ≡ true)
yes_both true true e = (refl, refl)
yes_both true false e = absurd cc
yes_both false t e = absurd cc

no_second : (s t : Bool) → s ≡ true → s && t ≡ false → t ≡ false
no_second true t e fails = fails
no_second false t e fails = absurd cc

pub no_first : (runs : List Run) (doc : ℕ) → Apart 0 runs → ends_before runs 1 doc ≡ false → RemainFrom doc runs
no_first [] doc apart fails = tt
no_first (run ∷ runs) doc apart fails =
    let there : nat_le 1 (length (run ∷ runs)) ≡ true = le-leb 1 (length (run ∷ runs)) (omega arith) in
    (ltb-false run.last doc (no_second (nat_le 1 (length (run ∷ runs))) (nat_lt run.last doc) there fails), apart)

pub step_taken : (old runs : List Run) (doc step next : ℕ) → Steps old runs doc step → ends_before runs step doc ≡ true → 1 ≤ next → Steps old (drop step runs) doc next
step_taken old runs doc step next steps held more =
    let parts = yes_both (nat_le step (length runs)) (nat_lt (get_or runs (step - 1) (record { first = 0; last = 0 })).last doc) held in
    steps_over old runs doc step next steps (leb-true step (length runs) parts.0) (ltb-true (get_or runs (step - 1) (record { first = 0; last = 0 })).last doc parts.1) more

pub step_within : (runs : List Run) (doc step : ℕ) → ends_before runs step doc ≡ true → step ≤ length runs
step_within runs doc step held = leb-true step (length runs) (yes_both (nat_le step (length runs)) (nat_lt (get_or runs (step - 1) (record { first = 0; last = 0 })).last doc) held).0

pub step_long : (runs : List Run) (doc step : ℕ) → ends_before runs 1 doc ≡ true → ends_before runs step doc ≡ false → 1 ≤ step → 2 ≤ step
step_long runs doc step held fails some =
    elim (cases_lt 1 step) [
      | inl lt ↦ omega (arith, lt)
      | inr le ↦ absurd (let one : step ≡ 1 = omega (arith, le, some) in let both : true ≡ false = sym held ∙ ap (λ n. ends_before runs n doc) (sym one) ∙ fails in cc)
    ]

pub step_halved : (old runs : List Run) (doc step : ℕ) → Steps old runs doc step → 2 ≤ step → Steps old runs doc (step / 2)
step_halved old runs doc step steps two = record { apart = steps.apart; same = steps.same; some = omega (arith, two) }

-- ---- a stretch is swept

same_run : (doc : ℕ) (docs : List ℕ) → All (λ x. x < doc) docs → has_doc docs doc ≡ false
same_run doc docs below = list_any_none (nat_eq doc) docs (λ k d lt. ne_eqb doc (get_or docs k d) (λ e. let less = below k d lt in omega (arith, e, less)))

pub none_from : (docs : List ℕ) (to doc : ℕ) → All (λ x. x < to) docs → to ≤ doc → has_doc docs doc ≡ false
none_from docs to doc below from = same_run doc docs (λ k d lt. let less = below k d lt in omega (arith, from, less))

pub up_add : (from to : ℕ) (xs ys : List ℕ) → from ≤ to → Up from xs → All (λ x. x < to) xs → Up to ys → Up from (xs ++ ys)
up_add from to [] ys le up below more = up_from_less to from ys le more
up_add from to (x ∷ xs) ys le up below more =
    let own = below 0 x (omega arith) in
    (up.0, up_add (x + 1) to xs ys (omega (arith, own)) up.1 (λ k d lt. below (suc k) d (omega (arith, lt))) more)

pub range_all : (a n to : ℕ) → a + n ≤ to → All (λ x. x < to) (range_with_len a n)
range_all a zero to le = All-nil (λ x. x < to)
range_all a (suc n) to le = All-cons (λ x. x < to) a (range_with_len (a + 1) n) (omega (arith, le)) (range_all (a + 1) n to (omega (arith, le)))

pub up_to : (a n : ℕ) → Up a (range_with_len a n)
up_to a zero = tt
up_to a (suc n) = (omega arith, up_to (a + 1) n)

pub swept_none : (test : ℕ → Bool) → Swept test 0 []
swept_none test = record { ascend = tt; below = All-nil (λ doc. doc < 0); those = (λ doc lt. absurd (omega (arith, lt))) }

pub swept_yes : (test : ℕ → Bool) (start end : ℕ) (old new : List ℕ) → start ≤ end → new ≡ old ++ range_with_len start (end - start) → Swept test start old →
    ((doc : ℕ) → start ≤ doc → doc < end → test doc ≡ true) → Swept test end new
swept_yes test start end old new order is swept all = subst (Swept test end) (sym is) (
    let n = end - start in record {
      ascend = up_add 0 start old (range_with_len start n) (omega arith) swept.ascend swept.below (up_to start n);
      below = All-append (λ x. x < end) old (range_with_len start n) (λ k d lt. let less = swept.below k d lt in omega (arith, less, order)) (range_all start n end (omega (arith, order)));
      those = (λ doc lt.
          list_any-append (nat_eq doc) old (range_with_len start n)
          ∙ elim (cases_lt doc start) [
            | inl below ↦ ap (λ b. has_doc old doc || b) (range_below start n doc below) ∙ or_false (has_doc old doc) ∙ swept.those doc below
            | inr from ↦ ap (λ b. has_doc old doc || b) (range_yes start n doc from (omega (arith, lt, order))) ∙ or_true (has_doc old doc) ∙ sym (all doc from lt)
          ]);
    }
    )

pub swept_no : (test : ℕ → Bool) (start end : ℕ) (old : List ℕ) → start ≤ end → Swept test start old → ((doc : ℕ) → start ≤ doc → doc < end → test doc ≡ false) → Swept test end old
swept_no test start end old order swept none = record {
  ascend = swept.ascend;
  below = (λ k d lt. let less = swept.below k d lt in omega (arith, less, order));
  those = (λ doc lt.
      elim (cases_lt doc start) [
        | inl below ↦ swept.those doc below
        | inr from ↦ none_from old start doc swept.below from ∙ sym (none doc from lt)
      ]);
}

-- ---- the whole sweep

pub all_remain : (runs : List Run) → Apart 0 runs → RemainFrom 0 runs
all_remain [] apart = tt
all_remain (run ∷ runs) apart = (omega arith, apart)

pub left_first : (docs : List ℕ) (runs : List Run) → docs_of runs ≡ docs → Apart 0 runs → Left 0 docs runs
left_first docs runs is apart = record {
  remain = all_remain runs apart;
  same = (λ doc from. sym (has_runs runs doc) ∙ ap (λ xs. has_doc xs doc) is);
}

pub remain_apart : (doc : ℕ) (runs : List Run) → RemainFrom doc runs → Apart 0 runs
remain_apart doc [] remain = tt
remain_apart doc (run ∷ runs) remain = remain.1

pub remain_first : (start : ℕ) (runs : List Run) (d : Run) (doc : ℕ) → 0 < length runs → RemainFrom start runs → doc ≤ (get_or runs 0 d).last → RemainFrom doc runs
remain_first start [] d doc some remain le = tt
remain_first start (run ∷ runs) d doc some remain le = (le, remain.1)

pub left_next : (start end : ℕ) (docs : List ℕ) (old new : List Run) → start ≤ end → Left start docs old → RemainFrom end new → SameFrom end old new → Left end docs new
left_next start end docs old new order left remain same = record {
  remain = remain;
  same = (λ doc from. same doc from ∙ left.same doc (omega (arith, from, order)));
}

-- a list has a document from a start on where the runs that are left of it do
pub left_has : (start doc : ℕ) (docs : List ℕ) (runs : List Run) → Left start docs runs → start ≤ doc → has_doc docs doc ≡ in_runs runs doc
left_has start doc docs runs left from = sym (left.same doc from)

-- up to the end of the first run, a document is in the runs where that has begun
pub first_has : (runs : List Run) (d : Run) (doc : ℕ) → 0 < length runs → Apart 0 runs → doc ≤ (get_or runs 0 d).last → in_runs runs doc ≡ nat_le (get_or runs 0 d).first doc
first_has [] d doc some apart le = absurd (omega (arith, some))
first_has (run ∷ runs) d doc some apart le = sym (reaches_is (run ∷ runs) d doc (omega arith) (le, apart))

pub left_begun : (start doc : ℕ) (docs : List ℕ) (runs : List Run) (d : Run) → 0 < length runs → Left start docs runs → start ≤ doc → doc ≤ (get_or runs 0 d).last → has_doc docs doc ≡ nat_le (get_or runs 0 d).first doc
left_begun start doc docs runs d some left from to = left_has start doc docs runs left from ∙ first_has runs d doc some (remain_apart start runs left.remain) to

-- what is known of the first run
pub record First (start : ℕ) (run : Run) : Type 0 where
  pub onwards : start ≤ run.last
  pub order : run.first ≤ run.last
  pub within : run.last < 2 ^ 32

pub first_known : (start : ℕ) (runs : List Run) (d : Run) → 0 < length runs → RemainFrom start runs → First start (get_or runs 0 d)
first_known start [] d some remain = absurd (omega (arith, some))
first_known start (run ∷ runs) d some remain = record { onwards = remain.0; order = remain.1.1; within = remain.1.2 }

none_in : (start doc : ℕ) (docs : List ℕ) (runs : List Run) (d : Run) → 0 < length runs → Left start docs runs → start ≤ doc → doc < (get_or runs 0 d).first → has_doc docs doc ≡ false
none_in start doc docs runs d some left from to =
    let order = (first_known start runs d some left.remain).order in
    left_begun start doc docs runs d some left from (omega (arith, to, order)) ∙ lt-leb (get_or runs 0 d).first doc to

-- ---- the first runs are left out

nearest : (runs : List Run) (d : Run) (doc : ℕ) → 0 < length runs → Apart 0 runs → doc ≤ (get_or runs 0 d).last + 1 → (get_or runs 0 d).last < doc → RemainFrom doc (drop 1 runs)
nearest [] d doc some apart near lt = absurd (omega (arith, some))
nearest (run ∷ []) d doc some apart near lt = tt
nearest (run ∷ next ∷ runs) d doc some apart near lt =
    (omega (arith, near, apart.3.0, apart.3.1), apart_less (run.last + 2) 0 (next ∷ runs) (omega arith) apart.3)

-- the runs without the first, where it ends too soon
pub record Without (doc : ℕ) (old new : List Run) : Type 0 where
  pub remain : RemainFrom doc new
  pub same : SameFrom doc old new

pub first_out : (t : Bool) (runs : List Run) (d : Run) (doc : ℕ) → 0 < length runs → Apart 0 runs → doc ≤ (get_or runs 0 d).last + 1 → nat_lt (get_or runs 0 d).last doc ≡ t → Without doc runs (drop (bool_byte t) runs)
first_out true runs d doc some apart near e =
    let lt = ltb-true (get_or runs 0 d).last doc e in record {
      remain = nearest runs d doc some apart near lt;
      same = skip_same 0 0 doc runs d apart some lt;
    }
first_out false [] d doc some apart near e = absurd (omega (arith, some))
first_out false (run ∷ runs) d doc some apart near e = record { remain = (ltb-false run.last doc e, apart); same = (λ other from. refl) }

-- ---- a step of each walk

-- what is known between two steps of a walk through two lists
pub record Walk (test : ℕ → Bool) (start : ℕ) (a b docs : List ℕ) (ours theirs : List Run) : Type 0 where
  pub swept : Swept test start docs
  pub first : Left start a ours
  pub second : Left start b theirs

pub walk_first : (test : ℕ → Bool) (a b docs : List ℕ) (ours theirs : List Run) → docs ≡ [] → docs_of ours ≡ a → Apart 0 ours → docs_of theirs ≡ b → Apart 0 theirs → Walk test 0 a b docs ours theirs
walk_first test a b docs ours theirs none one apart other aside = record {
  swept = subst (Swept test 0) (sym none) (swept_none test);
  first = left_first a ours one apart;
  second = left_first b theirs other aside;
}

pub walk_done : (test : ℕ → Bool) (start : ℕ) (a b docs : List ℕ) (ours theirs : List Run) → Walk test start a b docs ours theirs → ((doc : ℕ) → start ≤ doc → test doc ≡ false) → AreThose test docs
walk_done test start a b docs ours theirs walk none = record {
  ascend = up_increasing 0 docs walk.swept.ascend;
  those = (λ doc.
      elim (cases_lt doc start) [
        | inl below ↦ walk.swept.those doc below
        | inr from ↦ none_from docs start doc walk.swept.below from ∙ sym (none doc from)
      ]);
}

-- the runs of a list are passed over up to a document, where the other list's first run begins there
pub far_start : (runs : List Run) (start doc count : ℕ) → RemainFrom start runs → 1 ≤ count → ends_before runs count doc ≡ true → start < doc
far_start [] start doc zero remain some held = absurd (omega (arith, some))
far_start [] start doc (suc count) remain some held = absurd (let none = step_within [] doc (suc count) held in omega (arith, none))
far_start (run ∷ runs) start doc count remain some held =
    let parts = yes_both (nat_le count (length (run ∷ runs))) (nat_lt (get_or (run ∷ runs) (count - 1) (record { first = 0; last = 0 })).last doc) held in
    let less = ltb-true (get_or (run ∷ runs) (count - 1) (record { first = 0; last = 0 })).last doc parts.1 in
    let within = step_within (run ∷ runs) doc count held in
    let last = last_grows run runs (count - 1) (record { first = 0; last = 0 }) remain.1 (omega (arith, within, some)) in
    omega (arith, remain.0, last, less)

both_no : (x y : Bool) → (x ≡ false) ⊎ (y ≡ false) → x && y ≡ false
both_no x y (inl is) = ap (λ b. b && y) is
both_no x y (inr is) = ap (λ b. x && b) is ∙ and_false x

pub meet_far_ours : (start : ℕ) (a b docs : List ℕ) (ours theirs new : List Run) (d : Run) → Walk (λ doc. has_doc a doc && has_doc b doc) start a b docs ours theirs → 0 < length theirs → start < (get_or theirs 0 d).first
    → RemainFrom (get_or theirs 0 d).first new → SameFrom (get_or theirs 0 d).first ours new → Walk (λ doc. has_doc a doc && has_doc b doc) (get_or theirs 0 d).first a b docs new theirs
meet_far_ours start a b docs ours theirs new d walk some more remain same =
    let doc = (get_or theirs 0 d).first in
    let known = first_known start theirs d some walk.second.remain in record {
      swept = swept_no (λ doc. has_doc a doc && has_doc b doc) start doc docs (omega (arith, more)) walk.swept
          (λ other from to. both_no (has_doc a other) (has_doc b other) (inr (none_in start other b theirs d some walk.second from to)));
      first = left_next start doc a ours new (omega (arith, more)) walk.first remain same;
      second = left_next start doc b theirs theirs (omega (arith, more)) walk.second (remain_first start theirs d doc some walk.second.remain (omega (arith, known.order))) (λ other from. refl);
    }

pub meet_far_theirs : (start : ℕ) (a b docs : List ℕ) (ours theirs new : List Run) (d : Run) → Walk (λ doc. has_doc a doc && has_doc b doc) start a b docs ours theirs → 0 < length ours → start < (get_or ours 0 d).first
    → RemainFrom (get_or ours 0 d).first new → SameFrom (get_or ours 0 d).first theirs new → Walk (λ doc. has_doc a doc && has_doc b doc) (get_or ours 0 d).first a b docs ours new
meet_far_theirs start a b docs ours theirs new d walk some more remain same =
    let doc = (get_or ours 0 d).first in
    let known = first_known start ours d some walk.first.remain in record {
      swept = swept_no (λ doc. has_doc a doc && has_doc b doc) start doc docs (omega (arith, more)) walk.swept
          (λ other from to. both_no (has_doc a other) (has_doc b other) (inl (none_in start other a ours d some walk.first from to)));
      first = left_next start doc a ours ours (omega (arith, more)) walk.first (remain_first start ours d doc some walk.first.remain (omega (arith, known.order))) (λ other from. refl);
      second = left_next start doc b theirs new (omega (arith, more)) walk.second remain same;
    }

pub walk_next : (test : ℕ → Bool) (start end : ℕ) (a b docs : List ℕ) (ours theirs more other : List Run) (added : List ℕ) → Walk test start a b docs ours theirs → start ≤ end → Swept test end added
    → RemainFrom end more → SameFrom end ours more → RemainFrom end other → SameFrom end theirs other → Walk test end a b added more other
walk_next test start end a b docs ours theirs more other added walk order swept remain same aside alike = record {
  swept = swept;
  first = left_next start end a ours more order walk.first remain same;
  second = left_next start end b theirs other order walk.second aside alike;
}

begun_by : (s t : Bool) (one other start doc : ℕ) → start ≤ doc → nat_le one doc ≡ s → nat_le other doc ≡ t → s && t ≡ nat_le (max start (max one other)) doc
begun_by true true one other start doc from is also =
    let low = leb-true one doc is in
    let high = leb-true other doc also in
    sym (le-leb (max start (max one other)) doc (omega (arith, from, low, high)))
begun_by true false one other start doc from is also = let less = leb-false other doc also in sym (lt-leb (max start (max one other)) doc (omega (arith, less)))
begun_by false t one other start doc from is also = let less = leb-false one doc is in sym (lt-leb (max start (max one other)) doc (omega (arith, less)))

-- up to the end of the first run that ends, a document is in both lists where both first runs have begun
pub meet_test : (start doc end : ℕ) (a b docs : List ℕ) (ours theirs : List Run) (d : Run) → Walk (λ doc. has_doc a doc && has_doc b doc) start a b docs ours theirs → 0 < length ours → 0 < length theirs
    → end ≡ min (get_or ours 0 d).last (get_or theirs 0 d).last + 1 → start ≤ doc → doc < end → has_doc a doc && has_doc b doc ≡ nat_le (max start (max (get_or ours 0 d).first (get_or theirs 0 d).first)) doc
meet_test start doc end a b docs ours theirs d walk some any is from to =
    ap (λ x. x && has_doc b doc) (left_begun start doc a ours d some walk.first from (omega (arith, is, to)))
    ∙ ap (λ y. nat_le (get_or ours 0 d).first doc && y) (left_begun start doc b theirs d any walk.second from (omega (arith, is, to)))
    ∙ begun_by (nat_le (get_or ours 0 d).first doc) (nat_le (get_or theirs 0 d).first doc) (get_or ours 0 d).first (get_or theirs 0 d).first start doc from refl refl

pub no_runs : (runs : List Run) (doc : ℕ) → length runs ≡ 0 → in_runs runs doc ≡ false
no_runs [] doc none = refl
no_runs (run ∷ runs) doc none = absurd (omega (arith, none))

pub meet_over : (start : ℕ) (a b docs : List ℕ) (ours theirs : List Run) → Walk (λ doc. has_doc a doc && has_doc b doc) start a b docs ours theirs → (length ours ≡ 0) ⊎ (length theirs ≡ 0) → (doc : ℕ) → start ≤ doc → has_doc a doc && has_doc b doc ≡ false
meet_over start a b docs ours theirs walk (inl none) doc from = both_no (has_doc a doc) (has_doc b doc) (inl (left_has start doc a ours walk.first from ∙ no_runs ours doc none))
meet_over start a b docs ours theirs walk (inr none) doc from = both_no (has_doc a doc) (has_doc b doc) (inr (left_has start doc b theirs walk.second from ∙ no_runs theirs doc none))

-- ---- the run that begins sooner

either_by : (s t : Bool) (one other doc : ℕ) → one ≤ other → nat_le one doc ≡ s → (t ≡ true → other ≤ doc) → s || t ≡ s
either_by true t one other doc le is also = refl
either_by false true one other doc le is also =
    let less = leb-false one doc is in
    let more = also refl in absurd (omega (arith, less, more, le))
either_by false false one other doc le is also = refl

or_swap : (x y : Bool) → x || y ≡ y || x
or_swap true true = refl
or_swap true false = refl
or_swap false true = refl
or_swap false false = refl

begun_in : (runs : List Run) (d : Run) (doc : ℕ) → 0 < length runs → Apart 0 runs → in_runs runs doc ≡ true → (get_or runs 0 d).first ≤ doc
begun_in [] d doc some apart held = absurd (omega (arith, some))
begun_in (run ∷ runs) d doc some apart held =
    elim (cases_lt doc run.first) [
      | inl lt ↦ absurd (let both : true ≡ false = sym held ∙ before_first run runs doc apart lt in cc)
      | inr le ↦ le
    ]

-- the first run of the one list, where the other has none or begins with it or later
sooner_one : (start : ℕ) (ours theirs : List Run) (d : Run) → 0 < length ours → (length theirs ≡ 0) ⊎ ((0 < length theirs) × ((get_or ours 0 d).first ≤ (get_or theirs 0 d).first)) → RemainFrom start ours → RemainFrom start theirs
    → (doc : ℕ) → start ≤ doc → doc ≤ (get_or ours 0 d).last → in_runs ours doc || in_runs theirs doc ≡ nat_le (get_or ours 0 d).first doc
sooner_one start ours [] d some (inl none) remain aside doc from to = or_false (in_runs ours doc) ∙ first_has ours d doc some (remain_apart start ours remain) to
sooner_one start ours [] d some (inr later) remain aside doc from to = absurd (omega (arith, later.0))
sooner_one start ours (other ∷ theirs) d some (inl none) remain aside doc from to = absurd (omega (arith, none))
sooner_one start ours (other ∷ theirs) d some (inr later) remain aside doc from to =
    ap (λ x. x || in_runs (other ∷ theirs) doc) (first_has ours d doc some (remain_apart start ours remain) to)
    ∙ either_by (nat_le (get_or ours 0 d).first doc) (in_runs (other ∷ theirs) doc) (get_or ours 0 d).first other.first doc later.1 refl (begun_in (other ∷ theirs) d doc later.0 aside.1)

pub is_sooner_ours : (start : ℕ) (ours theirs : List Run) (d : Run) → 0 < length ours → (length theirs ≡ 0) ⊎ ((0 < length theirs) × ((get_or ours 0 d).first ≤ (get_or theirs 0 d).first)) → RemainFrom start ours → RemainFrom start theirs
    → IsSooner start ours theirs (get_or ours 0 d)
is_sooner_ours start ours theirs d some later remain aside =
    let known = first_known start ours d some remain in record {
      within = known.within;
      onwards = known.onwards;
      those = sooner_one start ours theirs d some later remain aside;
    }

pub is_sooner_theirs : (start : ℕ) (ours theirs : List Run) (d : Run) → 0 < length theirs → (length ours ≡ 0) ⊎ ((0 < length ours) × ((get_or theirs 0 d).first ≤ (get_or ours 0 d).first)) → RemainFrom start ours → RemainFrom start theirs
    → IsSooner start ours theirs (get_or theirs 0 d)
is_sooner_theirs start ours theirs d some later remain aside =
    let known = first_known start theirs d some aside in record {
      within = known.within;
      onwards = known.onwards;
      those = λ doc from to. or_swap (in_runs ours doc) (in_runs theirs doc) ∙ sooner_one start theirs ours d some later aside remain doc from to;
    }

pub sooner_begun : (t : Bool) (first start doc : ℕ) → start ≤ doc → nat_le first doc ≡ t → t ≡ nat_le (max start first) doc
sooner_begun true first start doc from is = let low = leb-true first doc is in sym (le-leb (max start first) doc (omega (arith, from, low)))
sooner_begun false first start doc from is = let less = leb-false first doc is in sym (lt-leb (max start first) doc (omega (arith, less)))

-- up to the end of the sooner run, a document is in one of the lists where that run has begun
pub join_test : (start doc : ℕ) (a b docs : List ℕ) (ours theirs : List Run) (run : Run) → Walk (λ doc. has_doc a doc || has_doc b doc) start a b docs ours theirs → IsSooner start ours theirs run
    → start ≤ doc → doc < run.last + 1 → has_doc a doc || has_doc b doc ≡ nat_le (max start run.first) doc
join_test start doc a b docs ours theirs run walk sooner from to =
    ap (λ x. x || has_doc b doc) (left_has start doc a ours walk.first from)
    ∙ ap (λ y. in_runs ours doc || y) (left_has start doc b theirs walk.second from)
    ∙ sooner.those doc from (omega (arith, to)) ∙ sooner_begun (nat_le run.first doc) run.first start doc from refl

pub join_over : (start : ℕ) (a b docs : List ℕ) (ours theirs : List Run) → Walk (λ doc. has_doc a doc || has_doc b doc) start a b docs ours theirs → length ours ≡ 0 → length theirs ≡ 0 → (doc : ℕ) → start ≤ doc → has_doc a doc || has_doc b doc ≡ false
join_over start a b docs ours theirs walk none also doc from =
    ap (λ x. x || has_doc b doc) (left_has start doc a ours walk.first from ∙ no_runs ours doc none) ∙ left_has start doc b theirs walk.second from ∙ no_runs theirs doc also

-- ---- documents that are in the one list alone

kept_by : (taken : Bool) (kept end first doc : ℕ) → kept ≡ cond taken end first → first ≤ doc → doc < end → not taken ≡ nat_le kept doc
kept_by true kept end first doc is from to = sym (lt-leb kept doc (omega (arith, is, to)))
kept_by false kept end first doc is from to = sym (le-leb kept doc (omega (arith, is, from)))

not_yet : (taken : Bool) (kept end first doc : ℕ) → kept ≡ cond taken end first → doc < first → doc < end → nat_le kept doc ≡ false
not_yet true kept end first doc is before to = lt-leb kept doc (omega (arith, is, to))
not_yet false kept end first doc is before to = lt-leb kept doc (omega (arith, is, before))

-- up to the end of a stretch and of the run, a document is in the first list alone from where it is kept
pub without_test : (start first doc stretch end kept : ℕ) (a b docs : List ℕ) (ours theirs skipped : List Run) (d : Run) (taken : Bool) → Walk (λ doc. has_doc a doc && not (has_doc b doc)) start a b docs ours theirs → 0 < length ours
    → first ≡ max start (get_or ours 0 d).first → SameFrom first theirs skipped → taken ≡ in_runs skipped first → ((doc : ℕ) → first ≤ doc → doc < stretch → in_runs skipped doc ≡ in_runs skipped first)
    → end ≡ min stretch ((get_or ours 0 d).last + 1) → kept ≡ cond taken end first → start ≤ doc → doc < end → has_doc a doc && not (has_doc b doc) ≡ nat_le kept doc
without_test start first doc stretch end kept a b docs ours theirs skipped d taken walk some begins same taking all ends is from to =
    let begun : has_doc a doc ≡ nat_le (get_or ours 0 d).first doc = left_begun start doc a ours d some walk.first from (omega (arith, ends, to)) in
    elim (cases_lt doc first) [
      | inl before ↦ ap (λ x. x && not (has_doc b doc)) (begun ∙ lt-leb (get_or ours 0 d).first doc (omega (arith, before, begins, from))) ∙ sym (not_yet taken kept end first doc is before to)
      | inr after ↦
          let there : has_doc b doc ≡ taken = left_has start doc b theirs walk.second from ∙ sym (same doc after) ∙ all doc after (omega (arith, ends, to)) ∙ sym taking in
          ap (λ x. x && not (has_doc b doc)) (begun ∙ le-leb (get_or ours 0 d).first doc (omega (arith, after, begins))) ∙ ap not there ∙ kept_by taken kept end first doc is after to
    ]

pub and_true : (b : Bool) → b && true ≡ b
and_true true = refl
and_true false = refl

-- where the second list has no documents, all of the first are in it alone
pub without_none : (a b : List ℕ) → length b ≡ 0 → IsStrictlyIncreasing a → AreThose (λ doc. has_doc a doc && not (has_doc b doc)) a
without_none a [] none ascend = record { ascend = ascend; those = λ doc. sym (and_true (has_doc a doc)) }
without_none a (doc ∷ docs) none ascend = absurd (omega (arith, none))

pub without_over : (start : ℕ) (a b docs : List ℕ) (ours theirs : List Run) → Walk (λ doc. has_doc a doc && not (has_doc b doc)) start a b docs ours theirs → length ours ≡ 0 → (doc : ℕ) → start ≤ doc → has_doc a doc && not (has_doc b doc) ≡ false
without_over start a b docs ours theirs walk none doc from = ap (λ x. x && not (has_doc b doc)) (left_has start doc a ours walk.first from ∙ no_runs ours doc none)

-- runs that were left out twice
pub same_twice : (first end : ℕ) (old mid new : List Run) → first ≤ end → SameFrom first old mid → SameFrom end mid new → SameFrom end old new
same_twice first end old mid new order one other = λ doc from. other doc from ∙ one doc (omega (arith, from, order))
