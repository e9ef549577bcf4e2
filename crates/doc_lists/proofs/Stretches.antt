-- The runs of a list that end before the other list's begin are added at once.
use Rattle.std.proofs.Common.{◌≡◌, ◌∙◌, max, not, nat_eq, inl, inr, ℕ, zero, suc, ◌+◌, ◌-◌, ◌<◌, ◌≤◌, ◌^◌, Bool, false, ◌&&◌, ◌||◌, nat_le, List, [], ◌∷◌, ◌++◌, length, take, drop, get_or, refl, sym, ap, subst, arith, length-append}
use Rattle.std.specs.List.{All}
use Rattle.std.proofs.lemmas.Bool.{cases_lt}
use Rattle.std.proofs.lemmas.List.{take_more, take-append-drop}
use Rattle.std.proofs.lemmas.List.Concat.{flat_map-append}
use Rattle.std.proofs.lemmas.List.Elements.{All-append, All-nil}
use Rattle.std.proofs.lemmas.List.Folds.{list_any-append, length-flat_map-take}
use Rattle.std.proofs.lemmas.List.FromFn.{length-range_with_len}
use Rattle.doc_lists.specs.Docs.{AreAfter, AreRuns, Apart, docs_of, docs_of_run, has_doc, next_from}
use Rattle.doc_lists.specs.Sets.{RemainFrom, SameFrom, SweepsRuns, Swept, first_in, in_run, in_runs}
use Rattle.doc_lists.specs.declared.run.Run.{Run}
use Rattle.doc_lists.proofs.Runs.{all_after, apart_less, docs_pushed, last_below, next_pushed, up_runs}
use Rattle.doc_lists.proofs.Sweep.{Walk, remain_apart, and_true, apart_none, before_first, first_has, has_runs, left_has, none_from, or_false, range_all, run_before, sooner_begun, up_add, walk_next}

-- ---- how many documents runs have

pub count_few : (from : ℕ) (runs : List Run) → Apart from runs → from + length (docs_of runs) ≤ next_from from runs
count_few from [] apart = omega arith
count_few from (run ∷ runs) apart =
    let own : length (docs_of_run run) ≡ run.last + 1 - run.first = length-range_with_len run.first (run.last + 1 - run.first) in
    let whole : length (docs_of (run ∷ runs)) ≡ length (docs_of_run run) + length (docs_of runs) = length-append (docs_of_run run) (docs_of runs) in
    let rest = count_few (run.last + 1) runs (apart_less (run.last + 2) (run.last + 1) runs (omega arith) apart.3) in
    let all : from + length (docs_of (run ∷ runs)) ≤ next_from (run.last + 1) runs = omega (arith, own, whole, rest, apart.0, apart.1) in all

pub next_within : (from : ℕ) (runs : List Run) → from ≤ 2 ^ 32 → Apart from runs → next_from from runs ≤ 2 ^ 32
next_within from [] le apart = le
next_within from (run ∷ runs) le apart =
    let small = apart.2 in
    next_within (run.last + 1) runs (omega (arith, small)) (apart_less (run.last + 2) (run.last + 1) runs (omega arith) apart.3)

pub count_within : (runs : List Run) → Apart 0 runs → length (docs_of runs) ≤ 2 ^ 32
count_within runs apart =
    let at_most = count_few 0 runs apart in
    let small = next_within 0 runs (omega arith) apart in omega (arith, at_most, small)

pub order_at : (from i : ℕ) (runs : List Run) (d : Run) → Apart from runs → i < length runs → (get_or runs i d).first ≤ (get_or runs i d).last
order_at from i [] d apart lt = absurd (omega (arith, lt))
order_at from zero (run ∷ runs) d apart lt = apart.1
order_at from (suc i) (run ∷ runs) d apart lt = order_at (run.last + 2) i runs d apart.3 (omega (arith, lt))

-- the documents of the first runs, and of one more
pub count_more : (runs : List Run) (i : ℕ) (d : Run) (count size : ℕ) → i < length runs → count ≡ length (docs_of (take i runs)) → size ≡ (get_or runs i d).last + 1 - (get_or runs i d).first → count + size ≡ length (docs_of (take (i + 1) runs))
count_more runs i d count size lt is counted =
    let run = get_or runs i d in
    let own : length (docs_of_run run) ≡ size = length-range_with_len run.first (run.last + 1 - run.first) ∙ sym counted in
    let parts : docs_of (take (i + 1) runs) ≡ docs_of (take i runs) ++ docs_of_run run = ap docs_of (take_more runs i d lt) ∙ docs_pushed (take i runs) run in
    let whole : length (docs_of (take (i + 1) runs)) ≡ length (docs_of (take i runs)) + length (docs_of_run run) = ap length parts ∙ length-append (docs_of (take i runs)) (docs_of_run run) in
    omega (arith, own, whole, is)

pub count_room : (runs : List Run) (i : ℕ) (d : Run) (count size : ℕ) → Apart 0 runs → i < length runs → count ≡ length (docs_of (take i runs)) → size ≡ (get_or runs i d).last + 1 - (get_or runs i d).first → count + size ≤ 2 ^ 32
count_room runs i d count size apart lt is counted =
    let run = get_or runs i d in
    let own : length (docs_of_run run) ≡ size = length-range_with_len run.first (run.last + 1 - run.first) ∙ sym counted in
    let upto = length-flat_map-take docs_of_run runs i d lt in
    let small = count_within runs apart in omega (arith, own, upto, small, is)

-- ---- runs are added

after_all : (from end : ℕ) (old runs : List Run) → from ≤ end + 1 → Apart from old → All (λ doc. doc < end) (docs_of old) → Apart (end + 1) runs → Apart from (old ++ runs)
after_all from end [] runs le apart below after = apart_less (end + 1) from runs le after
after_all from end (run ∷ old) runs le apart below after =
    let own : run.last < end = last_below run (docs_of old) end apart.1 below in
    let rest : All (λ doc. doc < end) (docs_of old) = all_after (λ doc. doc < end) (docs_of_run run) (docs_of old) below in
    (apart.0, apart.1, apart.2, after_all (run.last + 2) end old runs (omega (arith, own)) apart.3 rest after)

pub runs_after : (old runs : List Run) (count size : ℕ) → AreRuns old count → AreAfter (docs_of old) runs → size ≡ length (docs_of runs) → AreRuns (old ++ runs) (count + size)
runs_after old runs count size are after is =
    let apart = after_all 0 after.end old runs (omega arith) are.apart after.below after.apart in
    let parts : length (docs_of (old ++ runs)) ≡ length (docs_of old) + length (docs_of runs) = ap length (flat_map-append docs_of_run old runs) ∙ length-append (docs_of old) (docs_of runs) in
    let counted : count + size ≡ length (docs_of (old ++ runs)) = omega (arith, parts, are.counted, is) in
    let at_most = count_few 0 (old ++ runs) apart in record { apart = apart; counted = counted; at_most = omega (arith, at_most, counted) }

-- ---- a list is swept to the end of runs

pub next_least : (next : ℕ) (runs : List Run) → Apart next runs → next ≤ next_from next runs
next_least next runs apart = let at_most = count_few next runs apart in omega (arith, at_most)

docs_below : (from : ℕ) (runs : List Run) → Apart from runs → All (λ x. x < next_from from runs) (docs_of runs)
docs_below from [] apart = All-nil (λ x. x < from)
docs_below from (run ∷ runs) apart =
    let next = next_from (run.last + 1) runs in
    let after : Apart (run.last + 1) runs = apart_less (run.last + 2) (run.last + 1) runs (omega arith) apart.3 in
    let least = next_least (run.last + 1) runs after in
    All-append (λ x. x < next) (docs_of_run run) (docs_of runs) (range_all run.first (run.last + 1 - run.first) next (omega (arith, least, apart.1))) (docs_below (run.last + 1) runs after)

swept_rest : (test : ℕ → Bool) (start : ℕ) (runs : List Run) (old new : List ℕ) → Apart (start + 1) runs → new ≡ old ++ docs_of runs → Swept test start old
    → ((doc : ℕ) → start ≤ doc → doc < next_from start runs → test doc ≡ in_runs runs doc) → Swept test (next_from start runs) new
swept_rest test start runs old new apart is swept same =
    let end = next_from start runs in
    let from : Apart start runs = apart_less (start + 1) start runs (omega arith) apart in
    let least = next_least start runs from in
    subst (Swept test end) (sym is) (record {
      ascend = up_add 0 start old (docs_of runs) (omega arith) swept.ascend swept.below (up_runs start runs from);
      below = All-append (λ x. x < end) old (docs_of runs) (λ k d lt. let less = swept.below k d lt in omega (arith, less, least)) (docs_below start runs from);
      those = (λ doc lt.
          list_any-append (nat_eq doc) old (docs_of runs)
          ∙ elim (cases_lt doc start) [
            | inl below ↦ ap (λ b. has_doc old doc || b) (has_runs runs doc ∙ apart_none start runs doc from below) ∙ or_false (has_doc old doc) ∙ swept.those doc below
            | inr le ↦ ap (λ b. b || has_doc (docs_of runs) doc) (none_from old start doc swept.below le) ∙ has_runs runs doc ∙ sym (same doc le lt)
          ]);
    })

pub rest_after : (start : ℕ) (runs : List Run) (d : Run) (docs : List ℕ) → 0 < length runs → RemainFrom start runs → All (λ doc. doc < (get_or runs 0 d).last + 1) docs → AreAfter docs (drop 1 runs)
rest_after start [] d docs some remain below = absurd (omega (arith, some))
rest_after start (run ∷ runs) d docs some remain below =
    let same : run.last + 2 ≡ run.last + 1 + 1 = omega arith in
    record { end = run.last + 1; below = below; apart = subst (λ n. Apart n runs) same remain.1.3 }

-- the first of the runs is swept, and then the others
pub sweeps_runs : (start : ℕ) (runs : List Run) (d : Run) (old mid new : List ℕ) → 0 < length runs → RemainFrom start runs
    → ((test : ℕ → Bool) → Swept test start old → ((doc : ℕ) → start ≤ doc → doc < (get_or runs 0 d).last + 1 → test doc ≡ nat_le (max start (get_or runs 0 d).first) doc) → Swept test ((get_or runs 0 d).last + 1) mid)
    → new ≡ mid ++ docs_of (drop 1 runs) → SweepsRuns start runs old new
sweeps_runs start [] d old mid new some remain first is = absurd (omega (arith, some))
sweeps_runs start (run ∷ runs) d old mid new some remain first is = λ test swept same.
    let same_end : run.last + 2 ≡ run.last + 1 + 1 = omega arith in
    let apart : Apart (run.last + 1 + 1) runs = subst (λ n. Apart n runs) same_end remain.1.3 in
    let from : Apart (run.last + 1) runs = apart_less (run.last + 1 + 1) (run.last + 1) runs (omega arith) apart in
    let least = next_least (run.last + 1) runs from in
    let onwards = remain.0 in
    let one : Swept test (run.last + 1) mid = first test swept (λ doc le lt.
    same doc le (omega (arith, lt, least)) ∙ first_has (run ∷ runs) d doc (omega arith) remain.1 (omega (arith, lt)) ∙ sooner_begun (nat_le run.first doc) run.first start doc le refl) in
    swept_rest test (run.last + 1) runs mid new apart is one (λ doc le lt.
    same doc (omega (arith, le, onwards)) lt ∙ ap (λ b. b || in_runs runs doc) (run_before run doc (omega (arith, le))))

-- ---- the runs that are left

tail_apart : (from : ℕ) (alone more : List Run) → 0 < length alone → Apart from (alone ++ more) → Apart (next_from from alone + 1) more
tail_apart from [] more some apart = absurd (omega (arith, some))
tail_apart from (run ∷ []) more some apart =
    let same : run.last + 2 ≡ run.last + 1 + 1 = omega arith in subst (λ n. Apart n more) same apart.3
tail_apart from (run ∷ next ∷ alone) more some apart = tail_apart (run.last + 2) (next ∷ alone) more (omega arith) apart.3

pub front_apart : (from : ℕ) (alone more : List Run) → Apart from (alone ++ more) → Apart from alone
front_apart from [] more apart = tt
front_apart from (run ∷ alone) more apart = (apart.0, apart.1, apart.2, front_apart (run.last + 2) alone more apart.3)

after_remain : (end : ℕ) (runs : List Run) → Apart (end + 1) runs → RemainFrom end runs
after_remain end [] apart = tt
after_remain end (run ∷ runs) apart = (omega (arith, apart.0, apart.1), (omega arith, apart.1, apart.2, apart.3))

gone_by : (from doc : ℕ) (runs : List Run) → Apart from runs → next_from from runs ≤ doc → in_runs runs doc ≡ false
gone_by from doc [] apart le = refl
gone_by from doc (run ∷ runs) apart le =
    let after : Apart (run.last + 1) runs = apart_less (run.last + 2) (run.last + 1) runs (omega arith) apart.3 in
    let least = next_least (run.last + 1) runs after in
    let later : next_from (run.last + 1) runs ≤ doc = le in
    ap (λ b. b || in_runs runs doc) (run_before run doc (omega (arith, least, later))) ∙ gone_by (run.last + 1) doc runs after later

both_in : (alone more : List Run) (doc : ℕ) → in_runs (alone ++ more) doc ≡ in_runs alone doc || in_runs more doc
both_in alone more doc = list_any-append (in_run doc) alone more

-- of a document before the other list's first, that list has none
pub not_theirs : (theirs : List Run) (doc : ℕ) → Apart 0 theirs → doc < first_in theirs → in_runs theirs doc ≡ false
not_theirs [] doc apart lt = refl
not_theirs (run ∷ theirs) doc apart lt = before_first run theirs doc apart lt

theirs_remain : (start end : ℕ) (theirs : List Run) → RemainFrom start theirs → end ≤ first_in theirs → RemainFrom end theirs
theirs_remain start end [] remain le = tt
theirs_remain start end (run ∷ theirs) remain le = (let order = remain.1.1 in omega (arith, le, order), remain.1)

-- what is known of the runs that come before the other list's
pub record Parted (start : ℕ) (ours theirs alone more : List Run) : Type 0 where
  pub parts : ours ≡ alone ++ more
  pub some : 0 < length alone
  pub apart : Apart 0 (alone ++ more)
  pub onwards : start < next_from 0 alone
  pub before : next_from 0 alone ≤ first_in theirs

-- up to their end, a document is in the list's runs where it is in these
pub parted_has : (start : ℕ) (ours theirs alone more : List Run) (doc : ℕ) → Parted start ours theirs alone more → doc < next_from 0 alone → in_runs ours doc ≡ in_runs alone doc
parted_has start ours theirs alone more doc known lt =
    ap (λ rs. in_runs rs doc) known.parts ∙ both_in alone more doc
    ∙ ap (λ b. in_runs alone doc || b) (apart_none (next_from 0 alone + 1) more doc (tail_apart 0 alone more known.some known.apart) (omega (arith, lt))) ∙ or_false (in_runs alone doc)

pub join_alone : (start doc : ℕ) (a b docs : List ℕ) (ours theirs alone more : List Run) → Walk (λ doc. has_doc a doc || has_doc b doc) start a b docs ours theirs → Parted start ours theirs alone more
    → start ≤ doc → doc < next_from 0 alone → has_doc a doc || has_doc b doc ≡ in_runs alone doc
join_alone start doc a b docs ours theirs alone more walk known from to =
    ap (λ x. x || has_doc b doc) (left_has start doc a ours walk.first from ∙ parted_has start ours theirs alone more doc known to)
    ∙ ap (λ y. in_runs alone doc || y) (left_has start doc b theirs walk.second from ∙ not_theirs theirs doc (remain_apart start theirs walk.second.remain) (omega (arith, to, known.before)))
    ∙ or_false (in_runs alone doc)

pub without_alone : (start doc : ℕ) (a b docs : List ℕ) (ours theirs alone more : List Run) → Walk (λ doc. has_doc a doc && not (has_doc b doc)) start a b docs ours theirs → Parted start ours theirs alone more
    → start ≤ doc → doc < next_from 0 alone → has_doc a doc && not (has_doc b doc) ≡ in_runs alone doc
without_alone start doc a b docs ours theirs alone more walk known from to =
    ap (λ x. x && not (has_doc b doc)) (left_has start doc a ours walk.first from ∙ parted_has start ours theirs alone more doc known to)
    ∙ ap (λ y. in_runs alone doc && not y) (left_has start doc b theirs walk.second from ∙ not_theirs theirs doc (remain_apart start theirs walk.second.remain) (omega (arith, to, known.before)))
    ∙ and_true (in_runs alone doc)

-- the walk goes on after them
pub alone_next : (test : ℕ → Bool) (start : ℕ) (a b docs added : List ℕ) (ours theirs alone more : List Run) → Walk test start a b docs ours theirs → Parted start ours theirs alone more
    → Swept test (next_from 0 alone) added → Walk test (next_from 0 alone) a b added more theirs
alone_next test start a b docs added ours theirs alone more walk known swept =
    let end = next_from 0 alone in
    let after = tail_apart 0 alone more known.some known.apart in
    let same : SameFrom end ours more = λ doc le.
    sym (ap (λ rs. in_runs rs doc) known.parts ∙ both_in alone more doc ∙ ap (λ b. b || in_runs more doc) (gone_by 0 doc alone (front_apart 0 alone more known.apart) le)) in
    let onwards = known.onwards in
    walk_next test start end a b docs ours theirs more theirs added walk (omega (arith, onwards)) swept (after_remain end more after) same
    (theirs_remain start end theirs walk.second.remain known.before) (λ doc from. refl)

-- the first runs, so many as were counted
pub parted : (start count : ℕ) (ours theirs : List Run) → 0 < count → count ≤ length ours → next_from 0 (take count ours) ≤ first_in theirs → RemainFrom start ours → Parted start ours theirs (take count ours) (drop count ours)
parted start zero ours theirs some le before remain = absurd (omega (arith, some))
parted start (suc count) [] theirs some le before remain = absurd (omega (arith, le))
parted start (suc count) (run ∷ ours) theirs some le before remain =
    let whole : run ∷ ours ≡ take (suc count) (run ∷ ours) ++ drop (suc count) (run ∷ ours) = sym (take-append-drop (suc count) (run ∷ ours)) in
    let apart : Apart 0 (take (suc count) (run ∷ ours) ++ drop (suc count) (run ∷ ours)) = subst (Apart 0) whole remain.1 in
    let own : Apart 0 (run ∷ take count ours) = front_apart 0 (take (suc count) (run ∷ ours)) (drop (suc count) (run ∷ ours)) apart in
    let least = next_least (run.last + 1) (take count ours) (apart_less (run.last + 2) (run.last + 1) (take count ours) (omega arith) own.3) in
    let first = remain.0 in record {
      parts = whole;
      some = omega arith;
      apart = apart;
      onwards = (let on : start < next_from (run.last + 1) (take count ours) = omega (arith, first, least) in on);
      before = before;
    }

pub parted_remain : (start : ℕ) (ours theirs alone more : List Run) → RemainFrom start ours → Parted start ours theirs alone more → RemainFrom start alone
parted_remain start ours theirs [] more remain known = tt
parted_remain start ours theirs (run ∷ alone) more remain known =
    let whole : RemainFrom start (run ∷ alone ++ more) = subst (RemainFrom start) known.parts remain in (whole.0, front_apart 0 (run ∷ alone) more known.apart)

-- one run more ends before a document
pub before_more : (runs : List Run) (count doc : ℕ) (d : Run) → count < length runs → (get_or runs count d).last < doc → next_from 0 (take (count + 1) runs) ≤ doc
before_more runs count doc d within lt =
    let is : next_from 0 (take (count + 1) runs) ≡ (get_or runs count d).last + 1 = ap (next_from 0) (take_more runs count d within) ∙ next_pushed 0 (take count runs) (get_or runs count d) in omega (arith, is, lt)
