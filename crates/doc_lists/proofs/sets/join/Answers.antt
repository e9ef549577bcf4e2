use Rattle.std.proofs.Common.{◌≡◌, ◌∙◌, ◌||◌, ◌<◌, ◌≤◌, ◌+◌, ℕ, Bool, List, ap, arith, drop, length, nat_le, rules, subst, sym, take}
use Rattle.doc_lists.specs.Docs.{has_doc, next_from}
use Rattle.doc_lists.specs.Sets.{RemainFrom, SweepsRuns, first_in}
use Rattle.doc_lists.specs.declared.run.Run.{Run}
use Rattle.doc_lists.proofs.Stretches.{Parted, alone_next, front_apart, join_alone, next_within, parted, parted_remain}
use Rattle.doc_lists.proofs.Sweep.{Walk, join_over, join_test, walk_done, walk_first, walk_next}
use Rattle.doc_lists.proofs.sets.join.Goals as goal

pub loop-ours-init : goal.loop-ours-init
loop-ours-init c =
    let a = c.args.a.now in
    let b = c.args.b.now in
    walk_first (λ doc. has_doc a doc || has_doc b doc) a b c.in_ok-docs.docs c.runs-ours.result.now c.runs-theirs.result.now c.in_ok-docs.ensures c.runs-ours.ensures.docs c.runs-ours.ensures.apart c.runs-theirs.ensures.docs c.runs-theirs.ensures.apart

pub push_runs_from-requires-clause-some : goal.push_runs_from-requires-clause-some
push_runs_from-requires-clause-some c =
    let walk = c.loop-ours.invariant in
    let start = c.loop-ours.start in
    let ours = c.loop-ours.ours.now in
    let theirs = c.loop-ours.theirs.now in
    let count = c.count_before-count.result in
    let before : next_from 0 (take count ours) ≤ first_in theirs = subst (λ n. next_from 0 (take count ours) ≤ n) c.first_of.ensures c.count_before-count.ensures.before in
    let known : Parted start ours theirs (take count ours) (drop count ours) = parted start count ours theirs (omega (arith, c.if-count-gt0.true)) c.count_before-count.ensures.within before walk.first.remain in
    subst (λ (rs : List Run). 0 < length rs) (sym c.preceding-alone.ensures) known.some

pub push_runs_from-requires-clause-remain : goal.push_runs_from-requires-clause-remain
push_runs_from-requires-clause-remain c =
    let walk = c.loop-ours.invariant in
    let start = c.loop-ours.start in
    let ours = c.loop-ours.ours.now in
    let theirs = c.loop-ours.theirs.now in
    let count = c.count_before-count.result in
    let before : next_from 0 (take count ours) ≤ first_in theirs = subst (λ n. next_from 0 (take count ours) ≤ n) c.first_of.ensures c.count_before-count.ensures.before in
    let known : Parted start ours theirs (take count ours) (drop count ours) = parted start count ours theirs (omega (arith, c.if-count-gt0.true)) c.count_before-count.ensures.within before walk.first.remain in
    subst (λ (rs : List Run). RemainFrom start rs) (sym c.preceding-alone.ensures) (parted_remain start ours theirs (take count ours) (drop count ours) walk.first.remain known)

pub loop-ours-smaller-then-count-gt0 : goal.loop-ours-smaller-then-count-gt0
loop-ours-smaller-then-count-gt0 c =
    let walk = c.loop-ours.invariant in
    let start = c.loop-ours.start in
    let ours = c.loop-ours.ours.now in
    let theirs = c.loop-ours.theirs.now in
    let count = c.count_before-count.result in
    let before : next_from 0 (take count ours) ≤ first_in theirs = subst (λ n. next_from 0 (take count ours) ≤ n) c.first_of.ensures c.count_before-count.ensures.before in
    let known : Parted start ours theirs (take count ours) (drop count ours) = parted start count ours theirs (omega (arith, c.if-count-gt0.true)) c.count_before-count.ensures.within before walk.first.remain in
    let end : c.in_ok-end.end ≡ next_from 0 (take count ours) = c.in_ok-end.ensures.end ∙ ap (next_from 0) c.preceding-alone.ensures in
    let within = next_within 0 (take count ours) (omega arith) (front_apart 0 (take count ours) (drop count ours) known.apart) in
    omega (arith, end, within, known.onwards)

pub loop-ours-preserved-then-count-gt0 : goal.loop-ours-preserved-then-count-gt0
loop-ours-preserved-then-count-gt0 c =
    let a = c.args.a.now in
    let b = c.args.b.now in
    let test : ℕ → Bool = λ doc. has_doc a doc || has_doc b doc in
    let walk = c.loop-ours.invariant in
    let start = c.loop-ours.start in
    let ours = c.loop-ours.ours.now in
    let theirs = c.loop-ours.theirs.now in
    let count = c.count_before-count.result in
    let before : next_from 0 (take count ours) ≤ first_in theirs = subst (λ n. next_from 0 (take count ours) ≤ n) c.first_of.ensures c.count_before-count.ensures.before in
    let known : Parted start ours theirs (take count ours) (drop count ours) = parted start count ours theirs (omega (arith, c.if-count-gt0.true)) c.count_before-count.ensures.within before walk.first.remain in
    let docs = c.loop-ours.docs in
    let added = c.push_runs_from.new.docs in
    let alone = take count ours in
    let end : c.in_ok-end.end ≡ next_from 0 alone = c.in_ok-end.ensures.end ∙ ap (next_from 0) c.preceding-alone.ensures in
    let sweeps : SweepsRuns start alone docs added = subst (λ (rs : List Run). SweepsRuns start rs docs added) c.preceding-alone.ensures c.in_ok-end.ensures.swept in
    let next : Walk test (next_from 0 alone) a b added (drop count ours) theirs = alone_next test start a b docs added ours theirs alone (drop count ours) walk known
    (sweeps test walk.swept (λ doc from to. join_alone start doc a b docs ours theirs alone (drop count ours) walk known from to)) in
    subst (λ rs. Walk test c.in_ok-end.end a b added rs theirs) (sym c.following-ours.ensures) (subst (λ n. Walk test n a b added (drop count ours) theirs) (sym end) next)

pub push_from-requires-clause-onwards : goal.push_from-requires-clause-onwards
push_from-requires-clause-onwards c =
    let sooner = c.sooner-run.ensures c.loop-ours.start c.loop-ours.invariant.first.remain c.loop-ours.invariant.second.remain in
    omega (arith, sooner.onwards)

pub loop-ours-smaller : goal.loop-ours-smaller
loop-ours-smaller c =
    let sooner = c.sooner-run.ensures c.loop-ours.start c.loop-ours.invariant.first.remain c.loop-ours.invariant.second.remain in
    omega (arith, sooner.onwards, sooner.within)

pub loop-ours-preserved : goal.loop-ours-preserved
loop-ours-preserved c =
    let a = c.args.a.now in
    let b = c.args.b.now in
    let test : ℕ → Bool = λ doc. has_doc a doc || has_doc b doc in
    let start = c.loop-ours.start in
    let docs = c.loop-ours.docs in
    let ours = c.loop-ours.ours.now in
    let theirs = c.loop-ours.theirs.now in
    let walk = c.loop-ours.invariant in
    let run = c.sooner-run.result in
    let sooner = c.sooner-run.ensures start walk.first.remain walk.second.remain in
    walk_next test start (run.last + 1) a b docs ours theirs c.left_from-ours.result.now c.left_from-theirs.result.now c.push_from.new.docs walk (omega (arith, sooner.onwards))
    (c.in_ok-push_from.ensures.swept test walk.swept (λ doc from to. join_test start doc a b docs ours theirs run walk sooner from to ∙ ap (λ n. nat_le n doc) (sym c.max.ensures)))
    c.left_from-ours.ensures.remain c.left_from-ours.ensures.same c.left_from-theirs.ensures.remain c.left_from-theirs.ensures.same

pub returns : goal.returns
returns c =
    let a = c.args.a.now in
    let b = c.args.b.now in
    let none : length c.loop-ours.ours.now ≡ 0 = search rules in
    let also : length c.loop-ours.theirs.now ≡ 0 = search rules in
    walk_done (λ doc. has_doc a doc || has_doc b doc) c.loop-ours.start a b c.loop-ours.docs c.loop-ours.ours.now c.loop-ours.theirs.now c.loop-ours.invariant
    (join_over c.loop-ours.start a b c.loop-ours.docs c.loop-ours.ours.now c.loop-ours.theirs.now c.loop-ours.invariant none also)
