use Rattle.std.proofs.Common.{◌≡◌, ◌∙◌, ◌&&◌, ◌<◌, ◌≤◌, ℕ, Bool, List, not, cond, ap, arith, drop, length, rules, subst, sym, take}
use Rattle.doc_lists.specs.Docs.{has_doc, next_from}
use Rattle.doc_lists.specs.Sets.{RemainFrom, AreThose, SweepsRuns, first_in}
use Rattle.doc_lists.specs.declared.run.Run.{Run}
use Rattle.doc_lists.proofs.Stretches.{Parted, alone_next, front_apart, next_within, parted, parted_remain, without_alone}
use Rattle.doc_lists.proofs.Sweep.{Walk, first_known, same_twice, walk_done, walk_first, walk_next, without_none, without_over, without_test}
use Rattle.doc_lists.proofs.sets.without.Goals as goal
use Rattle.doc_lists.proofs.sets.without.Goals.{then-reaches, else-reaches}

pub loop-ours-init : goal.loop-ours-init
loop-ours-init c =
    let a = c.args.a.now in
    let b = c.args.b.now in
    walk_first (λ doc. has_doc a doc && not (has_doc b doc)) a b c.in_ok-docs.docs c.runs-ours.result.now c.runs-theirs.result.now c.in_ok-docs.ensures c.runs-ours.ensures.docs c.runs-ours.ensures.apart c.runs-theirs.ensures.docs c.runs-theirs.ensures.apart

pub push_runs_from-requires-clause-some : goal.push_runs_from-requires-clause-some
push_runs_from-requires-clause-some c =
    let walk = c.loop-ours.invariant in
    let start = c.loop-ours.start in
    let ours = c.loop-ours.ours.now in
    let theirs = c.loop-ours.theirs.now in
    let count = c.count_before-count.result in
    let before : next_from 0 (take count ours) ≤ first_in theirs = subst (λ n. next_from 0 (take count ours) ≤ n) c.first_of.ensures c.count_before-count.ensures.before in
    let known : Parted start ours theirs (take count ours) (drop count ours) = parted start count ours theirs (omega (arith, c.if-count-gt0.true)) c.count_before-count.ensures.within before walk.first.remain in
    subst (λ (rs : List Run). 0 < length rs) (sym c.preceding-alone.ensures) known.some

pub push_runs_from-requires-clause-remain : goal.push_runs_from-requires-clause-remain
push_runs_from-requires-clause-remain c =
    let walk = c.loop-ours.invariant in
    let start = c.loop-ours.start in
    let ours = c.loop-ours.ours.now in
    let theirs = c.loop-ours.theirs.now in
    let count = c.count_before-count.result in
    let before : next_from 0 (take count ours) ≤ first_in theirs = subst (λ n. next_from 0 (take count ours) ≤ n) c.first_of.ensures c.count_before-count.ensures.before in
    let known : Parted start ours theirs (take count ours) (drop count ours) = parted start count ours theirs (omega (arith, c.if-count-gt0.true)) c.count_before-count.ensures.within before walk.first.remain in
    subst (λ (rs : List Run). RemainFrom start rs) (sym c.preceding-alone.ensures) (parted_remain start ours theirs (take count ours) (drop count ours) walk.first.remain known)

pub loop-ours-smaller-then-count-gt0 : goal.loop-ours-smaller-then-count-gt0
loop-ours-smaller-then-count-gt0 c =
    let walk = c.loop-ours.invariant in
    let start = c.loop-ours.start in
    let ours = c.loop-ours.ours.now in
    let theirs = c.loop-ours.theirs.now in
    let count = c.count_before-count.result in
    let before : next_from 0 (take count ours) ≤ first_in theirs = subst (λ n. next_from 0 (take count ours) ≤ n) c.first_of.ensures c.count_before-count.ensures.before in
    let known : Parted start ours theirs (take count ours) (drop count ours) = parted start count ours theirs (omega (arith, c.if-count-gt0.true)) c.count_before-count.ensures.within before walk.first.remain in
    let end : c.in_ok-end.end ≡ next_from 0 (take count ours) = c.in_ok-end.ensures.end ∙ ap (next_from 0) c.preceding-alone.ensures in
    let within = next_within 0 (take count ours) (omega arith) (front_apart 0 (take count ours) (drop count ours) known.apart) in
    omega (arith, end, within, known.onwards)

pub loop-ours-preserved-then-count-gt0 : goal.loop-ours-preserved-then-count-gt0
loop-ours-preserved-then-count-gt0 c =
    let a = c.args.a.now in
    let b = c.args.b.now in
    let test : ℕ → Bool = λ doc. has_doc a doc && not (has_doc b doc) in
    let walk = c.loop-ours.invariant in
    let start = c.loop-ours.start in
    let ours = c.loop-ours.ours.now in
    let theirs = c.loop-ours.theirs.now in
    let count = c.count_before-count.result in
    let before : next_from 0 (take count ours) ≤ first_in theirs = subst (λ n. next_from 0 (take count ours) ≤ n) c.first_of.ensures c.count_before-count.ensures.before in
    let known : Parted start ours theirs (take count ours) (drop count ours) = parted start count ours theirs (omega (arith, c.if-count-gt0.true)) c.count_before-count.ensures.within before walk.first.remain in
    let docs = c.loop-ours.docs in
    let added = c.push_runs_from.new.docs in
    let alone = take count ours in
    let end : c.in_ok-end.end ≡ next_from 0 alone = c.in_ok-end.ensures.end ∙ ap (next_from 0) c.preceding-alone.ensures in
    let sweeps : SweepsRuns start alone docs added = subst (λ (rs : List Run). SweepsRuns start rs docs added) c.preceding-alone.ensures c.in_ok-end.ensures.swept in
    let next : Walk test (next_from 0 alone) a b added (drop count ours) theirs = alone_next test start a b docs added ours theirs alone (drop count ours) walk known
    (sweeps test walk.swept (λ doc from to. without_alone start doc a b docs ours theirs alone (drop count ours) walk known from to)) in
    subst (λ rs. Walk test c.in_ok-end.end a b added rs theirs) (sym c.following-ours.ensures) (subst (λ n. Walk test n a b added (drop count ours) theirs) (sym end) next)

pub loop-ours-preserved : goal.loop-ours-preserved
loop-ours-preserved c =
    let a = c.args.a.now in
    let b = c.args.b.now in
    let test : ℕ → Bool = λ doc. has_doc a doc && not (has_doc b doc) in
    let start = c.loop-ours.start in
    let docs = c.loop-ours.docs in
    let ours = c.loop-ours.ours.now in
    let theirs = c.loop-ours.theirs.now in
    let skipped = c.left_from-theirs.result.now in
    let d : Run = record { first = 0; last = 0 } in
    let walk = c.loop-ours.invariant in
    let first = c.max-first.result in
    let end = c.min-end.result in
    let some : 0 < length ours = search rules in
    let known = first_known start ours d some walk.first.remain in
    let onwards : first ≤ end = omega (arith, c.min-end.ensures, c.max-first.ensures, known.onwards, known.order, c.end_of_stretch.ensures.onwards) in
    let order : start ≤ end = omega (arith, c.max-first.ensures, onwards) in
    let kept : c.if-reaches.kept ≡ cond c.reaches.result end first = elim c.if-reaches.branch [
      | then-reaches w ↦ w.kept-is ∙ ap (λ t. cond t end first) (sym w.if-reaches.true)
      | else-reaches w ↦ w.kept-is ∙ ap (λ t. cond t end first) (sym w.if-reaches.false)
    ] in
    walk_next test start end a b docs ours theirs c.left_from-ours.result.now c.left_from-theirs-else-count-gt0.result.now c.push_from.new.docs walk order
    (c.in_ok-push_from.ensures.swept test walk.swept (λ doc from to.
    without_test start first doc c.end_of_stretch.result end c.if-reaches.kept a b docs ours theirs skipped d c.reaches.result walk some c.max-first.ensures c.left_from-theirs.ensures.same
    c.reaches.ensures c.end_of_stretch.ensures.stretch c.min-end.ensures kept from to))
    c.left_from-ours.ensures.remain c.left_from-ours.ensures.same c.left_from-theirs-else-count-gt0.ensures.remain
    (same_twice first end theirs skipped c.left_from-theirs-else-count-gt0.result.now onwards c.left_from-theirs.ensures.same c.left_from-theirs-else-count-gt0.ensures.same)

pub returns : goal.returns
returns c =
    let a = c.args.a.now in
    let b = c.args.b.now in
    let none : length c.loop-ours.ours.now ≡ 0 = search rules in
    walk_done (λ doc. has_doc a doc && not (has_doc b doc)) c.loop-ours.start a b c.loop-ours.docs c.loop-ours.ours.now c.loop-ours.theirs.now c.loop-ours.invariant
    (without_over c.loop-ours.start a b c.loop-ours.docs c.loop-ours.ours.now c.loop-ours.theirs.now c.loop-ours.invariant none)

pub returns-then-is_empty : goal.returns-then-is_empty
returns-then-is_empty c =
    let a = c.args.a.now in
    let b = c.args.b.now in
    let none : length b ≡ 0 = search rules in
    subst (AreThose (λ doc. has_doc a doc && not (has_doc b doc))) (sym c.in_ok-all.ensures) (without_none a b none c.runs-ours.ensures.ascends)
