use Rattle.std.proofs.Common.{◌≡◌, ◌<◌, ◌∷◌, [], length, ◌∙◌, arith}
use Rattle.agg_laws.specs.Tree.{star}
use Rattle.state_columns.specs.Docs.{doc_at}
use Rattle.state_columns.proofs.RegionLemmas.{any_default}
use Rattle.state_columns.proofs.RegionSteps.{shape_at}
use Rattle.star_file.specs.Bytes.{words}
use Rattle.star_file.proofs.Written as steps
use Rattle.star_file.proofs.writing.push_ids.Goals as goal

pub loop-level-preserved : goal.loop-level-preserved
loop-level-preserved c =
    let t = c.args.docs.now in
    let xs = (doc_at t.docs c.args.at).0 in
    let i = c.loop-level.level in
    let lengths = (shape_at t.dims t.kinds t.docs c.args.at c.requires.shape c.requires.there).0 in
    let lt : i < length xs = omega (arith, lengths, c.loop-level-test.true, c.dims-level-end.ensures) in
    steps.more words (λ x. words (x ∷ [])) steps.word_none steps.word_first xs i c.dim.result
    c.args.out.now.items c.loop-level.out.items c.push_word.new.out.items lt
    (c.dim.ensures ∙ any_default xs i star c.dim.result lt) c.loop-level.invariant
    c.in_ok-push_word.ensures.ok

pub returns : goal.returns
returns c =
    let t = c.args.docs.now in
    let xs = (doc_at t.docs c.args.at).0 in
    let lengths = (shape_at t.dims t.kinds t.docs c.args.at c.requires.shape c.requires.there).0 in
    let end : c.loop-level.level ≡ length xs =
    omega (arith, lengths, c.loop-level-test.false, c.dims-level-end.ensures, c.loop-level.auto.level-end)
    in
    let ok = steps.all words (λ x. words (x ∷ [])) steps.word_none steps.word_first xs c.loop-level.level
    c.args.out.now.items c.loop-level.out.items end c.loop-level.invariant in
    record { ok = ok; kept = (_, c.loop-level.invariant) }
