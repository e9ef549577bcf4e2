use Rattle.std.proofs.Common.{◌≡◌, ◌∙◌, ◌≤◌, IfSome, None, length, refl, sym, ap, subst, arith}
use Rattle.std.proofs.lemmas.List.{take_all}
use Rattle.std.proofs.lemmas.Option.{slice_get-get_or}
use Rattle.value_ids.specs.Dictionary.{most_values}
use Rattle.segment_opening.specs.Found.{count_of, with_counts}
use Rattle.query_executor.proofs.IdsKept.{few_at, kept_long, kept_more}
use Rattle.query_executor.proofs.asked.keep_counted.Goals as goal

pub columns-init : goal.columns-init
columns-init c = refl

pub keep_at-requires-clause-each : goal.keep_at-requires-clause-each
keep_at-requires-clause-each c =
    let each = c.requires.each in
    let long = kept_long c.args.counts.now c.args.head.now c.columns.head c.columns.column c.columns.invariant in
    each ∙ sym long

pub keep_at-requires-clause-few : goal.keep_at-requires-clause-few
keep_at-requires-clause-few c =
    let counts = c.args.counts.now in
    let column = c.columns.column in
    few_at counts column (count_of counts column) c.requires.few (slice_get-get_or counts column None c.columns-test.true)

pub columns-preserved : goal.columns-preserved
columns-preserved c =
    let counts = c.args.counts.now in
    let column = c.columns.column in
    c.in_ok-keep_at.ensures ∙ kept_more counts c.args.head.now c.columns.head column (count_of counts column) c.columns.invariant (slice_get-get_or counts column None c.columns-test.true)

pub returns : goal.returns
returns c =
    c.columns.invariant ∙ ap (λ xs. with_counts xs c.args.head.now) (take_all c.columns.column c.args.counts.now (omega (arith, c.columns-test.false)))
