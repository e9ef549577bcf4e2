use Rattle.std.proofs.Common.{◌≡◌, ◌∙◌, ◌≤◌, ◌+◌, ◌*◌, ◌++◌, List, ℕ, suc, ap, arith, length, length-append}
use Rattle.std.specs.Prelude.{get_or}
use Rattle.coded_scan.specs.Marks.{ones, ones_in}
use Rattle.coded_scan.proofs.Ones.{few-places, marked-all, ones_in_passing}
use Rattle.coded_scan.proofs.marked_places.put_marked.Goals as goal

pub push_ones-n-requires-clause-room : goal.push_ones-n-requires-clause-room
push_ones-n-requires-clause-room c =
    let words = c.args.words.now in
    let from = c.args.from in
    let at = c.loop-at.at in
    let marks = c.requires.marks in
    let more : List ℕ = ones (from + 64 * at) 64 (get_or words at 0) in
    let few : length (ones_in from words at ++ more) ≤ length c.args.out.now = few-places marks.holds from (length c.args.out.now) words (suc at) marks.are (omega (arith, c.loop-at-test.true)) in
    let all : length (ones_in from words at) + length more ≤ length c.args.out.now = omega (arith, few, length-append (ones_in from words at) more) in
    omega (arith, all, c.loop-at.invariant.count, c.loop-at.auto.out)

pub returns-clause-count : goal.returns-clause-count
returns-clause-count c =
    let marks = c.requires.marks in
    omega (arith, c.loop-at.invariant.count, few-places marks.holds c.args.from (length c.args.out.now) c.args.words.now c.loop-at.at marks.are (omega (arith, c.loop-at.auto.at-end)))

pub returns-clause-places : goal.returns-clause-places
returns-clause-places c = λ holds marks.
    let words = c.args.words.now in
    let from = c.args.from in
    let many = length c.args.out.now in
    let end : c.loop-at.at ≡ length words = omega (arith, c.loop-at.auto.at-end, c.loop-at-test.false) in
    c.loop-at.invariant.places
    ∙ ap (ones_in from words) end
    ∙ ones_in_passing holds from many words (length words) marks (omega arith)
    ∙ marked-all holds many from _ marks.enough
