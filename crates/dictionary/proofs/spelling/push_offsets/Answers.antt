use Rattle.std.proofs.Common.{◌<◌, ◌≤◌, ◌+◌, ◌++◌, ℕ, pos, List, length, get_or, ap, arith}
use Rattle.std.proofs.lemmas.List.{get_or_default}
use Rattle.values.specs.declared.value.Value.{Value}
use Rattle.values.specs.declared.value.Value.TheVariants.{Whole}
use Rattle.dictionary.proofs.Written.{begins_end, begins_step, counted_pushed, if_ok}
use Rattle.dictionary.proofs.spelling.push_offsets.Goals as goal

pub places-preserved : goal.places-preserved
places-preserved c =
    let values : List Value = c.args.values.now in
    let i : ℕ = c.places.at in
    let v : Value = get_or values i (Whole (pos 0)) in
    let within : i < length values = omega (arith, c.places-test.true, c.len-count.ensures) in
    begins_step values i v c.places.start (c.places.start + length c.text_at.result.now) c.args.out.now.items c.places.out.items c.extend_from_slice.new.self.items c.requires.fit within
    (get_or_default values i (Whole (pos 0)) v within) c.places.invariant
    (counted_pushed c.places.out.items c.extend_from_slice.new.self.items c.to_be_bytes.result c.places.start c.in_ok-extend_from_slice.ensures.items c.to_be_bytes.ensures)
    (ap (λ b. c.places.start + length b) c.text_at.ensures.text)

pub returns-clause-ok : goal.returns-clause-ok
returns-clause-ok c =
    let past : length c.args.values.now ≤ c.places.at = omega (arith, c.places-test.false, c.len-count.ensures) in
    if_ok c.extend_from_slice-2.result (c.places.out.items ++ c.to_be_bytes-2.result) c.places.out.items c.extend_from_slice-2.new.self.items c.extend_from_slice-2.ensures.items
    (λ e. begins_end c.args.values.now c.places.at c.places.start c.args.out.now.items c.places.out.items c.extend_from_slice-2.new.self.items past c.places.invariant
    (counted_pushed c.places.out.items c.extend_from_slice-2.new.self.items c.to_be_bytes-2.result c.places.start e c.to_be_bytes-2.ensures))
