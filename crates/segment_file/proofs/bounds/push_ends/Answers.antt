use Rattle.std.proofs.Common.{◌≡◌, ◌∙◌, ◌++◌, ◌-◌, sym, ap}
use Rattle.std.specs.List.{slice_get}
use Rattle.segment_file.specs.Bounds.{bound_bytes, bounds_bytes, ends_of}
use Rattle.segment_file.proofs.BoundLemmas.{ends_written, on_ok}
use Rattle.segment_file.proofs.bounds.push_ends.Goals as goal

pub returns : goal.returns
returns c =
    let values = c.args.dictionary.now.values in
    let old = c.args.out.now.items in
    let last = ap (slice_get values) (ap (λ n. n - 1) (sym c.count-count.ensures.count)) ∙ c.in_ok-greatest.ensures in
    on_ok c.push_bound-2.result (c.push_bound-2.new.out.items ≡ c.push_bound.new.out.items ++ bound_bytes c.in_ok-greatest.greatest) (c.push_bound-2.new.out.items ≡ old ++ bounds_bytes (ends_of values))
    (ends_written values c.in_ok-least.least c.in_ok-greatest.greatest old c.push_bound.new.out.items c.push_bound-2.new.out.items c.in_ok-least.ensures last c.in_ok-push_bound.ensures)
    c.push_bound-2.ensures
