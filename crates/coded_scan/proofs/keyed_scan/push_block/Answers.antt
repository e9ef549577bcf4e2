use Rattle.std.proofs.Common.{◌≡◌, ◌∙◌, ◌+◌, ◌++◌, ℕ, List, length, take, ap, arith, rules}
use Rattle.coded_scan.proofs.PlaceSteps.{front_of, kept}
use Rattle.coded_scan.proofs.keyed_scan.push_block.Goals as goal

pub returns : goal.returns
returns c =
    let places : List ℕ = c.args.places.now.items in
    let start : ℕ = c.len-start.result in
    let count : ℕ = c.in_ok-count.count in
    let lengths : length places ≡ start = search rules in
    let size : length c.resize.new.self.items ≡ start + c.args.block.length = search rules in
    let front : take start c.deref_mut.result.now ≡ places =
    front_of places _ c.deref_mut.result.now start c.args.block.length (c.deref_mut.ensures.value ∙ c.in_ok-resize.ensures.items) lengths in
    c.truncate.ensures.items
    ∙ kept places c.deref_mut.result.now c.put_block.new.out _ _ start count _ front lengths c.in_ok-count.ensures.count (omega (arith, size, c.in_ok-count.ensures.count, c.put_block.auto.out))
    ∙ ap (λ (l : List ℕ). places ++ l) c.in_ok-count.ensures.places
