use Rattle.csv_ingest.proofs.DigitLemmas.{in-two, two-parts}
use Rattle.csv_ingest.proofs.digits.digits_between.Goals as goal
use Rattle.data_types.specs.Numbers.{unsigned_number}
use Rattle.std.proofs.Common.{◌≡◌, ◌-◌, ◌∙◌, ℕ, List, ap, length, take, drop, arith}
use Rattle.std.proofs.lemmas.List.{length-drop, length-take-le}

pub returns-clause-spells : goal.returns-clause-spells
returns-clause-spells c =
    let text : List ℕ = c.args.text.now in
    let start : ℕ = c.args.start in
    let end : ℕ = c.args.end in
    let last : List ℕ = take (end - (end - 8)) (drop (end - 8) text) in
    let long : length last ≡ 8 = length-take-le (end - (end - 8)) (drop (end - 8) text) (omega (arith, length-drop (end - 8) text)) ∙ (omega arith) in
    ap unsigned_number (in-two text start (end - 8) end (omega arith) (omega arith) c.requires.within)
    ∙ two-parts (take (end - 8 - start) (drop start text)) last c.in_ok-high.high c.in_ok-low.low long c.in_ok-high.ensures.spells c.in_ok-low.ensures.spells
