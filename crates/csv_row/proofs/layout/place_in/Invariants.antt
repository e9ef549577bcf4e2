use Rattle.std.proofs.Common.{◌≡◌, ◌+◌, Bor, List, ℕ, map, drop}
use Rattle.std.specs.List.{position_from}
use Rattle.std.specs.Str.{bytes_eq}
use Rattle.csv_row.proofs.layout.place_in.Given as goal

abbrev pub invariant-names : goal.invariant-names
invariant-names l =
    let now : Bor (List ℕ) → List ℕ = λ n. n.now in
    position_from (bytes_eq l.name) 1 (map now l.names) ≡ position_from (bytes_eq l.name) (l.i + 1) (map now (drop l.i l.names))
