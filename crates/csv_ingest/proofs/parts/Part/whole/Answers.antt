use Rattle.std.proofs.Common.{◌≡◌, ◌+◌, ◌-◌, ℕ, suc, List, IfSome, Ok, take, drop, get_or, ap, subst, arith, add-one}
use Rattle.data_types.specs.Numbers.{whole_of}
use Rattle.csv_ingest.proofs.MarkedLines.{cell-is}
use Rattle.csv_ingest.proofs.parts.Part.whole.Goals as goal

pub whole_between-requires-clause-ordered : goal.whole_between-requires-clause-ordered
whole_between-requires-clause-ordered c =
    let i = c.args.i in
    let marks = c.args.self.places.now in
    let cell = cell-is c.args.self.text.now marks c.requires.marks i (omega (arith, c.requires.within)) in
    omega (arith, cell.lt, ap (λ k. get_or marks k 0) (add-one i))

pub whole_between-requires-clause-within : goal.whole_between-requires-clause-within
whole_between-requires-clause-within c =
    let i = c.args.i in
    let marks = c.args.self.places.now in
    let cell = cell-is c.args.self.text.now marks c.requires.marks i (omega (arith, c.requires.within)) in
    omega (arith, cell.within, ap (λ k. get_or marks k 0) (add-one i))

pub returns : goal.returns
returns c =
    let text : List ℕ = c.args.self.text.now in
    let marks : List ℕ = c.args.self.places.now in
    let i = c.args.i in
    let Gives : ℕ → ℕ → Type 0 = λ next first. IfSome c.whole_between.result (λ number. whole_of c.args.kind (take (get_or marks next 0 - first) (drop first text)) ≡ Ok number) in
    subst (λ next. Gives next (suc (get_or marks i 0))) (add-one i) (subst (λ first. Gives (i + 1) first) (add-one (get_or marks i 0)) c.whole_between.ensures)
