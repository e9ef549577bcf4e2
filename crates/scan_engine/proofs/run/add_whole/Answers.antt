use Rattle.std.proofs.Common.{◌≡◌, ℕ, List, [], ◌∷◌, length, refl, subst, sym, arith}
use Rattle.scan_engine.specs.Places.{rows_at}
use Rattle.scan_engine.specs.Scanned.{AddsRows}
use Rattle.scan_engine.proofs.AddLemmas.{adds_nothing}
use Rattle.group_table.specs.Pooled.{in_pool}
use Rattle.scan_engine.proofs.run.add_whole.Goals as goal

no_places : (places : List ℕ) → length places ≡ 0 → places ≡ []
no_places [] h = refl
no_places (p ∷ ps) h = absurd (omega (arith, h))

pub returns-then-is_empty-clause-adds : goal.returns-then-is_empty-clause-adds
returns-then-is_empty-clause-adds c =
    let q = c.args.query.now in
    let t = in_pool c.args.table.now c.args.pool.now in
    let none : c.args.places.now ≡ [] = no_places c.args.places.now (grind (arith, c.is_empty.ensures, c.if-is_empty.true)) in
    record {
      added = subst (λ (ps : List ℕ). AddsRows q (length ps) (rows_at c.args.block.columns.now.columns ps) t t) (sym none) (adds_nothing q 0 t c.requires.room.of_query);
      full = λ bad. absurd cc;
    }
