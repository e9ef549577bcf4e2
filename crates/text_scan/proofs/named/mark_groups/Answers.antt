use Rattle.std.proofs.Common.{◌≡◌, ℕ, true, arith}
use Rattle.text_scan.specs.Named.{is_marked}
use Rattle.text_scan.proofs.NamedLemmas.{below-next}
use Rattle.text_scan.proofs.named.mark_groups.Goals as goal

pub groups-init : goal.groups-init
groups-init c = record { stay = λ column is. is; marked = λ k d lt below. absurd (omega (arith, lt)) }

pub groups-preserved : goal.groups-preserved
groups-preserved c =
    let old = c.groups.marks in
    let new = c.mark.new.marks in
    let stay = c.mark.ensures.stay in
    record {
      stay = λ column is. stay column (c.groups.invariant.stay column is);
      marked = below-next (λ (column : ℕ). is_marked old column ≡ true) (λ (column : ℕ). is_marked new column ≡ true) c.args.groups.now c.groups.i 0 stay c.groups.invariant.marked c.groups-test.true
          c.mark.ensures.marked;
    }

pub returns-clause-marked : goal.returns-clause-marked
returns-clause-marked c = λ k d lt. c.groups.invariant.marked k d (omega (arith, lt, c.groups-test.false)) lt
