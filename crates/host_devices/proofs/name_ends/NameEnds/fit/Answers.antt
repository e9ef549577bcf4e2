use Rattle.std.proofs.Common.{◌≡◌, ◌∙◌, sym, ap, arith}
use Rattle.std.proofs.lemmas.Bool.{eqb-true}
use Rattle.std.specs.Int.{to_le_bytes, w64}
use Rattle.host_devices.specs.Names.{AreEnds}
use Rattle.host_devices.proofs.NameEndLemmas.{same_ends}
use Rattle.host_devices.proofs.name_ends.NameEnds.fit.Goals as goal

pub returns-clause-same : goal.returns-clause-same
returns-clause-same c = λ same at_most bytes ours.
    let name = c.args.name.now in
    let ends = c.args.self.now in
    let first : c.eight_at.result ≡ ends.first = omega (arith, c.if-eight_at-self.false) in
    let theirs : AreEnds name ends.size ends.first ends.last = record {
      lengths = omega (arith, c.if-name-size.false);
      front = ap (to_le_bytes w64) (sym first) ∙ c.eight_at.ensures;
      back = ap (to_le_bytes w64) (sym (eqb-true c.eight_at-2.result ends.last same)) ∙ c.eight_at-2.ensures;
    } in
    same_ends bytes name ends.size ends.first ends.last ends.at_least at_most ours theirs
