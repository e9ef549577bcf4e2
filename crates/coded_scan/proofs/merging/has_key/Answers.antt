use Rattle.std.proofs.Common.{◌∙◌, sym, arith}
use Rattle.std.proofs.lemmas.Bool.{OnTrue_at}
use Rattle.coded_scan.proofs.merging.has_key.Goals as goal

pub returns-then-is_key : goal.returns-then-is_key
returns-then-is_key c = λ row lt are.
    record {
      within = omega (arith, c.if-place-groups.true, c.groups.ensures.places);
      is_key = λ pool. sym (c.key_at.ensures pool) ∙ OnTrue_at c.if-is_key.true c.is_key.ensures row lt are;
    }
