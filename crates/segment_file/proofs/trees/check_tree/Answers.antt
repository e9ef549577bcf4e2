use Rattle.std.proofs.Common.{◌≡◌, sym, subst}
use Rattle.std.specs.Prelude.{◌↔◌}
use Rattle.star_file.specs.declared.checking.NodesFault.TheVariants as reasons
use Rattle.segment_file.proofs.trees.check_tree.Goals as goal

pub returns-in-Err : goal.returns-in-Err
returns-in-Err c = record {
  said = tt;
  ok = tt;
  bad = λ is are. let bad : c.in-Err.fault ≡ reasons.BadNodes = cc in c.in-Err.ensures.bad bad are.keep;
}

pub returns-then-not-fits_rows : goal.returns-then-not-fits_rows
returns-then-not-fits_rows c = record {
  said = tt;
  ok = tt;
  bad = λ is are. c.if-not-fits_rows.ensures (subst (λ n. (n ≡ 0) ↔ (c.args.rows ≡ 0)) (sym c.in-Ok.ensures.documents) are.none);
}

pub returns : goal.returns
returns c = record {
  said = (λ i. record { documents = c.in-Ok.ensures.documents i; nodes = c.in-Ok.ensures.nodes i });
  ok = record { keep = c.in-Ok.ensures.keeps; none = subst (λ n. (n ≡ 0) ↔ (c.args.rows ≡ 0)) c.in-Ok.ensures.documents c.if-not-fits_rows.ensures };
  bad = λ is are. cc;
}
