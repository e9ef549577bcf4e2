use Rattle.std.proofs.Common.{◌≡◌, ◌+◌, ◌-◌, get_or, sym, subst, arith}
use Rattle.coded_scan.proofs.RunLemmas.{run-more}
use Rattle.coded_scan.proofs.id_run.run_at.Goals as goal

pub returns : goal.returns
returns c =
    let ids = c.args.ids.now in
    let start = c.args.start in
    let told = c.loop-end.invariant in
    let more = c.loop-end.last - start in
    let end : start + more ≡ c.loop-end.last = omega (arith, told.order) in
    let far : get_or ids (start + more) 0 ≡ get_or ids start 0 + more =
    subst (λ n. get_or ids n 0 ≡ get_or ids start 0 + more) (sym end) (omega (arith, told.follows, told.order)) in
    record {
      within = omega (arith, end, told.within, told.bound);
      fits = omega (arith, far, (c.type_inv.ids (start + more)).fits);
      each = run-more ids start more c.requires.ids.ascends (omega (arith, end, told.within, told.bound)) far;
    }
