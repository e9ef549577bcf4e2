use Rattle.std.proofs.Common.{◌∙◌, ◌+◌, ◌∷◌, ap, drop, subst, sym}
use Rattle.std.proofs.lemmas.List.{drop_all, drop_more}
use Rattle.outside.specs.Files.{IsNames}
use Rattle.outside.specs.Seen.{seen}
use Rattle.serve_lines.specs.Calls.{IsGoneIfKept}
use Rattle.serve_lines.proofs.GoingLemmas.{going_done, going_first, going_next}
use Rattle.serve_lines.proofs.batch.remove_all_kept.Goals as goal

pub names-init : goal.names-init
names-init g c =
    going_first c.as_slice-names.result.now (seen g.D.Shelf c.args.depot.now) (seen g.D.Shelf c.names-2.new.self)
    (subst (IsNames (g.D.Shelf.held c.args.depot.now)) (sym c.as_slice-names.ensures) c.in-Ok.ensures.names) c.names-2.ensures.only_reads.held (c.in-Ok.ensures.only_reads.unchanged (λ e. cc)) c.names-2.ensures.only_reads.writes

pub names-preserved : goal.names-preserved
names-preserved g c =
    let names = c.as_slice-names.result.now in
    let name = c.index-names-at.result in
    going_next names c.names.at name (seen g.D.Shelf c.args.depot.now) (seen g.D.Shelf c.names.depot) (seen g.D.Shelf c.remove_if_kept.new.depot)
    (drop_more names c.names.at name c.names-test.true ∙ ap (λ n. n ∷ drop (c.names.at + 1) names) (sym c.index-names-at.is)) c.names.invariant
    (subst (λ n. IsGoneIfKept n (g.D.Shelf.held c.names.depot) (g.D.Shelf.held c.remove_if_kept.new.depot)) c.as_str.ensures c.in-Ok-remove_if_kept.ensures.gone)
    (c.in-Ok-remove_if_kept.ensures.faults.reads (λ e. cc)) (c.in-Ok-remove_if_kept.ensures.faults.writes (λ e. cc))
