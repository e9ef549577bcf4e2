use Rattle.std.proofs.Common.{None, Ok, ap, subst, sym}
use Rattle.outside.specs.Seen.{Seen, seen}
use Rattle.cursors.specs.Kept.{cursors_in}
use Rattle.command_words.specs.declared.fault.Fault.TheVariants as fault
use Rattle.serve_lines.specs.Calls.{Begins}
use Rattle.serve_lines.proofs.BeginLemmas.{at_start, begins_not, begins_well, begun_not, faults_as, memory_after, none_after}
use Rattle.serve_lines.proofs.batch.begin.Goals as goal

pub returns-in_err-remove_all_kept-clause-begins : goal.returns-in_err-remove_all_kept-clause-begins
returns-in_err-remove_all_kept-clause-begins g c =
    let d : Seen = seen g.D.Shelf c.args.depot.now in
    let e : Seen = seen g.D.Shelf c.remove_all_kept.new.depot in
    let why = c.in_err-remove_all_kept.field-0.0 in
    let lost = c.remove_all_kept.ensures.lost in
    begun_not d e c.from_residual.result why c.from_residual.ensures.1 (begins_not c.kept_idle_law.ensures d e lost.0 lost.1 lost.2 why (faults_as d e why c.in_err-remove_all_kept.ensures.faults))

pub returns-in_err-serving-clause-begins : goal.returns-in_err-serving-clause-begins
returns-in_err-serving-clause-begins g c =
    let d : Seen = seen g.D.Shelf c.args.depot.now in
    let e : Seen = seen g.D.Shelf c.remove_all_kept.new.depot in
    let lost = c.remove_all_kept.ensures.lost in
    let faults = c.in_ok-remove_all_kept.ensures.faults in
    begun_not d e c.from_residual-in_err-serving.result fault.Memory c.from_residual-in_err-serving.ensures.1 (begins_not c.kept_idle_law.ensures d e lost.0 lost.1 lost.2 fault.Memory (memory_after d e (faults.reads (λ e. cc)) (faults.writes (λ e. cc))))

pub returns-clause-begins : goal.returns-clause-begins
returns-clause-begins g c =
    let d : Seen = seen g.D.Shelf c.args.depot.now in
    let e : Seen = seen g.D.Shelf c.remove_all_kept.new.depot in
    let lost = c.remove_all_kept.ensures.lost in
    let faults = c.in_ok-remove_all_kept.ensures.faults in
    subst (λ cs. Begins d e (Ok (record { table = None; cursors = cs }))) (sym (ap (cursors_in c.in_ok-serving.serving.pool) c.in_ok-serving.ensures.none))
    (begins_well c.kept_idle_law.ensures d e lost.0 lost.1 lost.2 c.in_ok-remove_all_kept.ensures.gone (none_after d e at_start (faults.reads (λ e. cc)) (faults.writes (λ e. cc))))
