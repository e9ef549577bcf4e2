use Rattle.std.proofs.Common.{◌∙◌, Err, Ok, Some, ap, inl, inr, subst, sym}
use Rattle.outside.specs.Seen.{Seen, seen}
use Rattle.command_words.specs.Command.{Ask}
use Rattle.command_words.specs.declared.about.About.TheVariants.{RowsAndPlans}
use Rattle.command_model.specs.Generated.{generated_line}
use Rattle.command_model.specs.Ran.{Ran}
use Rattle.command_model.specs.World.{Devices}
use Rattle.commands.proofs.GenerateLemmas.{at_build, at_create, at_line, at_scan, at_tree, no_line}
use Rattle.commands.proofs.generate.generate.Goals as goal

pub returns-in_err-create_own : goal.returns-in_err-create_own
returns-in_err-create_own g c = λ inputs.
    let first : Devices = record { inputs = inputs; depot = seen g.D.Shelf c.args.depot.now } in
    let one : Devices = record { inputs = inputs; depot = seen g.D.Shelf c.create_own.new.depot } in
    at_create c.args.rows c.from_residual.result first one c.in_err-create_own.field-0.0 c.from_residual.ensures.1 (c.in_err-create_own.ensures inputs)

pub returns-in_err-build_own : goal.returns-in_err-build_own
returns-in_err-build_own g c = λ inputs.
    let first : Devices = record { inputs = inputs; depot = seen g.D.Shelf c.args.depot.now } in
    let one : Devices = record { inputs = inputs; depot = seen g.D.Shelf c.create_own.new.depot } in
    let two : Devices = record { inputs = inputs; depot = seen g.D.Shelf c.build_own.new.depot } in
    at_build c.args.rows c.from_residual-in_err-build_own.result first one c.in_ok-create_own.field-0 (c.in_ok-create_own.ensures inputs) two c.in_err-build_own.field-0.0 c.from_residual-in_err-build_own.ensures.1 (c.in_err-build_own.ensures inputs)

pub returns-in_err-tree : goal.returns-in_err-tree
returns-in_err-tree g c = λ inputs.
    let first : Devices = record { inputs = inputs; depot = seen g.D.Shelf c.args.depot.now } in
    let one : Devices = record { inputs = inputs; depot = seen g.D.Shelf c.create_own.new.depot } in
    let two : Devices = record { inputs = inputs; depot = seen g.D.Shelf c.build_own.new.depot } in
    let three : Devices = record { inputs = inputs; depot = seen g.D.Shelf c.ask.new.depot } in
    let why = c.in_err-tree.field-0.0 in
    at_tree c.args.rows c.from_residual-in_err-tree.result first one c.in_ok-create_own.field-0 (c.in_ok-create_own.ensures inputs) two c.in_ok-build_own.field-0 (c.in_ok-build_own.ensures inputs) three why c.from_residual-in_err-tree.ensures.1
    (subst (λ q. Ran (Some (Ask RowsAndPlans q)) two three (Err why)) c.tree_query.ensures (c.in_err-tree.ensures inputs))

pub returns-in_err-scan : goal.returns-in_err-scan
returns-in_err-scan g c = λ inputs.
    let first : Devices = record { inputs = inputs; depot = seen g.D.Shelf c.args.depot.now } in
    let one : Devices = record { inputs = inputs; depot = seen g.D.Shelf c.create_own.new.depot } in
    let two : Devices = record { inputs = inputs; depot = seen g.D.Shelf c.build_own.new.depot } in
    let three : Devices = record { inputs = inputs; depot = seen g.D.Shelf c.ask.new.depot } in
    let four : Devices = record { inputs = inputs; depot = seen g.D.Shelf c.ask-2.new.depot } in
    let why = c.in_err-scan.field-0.0 in
    at_scan c.args.rows c.from_residual-in_err-scan.result first one c.in_ok-create_own.field-0 (c.in_ok-create_own.ensures inputs) two c.in_ok-build_own.field-0 (c.in_ok-build_own.ensures inputs) three c.in_ok-tree.tree
    (subst (λ q. Ran (Some (Ask RowsAndPlans q)) two three (Ok c.in_ok-tree.tree)) c.tree_query.ensures (c.in_ok-tree.ensures inputs)) four why c.from_residual-in_err-scan.ensures.1
    (subst (λ q. Ran (Some (Ask RowsAndPlans q)) three four (Err why)) c.scan_query.ensures (c.in_err-scan.ensures inputs))

pub returns-in_err-line : goal.returns-in_err-line
returns-in_err-line g c = λ inputs.
    let first : Devices = record { inputs = inputs; depot = seen g.D.Shelf c.args.depot.now } in
    let one : Devices = record { inputs = inputs; depot = seen g.D.Shelf c.create_own.new.depot } in
    let two : Devices = record { inputs = inputs; depot = seen g.D.Shelf c.build_own.new.depot } in
    let three : Devices = record { inputs = inputs; depot = seen g.D.Shelf c.ask.new.depot } in
    let four : Devices = record { inputs = inputs; depot = seen g.D.Shelf c.ask-2.new.depot } in
    at_line c.args.rows c.from_residual-in_err-line.result first one c.in_ok-create_own.field-0 (c.in_ok-create_own.ensures inputs) two c.in_ok-build_own.field-0 (c.in_ok-build_own.ensures inputs) three c.in_ok-tree.tree
    (subst (λ q. Ran (Some (Ask RowsAndPlans q)) two three (Ok c.in_ok-tree.tree)) c.tree_query.ensures (c.in_ok-tree.ensures inputs)) four c.in_ok-scan.scan
    (subst (λ q. Ran (Some (Ask RowsAndPlans q)) three four (Ok c.in_ok-scan.scan)) c.scan_query.ensures (c.in_ok-scan.ensures inputs))
    (inr (no_line c.from_residual-in_err-line.result c.from_residual-in_err-line.ensures.1))

pub returns : goal.returns
returns g c = λ inputs.
    let first : Devices = record { inputs = inputs; depot = seen g.D.Shelf c.args.depot.now } in
    let one : Devices = record { inputs = inputs; depot = seen g.D.Shelf c.create_own.new.depot } in
    let two : Devices = record { inputs = inputs; depot = seen g.D.Shelf c.build_own.new.depot } in
    let three : Devices = record { inputs = inputs; depot = seen g.D.Shelf c.ask.new.depot } in
    let four : Devices = record { inputs = inputs; depot = seen g.D.Shelf c.ask-2.new.depot } in
    at_line c.args.rows _ first one c.in_ok-create_own.field-0 (c.in_ok-create_own.ensures inputs) two c.in_ok-build_own.field-0 (c.in_ok-build_own.ensures inputs) three c.in_ok-tree.tree
    (subst (λ q. Ran (Some (Ask RowsAndPlans q)) two three (Ok c.in_ok-tree.tree)) c.tree_query.ensures (c.in_ok-tree.ensures inputs)) four c.in_ok-scan.scan
    (subst (λ q. Ran (Some (Ask RowsAndPlans q)) three four (Ok c.in_ok-scan.scan)) c.scan_query.ensures (c.in_ok-scan.ensures inputs))
    (inl (ap Ok (c.from_vec.ensures ∙ c.in_ok-line.ensures ∙ (λ k. generated_line c.args.rows (c.as_slice.ensures k) (c.as_slice-2.ensures k)))))
